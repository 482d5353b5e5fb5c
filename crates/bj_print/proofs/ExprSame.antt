-- Forms of which each part differs only in places.
use Rattle.std.proofs.Common.{◌≡◌, ℕ, List, map, sym, ap, ◌∙◌}
use Rattle.bj_base.specs.declared.span.Span.{Span}
use Rattle.bj_expr_tree.specs.declared.types.TypeTree.{TypeTree}
use Rattle.bj_expr_tree.specs.declared.expr.LiteralKind.{LiteralKind}
use Rattle.bj_expr_tree.specs.declared.expr.StepOp.{StepOp}
use Rattle.bj_expr_tree.specs.declared.expr.UnaryOp.{UnaryOp}
use Rattle.bj_expr_tree.specs.declared.expr.AssignOp.{AssignOp}
use Rattle.bj_expr_tree.specs.declared.expr.BinaryOp.{BinaryOp}
use Rattle.bj_expr_tree.specs.declared.expr.ExprTree.{ExprTree}
use Rattle.bj_expr_tree.specs.declared.expr.ExprTree.TheVariants as e
use Rattle.bj_expr_tree.specs.declared.expr.ExprTree.TheOpen.{ExprTree-F}
use Rattle.bj_expr_tree.specs.declared.expr.ExprTree.TheFolds.{fold-roll-ExprTree}
use Rattle.bj_print.specs.Same.{nowhere, unplaced_type, unplaced_expr_form, unplaced_expr, SameExpr}
use Rattle.bj_print.proofs.ExprLaws.{SameExprs, SameType}

-- ---- the forms with their places blotted out

pub unplaced_literal : (at : Span) (kind : LiteralKind) (text : List ℕ) → unplaced_expr (e.Literal at kind text) ≡ e.Literal nowhere kind text
unfolding unplaced_expr
unplaced_literal at kind text = ap unplaced_expr (sym (e.rolls-Literal at kind text)) ∙ fold-roll-ExprTree ExprTree unplaced_expr_form (ExprTree-F.Literal at kind text)

pub unplaced_this : (at : Span) → unplaced_expr (e.This at) ≡ e.This nowhere
unfolding unplaced_expr
unplaced_this at = ap unplaced_expr (sym (e.rolls-This at)) ∙ fold-roll-ExprTree ExprTree unplaced_expr_form (ExprTree-F.This at)

pub unplaced_paren : (at : Span) (inner : ExprTree) → unplaced_expr (e.Paren at inner) ≡ e.Paren nowhere (unplaced_expr inner)
unfolding unplaced_expr
unplaced_paren at inner = ap unplaced_expr (sym (e.rolls-Paren at inner)) ∙ fold-roll-ExprTree ExprTree unplaced_expr_form (ExprTree-F.Paren at inner)

pub unplaced_name : (at : Span) (name : List ℕ) → unplaced_expr (e.Name at name) ≡ e.Name nowhere name
unfolding unplaced_expr
unplaced_name at name = ap unplaced_expr (sym (e.rolls-Name at name)) ∙ fold-roll-ExprTree ExprTree unplaced_expr_form (ExprTree-F.Name at name)

pub unplaced_field : (at : Span) (target : ExprTree) (name : List ℕ) → unplaced_expr (e.Field at target name) ≡ e.Field nowhere (unplaced_expr target) name
unfolding unplaced_expr
unplaced_field at target name = ap unplaced_expr (sym (e.rolls-Field at target name)) ∙ fold-roll-ExprTree ExprTree unplaced_expr_form (ExprTree-F.Field at target name)

pub unplaced_super_field : (at : Span) (name : List ℕ) → unplaced_expr (e.SuperField at name) ≡ e.SuperField nowhere name
unfolding unplaced_expr
unplaced_super_field at name = ap unplaced_expr (sym (e.rolls-SuperField at name)) ∙ fold-roll-ExprTree ExprTree unplaced_expr_form (ExprTree-F.SuperField at name)

pub unplaced_call : (at : Span) (name : List ℕ) (args : List ExprTree) → unplaced_expr (e.Call at name args) ≡ e.Call nowhere name (map unplaced_expr args)
unfolding unplaced_expr
unplaced_call at name args = ap unplaced_expr (sym (e.rolls-Call at name args)) ∙ fold-roll-ExprTree ExprTree unplaced_expr_form (ExprTree-F.Call at name args)

pub unplaced_method_call : (at : Span) (target : ExprTree) (name : List ℕ) (args : List ExprTree) → unplaced_expr (e.MethodCall at target name args) ≡ e.MethodCall nowhere (unplaced_expr target) name (map unplaced_expr args)
unfolding unplaced_expr
unplaced_method_call at target name args = ap unplaced_expr (sym (e.rolls-MethodCall at target name args)) ∙ fold-roll-ExprTree ExprTree unplaced_expr_form (ExprTree-F.MethodCall at target name args)

pub unplaced_super_call : (at : Span) (name : List ℕ) (args : List ExprTree) → unplaced_expr (e.SuperCall at name args) ≡ e.SuperCall nowhere name (map unplaced_expr args)
unfolding unplaced_expr
unplaced_super_call at name args = ap unplaced_expr (sym (e.rolls-SuperCall at name args)) ∙ fold-roll-ExprTree ExprTree unplaced_expr_form (ExprTree-F.SuperCall at name args)

pub unplaced_index : (at : Span) (array : ExprTree) (index : ExprTree) → unplaced_expr (e.Index at array index) ≡ e.Index nowhere (unplaced_expr array) (unplaced_expr index)
unfolding unplaced_expr
unplaced_index at array index = ap unplaced_expr (sym (e.rolls-Index at array index)) ∙ fold-roll-ExprTree ExprTree unplaced_expr_form (ExprTree-F.Index at array index)

pub unplaced_new : (at : Span) (class : List ℕ) (args : List ExprTree) → unplaced_expr (e.New at class args) ≡ e.New nowhere class (map unplaced_expr args)
unfolding unplaced_expr
unplaced_new at class args = ap unplaced_expr (sym (e.rolls-New at class args)) ∙ fold-roll-ExprTree ExprTree unplaced_expr_form (ExprTree-F.New at class args)

pub unplaced_new_array : (at : Span) (holds : TypeTree) (sizes : List ExprTree) (dims : ℕ) → unplaced_expr (e.NewArray at holds sizes dims) ≡ e.NewArray nowhere (unplaced_type holds) (map unplaced_expr sizes) dims
unfolding unplaced_expr
unplaced_new_array at holds sizes dims = ap unplaced_expr (sym (e.rolls-NewArray at holds sizes dims)) ∙ fold-roll-ExprTree ExprTree unplaced_expr_form (ExprTree-F.NewArray at holds sizes dims)

pub unplaced_new_values : (at : Span) (holds : TypeTree) (values : List ExprTree) → unplaced_expr (e.NewValues at holds values) ≡ e.NewValues nowhere (unplaced_type holds) (map unplaced_expr values)
unfolding unplaced_expr
unplaced_new_values at holds values = ap unplaced_expr (sym (e.rolls-NewValues at holds values)) ∙ fold-roll-ExprTree ExprTree unplaced_expr_form (ExprTree-F.NewValues at holds values)

pub unplaced_braces : (at : Span) (values : List ExprTree) → unplaced_expr (e.Braces at values) ≡ e.Braces nowhere (map unplaced_expr values)
unfolding unplaced_expr
unplaced_braces at values = ap unplaced_expr (sym (e.rolls-Braces at values)) ∙ fold-roll-ExprTree ExprTree unplaced_expr_form (ExprTree-F.Braces at values)

pub unplaced_postfix : (at : Span) (op : StepOp) (operand : ExprTree) → unplaced_expr (e.Postfix at op operand) ≡ e.Postfix nowhere op (unplaced_expr operand)
unfolding unplaced_expr
unplaced_postfix at op operand = ap unplaced_expr (sym (e.rolls-Postfix at op operand)) ∙ fold-roll-ExprTree ExprTree unplaced_expr_form (ExprTree-F.Postfix at op operand)

pub unplaced_prefix : (at : Span) (op : StepOp) (operand : ExprTree) → unplaced_expr (e.Prefix at op operand) ≡ e.Prefix nowhere op (unplaced_expr operand)
unfolding unplaced_expr
unplaced_prefix at op operand = ap unplaced_expr (sym (e.rolls-Prefix at op operand)) ∙ fold-roll-ExprTree ExprTree unplaced_expr_form (ExprTree-F.Prefix at op operand)

pub unplaced_unary : (at : Span) (op : UnaryOp) (operand : ExprTree) → unplaced_expr (e.Unary at op operand) ≡ e.Unary nowhere op (unplaced_expr operand)
unfolding unplaced_expr
unplaced_unary at op operand = ap unplaced_expr (sym (e.rolls-Unary at op operand)) ∙ fold-roll-ExprTree ExprTree unplaced_expr_form (ExprTree-F.Unary at op operand)

pub unplaced_cast : (at : Span) (to : TypeTree) (operand : ExprTree) → unplaced_expr (e.Cast at to operand) ≡ e.Cast nowhere (unplaced_type to) (unplaced_expr operand)
unfolding unplaced_expr
unplaced_cast at to operand = ap unplaced_expr (sym (e.rolls-Cast at to operand)) ∙ fold-roll-ExprTree ExprTree unplaced_expr_form (ExprTree-F.Cast at to operand)

pub unplaced_binary : (at : Span) (op : BinaryOp) (left : ExprTree) (right : ExprTree) → unplaced_expr (e.Binary at op left right) ≡ e.Binary nowhere op (unplaced_expr left) (unplaced_expr right)
unfolding unplaced_expr
unplaced_binary at op left right = ap unplaced_expr (sym (e.rolls-Binary at op left right)) ∙ fold-roll-ExprTree ExprTree unplaced_expr_form (ExprTree-F.Binary at op left right)

pub unplaced_instance_of : (at : Span) (value : ExprTree) (holds : TypeTree) → unplaced_expr (e.InstanceOf at value holds) ≡ e.InstanceOf nowhere (unplaced_expr value) (unplaced_type holds)
unfolding unplaced_expr
unplaced_instance_of at value holds = ap unplaced_expr (sym (e.rolls-InstanceOf at value holds)) ∙ fold-roll-ExprTree ExprTree unplaced_expr_form (ExprTree-F.InstanceOf at value holds)

pub unplaced_conditional : (at : Span) (test : ExprTree) (chosen : ExprTree) (other : ExprTree)
    → unplaced_expr (e.Conditional at test chosen other) ≡ e.Conditional nowhere (unplaced_expr test) (unplaced_expr chosen) (unplaced_expr other)
unfolding unplaced_expr
unplaced_conditional at test chosen other = ap unplaced_expr (sym (e.rolls-Conditional at test chosen other)) ∙ fold-roll-ExprTree ExprTree unplaced_expr_form (ExprTree-F.Conditional at test chosen other)

pub unplaced_assign : (at : Span) (op : AssignOp) (target : ExprTree) (value : ExprTree) → unplaced_expr (e.Assign at op target value) ≡ e.Assign nowhere op (unplaced_expr target) (unplaced_expr value)
unfolding unplaced_expr
unplaced_assign at op target value = ap unplaced_expr (sym (e.rolls-Assign at op target value)) ∙ fold-roll-ExprTree ExprTree unplaced_expr_form (ExprTree-F.Assign at op target value)

-- ---- the same forms of the same parts

pub same_literal : (at at2 : Span) (kind kind2 : LiteralKind) (text text2 : List ℕ) → kind ≡ kind2 → text ≡ text2 → SameExpr (e.Literal at kind text) (e.Literal at2 kind2 text2)
same_literal at at2 kind kind2 text text2 h0 h1 = unplaced_literal at kind text ∙ ap (λ (z : LiteralKind). e.Literal nowhere z text) h0 ∙ ap (λ (z : List ℕ). e.Literal nowhere kind2 z) h1 ∙ sym (unplaced_literal at2 kind2 text2)

pub same_this : (at at2 : Span) → SameExpr (e.This at) (e.This at2)
same_this at at2 = unplaced_this at ∙ sym (unplaced_this at2)

pub same_paren : (at at2 : Span) (inner inner2 : ExprTree) → SameExpr inner inner2 → SameExpr (e.Paren at inner) (e.Paren at2 inner2)
same_paren at at2 inner inner2 h0 = unplaced_paren at inner ∙ ap (λ (z : ExprTree). e.Paren nowhere z) h0 ∙ sym (unplaced_paren at2 inner2)

pub same_name : (at at2 : Span) (name name2 : List ℕ) → name ≡ name2 → SameExpr (e.Name at name) (e.Name at2 name2)
same_name at at2 name name2 h0 = unplaced_name at name ∙ ap (λ (z : List ℕ). e.Name nowhere z) h0 ∙ sym (unplaced_name at2 name2)

pub same_field : (at at2 : Span) (target target2 : ExprTree) (name name2 : List ℕ) → SameExpr target target2 → name ≡ name2 → SameExpr (e.Field at target name) (e.Field at2 target2 name2)
same_field at at2 target target2 name name2 h0 h1 = unplaced_field at target name ∙ ap (λ (z : ExprTree). e.Field nowhere z name) h0 ∙ ap (λ (z : List ℕ). e.Field nowhere (unplaced_expr target2) z) h1
    ∙ sym (unplaced_field at2 target2 name2)

pub same_super_field : (at at2 : Span) (name name2 : List ℕ) → name ≡ name2 → SameExpr (e.SuperField at name) (e.SuperField at2 name2)
same_super_field at at2 name name2 h0 = unplaced_super_field at name ∙ ap (λ (z : List ℕ). e.SuperField nowhere z) h0 ∙ sym (unplaced_super_field at2 name2)

pub same_call : (at at2 : Span) (name name2 : List ℕ) (args args2 : List ExprTree) → name ≡ name2 → SameExprs args args2 → SameExpr (e.Call at name args) (e.Call at2 name2 args2)
same_call at at2 name name2 args args2 h0 h1 = unplaced_call at name args ∙ ap (λ (z : List ℕ). e.Call nowhere z (map unplaced_expr args)) h0 ∙ ap (λ (z : List ExprTree). e.Call nowhere name2 z) h1
    ∙ sym (unplaced_call at2 name2 args2)

pub same_method_call : (at at2 : Span) (target target2 : ExprTree) (name name2 : List ℕ) (args args2 : List ExprTree) → SameExpr target target2 → name ≡ name2 → SameExprs args args2
    → SameExpr (e.MethodCall at target name args) (e.MethodCall at2 target2 name2 args2)
same_method_call at at2 target target2 name name2 args args2 h0 h1 h2 = unplaced_method_call at target name args ∙ ap (λ (z : ExprTree). e.MethodCall nowhere z name (map unplaced_expr args)) h0
    ∙ ap (λ (z : List ℕ). e.MethodCall nowhere (unplaced_expr target2) z (map unplaced_expr args)) h1 ∙ ap (λ (z : List ExprTree). e.MethodCall nowhere (unplaced_expr target2) name2 z) h2
    ∙ sym (unplaced_method_call at2 target2 name2 args2)

pub same_super_call : (at at2 : Span) (name name2 : List ℕ) (args args2 : List ExprTree) → name ≡ name2 → SameExprs args args2 → SameExpr (e.SuperCall at name args) (e.SuperCall at2 name2 args2)
same_super_call at at2 name name2 args args2 h0 h1 = unplaced_super_call at name args ∙ ap (λ (z : List ℕ). e.SuperCall nowhere z (map unplaced_expr args)) h0 ∙ ap (λ (z : List ExprTree). e.SuperCall nowhere name2 z) h1
    ∙ sym (unplaced_super_call at2 name2 args2)

pub same_index : (at at2 : Span) (array array2 : ExprTree) (index index2 : ExprTree) → SameExpr array array2 → SameExpr index index2 → SameExpr (e.Index at array index) (e.Index at2 array2 index2)
same_index at at2 array array2 index index2 h0 h1 = unplaced_index at array index ∙ ap (λ (z : ExprTree). e.Index nowhere z (unplaced_expr index)) h0 ∙ ap (λ (z : ExprTree). e.Index nowhere (unplaced_expr array2) z) h1
    ∙ sym (unplaced_index at2 array2 index2)

pub same_new : (at at2 : Span) (class class2 : List ℕ) (args args2 : List ExprTree) → class ≡ class2 → SameExprs args args2 → SameExpr (e.New at class args) (e.New at2 class2 args2)
same_new at at2 class class2 args args2 h0 h1 = unplaced_new at class args ∙ ap (λ (z : List ℕ). e.New nowhere z (map unplaced_expr args)) h0 ∙ ap (λ (z : List ExprTree). e.New nowhere class2 z) h1
    ∙ sym (unplaced_new at2 class2 args2)

pub same_new_array : (at at2 : Span) (holds holds2 : TypeTree) (sizes sizes2 : List ExprTree) (dims dims2 : ℕ) → SameType holds holds2 → SameExprs sizes sizes2 → dims ≡ dims2
    → SameExpr (e.NewArray at holds sizes dims) (e.NewArray at2 holds2 sizes2 dims2)
same_new_array at at2 holds holds2 sizes sizes2 dims dims2 h0 h1 h2 = unplaced_new_array at holds sizes dims ∙ ap (λ (z : TypeTree). e.NewArray nowhere z (map unplaced_expr sizes) dims) h0
    ∙ ap (λ (z : List ExprTree). e.NewArray nowhere (unplaced_type holds2) z dims) h1 ∙ ap (λ (z : ℕ). e.NewArray nowhere (unplaced_type holds2) (map unplaced_expr sizes2) z) h2 ∙ sym (unplaced_new_array at2 holds2 sizes2 dims2)

pub same_new_values : (at at2 : Span) (holds holds2 : TypeTree) (values values2 : List ExprTree) → SameType holds holds2 → SameExprs values values2 → SameExpr (e.NewValues at holds values) (e.NewValues at2 holds2 values2)
same_new_values at at2 holds holds2 values values2 h0 h1 = unplaced_new_values at holds values ∙ ap (λ (z : TypeTree). e.NewValues nowhere z (map unplaced_expr values)) h0
    ∙ ap (λ (z : List ExprTree). e.NewValues nowhere (unplaced_type holds2) z) h1 ∙ sym (unplaced_new_values at2 holds2 values2)

pub same_braces : (at at2 : Span) (values values2 : List ExprTree) → SameExprs values values2 → SameExpr (e.Braces at values) (e.Braces at2 values2)
same_braces at at2 values values2 h0 = unplaced_braces at values ∙ ap (λ (z : List ExprTree). e.Braces nowhere z) h0 ∙ sym (unplaced_braces at2 values2)

pub same_postfix : (at at2 : Span) (op op2 : StepOp) (operand operand2 : ExprTree) → op ≡ op2 → SameExpr operand operand2 → SameExpr (e.Postfix at op operand) (e.Postfix at2 op2 operand2)
same_postfix at at2 op op2 operand operand2 h0 h1 = unplaced_postfix at op operand ∙ ap (λ (z : StepOp). e.Postfix nowhere z (unplaced_expr operand)) h0 ∙ ap (λ (z : ExprTree). e.Postfix nowhere op2 z) h1
    ∙ sym (unplaced_postfix at2 op2 operand2)

pub same_prefix : (at at2 : Span) (op op2 : StepOp) (operand operand2 : ExprTree) → op ≡ op2 → SameExpr operand operand2 → SameExpr (e.Prefix at op operand) (e.Prefix at2 op2 operand2)
same_prefix at at2 op op2 operand operand2 h0 h1 = unplaced_prefix at op operand ∙ ap (λ (z : StepOp). e.Prefix nowhere z (unplaced_expr operand)) h0 ∙ ap (λ (z : ExprTree). e.Prefix nowhere op2 z) h1
    ∙ sym (unplaced_prefix at2 op2 operand2)

pub same_unary : (at at2 : Span) (op op2 : UnaryOp) (operand operand2 : ExprTree) → op ≡ op2 → SameExpr operand operand2 → SameExpr (e.Unary at op operand) (e.Unary at2 op2 operand2)
same_unary at at2 op op2 operand operand2 h0 h1 = unplaced_unary at op operand ∙ ap (λ (z : UnaryOp). e.Unary nowhere z (unplaced_expr operand)) h0 ∙ ap (λ (z : ExprTree). e.Unary nowhere op2 z) h1
    ∙ sym (unplaced_unary at2 op2 operand2)

pub same_cast : (at at2 : Span) (to to2 : TypeTree) (operand operand2 : ExprTree) → SameType to to2 → SameExpr operand operand2 → SameExpr (e.Cast at to operand) (e.Cast at2 to2 operand2)
same_cast at at2 to to2 operand operand2 h0 h1 = unplaced_cast at to operand ∙ ap (λ (z : TypeTree). e.Cast nowhere z (unplaced_expr operand)) h0 ∙ ap (λ (z : ExprTree). e.Cast nowhere (unplaced_type to2) z) h1
    ∙ sym (unplaced_cast at2 to2 operand2)

pub same_binary : (at at2 : Span) (op op2 : BinaryOp) (left left2 : ExprTree) (right right2 : ExprTree) → op ≡ op2 → SameExpr left left2 → SameExpr right right2
    → SameExpr (e.Binary at op left right) (e.Binary at2 op2 left2 right2)
same_binary at at2 op op2 left left2 right right2 h0 h1 h2 = unplaced_binary at op left right ∙ ap (λ (z : BinaryOp). e.Binary nowhere z (unplaced_expr left) (unplaced_expr right)) h0
    ∙ ap (λ (z : ExprTree). e.Binary nowhere op2 z (unplaced_expr right)) h1 ∙ ap (λ (z : ExprTree). e.Binary nowhere op2 (unplaced_expr left2) z) h2 ∙ sym (unplaced_binary at2 op2 left2 right2)

pub same_instance_of : (at at2 : Span) (value value2 : ExprTree) (holds holds2 : TypeTree) → SameExpr value value2 → SameType holds holds2 → SameExpr (e.InstanceOf at value holds) (e.InstanceOf at2 value2 holds2)
same_instance_of at at2 value value2 holds holds2 h0 h1 = unplaced_instance_of at value holds ∙ ap (λ (z : ExprTree). e.InstanceOf nowhere z (unplaced_type holds)) h0
    ∙ ap (λ (z : TypeTree). e.InstanceOf nowhere (unplaced_expr value2) z) h1 ∙ sym (unplaced_instance_of at2 value2 holds2)

pub same_conditional : (at at2 : Span) (test test2 : ExprTree) (chosen chosen2 : ExprTree) (other other2 : ExprTree) → SameExpr test test2 → SameExpr chosen chosen2 → SameExpr other other2
    → SameExpr (e.Conditional at test chosen other) (e.Conditional at2 test2 chosen2 other2)
same_conditional at at2 test test2 chosen chosen2 other other2 h0 h1 h2 = unplaced_conditional at test chosen other ∙ ap (λ (z : ExprTree). e.Conditional nowhere z (unplaced_expr chosen) (unplaced_expr other)) h0
    ∙ ap (λ (z : ExprTree). e.Conditional nowhere (unplaced_expr test2) z (unplaced_expr other)) h1 ∙ ap (λ (z : ExprTree). e.Conditional nowhere (unplaced_expr test2) (unplaced_expr chosen2) z) h2
    ∙ sym (unplaced_conditional at2 test2 chosen2 other2)

pub same_assign : (at at2 : Span) (op op2 : AssignOp) (target target2 : ExprTree) (value value2 : ExprTree) → op ≡ op2 → SameExpr target target2 → SameExpr value value2
    → SameExpr (e.Assign at op target value) (e.Assign at2 op2 target2 value2)
same_assign at at2 op op2 target target2 value value2 h0 h1 h2 = unplaced_assign at op target value ∙ ap (λ (z : AssignOp). e.Assign nowhere z (unplaced_expr target) (unplaced_expr value)) h0
    ∙ ap (λ (z : ExprTree). e.Assign nowhere op2 z (unplaced_expr value)) h1 ∙ ap (λ (z : ExprTree). e.Assign nowhere op2 (unplaced_expr target2) z) h2 ∙ sym (unplaced_assign at2 op2 target2 value2)
