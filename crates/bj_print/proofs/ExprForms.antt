-- Induction over expressions by the forms as they are built.
use Rattle.std.proofs.Common.{ℕ, List, [], ◌∷◌, map, sym, subst}
use Rattle.bj_base.specs.declared.span.Span.{Span}
use Rattle.bj_expr_tree.specs.declared.types.TypeTree.{TypeTree}
use Rattle.bj_expr_tree.specs.declared.expr.LiteralKind.{LiteralKind}
use Rattle.bj_expr_tree.specs.declared.expr.StepOp.{StepOp}
use Rattle.bj_expr_tree.specs.declared.expr.UnaryOp.{UnaryOp}
use Rattle.bj_expr_tree.specs.declared.expr.AssignOp.{AssignOp}
use Rattle.bj_expr_tree.specs.declared.expr.BinaryOp.{BinaryOp}
use Rattle.bj_expr_tree.specs.declared.expr.ExprTree.{ExprTree, roll-ExprTree, map-ExprTree, ind-ExprTree}
use Rattle.bj_expr_tree.specs.declared.expr.ExprTree.TheVariants as e
use Rattle.bj_expr_tree.specs.declared.expr.ExprTree.TheOpen.{ExprTree-F}

abbrev pub Every : (ExprTree → Type 0) → List ExprTree → Type 0
Every P [] = Unit {0}
Every P (x ∷ xs) = P x × Every P xs

-- a fact of each form, from its parts
pub record Forms (P : ExprTree → Type 0) : Type 0 where
  pub of_literal : (at : Span) (kind : LiteralKind) (text : List ℕ) → P (e.Literal at kind text)
  pub of_this : (at : Span) → P (e.This at)
  pub of_paren : (at : Span) (inner : ExprTree) → P inner → P (e.Paren at inner)
  pub of_name : (at : Span) (name : List ℕ) → P (e.Name at name)
  pub of_field : (at : Span) (target : ExprTree) (name : List ℕ) → P target → P (e.Field at target name)
  pub of_super_field : (at : Span) (name : List ℕ) → P (e.SuperField at name)
  pub of_call : (at : Span) (name : List ℕ) (args : List ExprTree) → Every P args → P (e.Call at name args)
  pub of_method_call : (at : Span) (target : ExprTree) (name : List ℕ) (args : List ExprTree) → P target → Every P args → P (e.MethodCall at target name args)
  pub of_super_call : (at : Span) (name : List ℕ) (args : List ExprTree) → Every P args → P (e.SuperCall at name args)
  pub of_index : (at : Span) (array : ExprTree) (index : ExprTree) → P array → P index → P (e.Index at array index)
  pub of_new : (at : Span) (class : List ℕ) (args : List ExprTree) → Every P args → P (e.New at class args)
  pub of_new_array : (at : Span) (holds : TypeTree) (sizes : List ExprTree) (dims : ℕ) → Every P sizes → P (e.NewArray at holds sizes dims)
  pub of_new_values : (at : Span) (holds : TypeTree) (values : List ExprTree) → Every P values → P (e.NewValues at holds values)
  pub of_braces : (at : Span) (values : List ExprTree) → Every P values → P (e.Braces at values)
  pub of_postfix : (at : Span) (op : StepOp) (operand : ExprTree) → P operand → P (e.Postfix at op operand)
  pub of_prefix : (at : Span) (op : StepOp) (operand : ExprTree) → P operand → P (e.Prefix at op operand)
  pub of_unary : (at : Span) (op : UnaryOp) (operand : ExprTree) → P operand → P (e.Unary at op operand)
  pub of_cast : (at : Span) (to : TypeTree) (operand : ExprTree) → P operand → P (e.Cast at to operand)
  pub of_binary : (at : Span) (op : BinaryOp) (left : ExprTree) (right : ExprTree) → P left → P right → P (e.Binary at op left right)
  pub of_instance_of : (at : Span) (value : ExprTree) (holds : TypeTree) → P value → P (e.InstanceOf at value holds)
  pub of_conditional : (at : Span) (test : ExprTree) (chosen : ExprTree) (other : ExprTree) → P test → P chosen → P other → P (e.Conditional at test chosen other)
  pub of_assign : (at : Span) (op : AssignOp) (target : ExprTree) (value : ExprTree) → P target → P value → P (e.Assign at op target value)

module _ (P : ExprTree → Type 0) (forms : Forms P) where
  every_held : (xs : List ((x : ExprTree) × P x)) → Every P (map (λ x. x.0) xs)
  every_held [] = tt
  every_held (x ∷ xs) = (x.1, every_held xs)

  form_held : (y : ExprTree-F ((x : ExprTree) × P x)) → P (roll-ExprTree (map-ExprTree ((x : ExprTree) × P x) ExprTree (λ x. x.0) y))
  form_held (ExprTree-F.Literal at kind text) = subst P (sym (e.rolls-Literal at kind text)) (forms.of_literal at kind text)
  form_held (ExprTree-F.This at) = subst P (sym (e.rolls-This at)) (forms.of_this at)
  form_held (ExprTree-F.Paren at inner) = subst P (sym (e.rolls-Paren at inner.0)) (forms.of_paren at inner.0 inner.1)
  form_held (ExprTree-F.Name at name) = subst P (sym (e.rolls-Name at name)) (forms.of_name at name)
  form_held (ExprTree-F.Field at target name) = subst P (sym (e.rolls-Field at target.0 name)) (forms.of_field at target.0 name target.1)
  form_held (ExprTree-F.SuperField at name) = subst P (sym (e.rolls-SuperField at name)) (forms.of_super_field at name)
  form_held (ExprTree-F.Call at name args) = subst P (sym (e.rolls-Call at name (map (λ x. x.0) args))) (forms.of_call at name (map (λ x. x.0) args) (every_held args))
  form_held (ExprTree-F.MethodCall at target name args) = subst P (sym (e.rolls-MethodCall at target.0 name (map (λ x. x.0) args))) (forms.of_method_call at target.0 name (map (λ x. x.0) args) target.1 (every_held args))
  form_held (ExprTree-F.SuperCall at name args) = subst P (sym (e.rolls-SuperCall at name (map (λ x. x.0) args))) (forms.of_super_call at name (map (λ x. x.0) args) (every_held args))
  form_held (ExprTree-F.Index at array index) = subst P (sym (e.rolls-Index at array.0 index.0)) (forms.of_index at array.0 index.0 array.1 index.1)
  form_held (ExprTree-F.New at class args) = subst P (sym (e.rolls-New at class (map (λ x. x.0) args))) (forms.of_new at class (map (λ x. x.0) args) (every_held args))
  form_held (ExprTree-F.NewArray at holds sizes dims) = subst P (sym (e.rolls-NewArray at holds (map (λ x. x.0) sizes) dims)) (forms.of_new_array at holds (map (λ x. x.0) sizes) dims (every_held sizes))
  form_held (ExprTree-F.NewValues at holds values) = subst P (sym (e.rolls-NewValues at holds (map (λ x. x.0) values))) (forms.of_new_values at holds (map (λ x. x.0) values) (every_held values))
  form_held (ExprTree-F.Braces at values) = subst P (sym (e.rolls-Braces at (map (λ x. x.0) values))) (forms.of_braces at (map (λ x. x.0) values) (every_held values))
  form_held (ExprTree-F.Postfix at op operand) = subst P (sym (e.rolls-Postfix at op operand.0)) (forms.of_postfix at op operand.0 operand.1)
  form_held (ExprTree-F.Prefix at op operand) = subst P (sym (e.rolls-Prefix at op operand.0)) (forms.of_prefix at op operand.0 operand.1)
  form_held (ExprTree-F.Unary at op operand) = subst P (sym (e.rolls-Unary at op operand.0)) (forms.of_unary at op operand.0 operand.1)
  form_held (ExprTree-F.Cast at to operand) = subst P (sym (e.rolls-Cast at to operand.0)) (forms.of_cast at to operand.0 operand.1)
  form_held (ExprTree-F.Binary at op left right) = subst P (sym (e.rolls-Binary at op left.0 right.0)) (forms.of_binary at op left.0 right.0 left.1 right.1)
  form_held (ExprTree-F.InstanceOf at value holds) = subst P (sym (e.rolls-InstanceOf at value.0 holds)) (forms.of_instance_of at value.0 holds value.1)
  form_held (ExprTree-F.Conditional at test chosen other) = subst P (sym (e.rolls-Conditional at test.0 chosen.0 other.0)) (forms.of_conditional at test.0 chosen.0 other.0 test.1 chosen.1 other.1)
  form_held (ExprTree-F.Assign at op target value) = subst P (sym (e.rolls-Assign at op target.0 value.0)) (forms.of_assign at op target.0 value.0 target.1 value.1)

  pub by_forms : (x : ExprTree) → P x
  by_forms = ind-ExprTree P (λ x y is. subst (λ z. P (roll-ExprTree z)) is (form_held y))
