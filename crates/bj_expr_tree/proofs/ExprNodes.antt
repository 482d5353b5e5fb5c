-- The nodes of each form of expression.
use Rattle.std.proofs.Common.{◌≡◌, ℕ, suc, ◌+◌, List, map, sym, ap, ◌∙◌}
use Rattle.bj_base.specs.declared.span.Span.{Span}
use Rattle.bj_expr_tree.specs.declared.types.TypeTree.{TypeTree}
use Rattle.bj_expr_tree.specs.declared.expr.LiteralKind.{LiteralKind}
use Rattle.bj_expr_tree.specs.declared.expr.StepOp.{StepOp}
use Rattle.bj_expr_tree.specs.declared.expr.UnaryOp.{UnaryOp}
use Rattle.bj_expr_tree.specs.declared.expr.AssignOp.{AssignOp}
use Rattle.bj_expr_tree.specs.declared.expr.BinaryOp.{BinaryOp}
use Rattle.bj_expr_tree.specs.declared.expr.ExprTree.{ExprTree}
use Rattle.bj_expr_tree.specs.declared.expr.ExprTree.TheVariants as tree
use Rattle.bj_expr_tree.specs.declared.expr.ExprTree.TheOpen.{ExprTree-F}
use Rattle.bj_expr_tree.specs.declared.expr.ExprTree.TheFolds.{fold-roll-ExprTree}
use Rattle.bj_expr_tree.specs.Count.{total, expr_form, nodes_of_expr}

pub literal_nodes : (at : Span) (kind : LiteralKind) (text : List ℕ) → nodes_of_expr (tree.Literal at kind text) ≡ 1
unfolding nodes_of_expr
literal_nodes at kind text = ap nodes_of_expr (sym (tree.rolls-Literal at kind text)) ∙ fold-roll-ExprTree ℕ expr_form (ExprTree-F.Literal at kind text)

pub this_nodes : (at : Span) → nodes_of_expr (tree.This at) ≡ 1
unfolding nodes_of_expr
this_nodes at = ap nodes_of_expr (sym (tree.rolls-This at)) ∙ fold-roll-ExprTree ℕ expr_form (ExprTree-F.This at)

pub paren_nodes : (at : Span) (inner : ExprTree) → nodes_of_expr (tree.Paren at inner) ≡ suc (nodes_of_expr inner)
unfolding nodes_of_expr
paren_nodes at inner = ap nodes_of_expr (sym (tree.rolls-Paren at inner)) ∙ fold-roll-ExprTree ℕ expr_form (ExprTree-F.Paren at inner)

pub name_nodes : (at : Span) (name : List ℕ) → nodes_of_expr (tree.Name at name) ≡ 1
unfolding nodes_of_expr
name_nodes at name = ap nodes_of_expr (sym (tree.rolls-Name at name)) ∙ fold-roll-ExprTree ℕ expr_form (ExprTree-F.Name at name)

pub field_nodes : (at : Span) (target : ExprTree) (name : List ℕ) → nodes_of_expr (tree.Field at target name) ≡ suc (nodes_of_expr target)
unfolding nodes_of_expr
field_nodes at target name = ap nodes_of_expr (sym (tree.rolls-Field at target name)) ∙ fold-roll-ExprTree ℕ expr_form (ExprTree-F.Field at target name)

pub superfield_nodes : (at : Span) (name : List ℕ) → nodes_of_expr (tree.SuperField at name) ≡ 1
unfolding nodes_of_expr
superfield_nodes at name = ap nodes_of_expr (sym (tree.rolls-SuperField at name)) ∙ fold-roll-ExprTree ℕ expr_form (ExprTree-F.SuperField at name)

pub call_nodes : (at : Span) (name : List ℕ) (args : List ExprTree) → nodes_of_expr (tree.Call at name args) ≡ suc (total (map nodes_of_expr args))
unfolding nodes_of_expr
call_nodes at name args = ap nodes_of_expr (sym (tree.rolls-Call at name args)) ∙ fold-roll-ExprTree ℕ expr_form (ExprTree-F.Call at name args)

pub methodcall_nodes : (at : Span) (target : ExprTree) (name : List ℕ) (args : List ExprTree) → nodes_of_expr (tree.MethodCall at target name args) ≡ suc (nodes_of_expr target + total (map nodes_of_expr args))
unfolding nodes_of_expr
methodcall_nodes at target name args = ap nodes_of_expr (sym (tree.rolls-MethodCall at target name args)) ∙ fold-roll-ExprTree ℕ expr_form (ExprTree-F.MethodCall at target name args)

pub supercall_nodes : (at : Span) (name : List ℕ) (args : List ExprTree) → nodes_of_expr (tree.SuperCall at name args) ≡ suc (total (map nodes_of_expr args))
unfolding nodes_of_expr
supercall_nodes at name args = ap nodes_of_expr (sym (tree.rolls-SuperCall at name args)) ∙ fold-roll-ExprTree ℕ expr_form (ExprTree-F.SuperCall at name args)

pub index_nodes : (at : Span) (array : ExprTree) (index : ExprTree) → nodes_of_expr (tree.Index at array index) ≡ suc (nodes_of_expr array + nodes_of_expr index)
unfolding nodes_of_expr
index_nodes at array index = ap nodes_of_expr (sym (tree.rolls-Index at array index)) ∙ fold-roll-ExprTree ℕ expr_form (ExprTree-F.Index at array index)

pub new_nodes : (at : Span) (class : List ℕ) (args : List ExprTree) → nodes_of_expr (tree.New at class args) ≡ suc (total (map nodes_of_expr args))
unfolding nodes_of_expr
new_nodes at class args = ap nodes_of_expr (sym (tree.rolls-New at class args)) ∙ fold-roll-ExprTree ℕ expr_form (ExprTree-F.New at class args)

pub newarray_nodes : (at : Span) (holds : TypeTree) (sizes : List ExprTree) (dims : ℕ) → nodes_of_expr (tree.NewArray at holds sizes dims) ≡ suc (total (map nodes_of_expr sizes))
unfolding nodes_of_expr
newarray_nodes at holds sizes dims = ap nodes_of_expr (sym (tree.rolls-NewArray at holds sizes dims)) ∙ fold-roll-ExprTree ℕ expr_form (ExprTree-F.NewArray at holds sizes dims)

pub newvalues_nodes : (at : Span) (holds : TypeTree) (values : List ExprTree) → nodes_of_expr (tree.NewValues at holds values) ≡ suc (total (map nodes_of_expr values))
unfolding nodes_of_expr
newvalues_nodes at holds values = ap nodes_of_expr (sym (tree.rolls-NewValues at holds values)) ∙ fold-roll-ExprTree ℕ expr_form (ExprTree-F.NewValues at holds values)

pub braces_nodes : (at : Span) (values : List ExprTree) → nodes_of_expr (tree.Braces at values) ≡ suc (total (map nodes_of_expr values))
unfolding nodes_of_expr
braces_nodes at values = ap nodes_of_expr (sym (tree.rolls-Braces at values)) ∙ fold-roll-ExprTree ℕ expr_form (ExprTree-F.Braces at values)

pub postfix_nodes : (at : Span) (op : StepOp) (operand : ExprTree) → nodes_of_expr (tree.Postfix at op operand) ≡ suc (nodes_of_expr operand)
unfolding nodes_of_expr
postfix_nodes at op operand = ap nodes_of_expr (sym (tree.rolls-Postfix at op operand)) ∙ fold-roll-ExprTree ℕ expr_form (ExprTree-F.Postfix at op operand)

pub prefix_nodes : (at : Span) (op : StepOp) (operand : ExprTree) → nodes_of_expr (tree.Prefix at op operand) ≡ suc (nodes_of_expr operand)
unfolding nodes_of_expr
prefix_nodes at op operand = ap nodes_of_expr (sym (tree.rolls-Prefix at op operand)) ∙ fold-roll-ExprTree ℕ expr_form (ExprTree-F.Prefix at op operand)

pub unary_nodes : (at : Span) (op : UnaryOp) (operand : ExprTree) → nodes_of_expr (tree.Unary at op operand) ≡ suc (nodes_of_expr operand)
unfolding nodes_of_expr
unary_nodes at op operand = ap nodes_of_expr (sym (tree.rolls-Unary at op operand)) ∙ fold-roll-ExprTree ℕ expr_form (ExprTree-F.Unary at op operand)

pub cast_nodes : (at : Span) (to : TypeTree) (operand : ExprTree) → nodes_of_expr (tree.Cast at to operand) ≡ suc (nodes_of_expr operand)
unfolding nodes_of_expr
cast_nodes at to operand = ap nodes_of_expr (sym (tree.rolls-Cast at to operand)) ∙ fold-roll-ExprTree ℕ expr_form (ExprTree-F.Cast at to operand)

pub binary_nodes : (at : Span) (op : BinaryOp) (left : ExprTree) (right : ExprTree) → nodes_of_expr (tree.Binary at op left right) ≡ suc (nodes_of_expr left + nodes_of_expr right)
unfolding nodes_of_expr
binary_nodes at op left right = ap nodes_of_expr (sym (tree.rolls-Binary at op left right)) ∙ fold-roll-ExprTree ℕ expr_form (ExprTree-F.Binary at op left right)

pub instanceof_nodes : (at : Span) (value : ExprTree) (holds : TypeTree) → nodes_of_expr (tree.InstanceOf at value holds) ≡ suc (nodes_of_expr value)
unfolding nodes_of_expr
instanceof_nodes at value holds = ap nodes_of_expr (sym (tree.rolls-InstanceOf at value holds)) ∙ fold-roll-ExprTree ℕ expr_form (ExprTree-F.InstanceOf at value holds)

pub conditional_nodes : (at : Span) (test : ExprTree) (chosen : ExprTree) (other : ExprTree) → nodes_of_expr (tree.Conditional at test chosen other) ≡ suc (nodes_of_expr test + (nodes_of_expr chosen + nodes_of_expr other))
unfolding nodes_of_expr
conditional_nodes at test chosen other = ap nodes_of_expr (sym (tree.rolls-Conditional at test chosen other)) ∙ fold-roll-ExprTree ℕ expr_form (ExprTree-F.Conditional at test chosen other)

pub assign_nodes : (at : Span) (op : AssignOp) (target : ExprTree) (value : ExprTree) → nodes_of_expr (tree.Assign at op target value) ≡ suc (nodes_of_expr target + nodes_of_expr value)
unfolding nodes_of_expr
assign_nodes at op target value = ap nodes_of_expr (sym (tree.rolls-Assign at op target value)) ∙ fold-roll-ExprTree ℕ expr_form (ExprTree-F.Assign at op target value)

pub ruleset expr_nodes = (literal_nodes, this_nodes, paren_nodes, name_nodes, field_nodes, superfield_nodes, call_nodes, methodcall_nodes, supercall_nodes, index_nodes, new_nodes, newarray_nodes, newvalues_nodes, braces_nodes, postfix_nodes, prefix_nodes, unary_nodes, cast_nodes, binary_nodes, instanceof_nodes, conditional_nodes, assign_nodes)
