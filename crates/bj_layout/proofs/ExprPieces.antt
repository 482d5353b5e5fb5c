-- The pieces of each form of expression.
use Rattle.std.proofs.Common.{◌≡◌, ℕ, List, [], ◌∷◌, ◌++◌, map, sym, ap, ◌∙◌}
use Rattle.std.specs.Prelude.{codes}
use Rattle.bj_base.specs.declared.span.Span.{Span}
use Rattle.bj_expr_tree.specs.declared.types.TypeTree.{TypeTree}
use Rattle.bj_expr_tree.specs.declared.expr.LiteralKind.{LiteralKind}
use Rattle.bj_expr_tree.specs.declared.expr.StepOp.{StepOp}
use Rattle.bj_expr_tree.specs.declared.expr.UnaryOp.{UnaryOp}
use Rattle.bj_expr_tree.specs.declared.expr.AssignOp.{AssignOp}
use Rattle.bj_expr_tree.specs.declared.expr.BinaryOp.{BinaryOp}
use Rattle.bj_expr_tree.specs.declared.expr.ExprTree.{ExprTree}
use Rattle.bj_expr_tree.specs.declared.expr.ExprTree.TheVariants as tree
use Rattle.bj_expr_tree.specs.declared.expr.ExprTree.TheOpen.{ExprTree-F}
use Rattle.bj_expr_tree.specs.declared.expr.ExprTree.TheFolds.{fold-roll-ExprTree}
use Rattle.bj_writer.specs.Pieces.{Piece, Mark, Space}
use Rattle.bj_layout.specs.Exprs.{word, keyword, sign, each_behind, with_commas, in_parens, in_brackets, in_braces, arguments, pairs, type_pieces, literal_token, unary_sign, step_sign, binary_sign, assign_sign, spaced, expr_form, expr_pieces}

pub literal_pieces : (at : Span) (kind : LiteralKind) (text : List ℕ) → expr_pieces (tree.Literal at kind text) ≡ Mark (literal_token kind) text ∷ []
unfolding expr_pieces
literal_pieces at kind text = ap expr_pieces (sym (tree.rolls-Literal at kind text)) ∙ fold-roll-ExprTree (List Piece) expr_form (ExprTree-F.Literal at kind text)

pub this_pieces : (at : Span) → expr_pieces (tree.This at) ≡ keyword (codes "this") ∷ []
unfolding expr_pieces
this_pieces at = ap expr_pieces (sym (tree.rolls-This at)) ∙ fold-roll-ExprTree (List Piece) expr_form (ExprTree-F.This at)

pub paren_pieces : (at : Span) (inner : ExprTree) → expr_pieces (tree.Paren at inner) ≡ in_parens (expr_pieces inner)
unfolding expr_pieces
paren_pieces at inner = ap expr_pieces (sym (tree.rolls-Paren at inner)) ∙ fold-roll-ExprTree (List Piece) expr_form (ExprTree-F.Paren at inner)

pub name_pieces : (at : Span) (name : List ℕ) → expr_pieces (tree.Name at name) ≡ word name ∷ []
unfolding expr_pieces
name_pieces at name = ap expr_pieces (sym (tree.rolls-Name at name)) ∙ fold-roll-ExprTree (List Piece) expr_form (ExprTree-F.Name at name)

pub field_pieces : (at : Span) (target : ExprTree) (name : List ℕ) → expr_pieces (tree.Field at target name) ≡ expr_pieces target ++ (sign (codes ".") ∷ word name ∷ [])
unfolding expr_pieces
field_pieces at target name = ap expr_pieces (sym (tree.rolls-Field at target name)) ∙ fold-roll-ExprTree (List Piece) expr_form (ExprTree-F.Field at target name)

pub super_field_pieces : (at : Span) (name : List ℕ) → expr_pieces (tree.SuperField at name) ≡ keyword (codes "super") ∷ sign (codes ".") ∷ word name ∷ []
unfolding expr_pieces
super_field_pieces at name = ap expr_pieces (sym (tree.rolls-SuperField at name)) ∙ fold-roll-ExprTree (List Piece) expr_form (ExprTree-F.SuperField at name)

pub call_pieces : (at : Span) (name : List ℕ) (args : List ExprTree) → expr_pieces (tree.Call at name args) ≡ word name ∷ arguments (map expr_pieces args)
unfolding expr_pieces
call_pieces at name args = ap expr_pieces (sym (tree.rolls-Call at name args)) ∙ fold-roll-ExprTree (List Piece) expr_form (ExprTree-F.Call at name args)

pub method_call_pieces : (at : Span) (target : ExprTree) (name : List ℕ) (args : List ExprTree) → expr_pieces (tree.MethodCall at target name args) ≡ expr_pieces target ++ (sign (codes ".") ∷ word name ∷ arguments (map expr_pieces args))
unfolding expr_pieces
method_call_pieces at target name args = ap expr_pieces (sym (tree.rolls-MethodCall at target name args)) ∙ fold-roll-ExprTree (List Piece) expr_form (ExprTree-F.MethodCall at target name args)

pub super_call_pieces : (at : Span) (name : List ℕ) (args : List ExprTree) → expr_pieces (tree.SuperCall at name args) ≡ keyword (codes "super") ∷ sign (codes ".") ∷ word name ∷ arguments (map expr_pieces args)
unfolding expr_pieces
super_call_pieces at name args = ap expr_pieces (sym (tree.rolls-SuperCall at name args)) ∙ fold-roll-ExprTree (List Piece) expr_form (ExprTree-F.SuperCall at name args)

pub index_pieces : (at : Span) (array : ExprTree) (index : ExprTree) → expr_pieces (tree.Index at array index) ≡ expr_pieces array ++ in_brackets (expr_pieces index)
unfolding expr_pieces
index_pieces at array index = ap expr_pieces (sym (tree.rolls-Index at array index)) ∙ fold-roll-ExprTree (List Piece) expr_form (ExprTree-F.Index at array index)

pub new_pieces : (at : Span) (class : List ℕ) (args : List ExprTree) → expr_pieces (tree.New at class args) ≡ keyword (codes "new") ∷ Space ∷ word class ∷ arguments (map expr_pieces args)
unfolding expr_pieces
new_pieces at class args = ap expr_pieces (sym (tree.rolls-New at class args)) ∙ fold-roll-ExprTree (List Piece) expr_form (ExprTree-F.New at class args)

pub new_array_pieces : (at : Span) (holds : TypeTree) (sizes : List ExprTree) (dims : ℕ) → expr_pieces (tree.NewArray at holds sizes dims) ≡ keyword (codes "new") ∷ Space ∷ (type_pieces holds ++ (each_behind [] (map in_brackets (map expr_pieces sizes)) ++ pairs dims))
unfolding expr_pieces
new_array_pieces at holds sizes dims = ap expr_pieces (sym (tree.rolls-NewArray at holds sizes dims)) ∙ fold-roll-ExprTree (List Piece) expr_form (ExprTree-F.NewArray at holds sizes dims)

pub new_values_pieces : (at : Span) (holds : TypeTree) (values : List ExprTree) → expr_pieces (tree.NewValues at holds values) ≡ keyword (codes "new") ∷ Space ∷ (type_pieces holds ++ in_braces (with_commas (map expr_pieces values)))
unfolding expr_pieces
new_values_pieces at holds values = ap expr_pieces (sym (tree.rolls-NewValues at holds values)) ∙ fold-roll-ExprTree (List Piece) expr_form (ExprTree-F.NewValues at holds values)

pub braces_pieces : (at : Span) (values : List ExprTree) → expr_pieces (tree.Braces at values) ≡ in_braces (with_commas (map expr_pieces values))
unfolding expr_pieces
braces_pieces at values = ap expr_pieces (sym (tree.rolls-Braces at values)) ∙ fold-roll-ExprTree (List Piece) expr_form (ExprTree-F.Braces at values)

pub postfix_pieces : (at : Span) (op : StepOp) (operand : ExprTree) → expr_pieces (tree.Postfix at op operand) ≡ expr_pieces operand ++ sign (step_sign op) ∷ []
unfolding expr_pieces
postfix_pieces at op operand = ap expr_pieces (sym (tree.rolls-Postfix at op operand)) ∙ fold-roll-ExprTree (List Piece) expr_form (ExprTree-F.Postfix at op operand)

pub prefix_pieces : (at : Span) (op : StepOp) (operand : ExprTree) → expr_pieces (tree.Prefix at op operand) ≡ sign (step_sign op) ∷ expr_pieces operand
unfolding expr_pieces
prefix_pieces at op operand = ap expr_pieces (sym (tree.rolls-Prefix at op operand)) ∙ fold-roll-ExprTree (List Piece) expr_form (ExprTree-F.Prefix at op operand)

pub unary_pieces : (at : Span) (op : UnaryOp) (operand : ExprTree) → expr_pieces (tree.Unary at op operand) ≡ sign (unary_sign op) ∷ expr_pieces operand
unfolding expr_pieces
unary_pieces at op operand = ap expr_pieces (sym (tree.rolls-Unary at op operand)) ∙ fold-roll-ExprTree (List Piece) expr_form (ExprTree-F.Unary at op operand)

pub cast_pieces : (at : Span) (to : TypeTree) (operand : ExprTree) → expr_pieces (tree.Cast at to operand) ≡ in_parens (type_pieces to) ++ (Space ∷ expr_pieces operand)
unfolding expr_pieces
cast_pieces at to operand = ap expr_pieces (sym (tree.rolls-Cast at to operand)) ∙ fold-roll-ExprTree (List Piece) expr_form (ExprTree-F.Cast at to operand)

pub binary_pieces : (at : Span) (op : BinaryOp) (left : ExprTree) (right : ExprTree) → expr_pieces (tree.Binary at op left right) ≡ expr_pieces left ++ (spaced (sign (binary_sign op)) ++ expr_pieces right)
unfolding expr_pieces
binary_pieces at op left right = ap expr_pieces (sym (tree.rolls-Binary at op left right)) ∙ fold-roll-ExprTree (List Piece) expr_form (ExprTree-F.Binary at op left right)

pub instance_of_pieces : (at : Span) (value : ExprTree) (holds : TypeTree) → expr_pieces (tree.InstanceOf at value holds) ≡ expr_pieces value ++ (spaced (keyword (codes "instanceof")) ++ type_pieces holds)
unfolding expr_pieces
instance_of_pieces at value holds = ap expr_pieces (sym (tree.rolls-InstanceOf at value holds)) ∙ fold-roll-ExprTree (List Piece) expr_form (ExprTree-F.InstanceOf at value holds)

pub conditional_pieces : (at : Span) (test : ExprTree) (chosen : ExprTree) (other : ExprTree) → expr_pieces (tree.Conditional at test chosen other) ≡ expr_pieces test ++ (spaced (sign (codes "?")) ++ (expr_pieces chosen ++ (spaced (sign (codes ":")) ++ expr_pieces other)))
unfolding expr_pieces
conditional_pieces at test chosen other = ap expr_pieces (sym (tree.rolls-Conditional at test chosen other)) ∙ fold-roll-ExprTree (List Piece) expr_form (ExprTree-F.Conditional at test chosen other)

pub assign_pieces : (at : Span) (op : AssignOp) (target : ExprTree) (value : ExprTree) → expr_pieces (tree.Assign at op target value) ≡ expr_pieces target ++ (spaced (sign (assign_sign op)) ++ expr_pieces value)
unfolding expr_pieces
assign_pieces at op target value = ap expr_pieces (sym (tree.rolls-Assign at op target value)) ∙ fold-roll-ExprTree (List Piece) expr_form (ExprTree-F.Assign at op target value)
