-- The height of each form.
use Rattle.std.proofs.Common.{◌≡◌, ℕ, suc, ◌+◌, ◌<◌, List, [], ◌∷◌, ◌++◌, map, take, get_or, length, refl, sym, ap, ◌∙◌, arith}
use Rattle.std.proofs.lemmas.List.{take_more}
use Rattle.std.specs.Prelude.{max, min}
use Rattle.bj_base.specs.declared.span.Span.{Span}
use Rattle.bj_expr_tree.specs.declared.types.TypeTree.{TypeTree}
use Rattle.bj_expr_tree.specs.declared.expr.LiteralKind.{LiteralKind}
use Rattle.bj_expr_tree.specs.declared.expr.StepOp.{StepOp}
use Rattle.bj_expr_tree.specs.declared.expr.UnaryOp.{UnaryOp}
use Rattle.bj_expr_tree.specs.declared.expr.AssignOp.{AssignOp}
use Rattle.bj_expr_tree.specs.declared.expr.BinaryOp.{BinaryOp}
use Rattle.bj_expr_tree.specs.declared.expr.ExprTree.{ExprTree}
use Rattle.bj_expr_tree.specs.declared.expr.ExprTree.TheVariants as tree
use Rattle.bj_expr_tree.specs.declared.expr.ExprTree.TheOpen.{ExprTree-F}
use Rattle.bj_expr_tree.specs.declared.expr.ExprTree.TheFolds.{fold-roll-ExprTree}
use Rattle.bj_expr_tree.specs.Size.{most, height_form, height_of}

pub literal_height : (at : Span) (kind : LiteralKind) (text : List ℕ) → height_of (tree.Literal at kind text) ≡ 1
unfolding height_of
literal_height at kind text = ap height_of (sym (tree.rolls-Literal at kind text)) ∙ fold-roll-ExprTree ℕ height_form (ExprTree-F.Literal at kind text)

pub this_height : (at : Span) → height_of (tree.This at) ≡ 1
unfolding height_of
this_height at = ap height_of (sym (tree.rolls-This at)) ∙ fold-roll-ExprTree ℕ height_form (ExprTree-F.This at)

pub paren_height : (at : Span) (inner : ExprTree) → height_of (tree.Paren at inner) ≡ suc (height_of inner)
unfolding height_of
paren_height at inner = ap height_of (sym (tree.rolls-Paren at inner)) ∙ fold-roll-ExprTree ℕ height_form (ExprTree-F.Paren at inner)

pub name_height : (at : Span) (name : List ℕ) → height_of (tree.Name at name) ≡ 1
unfolding height_of
name_height at name = ap height_of (sym (tree.rolls-Name at name)) ∙ fold-roll-ExprTree ℕ height_form (ExprTree-F.Name at name)

pub field_height : (at : Span) (target : ExprTree) (name : List ℕ) → height_of (tree.Field at target name) ≡ suc (height_of target)
unfolding height_of
field_height at target name = ap height_of (sym (tree.rolls-Field at target name)) ∙ fold-roll-ExprTree ℕ height_form (ExprTree-F.Field at target name)

pub superfield_height : (at : Span) (name : List ℕ) → height_of (tree.SuperField at name) ≡ 1
unfolding height_of
superfield_height at name = ap height_of (sym (tree.rolls-SuperField at name)) ∙ fold-roll-ExprTree ℕ height_form (ExprTree-F.SuperField at name)

pub call_height : (at : Span) (name : List ℕ) (args : List ExprTree) → height_of (tree.Call at name args) ≡ suc (most (map height_of args))
unfolding height_of
call_height at name args = ap height_of (sym (tree.rolls-Call at name args)) ∙ fold-roll-ExprTree ℕ height_form (ExprTree-F.Call at name args)

pub methodcall_height : (at : Span) (target : ExprTree) (name : List ℕ) (args : List ExprTree) → height_of (tree.MethodCall at target name args) ≡ suc (max (height_of target) (most (map height_of args)))
unfolding height_of
methodcall_height at target name args = ap height_of (sym (tree.rolls-MethodCall at target name args)) ∙ fold-roll-ExprTree ℕ height_form (ExprTree-F.MethodCall at target name args)

pub supercall_height : (at : Span) (name : List ℕ) (args : List ExprTree) → height_of (tree.SuperCall at name args) ≡ suc (most (map height_of args))
unfolding height_of
supercall_height at name args = ap height_of (sym (tree.rolls-SuperCall at name args)) ∙ fold-roll-ExprTree ℕ height_form (ExprTree-F.SuperCall at name args)

pub index_height : (at : Span) (array : ExprTree) (index : ExprTree) → height_of (tree.Index at array index) ≡ suc (max (height_of array) (height_of index))
unfolding height_of
index_height at array index = ap height_of (sym (tree.rolls-Index at array index)) ∙ fold-roll-ExprTree ℕ height_form (ExprTree-F.Index at array index)

pub new_height : (at : Span) (class : List ℕ) (args : List ExprTree) → height_of (tree.New at class args) ≡ suc (most (map height_of args))
unfolding height_of
new_height at class args = ap height_of (sym (tree.rolls-New at class args)) ∙ fold-roll-ExprTree ℕ height_form (ExprTree-F.New at class args)

pub newarray_height : (at : Span) (holds : TypeTree) (sizes : List ExprTree) (dims : ℕ) → height_of (tree.NewArray at holds sizes dims) ≡ suc (most (map height_of sizes))
unfolding height_of
newarray_height at holds sizes dims = ap height_of (sym (tree.rolls-NewArray at holds sizes dims)) ∙ fold-roll-ExprTree ℕ height_form (ExprTree-F.NewArray at holds sizes dims)

pub newvalues_height : (at : Span) (holds : TypeTree) (values : List ExprTree) → height_of (tree.NewValues at holds values) ≡ suc (most (map height_of values))
unfolding height_of
newvalues_height at holds values = ap height_of (sym (tree.rolls-NewValues at holds values)) ∙ fold-roll-ExprTree ℕ height_form (ExprTree-F.NewValues at holds values)

pub braces_height : (at : Span) (values : List ExprTree) → height_of (tree.Braces at values) ≡ suc (most (map height_of values))
unfolding height_of
braces_height at values = ap height_of (sym (tree.rolls-Braces at values)) ∙ fold-roll-ExprTree ℕ height_form (ExprTree-F.Braces at values)

pub postfix_height : (at : Span) (op : StepOp) (operand : ExprTree) → height_of (tree.Postfix at op operand) ≡ suc (height_of operand)
unfolding height_of
postfix_height at op operand = ap height_of (sym (tree.rolls-Postfix at op operand)) ∙ fold-roll-ExprTree ℕ height_form (ExprTree-F.Postfix at op operand)

pub prefix_height : (at : Span) (op : StepOp) (operand : ExprTree) → height_of (tree.Prefix at op operand) ≡ suc (height_of operand)
unfolding height_of
prefix_height at op operand = ap height_of (sym (tree.rolls-Prefix at op operand)) ∙ fold-roll-ExprTree ℕ height_form (ExprTree-F.Prefix at op operand)

pub unary_height : (at : Span) (op : UnaryOp) (operand : ExprTree) → height_of (tree.Unary at op operand) ≡ suc (height_of operand)
unfolding height_of
unary_height at op operand = ap height_of (sym (tree.rolls-Unary at op operand)) ∙ fold-roll-ExprTree ℕ height_form (ExprTree-F.Unary at op operand)

pub cast_height : (at : Span) (to : TypeTree) (operand : ExprTree) → height_of (tree.Cast at to operand) ≡ suc (height_of operand)
unfolding height_of
cast_height at to operand = ap height_of (sym (tree.rolls-Cast at to operand)) ∙ fold-roll-ExprTree ℕ height_form (ExprTree-F.Cast at to operand)

pub binary_height : (at : Span) (op : BinaryOp) (left : ExprTree) (right : ExprTree) → height_of (tree.Binary at op left right) ≡ suc (max (height_of left) (height_of right))
unfolding height_of
binary_height at op left right = ap height_of (sym (tree.rolls-Binary at op left right)) ∙ fold-roll-ExprTree ℕ height_form (ExprTree-F.Binary at op left right)

pub instanceof_height : (at : Span) (value : ExprTree) (holds : TypeTree) → height_of (tree.InstanceOf at value holds) ≡ suc (height_of value)
unfolding height_of
instanceof_height at value holds = ap height_of (sym (tree.rolls-InstanceOf at value holds)) ∙ fold-roll-ExprTree ℕ height_form (ExprTree-F.InstanceOf at value holds)

pub conditional_height : (at : Span) (test : ExprTree) (chosen : ExprTree) (other : ExprTree) → height_of (tree.Conditional at test chosen other) ≡ suc (max (height_of test) (max (height_of chosen) (height_of other)))
unfolding height_of
conditional_height at test chosen other = ap height_of (sym (tree.rolls-Conditional at test chosen other)) ∙ fold-roll-ExprTree ℕ height_form (ExprTree-F.Conditional at test chosen other)

pub assign_height : (at : Span) (op : AssignOp) (target : ExprTree) (value : ExprTree) → height_of (tree.Assign at op target value) ≡ suc (max (height_of target) (height_of value))
unfolding height_of
assign_height at op target value = ap height_of (sym (tree.rolls-Assign at op target value)) ∙ fold-roll-ExprTree ℕ height_form (ExprTree-F.Assign at op target value)

pub ruleset heights = (literal_height, this_height, paren_height, name_height, field_height, superfield_height, call_height, methodcall_height, supercall_height, index_height, new_height, newarray_height, newvalues_height, braces_height, postfix_height, prefix_height, unary_height, cast_height, binary_height, instanceof_height, conditional_height, assign_height)

-- the greatest number of a list with one more at its end
most_end : (ns : List ℕ) (n : ℕ) → most (ns ++ n ∷ []) ≡ max (most ns) n
most_end [] n = omega arith
most_end (k ∷ ns) n = let h = most_end ns n in omega arith

-- the heights of a list with one more at its end
map_end : (xs : List ExprTree) (x : ExprTree) → map height_of (xs ++ x ∷ []) ≡ map height_of xs ++ height_of x ∷ []
map_end [] x = refl
map_end (y ∷ xs) x = ap (λ (ns : List ℕ). height_of y ∷ ns) (map_end xs x)

-- the greatest height of a list with one more at its end
pub list_height : (xs : List ExprTree) (x : ExprTree) → most (map height_of (xs ++ x ∷ [])) ≡ max (most (map height_of xs)) (height_of x)
list_height xs x = ap most (map_end xs x) ∙ most_end (map height_of xs) (height_of x)

-- one item more of the list: the greatest height so far becomes that of the items up to it
pub highest_step : (xs : List ExprTree) (n : ℕ) (x : ExprTree) (m h r : ℕ) → n < length xs → x ≡ get_or xs n x
    → m ≡ min (most (map height_of (take n xs))) 4294967295 → h ≡ min (height_of x) 4294967295 → r ≡ max m h
    → r ≡ min (most (map height_of (take (n + 1) xs))) 4294967295
highest_step xs n x m h r below is em eh er =
    let e : most (map height_of (take (n + 1) xs)) ≡ max (most (map height_of (take n xs))) (height_of x) =
    ap (λ (ys : List ExprTree). most (map height_of ys)) (take_more xs n x below ∙ ap (λ (y : ExprTree). take n xs ++ y ∷ []) (sym is)) ∙ list_height (take n xs) x in
    omega arith
