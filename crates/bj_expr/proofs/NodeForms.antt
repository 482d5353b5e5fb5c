-- The nodes of each form.
use Rattle.std.proofs.Common.{◌≡◌, ℕ, zero, suc, ◌+◌, ◌<◌, List, [], ◌∷◌, ◌++◌, map, take, get_or, length, Option, None, Some, refl, sym, ap, ◌∙◌, arith}
use Rattle.std.proofs.lemmas.List.{take_more}
use Rattle.bj_base.specs.declared.span.Span.{Span}
use Rattle.bj_expr_tree.specs.declared.types.TypeTree.{TypeTree}
use Rattle.bj_expr_tree.specs.declared.expr.LiteralKind.{LiteralKind}
use Rattle.bj_expr_tree.specs.declared.expr.StepOp.{StepOp}
use Rattle.bj_expr_tree.specs.declared.expr.UnaryOp.{UnaryOp}
use Rattle.bj_expr_tree.specs.declared.expr.AssignOp.{AssignOp}
use Rattle.bj_expr_tree.specs.declared.expr.BinaryOp.{BinaryOp}
use Rattle.bj_expr_tree.specs.declared.expr.ExprTree.{ExprTree}
use Rattle.bj_expr_tree.specs.declared.expr.ExprTree.TheVariants as tree
use Rattle.bj_expr_tree.specs.declared.expr.ExprTree.TheOpen.{ExprTree-F}
use Rattle.bj_expr_tree.specs.declared.expr.ExprTree.TheFolds.{fold-roll-ExprTree}
use Rattle.bj_expr.specs.Nodes.{all_beside, nodes_form, nodes_at, first}

pub literal_below : (at : Span) (kind : LiteralKind) (text : List ℕ) (n : ℕ) → nodes_at (tree.Literal at kind text) (suc n) ≡ []
unfolding nodes_at
literal_below at kind text n = ap (λ (f : ℕ → List Span). f (suc n)) (ap nodes_at (sym (tree.rolls-Literal at kind text)) ∙ fold-roll-ExprTree (ℕ → List Span) nodes_form (ExprTree-F.Literal at kind text))

pub literal_root : (at : Span) (kind : LiteralKind) (text : List ℕ) → nodes_at (tree.Literal at kind text) 0 ≡ at ∷ []
unfolding nodes_at
literal_root at kind text = ap (λ (f : ℕ → List Span). f 0) (ap nodes_at (sym (tree.rolls-Literal at kind text)) ∙ fold-roll-ExprTree (ℕ → List Span) nodes_form (ExprTree-F.Literal at kind text))

pub this_below : (at : Span) (n : ℕ) → nodes_at (tree.This at) (suc n) ≡ []
unfolding nodes_at
this_below at n = ap (λ (f : ℕ → List Span). f (suc n)) (ap nodes_at (sym (tree.rolls-This at)) ∙ fold-roll-ExprTree (ℕ → List Span) nodes_form (ExprTree-F.This at))

pub this_root : (at : Span) → nodes_at (tree.This at) 0 ≡ at ∷ []
unfolding nodes_at
this_root at = ap (λ (f : ℕ → List Span). f 0) (ap nodes_at (sym (tree.rolls-This at)) ∙ fold-roll-ExprTree (ℕ → List Span) nodes_form (ExprTree-F.This at))

pub paren_below : (at : Span) (inner : ExprTree) (n : ℕ) → nodes_at (tree.Paren at inner) (suc n) ≡ nodes_at inner n
unfolding nodes_at
paren_below at inner n = ap (λ (f : ℕ → List Span). f (suc n)) (ap nodes_at (sym (tree.rolls-Paren at inner)) ∙ fold-roll-ExprTree (ℕ → List Span) nodes_form (ExprTree-F.Paren at inner))

pub paren_root : (at : Span) (inner : ExprTree) → nodes_at (tree.Paren at inner) 0 ≡ at ∷ []
unfolding nodes_at
paren_root at inner = ap (λ (f : ℕ → List Span). f 0) (ap nodes_at (sym (tree.rolls-Paren at inner)) ∙ fold-roll-ExprTree (ℕ → List Span) nodes_form (ExprTree-F.Paren at inner))

pub name_below : (at : Span) (name : List ℕ) (n : ℕ) → nodes_at (tree.Name at name) (suc n) ≡ []
unfolding nodes_at
name_below at name n = ap (λ (f : ℕ → List Span). f (suc n)) (ap nodes_at (sym (tree.rolls-Name at name)) ∙ fold-roll-ExprTree (ℕ → List Span) nodes_form (ExprTree-F.Name at name))

pub name_root : (at : Span) (name : List ℕ) → nodes_at (tree.Name at name) 0 ≡ at ∷ []
unfolding nodes_at
name_root at name = ap (λ (f : ℕ → List Span). f 0) (ap nodes_at (sym (tree.rolls-Name at name)) ∙ fold-roll-ExprTree (ℕ → List Span) nodes_form (ExprTree-F.Name at name))

pub field_below : (at : Span) (target : ExprTree) (name : List ℕ) (n : ℕ) → nodes_at (tree.Field at target name) (suc n) ≡ nodes_at target n
unfolding nodes_at
field_below at target name n = ap (λ (f : ℕ → List Span). f (suc n)) (ap nodes_at (sym (tree.rolls-Field at target name)) ∙ fold-roll-ExprTree (ℕ → List Span) nodes_form (ExprTree-F.Field at target name))

pub field_root : (at : Span) (target : ExprTree) (name : List ℕ) → nodes_at (tree.Field at target name) 0 ≡ at ∷ []
unfolding nodes_at
field_root at target name = ap (λ (f : ℕ → List Span). f 0) (ap nodes_at (sym (tree.rolls-Field at target name)) ∙ fold-roll-ExprTree (ℕ → List Span) nodes_form (ExprTree-F.Field at target name))

pub superfield_below : (at : Span) (name : List ℕ) (n : ℕ) → nodes_at (tree.SuperField at name) (suc n) ≡ []
unfolding nodes_at
superfield_below at name n = ap (λ (f : ℕ → List Span). f (suc n)) (ap nodes_at (sym (tree.rolls-SuperField at name)) ∙ fold-roll-ExprTree (ℕ → List Span) nodes_form (ExprTree-F.SuperField at name))

pub superfield_root : (at : Span) (name : List ℕ) → nodes_at (tree.SuperField at name) 0 ≡ at ∷ []
unfolding nodes_at
superfield_root at name = ap (λ (f : ℕ → List Span). f 0) (ap nodes_at (sym (tree.rolls-SuperField at name)) ∙ fold-roll-ExprTree (ℕ → List Span) nodes_form (ExprTree-F.SuperField at name))

pub call_below : (at : Span) (name : List ℕ) (args : List ExprTree) (n : ℕ) → nodes_at (tree.Call at name args) (suc n) ≡ all_beside (map nodes_at args) n
unfolding nodes_at
call_below at name args n = ap (λ (f : ℕ → List Span). f (suc n)) (ap nodes_at (sym (tree.rolls-Call at name args)) ∙ fold-roll-ExprTree (ℕ → List Span) nodes_form (ExprTree-F.Call at name args))

pub call_root : (at : Span) (name : List ℕ) (args : List ExprTree) → nodes_at (tree.Call at name args) 0 ≡ at ∷ []
unfolding nodes_at
call_root at name args = ap (λ (f : ℕ → List Span). f 0) (ap nodes_at (sym (tree.rolls-Call at name args)) ∙ fold-roll-ExprTree (ℕ → List Span) nodes_form (ExprTree-F.Call at name args))

pub methodcall_below : (at : Span) (target : ExprTree) (name : List ℕ) (args : List ExprTree) (n : ℕ) → nodes_at (tree.MethodCall at target name args) (suc n) ≡ nodes_at target n ++ all_beside (map nodes_at args) n
unfolding nodes_at
methodcall_below at target name args n = ap (λ (f : ℕ → List Span). f (suc n)) (ap nodes_at (sym (tree.rolls-MethodCall at target name args)) ∙ fold-roll-ExprTree (ℕ → List Span) nodes_form (ExprTree-F.MethodCall at target name args))

pub methodcall_root : (at : Span) (target : ExprTree) (name : List ℕ) (args : List ExprTree) → nodes_at (tree.MethodCall at target name args) 0 ≡ at ∷ []
unfolding nodes_at
methodcall_root at target name args = ap (λ (f : ℕ → List Span). f 0) (ap nodes_at (sym (tree.rolls-MethodCall at target name args)) ∙ fold-roll-ExprTree (ℕ → List Span) nodes_form (ExprTree-F.MethodCall at target name args))

pub supercall_below : (at : Span) (name : List ℕ) (args : List ExprTree) (n : ℕ) → nodes_at (tree.SuperCall at name args) (suc n) ≡ all_beside (map nodes_at args) n
unfolding nodes_at
supercall_below at name args n = ap (λ (f : ℕ → List Span). f (suc n)) (ap nodes_at (sym (tree.rolls-SuperCall at name args)) ∙ fold-roll-ExprTree (ℕ → List Span) nodes_form (ExprTree-F.SuperCall at name args))

pub supercall_root : (at : Span) (name : List ℕ) (args : List ExprTree) → nodes_at (tree.SuperCall at name args) 0 ≡ at ∷ []
unfolding nodes_at
supercall_root at name args = ap (λ (f : ℕ → List Span). f 0) (ap nodes_at (sym (tree.rolls-SuperCall at name args)) ∙ fold-roll-ExprTree (ℕ → List Span) nodes_form (ExprTree-F.SuperCall at name args))

pub index_below : (at : Span) (array : ExprTree) (index : ExprTree) (n : ℕ) → nodes_at (tree.Index at array index) (suc n) ≡ nodes_at array n ++ nodes_at index n
unfolding nodes_at
index_below at array index n = ap (λ (f : ℕ → List Span). f (suc n)) (ap nodes_at (sym (tree.rolls-Index at array index)) ∙ fold-roll-ExprTree (ℕ → List Span) nodes_form (ExprTree-F.Index at array index))

pub index_root : (at : Span) (array : ExprTree) (index : ExprTree) → nodes_at (tree.Index at array index) 0 ≡ at ∷ []
unfolding nodes_at
index_root at array index = ap (λ (f : ℕ → List Span). f 0) (ap nodes_at (sym (tree.rolls-Index at array index)) ∙ fold-roll-ExprTree (ℕ → List Span) nodes_form (ExprTree-F.Index at array index))

pub new_below : (at : Span) (class : List ℕ) (args : List ExprTree) (n : ℕ) → nodes_at (tree.New at class args) (suc n) ≡ all_beside (map nodes_at args) n
unfolding nodes_at
new_below at class args n = ap (λ (f : ℕ → List Span). f (suc n)) (ap nodes_at (sym (tree.rolls-New at class args)) ∙ fold-roll-ExprTree (ℕ → List Span) nodes_form (ExprTree-F.New at class args))

pub new_root : (at : Span) (class : List ℕ) (args : List ExprTree) → nodes_at (tree.New at class args) 0 ≡ at ∷ []
unfolding nodes_at
new_root at class args = ap (λ (f : ℕ → List Span). f 0) (ap nodes_at (sym (tree.rolls-New at class args)) ∙ fold-roll-ExprTree (ℕ → List Span) nodes_form (ExprTree-F.New at class args))

pub newarray_below : (at : Span) (holds : TypeTree) (sizes : List ExprTree) (dims : ℕ) (n : ℕ) → nodes_at (tree.NewArray at holds sizes dims) (suc n) ≡ all_beside (map nodes_at sizes) n
unfolding nodes_at
newarray_below at holds sizes dims n = ap (λ (f : ℕ → List Span). f (suc n)) (ap nodes_at (sym (tree.rolls-NewArray at holds sizes dims)) ∙ fold-roll-ExprTree (ℕ → List Span) nodes_form (ExprTree-F.NewArray at holds sizes dims))

pub newarray_root : (at : Span) (holds : TypeTree) (sizes : List ExprTree) (dims : ℕ) → nodes_at (tree.NewArray at holds sizes dims) 0 ≡ at ∷ []
unfolding nodes_at
newarray_root at holds sizes dims = ap (λ (f : ℕ → List Span). f 0) (ap nodes_at (sym (tree.rolls-NewArray at holds sizes dims)) ∙ fold-roll-ExprTree (ℕ → List Span) nodes_form (ExprTree-F.NewArray at holds sizes dims))

pub newvalues_below : (at : Span) (holds : TypeTree) (values : List ExprTree) (n : ℕ) → nodes_at (tree.NewValues at holds values) (suc n) ≡ all_beside (map nodes_at values) n
unfolding nodes_at
newvalues_below at holds values n = ap (λ (f : ℕ → List Span). f (suc n)) (ap nodes_at (sym (tree.rolls-NewValues at holds values)) ∙ fold-roll-ExprTree (ℕ → List Span) nodes_form (ExprTree-F.NewValues at holds values))

pub newvalues_root : (at : Span) (holds : TypeTree) (values : List ExprTree) → nodes_at (tree.NewValues at holds values) 0 ≡ at ∷ []
unfolding nodes_at
newvalues_root at holds values = ap (λ (f : ℕ → List Span). f 0) (ap nodes_at (sym (tree.rolls-NewValues at holds values)) ∙ fold-roll-ExprTree (ℕ → List Span) nodes_form (ExprTree-F.NewValues at holds values))

pub braces_below : (at : Span) (values : List ExprTree) (n : ℕ) → nodes_at (tree.Braces at values) (suc n) ≡ all_beside (map nodes_at values) n
unfolding nodes_at
braces_below at values n = ap (λ (f : ℕ → List Span). f (suc n)) (ap nodes_at (sym (tree.rolls-Braces at values)) ∙ fold-roll-ExprTree (ℕ → List Span) nodes_form (ExprTree-F.Braces at values))

pub braces_root : (at : Span) (values : List ExprTree) → nodes_at (tree.Braces at values) 0 ≡ at ∷ []
unfolding nodes_at
braces_root at values = ap (λ (f : ℕ → List Span). f 0) (ap nodes_at (sym (tree.rolls-Braces at values)) ∙ fold-roll-ExprTree (ℕ → List Span) nodes_form (ExprTree-F.Braces at values))

pub postfix_below : (at : Span) (op : StepOp) (operand : ExprTree) (n : ℕ) → nodes_at (tree.Postfix at op operand) (suc n) ≡ nodes_at operand n
unfolding nodes_at
postfix_below at op operand n = ap (λ (f : ℕ → List Span). f (suc n)) (ap nodes_at (sym (tree.rolls-Postfix at op operand)) ∙ fold-roll-ExprTree (ℕ → List Span) nodes_form (ExprTree-F.Postfix at op operand))

pub postfix_root : (at : Span) (op : StepOp) (operand : ExprTree) → nodes_at (tree.Postfix at op operand) 0 ≡ at ∷ []
unfolding nodes_at
postfix_root at op operand = ap (λ (f : ℕ → List Span). f 0) (ap nodes_at (sym (tree.rolls-Postfix at op operand)) ∙ fold-roll-ExprTree (ℕ → List Span) nodes_form (ExprTree-F.Postfix at op operand))

pub prefix_below : (at : Span) (op : StepOp) (operand : ExprTree) (n : ℕ) → nodes_at (tree.Prefix at op operand) (suc n) ≡ nodes_at operand n
unfolding nodes_at
prefix_below at op operand n = ap (λ (f : ℕ → List Span). f (suc n)) (ap nodes_at (sym (tree.rolls-Prefix at op operand)) ∙ fold-roll-ExprTree (ℕ → List Span) nodes_form (ExprTree-F.Prefix at op operand))

pub prefix_root : (at : Span) (op : StepOp) (operand : ExprTree) → nodes_at (tree.Prefix at op operand) 0 ≡ at ∷ []
unfolding nodes_at
prefix_root at op operand = ap (λ (f : ℕ → List Span). f 0) (ap nodes_at (sym (tree.rolls-Prefix at op operand)) ∙ fold-roll-ExprTree (ℕ → List Span) nodes_form (ExprTree-F.Prefix at op operand))

pub unary_below : (at : Span) (op : UnaryOp) (operand : ExprTree) (n : ℕ) → nodes_at (tree.Unary at op operand) (suc n) ≡ nodes_at operand n
unfolding nodes_at
unary_below at op operand n = ap (λ (f : ℕ → List Span). f (suc n)) (ap nodes_at (sym (tree.rolls-Unary at op operand)) ∙ fold-roll-ExprTree (ℕ → List Span) nodes_form (ExprTree-F.Unary at op operand))

pub unary_root : (at : Span) (op : UnaryOp) (operand : ExprTree) → nodes_at (tree.Unary at op operand) 0 ≡ at ∷ []
unfolding nodes_at
unary_root at op operand = ap (λ (f : ℕ → List Span). f 0) (ap nodes_at (sym (tree.rolls-Unary at op operand)) ∙ fold-roll-ExprTree (ℕ → List Span) nodes_form (ExprTree-F.Unary at op operand))

pub cast_below : (at : Span) (to : TypeTree) (operand : ExprTree) (n : ℕ) → nodes_at (tree.Cast at to operand) (suc n) ≡ nodes_at operand n
unfolding nodes_at
cast_below at to operand n = ap (λ (f : ℕ → List Span). f (suc n)) (ap nodes_at (sym (tree.rolls-Cast at to operand)) ∙ fold-roll-ExprTree (ℕ → List Span) nodes_form (ExprTree-F.Cast at to operand))

pub cast_root : (at : Span) (to : TypeTree) (operand : ExprTree) → nodes_at (tree.Cast at to operand) 0 ≡ at ∷ []
unfolding nodes_at
cast_root at to operand = ap (λ (f : ℕ → List Span). f 0) (ap nodes_at (sym (tree.rolls-Cast at to operand)) ∙ fold-roll-ExprTree (ℕ → List Span) nodes_form (ExprTree-F.Cast at to operand))

pub binary_below : (at : Span) (op : BinaryOp) (left : ExprTree) (right : ExprTree) (n : ℕ) → nodes_at (tree.Binary at op left right) (suc n) ≡ nodes_at left n ++ nodes_at right n
unfolding nodes_at
binary_below at op left right n = ap (λ (f : ℕ → List Span). f (suc n)) (ap nodes_at (sym (tree.rolls-Binary at op left right)) ∙ fold-roll-ExprTree (ℕ → List Span) nodes_form (ExprTree-F.Binary at op left right))

pub binary_root : (at : Span) (op : BinaryOp) (left : ExprTree) (right : ExprTree) → nodes_at (tree.Binary at op left right) 0 ≡ at ∷ []
unfolding nodes_at
binary_root at op left right = ap (λ (f : ℕ → List Span). f 0) (ap nodes_at (sym (tree.rolls-Binary at op left right)) ∙ fold-roll-ExprTree (ℕ → List Span) nodes_form (ExprTree-F.Binary at op left right))

pub instanceof_below : (at : Span) (value : ExprTree) (holds : TypeTree) (n : ℕ) → nodes_at (tree.InstanceOf at value holds) (suc n) ≡ nodes_at value n
unfolding nodes_at
instanceof_below at value holds n = ap (λ (f : ℕ → List Span). f (suc n)) (ap nodes_at (sym (tree.rolls-InstanceOf at value holds)) ∙ fold-roll-ExprTree (ℕ → List Span) nodes_form (ExprTree-F.InstanceOf at value holds))

pub instanceof_root : (at : Span) (value : ExprTree) (holds : TypeTree) → nodes_at (tree.InstanceOf at value holds) 0 ≡ at ∷ []
unfolding nodes_at
instanceof_root at value holds = ap (λ (f : ℕ → List Span). f 0) (ap nodes_at (sym (tree.rolls-InstanceOf at value holds)) ∙ fold-roll-ExprTree (ℕ → List Span) nodes_form (ExprTree-F.InstanceOf at value holds))

pub conditional_below : (at : Span) (test : ExprTree) (chosen : ExprTree) (other : ExprTree) (n : ℕ) → nodes_at (tree.Conditional at test chosen other) (suc n) ≡ nodes_at test n ++ (nodes_at chosen n ++ nodes_at other n)
unfolding nodes_at
conditional_below at test chosen other n = ap (λ (f : ℕ → List Span). f (suc n)) (ap nodes_at (sym (tree.rolls-Conditional at test chosen other)) ∙ fold-roll-ExprTree (ℕ → List Span) nodes_form (ExprTree-F.Conditional at test chosen other))

pub conditional_root : (at : Span) (test : ExprTree) (chosen : ExprTree) (other : ExprTree) → nodes_at (tree.Conditional at test chosen other) 0 ≡ at ∷ []
unfolding nodes_at
conditional_root at test chosen other = ap (λ (f : ℕ → List Span). f 0) (ap nodes_at (sym (tree.rolls-Conditional at test chosen other)) ∙ fold-roll-ExprTree (ℕ → List Span) nodes_form (ExprTree-F.Conditional at test chosen other))

pub assign_below : (at : Span) (op : AssignOp) (target : ExprTree) (value : ExprTree) (n : ℕ) → nodes_at (tree.Assign at op target value) (suc n) ≡ nodes_at target n ++ nodes_at value n
unfolding nodes_at
assign_below at op target value n = ap (λ (f : ℕ → List Span). f (suc n)) (ap nodes_at (sym (tree.rolls-Assign at op target value)) ∙ fold-roll-ExprTree (ℕ → List Span) nodes_form (ExprTree-F.Assign at op target value))

pub assign_root : (at : Span) (op : AssignOp) (target : ExprTree) (value : ExprTree) → nodes_at (tree.Assign at op target value) 0 ≡ at ∷ []
unfolding nodes_at
assign_root at op target value = ap (λ (f : ℕ → List Span). f 0) (ap nodes_at (sym (tree.rolls-Assign at op target value)) ∙ fold-roll-ExprTree (ℕ → List Span) nodes_form (ExprTree-F.Assign at op target value))

-- the first that there is
abbrev pub either : Option Span → Option Span → Option Span
either (Some at) b = Some at
either None b = b

either_none : (a b : Option Span) → either a b ≡ None → (a ≡ None) × (b ≡ None)
either_none (Some at) b e = (e, cc)
either_none None b e = (refl, e)

no_other : (a : Option Span) → either a None ≡ a
no_other (Some at) = refl
no_other None = refl

either_of_three : (a b c : Option Span) → either a (either b c) ≡ either (either a b) c
either_of_three (Some at) b c = refl
either_of_three None b c = refl

pub first_beside : (a b : List Span) → first (a ++ b) ≡ either (first a) (first b)
first_beside [] b = refl
first_beside (at ∷ rest) b = refl

pub ruleset below_roots = (literal_below, this_below, paren_below, name_below, field_below, superfield_below, call_below, methodcall_below, supercall_below, index_below, new_below, newarray_below, newvalues_below, braces_below, postfix_below, prefix_below, unary_below, cast_below, binary_below, instanceof_below, conditional_below, assign_below)

pub ruleset roots = (literal_root, this_root, paren_root, name_root, field_root, superfield_root, call_root, methodcall_root, supercall_root, index_root, new_root, newarray_root, newvalues_root, braces_root, postfix_root, prefix_root, unary_root, cast_root, binary_root, instanceof_root, conditional_root, assign_root)

pub ruleset branches = (methodcall_below, index_below, binary_below, conditional_below, assign_below, first_beside)

-- ---- a loop over some expressions

module _ (n : ℕ) where
  abbrev pub first_of_all : List ExprTree → Option Span
  first_of_all xs = first (all_beside (map nodes_at xs) n)

  of_more : (x : ExprTree) (xs : List ExprTree) → first_of_all (x ∷ xs) ≡ either (first (nodes_at x n)) (first_of_all xs)
  of_more x xs = first_beside (nodes_at x n) (all_beside (map nodes_at xs) n)

  of_end : (xs : List ExprTree) (x : ExprTree) → first_of_all (xs ++ x ∷ []) ≡ either (first_of_all xs) (first (nodes_at x n))
  of_end [] x = of_more x [] ∙ no_other (first (nodes_at x n))
  of_end (y ∷ xs) x = of_more y (xs ++ x ∷ []) ∙ (ap (λ (a : Option Span). either (first (nodes_at y n)) a) (of_end xs x)
      ∙ (either_of_three (first (nodes_at y n)) (first_of_all xs) (first (nodes_at x n)) ∙ ap (λ (a : Option Span). either a (first (nodes_at x n))) (sym (of_more y xs))))

  pub among_none : (xs : List ExprTree) (i : ℕ) (x : ExprTree) → i < length xs → x ≡ get_or xs i x → first_of_all (take i xs) ≡ None → first (nodes_at x n) ≡ None → first_of_all (take (i + 1) xs) ≡ None
  among_none xs i x below is none here =
      ap first_of_all (take_more xs i x below) ∙ (ap (λ (y : ExprTree). first_of_all (take i xs ++ y ∷ [])) (sym is)
      ∙ (of_end (take i xs) x ∙ (ap (λ (a : Option Span). either a (first (nodes_at x n))) none ∙ here)))

  pub among_some : (xs : List ExprTree) (i : ℕ) (x : ExprTree) (node : Span) → i < length xs → x ≡ get_or xs i x → first_of_all (take i xs) ≡ None → Some node ≡ first (nodes_at x n) → Some node ≡ first_of_all xs
  among_some [] i x node below is none found = absurd (omega arith)
  among_some (y ∷ ys) zero x node below is none found =
      ap (λ (a : Option Span). either a (first_of_all ys)) (found ∙ ap (λ (t : ExprTree). first (nodes_at t n)) is) ∙ sym (of_more y ys)
  among_some (y ∷ ys) (suc i) x node below is none found =
      let both = either_none (first (nodes_at y n)) (first_of_all (take i ys)) (sym (of_more y (take i ys)) ∙ none) in
      among_some ys i x node (omega arith) is both.1 found ∙ (ap (λ (a : Option Span). either a (first_of_all ys)) (sym both.0) ∙ sym (of_more y ys))
