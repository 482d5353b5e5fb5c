-- A node with so many above it stands in each tree that is higher than that number, and in no other.
use Rattle.std.proofs.Common.{◌≡◌, ℕ, zero, suc, ◌<◌, ◌≤◌, inl, inr, List, [], ◌∷◌, ◌++◌, map, None, refl, sym, ap, ◌∙◌, subst, arith}
use Rattle.std.proofs.lemmas.Bool.{cases_lt}
use Rattle.std.specs.Prelude.{max, Contains}
use Rattle.bj_base.specs.declared.span.Span.{Span}
use Rattle.bj_expr_tree.specs.declared.expr.ExprTree.{ExprTree, roll-ExprTree, map-ExprTree, ind-ExprTree}
use Rattle.bj_expr_tree.specs.declared.expr.ExprTree.TheVariants as tree
use Rattle.bj_expr_tree.specs.declared.expr.ExprTree.TheOpen.{ExprTree-F}
use Rattle.bj_expr_tree.specs.Size.{most, height_of}
use Rattle.bj_expr_tree.proofs.Heights.{literal_height, this_height, paren_height, name_height, field_height, superfield_height, call_height, methodcall_height, supercall_height, index_height, new_height, newarray_height, newvalues_height, braces_height, postfix_height, prefix_height, unary_height, cast_height, binary_height, instanceof_height, conditional_height, assign_height}
use Rattle.bj_expr.specs.Nodes.{leaf, beside, all_beside, nodes_at, HasNode, first}
use Rattle.bj_expr.proofs.NodeForms.{literal_root, literal_below, this_root, this_below, paren_root, paren_below, name_root, name_below, field_root, field_below, superfield_root, superfield_below, call_root, call_below, methodcall_root, methodcall_below, supercall_root, supercall_below, index_root, index_below, new_root, new_below, newarray_root, newarray_below, newvalues_root, newvalues_below, braces_root, braces_below, postfix_root, postfix_below, prefix_root, prefix_below, unary_root, unary_below, cast_root, cast_below, binary_root, binary_below, instanceof_root, instanceof_below, conditional_root, conditional_below, assign_root, assign_below}

-- some part so high: none of its nodes has so many above it or more, and for each lower number one has that many
abbrev pub Agree : (ℕ → List Span) → ℕ → Type 0
Agree f h = (n : ℕ) → (h ≤ n → f n ≡ []) × (f n ≡ [] → h ≤ n)

nil_both : (a b : List Span) → a ≡ [] → b ≡ [] → a ++ b ≡ []
nil_both a b e e2 = ap (λ (x : List Span). x ++ b) e ∙ e2

nil_left : (a b : List Span) → a ++ b ≡ [] → a ≡ []
nil_left [] b e = refl
nil_left (x ∷ a) b e = absurd (cc)

nil_right : (a b : List Span) → a ++ b ≡ [] → b ≡ []
nil_right [] b e = e
nil_right (x ∷ a) b e = absurd (cc)

agree_leaf : Agree leaf 0
agree_leaf n = (λ h. refl, λ e. omega arith)

agree_beside : (f g : ℕ → List Span) (h k : ℕ) → Agree f h → Agree g k → Agree (beside f g) (max h k)
agree_beside f g h k u v n = (
  λ low. nil_both (f n) (g n) ((u n).0 (omega arith)) ((v n).0 (omega arith)),
  λ e. let x : h ≤ n = (u n).1 (nil_left (f n) (g n) e) in let y : k ≤ n = (v n).1 (nil_right (f n) (g n) e) in omega arith,
)

-- what has a node at its root and a part below it
agree_root : (f b : ℕ → List Span) (h k : ℕ) (at : Span) → f 0 ≡ at ∷ [] → ((n : ℕ) → f (suc n) ≡ b n) → h ≡ suc k → Agree b k → Agree f h
agree_root f b h k at root below high u zero = (λ low. absurd (omega arith), λ e. absurd (cc))
agree_root f b h k at root below high u (suc n) = (
  λ low. below n ∙ (u n).0 (omega arith),
  λ e. let x : k ≤ n = (u n).1 (sym (below n) ∙ e) in omega arith,
)

abbrev Agrees : ExprTree → Type 0
Agrees a = Agree (nodes_at a) (height_of a)

abbrev Known : Type 0
Known = (a : ExprTree) × Agrees a

agree_all : (xs : List Known) → Agree (all_beside (map nodes_at (map (λ (x : Known). x.0) xs))) (most (map height_of (map (λ (x : Known). x.0) xs)))
agree_all [] n = (λ h. refl, λ e. omega arith)
agree_all (x ∷ xs) n = agree_beside (nodes_at x.0) (all_beside (map nodes_at (map (λ (x : Known). x.0) xs))) (height_of x.0) (most (map height_of (map (λ (x : Known). x.0) xs))) x.1 (agree_all xs) n

agrees_form : (y : ExprTree-F Known) → Agrees (roll-ExprTree (map-ExprTree Known ExprTree (λ x. x.0) y))
agrees_form (ExprTree-F.Literal at kind text) = subst Agrees (sym (tree.rolls-Literal at kind text)) (agree_root (nodes_at (tree.Literal at kind text)) leaf (height_of (tree.Literal at kind text)) 0 at (literal_root at kind text) (λ n. literal_below at kind text n) (literal_height at kind text) agree_leaf)
agrees_form (ExprTree-F.This at) = subst Agrees (sym (tree.rolls-This at)) (agree_root (nodes_at (tree.This at)) leaf (height_of (tree.This at)) 0 at (this_root at) (λ n. this_below at n) (this_height at) agree_leaf)
agrees_form (ExprTree-F.Paren at inner) = subst Agrees (sym (tree.rolls-Paren at inner.0)) (agree_root (nodes_at (tree.Paren at inner.0)) (nodes_at inner.0) (height_of (tree.Paren at inner.0)) (height_of inner.0) at (paren_root at inner.0) (λ n. paren_below at inner.0 n) (paren_height at inner.0) inner.1)
agrees_form (ExprTree-F.Name at name) = subst Agrees (sym (tree.rolls-Name at name)) (agree_root (nodes_at (tree.Name at name)) leaf (height_of (tree.Name at name)) 0 at (name_root at name) (λ n. name_below at name n) (name_height at name) agree_leaf)
agrees_form (ExprTree-F.Field at target name) = subst Agrees (sym (tree.rolls-Field at target.0 name)) (agree_root (nodes_at (tree.Field at target.0 name)) (nodes_at target.0) (height_of (tree.Field at target.0 name)) (height_of target.0) at (field_root at target.0 name) (λ n. field_below at target.0 name n) (field_height at target.0 name) target.1)
agrees_form (ExprTree-F.SuperField at name) = subst Agrees (sym (tree.rolls-SuperField at name)) (agree_root (nodes_at (tree.SuperField at name)) leaf (height_of (tree.SuperField at name)) 0 at (superfield_root at name) (λ n. superfield_below at name n) (superfield_height at name) agree_leaf)
agrees_form (ExprTree-F.Call at name args) = subst Agrees (sym (tree.rolls-Call at name (map (λ (x : Known). x.0) args))) (agree_root (nodes_at (tree.Call at name (map (λ (x : Known). x.0) args))) (all_beside (map nodes_at (map (λ (x : Known). x.0) args))) (height_of (tree.Call at name (map (λ (x : Known). x.0) args))) (most (map height_of (map (λ (x : Known). x.0) args))) at (call_root at name (map (λ (x : Known). x.0) args)) (λ n. call_below at name (map (λ (x : Known). x.0) args) n) (call_height at name (map (λ (x : Known). x.0) args)) (agree_all args))
agrees_form (ExprTree-F.MethodCall at target name args) = subst Agrees (sym (tree.rolls-MethodCall at target.0 name (map (λ (x : Known). x.0) args))) (agree_root (nodes_at (tree.MethodCall at target.0 name (map (λ (x : Known). x.0) args))) (beside (nodes_at target.0) (all_beside (map nodes_at (map (λ (x : Known). x.0) args)))) (height_of (tree.MethodCall at target.0 name (map (λ (x : Known). x.0) args))) (max (height_of target.0) (most (map height_of (map (λ (x : Known). x.0) args)))) at (methodcall_root at target.0 name (map (λ (x : Known). x.0) args)) (λ n. methodcall_below at target.0 name (map (λ (x : Known). x.0) args) n) (methodcall_height at target.0 name (map (λ (x : Known). x.0) args)) (agree_beside (nodes_at target.0) (all_beside (map nodes_at (map (λ (x : Known). x.0) args))) (height_of target.0) (most (map height_of (map (λ (x : Known). x.0) args))) target.1 (agree_all args)))
agrees_form (ExprTree-F.SuperCall at name args) = subst Agrees (sym (tree.rolls-SuperCall at name (map (λ (x : Known). x.0) args))) (agree_root (nodes_at (tree.SuperCall at name (map (λ (x : Known). x.0) args))) (all_beside (map nodes_at (map (λ (x : Known). x.0) args))) (height_of (tree.SuperCall at name (map (λ (x : Known). x.0) args))) (most (map height_of (map (λ (x : Known). x.0) args))) at (supercall_root at name (map (λ (x : Known). x.0) args)) (λ n. supercall_below at name (map (λ (x : Known). x.0) args) n) (supercall_height at name (map (λ (x : Known). x.0) args)) (agree_all args))
agrees_form (ExprTree-F.Index at array index) = subst Agrees (sym (tree.rolls-Index at array.0 index.0)) (agree_root (nodes_at (tree.Index at array.0 index.0)) (beside (nodes_at array.0) (nodes_at index.0)) (height_of (tree.Index at array.0 index.0)) (max (height_of array.0) (height_of index.0)) at (index_root at array.0 index.0) (λ n. index_below at array.0 index.0 n) (index_height at array.0 index.0) (agree_beside (nodes_at array.0) (nodes_at index.0) (height_of array.0) (height_of index.0) array.1 (index.1)))
agrees_form (ExprTree-F.New at class args) = subst Agrees (sym (tree.rolls-New at class (map (λ (x : Known). x.0) args))) (agree_root (nodes_at (tree.New at class (map (λ (x : Known). x.0) args))) (all_beside (map nodes_at (map (λ (x : Known). x.0) args))) (height_of (tree.New at class (map (λ (x : Known). x.0) args))) (most (map height_of (map (λ (x : Known). x.0) args))) at (new_root at class (map (λ (x : Known). x.0) args)) (λ n. new_below at class (map (λ (x : Known). x.0) args) n) (new_height at class (map (λ (x : Known). x.0) args)) (agree_all args))
agrees_form (ExprTree-F.NewArray at holds sizes dims) = subst Agrees (sym (tree.rolls-NewArray at holds (map (λ (x : Known). x.0) sizes) dims)) (agree_root (nodes_at (tree.NewArray at holds (map (λ (x : Known). x.0) sizes) dims)) (all_beside (map nodes_at (map (λ (x : Known). x.0) sizes))) (height_of (tree.NewArray at holds (map (λ (x : Known). x.0) sizes) dims)) (most (map height_of (map (λ (x : Known). x.0) sizes))) at (newarray_root at holds (map (λ (x : Known). x.0) sizes) dims) (λ n. newarray_below at holds (map (λ (x : Known). x.0) sizes) dims n) (newarray_height at holds (map (λ (x : Known). x.0) sizes) dims) (agree_all sizes))
agrees_form (ExprTree-F.NewValues at holds values) = subst Agrees (sym (tree.rolls-NewValues at holds (map (λ (x : Known). x.0) values))) (agree_root (nodes_at (tree.NewValues at holds (map (λ (x : Known). x.0) values))) (all_beside (map nodes_at (map (λ (x : Known). x.0) values))) (height_of (tree.NewValues at holds (map (λ (x : Known). x.0) values))) (most (map height_of (map (λ (x : Known). x.0) values))) at (newvalues_root at holds (map (λ (x : Known). x.0) values)) (λ n. newvalues_below at holds (map (λ (x : Known). x.0) values) n) (newvalues_height at holds (map (λ (x : Known). x.0) values)) (agree_all values))
agrees_form (ExprTree-F.Braces at values) = subst Agrees (sym (tree.rolls-Braces at (map (λ (x : Known). x.0) values))) (agree_root (nodes_at (tree.Braces at (map (λ (x : Known). x.0) values))) (all_beside (map nodes_at (map (λ (x : Known). x.0) values))) (height_of (tree.Braces at (map (λ (x : Known). x.0) values))) (most (map height_of (map (λ (x : Known). x.0) values))) at (braces_root at (map (λ (x : Known). x.0) values)) (λ n. braces_below at (map (λ (x : Known). x.0) values) n) (braces_height at (map (λ (x : Known). x.0) values)) (agree_all values))
agrees_form (ExprTree-F.Postfix at op operand) = subst Agrees (sym (tree.rolls-Postfix at op operand.0)) (agree_root (nodes_at (tree.Postfix at op operand.0)) (nodes_at operand.0) (height_of (tree.Postfix at op operand.0)) (height_of operand.0) at (postfix_root at op operand.0) (λ n. postfix_below at op operand.0 n) (postfix_height at op operand.0) operand.1)
agrees_form (ExprTree-F.Prefix at op operand) = subst Agrees (sym (tree.rolls-Prefix at op operand.0)) (agree_root (nodes_at (tree.Prefix at op operand.0)) (nodes_at operand.0) (height_of (tree.Prefix at op operand.0)) (height_of operand.0) at (prefix_root at op operand.0) (λ n. prefix_below at op operand.0 n) (prefix_height at op operand.0) operand.1)
agrees_form (ExprTree-F.Unary at op operand) = subst Agrees (sym (tree.rolls-Unary at op operand.0)) (agree_root (nodes_at (tree.Unary at op operand.0)) (nodes_at operand.0) (height_of (tree.Unary at op operand.0)) (height_of operand.0) at (unary_root at op operand.0) (λ n. unary_below at op operand.0 n) (unary_height at op operand.0) operand.1)
agrees_form (ExprTree-F.Cast at to operand) = subst Agrees (sym (tree.rolls-Cast at to operand.0)) (agree_root (nodes_at (tree.Cast at to operand.0)) (nodes_at operand.0) (height_of (tree.Cast at to operand.0)) (height_of operand.0) at (cast_root at to operand.0) (λ n. cast_below at to operand.0 n) (cast_height at to operand.0) operand.1)
agrees_form (ExprTree-F.Binary at op left right) = subst Agrees (sym (tree.rolls-Binary at op left.0 right.0)) (agree_root (nodes_at (tree.Binary at op left.0 right.0)) (beside (nodes_at left.0) (nodes_at right.0)) (height_of (tree.Binary at op left.0 right.0)) (max (height_of left.0) (height_of right.0)) at (binary_root at op left.0 right.0) (λ n. binary_below at op left.0 right.0 n) (binary_height at op left.0 right.0) (agree_beside (nodes_at left.0) (nodes_at right.0) (height_of left.0) (height_of right.0) left.1 (right.1)))
agrees_form (ExprTree-F.InstanceOf at value holds) = subst Agrees (sym (tree.rolls-InstanceOf at value.0 holds)) (agree_root (nodes_at (tree.InstanceOf at value.0 holds)) (nodes_at value.0) (height_of (tree.InstanceOf at value.0 holds)) (height_of value.0) at (instanceof_root at value.0 holds) (λ n. instanceof_below at value.0 holds n) (instanceof_height at value.0 holds) value.1)
agrees_form (ExprTree-F.Conditional at test chosen other) = subst Agrees (sym (tree.rolls-Conditional at test.0 chosen.0 other.0)) (agree_root (nodes_at (tree.Conditional at test.0 chosen.0 other.0)) (beside (nodes_at test.0) (beside (nodes_at chosen.0) (nodes_at other.0))) (height_of (tree.Conditional at test.0 chosen.0 other.0)) (max (height_of test.0) (max (height_of chosen.0) (height_of other.0))) at (conditional_root at test.0 chosen.0 other.0) (λ n. conditional_below at test.0 chosen.0 other.0 n) (conditional_height at test.0 chosen.0 other.0) (agree_beside (nodes_at test.0) (beside (nodes_at chosen.0) (nodes_at other.0)) (height_of test.0) (max (height_of chosen.0) (height_of other.0)) test.1 (agree_beside (nodes_at chosen.0) (nodes_at other.0) (height_of chosen.0) (height_of other.0) chosen.1 (other.1))))
agrees_form (ExprTree-F.Assign at op target value) = subst Agrees (sym (tree.rolls-Assign at op target.0 value.0)) (agree_root (nodes_at (tree.Assign at op target.0 value.0)) (beside (nodes_at target.0) (nodes_at value.0)) (height_of (tree.Assign at op target.0 value.0)) (max (height_of target.0) (height_of value.0)) at (assign_root at op target.0 value.0) (λ n. assign_below at op target.0 value.0 n) (assign_height at op target.0 value.0) (agree_beside (nodes_at target.0) (nodes_at value.0) (height_of target.0) (height_of value.0) target.1 (value.1)))

agrees : (a : ExprTree) → Agrees a
agrees = ind-ExprTree Agrees (λ x y is. subst (λ (z : ExprTree-F ExprTree). Agrees (roll-ExprTree z)) is (agrees_form y))

-- a tree that is no higher has no node with so many above it
pub low_nodes : (a : ExprTree) (n : ℕ) → height_of a ≤ n → nodes_at a n ≡ []
low_nodes a n low = (agrees a n).0 low

first_nil : (xs : List Span) → first xs ≡ None → xs ≡ []
first_nil [] e = refl
first_nil (x ∷ xs) e = absurd (cc)

pub low_none : (a : ExprTree) (room : ℕ) → height_of a ≤ room → first (nodes_at a room) ≡ None
low_none a room low = ap first (low_nodes a room low)

pub none_low : (a : ExprTree) (room : ℕ) → first (nodes_at a room) ≡ None → height_of a ≤ room
none_low a room e = (agrees a room).1 (first_nil (nodes_at a room) e)

some_node : (xs : List Span) (at : Span) → Contains xs at → xs ≡ [] → ⊥
some_node [] at h e = let x = h.1 in absurd (omega arith)
some_node (x ∷ xs) at h e = absurd (cc)

-- above a node are fewer nodes than the tree is high
pub node_high : (a : ExprTree) (above : ℕ) (at : Span) → Contains (nodes_at a above) at → above < height_of a
node_high a above at h = elim (cases_lt above (height_of a)) [ inl x ↦ x | inr x ↦ absurd (some_node (nodes_at a above) at h (low_nodes a above x)) ]

pub has_node_high : (n : ℕ) (at : Span) (a : ExprTree) → HasNode n at a → n ≤ height_of a
has_node_high n at a h = let x = node_high a h.0 at h.2 in let y = h.1 in omega arith
