-- What is below a node stands one deeper in it.
use Rattle.std.proofs.Common.{◌≡◌, ℕ, suc, ◌≤◌, List, [], ◌∷◌, ◌++◌, map, sym, ap, ◌∙◌, subst, arith, append_assoc, append-nil}
use Rattle.std.specs.Prelude.{Contains}
use Rattle.std.proofs.lemmas.List.Elements.{Contains-append_left, Contains-append_right}
use Rattle.bj_base.specs.declared.span.Span.{Span}
use Rattle.bj_expr_tree.specs.declared.types.TypeTree.{TypeTree}
use Rattle.bj_expr_tree.specs.declared.expr.StepOp.{StepOp}
use Rattle.bj_expr_tree.specs.declared.expr.UnaryOp.{UnaryOp}
use Rattle.bj_expr_tree.specs.declared.expr.BinaryOp.{BinaryOp}
use Rattle.bj_expr_tree.specs.declared.expr.AssignOp.{AssignOp}
use Rattle.bj_expr_tree.specs.declared.expr.ExprTree.{ExprTree}
use Rattle.bj_expr_tree.specs.declared.expr.ExprTree.TheVariants as tree
use Rattle.bj_expr.specs.Nodes.{all_beside, nodes_at, HasNode}
use Rattle.bj_expr.proofs.NodeForms as forms

-- where the nodes of some trees stand, by how many nodes are above them
abbrev pub nodes_of : List ExprTree → ℕ → List Span
nodes_of xs = all_beside (map nodes_at xs)

-- the same of a list as `HasNode` of a tree
abbrev pub TallList : ℕ → Span → List ExprTree → Type 0
TallList n p xs = (above : ℕ) × (n ≤ suc above) × Contains (nodes_of xs above) p

-- ---- lists

-- what stands among the nodes of the last tree stands among those of all
of_last : (xs : List ExprTree) (x : ExprTree) (above : ℕ) (p : Span) → Contains (nodes_at x above) p → Contains (nodes_of (xs ++ x ∷ []) above) p
of_last [] x above p h = Contains-append_left (nodes_at x above) [] p h
of_last (y ∷ xs) x above p h = Contains-append_right (nodes_at y above) (nodes_of (xs ++ x ∷ []) above) p (of_last xs x above p h)

append_of : (xs : List ExprTree) (x : ExprTree) (above : ℕ) → nodes_of (xs ++ x ∷ []) above ≡ nodes_of xs above ++ nodes_at x above
append_of [] x above = append-nil (nodes_at x above)
append_of (y ∷ xs) x above = ap (λ (ps : List Span). nodes_at y above ++ ps) (append_of xs x above) ∙ sym (append_assoc (nodes_at y above) (nodes_of xs above) (nodes_at x above))

of_first : (xs : List ExprTree) (x : ExprTree) (above : ℕ) (p : Span) → Contains (nodes_of xs above) p → Contains (nodes_of (xs ++ x ∷ []) above) p
of_first xs x above p h = subst (λ (ps : List Span). Contains ps p) (sym (append_of xs x above)) (Contains-append_left (nodes_of xs above) (nodes_at x above) p h)

pub tall_one : {p : Span} (n : ℕ) (x : ExprTree) (b : List ExprTree) → b ≡ x ∷ [] → HasNode n p x → TallList n p b
tall_one {p} n x b e h = subst (TallList n p) (sym e) (h.0, h.1, of_last [] x h.0 p h.2)

pub tall_end : {p : Span} (n : ℕ) (xs : List ExprTree) (x : ExprTree) (b : List ExprTree) → b ≡ xs ++ x ∷ [] → HasNode n p x → TallList n p b
tall_end {p} n xs x b e h = subst (TallList n p) (sym e) (h.0, h.1, of_last xs x h.0 p h.2)

pub tall_before : {p : Span} (n : ℕ) (xs : List ExprTree) (x : ExprTree) (b : List ExprTree) → b ≡ xs ++ x ∷ [] → TallList n p xs → TallList n p b
tall_before {p} n xs x b e h = subst (TallList n p) (sym e) (h.0, h.1, of_first xs x h.0 p h.2)

-- ---- trees

-- what stands in the list of nodes below a node stands one deeper in a tree
below : {p : Span} (n above : ℕ) (ps : List Span) (t b : ExprTree) → b ≡ t → nodes_at t (suc above) ≡ ps → n ≤ suc above → Contains ps p → HasNode (suc n) p b
below {p} n above ps t b e is deep h = subst (HasNode (suc n) p) (sym e) (suc above, omega arith, subst (λ (qs : List Span). Contains qs p) (sym is) h)

pub tall_paren_inner : {p : Span} (n : ℕ) (at : Span) (inner : ExprTree) (b : ExprTree) → b ≡ tree.Paren at inner → HasNode n p inner → HasNode (suc n) p b
tall_paren_inner {p} n at inner b e h = below n h.0 (nodes_at inner h.0) (tree.Paren at inner) b e (forms.paren_below at inner h.0) h.1 h.2

pub tall_field_target : {p : Span} (n : ℕ) (at : Span) (target : ExprTree) (name : List ℕ) (b : ExprTree) → b ≡ tree.Field at target name → HasNode n p target → HasNode (suc n) p b
tall_field_target {p} n at target name b e h = below n h.0 (nodes_at target h.0) (tree.Field at target name) b e (forms.field_below at target name h.0) h.1 h.2

pub tall_call_args : {p : Span} (n : ℕ) (at : Span) (name : List ℕ) (args : List ExprTree) (b : ExprTree) → b ≡ tree.Call at name args → TallList n p args → HasNode (suc n) p b
tall_call_args {p} n at name args b e h = below n h.0 (nodes_of args h.0) (tree.Call at name args) b e (forms.call_below at name args h.0) h.1 h.2

pub tall_methodcall_target : {p : Span} (n : ℕ) (at : Span) (target : ExprTree) (name : List ℕ) (args : List ExprTree) (b : ExprTree) → b ≡ tree.MethodCall at target name args → HasNode n p target → HasNode (suc n) p b
tall_methodcall_target {p} n at target name args b e h = below n h.0 (nodes_at target h.0 ++ nodes_of args h.0) (tree.MethodCall at target name args) b e (forms.methodcall_below at target name args h.0) h.1 (Contains-append_left (nodes_at target h.0) (nodes_of args h.0) p h.2)

pub tall_methodcall_args : {p : Span} (n : ℕ) (at : Span) (target : ExprTree) (name : List ℕ) (args : List ExprTree) (b : ExprTree) → b ≡ tree.MethodCall at target name args → TallList n p args → HasNode (suc n) p b
tall_methodcall_args {p} n at target name args b e h = below n h.0 (nodes_at target h.0 ++ nodes_of args h.0) (tree.MethodCall at target name args) b e (forms.methodcall_below at target name args h.0) h.1 (Contains-append_right (nodes_at target h.0) (nodes_of args h.0) p h.2)

pub tall_supercall_args : {p : Span} (n : ℕ) (at : Span) (name : List ℕ) (args : List ExprTree) (b : ExprTree) → b ≡ tree.SuperCall at name args → TallList n p args → HasNode (suc n) p b
tall_supercall_args {p} n at name args b e h = below n h.0 (nodes_of args h.0) (tree.SuperCall at name args) b e (forms.supercall_below at name args h.0) h.1 h.2

pub tall_index_array : {p : Span} (n : ℕ) (at : Span) (array : ExprTree) (index : ExprTree) (b : ExprTree) → b ≡ tree.Index at array index → HasNode n p array → HasNode (suc n) p b
tall_index_array {p} n at array index b e h = below n h.0 (nodes_at array h.0 ++ nodes_at index h.0) (tree.Index at array index) b e (forms.index_below at array index h.0) h.1 (Contains-append_left (nodes_at array h.0) (nodes_at index h.0) p h.2)

pub tall_index_index : {p : Span} (n : ℕ) (at : Span) (array : ExprTree) (index : ExprTree) (b : ExprTree) → b ≡ tree.Index at array index → HasNode n p index → HasNode (suc n) p b
tall_index_index {p} n at array index b e h = below n h.0 (nodes_at array h.0 ++ nodes_at index h.0) (tree.Index at array index) b e (forms.index_below at array index h.0) h.1 (Contains-append_right (nodes_at array h.0) (nodes_at index h.0) p h.2)

pub tall_new_args : {p : Span} (n : ℕ) (at : Span) (class : List ℕ) (args : List ExprTree) (b : ExprTree) → b ≡ tree.New at class args → TallList n p args → HasNode (suc n) p b
tall_new_args {p} n at class args b e h = below n h.0 (nodes_of args h.0) (tree.New at class args) b e (forms.new_below at class args h.0) h.1 h.2

pub tall_newarray_sizes : {p : Span} (n : ℕ) (at : Span) (holds : TypeTree) (sizes : List ExprTree) (dims : ℕ) (b : ExprTree) → b ≡ tree.NewArray at holds sizes dims → TallList n p sizes → HasNode (suc n) p b
tall_newarray_sizes {p} n at holds sizes dims b e h = below n h.0 (nodes_of sizes h.0) (tree.NewArray at holds sizes dims) b e (forms.newarray_below at holds sizes dims h.0) h.1 h.2

pub tall_newvalues_values : {p : Span} (n : ℕ) (at : Span) (holds : TypeTree) (values : List ExprTree) (b : ExprTree) → b ≡ tree.NewValues at holds values → TallList n p values → HasNode (suc n) p b
tall_newvalues_values {p} n at holds values b e h = below n h.0 (nodes_of values h.0) (tree.NewValues at holds values) b e (forms.newvalues_below at holds values h.0) h.1 h.2

pub tall_braces_values : {p : Span} (n : ℕ) (at : Span) (values : List ExprTree) (b : ExprTree) → b ≡ tree.Braces at values → TallList n p values → HasNode (suc n) p b
tall_braces_values {p} n at values b e h = below n h.0 (nodes_of values h.0) (tree.Braces at values) b e (forms.braces_below at values h.0) h.1 h.2

pub tall_postfix_operand : {p : Span} (n : ℕ) (at : Span) (op : StepOp) (operand : ExprTree) (b : ExprTree) → b ≡ tree.Postfix at op operand → HasNode n p operand → HasNode (suc n) p b
tall_postfix_operand {p} n at op operand b e h = below n h.0 (nodes_at operand h.0) (tree.Postfix at op operand) b e (forms.postfix_below at op operand h.0) h.1 h.2

pub tall_prefix_operand : {p : Span} (n : ℕ) (at : Span) (op : StepOp) (operand : ExprTree) (b : ExprTree) → b ≡ tree.Prefix at op operand → HasNode n p operand → HasNode (suc n) p b
tall_prefix_operand {p} n at op operand b e h = below n h.0 (nodes_at operand h.0) (tree.Prefix at op operand) b e (forms.prefix_below at op operand h.0) h.1 h.2

pub tall_unary_operand : {p : Span} (n : ℕ) (at : Span) (op : UnaryOp) (operand : ExprTree) (b : ExprTree) → b ≡ tree.Unary at op operand → HasNode n p operand → HasNode (suc n) p b
tall_unary_operand {p} n at op operand b e h = below n h.0 (nodes_at operand h.0) (tree.Unary at op operand) b e (forms.unary_below at op operand h.0) h.1 h.2

pub tall_cast_operand : {p : Span} (n : ℕ) (at : Span) (to : TypeTree) (operand : ExprTree) (b : ExprTree) → b ≡ tree.Cast at to operand → HasNode n p operand → HasNode (suc n) p b
tall_cast_operand {p} n at to operand b e h = below n h.0 (nodes_at operand h.0) (tree.Cast at to operand) b e (forms.cast_below at to operand h.0) h.1 h.2

pub tall_binary_left : {p : Span} (n : ℕ) (at : Span) (op : BinaryOp) (left : ExprTree) (right : ExprTree) (b : ExprTree) → b ≡ tree.Binary at op left right → HasNode n p left → HasNode (suc n) p b
tall_binary_left {p} n at op left right b e h = below n h.0 (nodes_at left h.0 ++ nodes_at right h.0) (tree.Binary at op left right) b e (forms.binary_below at op left right h.0) h.1 (Contains-append_left (nodes_at left h.0) (nodes_at right h.0) p h.2)

pub tall_binary_right : {p : Span} (n : ℕ) (at : Span) (op : BinaryOp) (left : ExprTree) (right : ExprTree) (b : ExprTree) → b ≡ tree.Binary at op left right → HasNode n p right → HasNode (suc n) p b
tall_binary_right {p} n at op left right b e h = below n h.0 (nodes_at left h.0 ++ nodes_at right h.0) (tree.Binary at op left right) b e (forms.binary_below at op left right h.0) h.1 (Contains-append_right (nodes_at left h.0) (nodes_at right h.0) p h.2)

pub tall_instanceof_value : {p : Span} (n : ℕ) (at : Span) (value : ExprTree) (holds : TypeTree) (b : ExprTree) → b ≡ tree.InstanceOf at value holds → HasNode n p value → HasNode (suc n) p b
tall_instanceof_value {p} n at value holds b e h = below n h.0 (nodes_at value h.0) (tree.InstanceOf at value holds) b e (forms.instanceof_below at value holds h.0) h.1 h.2

pub tall_conditional_test : {p : Span} (n : ℕ) (at : Span) (test : ExprTree) (chosen : ExprTree) (other : ExprTree) (b : ExprTree) → b ≡ tree.Conditional at test chosen other → HasNode n p test → HasNode (suc n) p b
tall_conditional_test {p} n at test chosen other b e h = below n h.0 (nodes_at test h.0 ++ (nodes_at chosen h.0 ++ nodes_at other h.0)) (tree.Conditional at test chosen other) b e (forms.conditional_below at test chosen other h.0) h.1 (Contains-append_left (nodes_at test h.0) (nodes_at chosen h.0 ++ nodes_at other h.0) p h.2)

pub tall_conditional_chosen : {p : Span} (n : ℕ) (at : Span) (test : ExprTree) (chosen : ExprTree) (other : ExprTree) (b : ExprTree) → b ≡ tree.Conditional at test chosen other → HasNode n p chosen → HasNode (suc n) p b
tall_conditional_chosen {p} n at test chosen other b e h = below n h.0 (nodes_at test h.0 ++ (nodes_at chosen h.0 ++ nodes_at other h.0)) (tree.Conditional at test chosen other) b e (forms.conditional_below at test chosen other h.0) h.1 (Contains-append_right (nodes_at test h.0) (nodes_at chosen h.0 ++ nodes_at other h.0) p (Contains-append_left (nodes_at chosen h.0) (nodes_at other h.0) p h.2))

pub tall_conditional_other : {p : Span} (n : ℕ) (at : Span) (test : ExprTree) (chosen : ExprTree) (other : ExprTree) (b : ExprTree) → b ≡ tree.Conditional at test chosen other → HasNode n p other → HasNode (suc n) p b
tall_conditional_other {p} n at test chosen other b e h = below n h.0 (nodes_at test h.0 ++ (nodes_at chosen h.0 ++ nodes_at other h.0)) (tree.Conditional at test chosen other) b e (forms.conditional_below at test chosen other h.0) h.1 (Contains-append_right (nodes_at test h.0) (nodes_at chosen h.0 ++ nodes_at other h.0) p (Contains-append_right (nodes_at chosen h.0) (nodes_at other h.0) p h.2))

pub tall_assign_target : {p : Span} (n : ℕ) (at : Span) (op : AssignOp) (target : ExprTree) (value : ExprTree) (b : ExprTree) → b ≡ tree.Assign at op target value → HasNode n p target → HasNode (suc n) p b
tall_assign_target {p} n at op target value b e h = below n h.0 (nodes_at target h.0 ++ nodes_at value h.0) (tree.Assign at op target value) b e (forms.assign_below at op target value h.0) h.1 (Contains-append_left (nodes_at target h.0) (nodes_at value h.0) p h.2)

pub tall_assign_value : {p : Span} (n : ℕ) (at : Span) (op : AssignOp) (target : ExprTree) (value : ExprTree) (b : ExprTree) → b ≡ tree.Assign at op target value → HasNode n p value → HasNode (suc n) p b
tall_assign_value {p} n at op target value b e h = below n h.0 (nodes_at target h.0 ++ nodes_at value h.0) (tree.Assign at op target value) b e (forms.assign_below at op target value h.0) h.1 (Contains-append_right (nodes_at target h.0) (nodes_at value h.0) p h.2)
