-- What is below a node stands one deeper in a statement.
use Rattle.std.proofs.Common.{◌≡◌, ℕ, suc, ◌≤◌, Bool, List, [], ◌∷◌, ◌++◌, map, Option, Some, refl, sym, ap, ◌∙◌, subst, arith, append_assoc, append-nil}
use Rattle.std.specs.Prelude.{Contains}
use Rattle.std.proofs.lemmas.List.Elements.{Contains-append_left, Contains-append_right}
use Rattle.bj_base.specs.declared.span.Span.{Span}
use Rattle.bj_expr_tree.specs.declared.types.TypeTree.{TypeTree}
use Rattle.bj_expr_tree.specs.declared.types.NamedPlace.{NamedPlace}
use Rattle.bj_expr_tree.specs.declared.expr.ExprTree.{ExprTree}
use Rattle.bj_tree.specs.declared.stmt.VariableTree.{VariableTree}
use Rattle.bj_tree.specs.declared.stmt.StmtTree.{StmtTree}
use Rattle.bj_tree.specs.declared.stmt.StmtTree.TheVariants as stmt
use Rattle.bj_expr.specs.Nodes.{all_beside, nodes_at, HasNode, first}
use Rattle.bj_stmt.specs.Nodes.{option_nodes, variable_nodes, stmt_nodes_at, StmtHasNode, SomeStmtHasNode, SomeVariableHasNode}
use Rattle.bj_stmt.proofs.StmtNodeForms as forms

-- the same as `StmtHasNode` of what has its nodes by how many are above them
abbrev pub Has : {A : Type 0} → (A → ℕ → List Span) → ℕ → Span → A → Type 0
Has f n p a = (above : ℕ) × (n ≤ suc above) × Contains (f a above) p

-- where the nodes of some stand, by how many are above them
abbrev pub nodes_of : {A : Type 0} → (A → ℕ → List Span) → List A → ℕ → List Span
nodes_of f xs = all_beside (map f xs)

abbrev pub SomeExprHasNode : ℕ → Span → List ExprTree → Type 0
SomeExprHasNode n p xs = Has (nodes_of nodes_at) n p xs

abbrev pub OptionHasNode : ℕ → Span → Option ExprTree → Type 0
OptionHasNode n p x = Has option_nodes n p x

abbrev pub VariableHasNode : ℕ → Span → VariableTree → Type 0
VariableHasNode n p x = Has variable_nodes n p x

-- ---- lists

-- what stands among the nodes of the last stands among those of all
of_last : {A : Type 0} (f : A → ℕ → List Span) (xs : List A) (x : A) (above : ℕ) (p : Span) → Contains (f x above) p → Contains (nodes_of f (xs ++ x ∷ []) above) p
of_last f [] x above p h = Contains-append_left (f x above) [] p h
of_last f (y ∷ xs) x above p h = Contains-append_right (f y above) (nodes_of f (xs ++ x ∷ []) above) p (of_last f xs x above p h)

append_of : {A : Type 0} (f : A → ℕ → List Span) (xs : List A) (x : A) (above : ℕ) → nodes_of f (xs ++ x ∷ []) above ≡ nodes_of f xs above ++ f x above
append_of f [] x above = append-nil (f x above)
append_of f (y ∷ xs) x above = ap (λ (ps : List Span). f y above ++ ps) (append_of f xs x above) ∙ sym (append_assoc (f y above) (nodes_of f xs above) (f x above))

of_first : {A : Type 0} (f : A → ℕ → List Span) (xs : List A) (x : A) (above : ℕ) (p : Span) → Contains (nodes_of f xs above) p → Contains (nodes_of f (xs ++ x ∷ []) above) p
of_first f xs x above p h = subst (λ (ps : List Span). Contains ps p) (sym (append_of f xs x above)) (Contains-append_left (nodes_of f xs above) (f x above) p h)

-- what one of a list has, the list has
pub tall_one : {A : Type 0} {p : Span} (f : A → ℕ → List Span) (n : ℕ) (x : A) (b : List A) → b ≡ x ∷ [] → Has f (suc n) p x → Has (nodes_of f) (suc n) p b
tall_one {p} f n x b e h = subst (Has (nodes_of f) (suc n) p) (sym e) (h.0, h.1, of_last f [] x h.0 p h.2)

pub tall_end : {A : Type 0} {p : Span} (f : A → ℕ → List Span) (n : ℕ) (xs : List A) (x : A) (b : List A) → b ≡ xs ++ x ∷ [] → Has f (suc n) p x → Has (nodes_of f) (suc n) p b
tall_end {p} f n xs x b e h = subst (Has (nodes_of f) (suc n) p) (sym e) (h.0, h.1, of_last f xs x h.0 p h.2)

pub tall_before : {A : Type 0} {p : Span} (f : A → ℕ → List Span) (n : ℕ) (xs : List A) (x : A) (b : List A) → b ≡ xs ++ x ∷ [] → Has (nodes_of f) (suc n) p xs → Has (nodes_of f) (suc n) p b
tall_before {p} f n xs x b e h = subst (Has (nodes_of f) (suc n) p) (sym e) (h.0, h.1, of_first f xs x h.0 p h.2)

-- ---- options and variables

pub tall_some : {p : Span} (n : ℕ) (x : ExprTree) (b : Option ExprTree) → b ≡ Some x → HasNode (suc n) p x → OptionHasNode (suc n) p b
tall_some {p} n x b e h = subst (OptionHasNode (suc n) p) (sym e) h

pub tall_variable : {p : Span} (n : ℕ) (x : Option ExprTree) (v b : VariableTree) → v.init ≡ x → b ≡ v → OptionHasNode (suc n) p x → VariableHasNode (suc (suc n)) p b
tall_variable {p} n x v b is e h =
    subst (VariableHasNode (suc (suc n)) p) (sym e) (suc h.0, omega arith, subst (λ (y : Option ExprTree). Contains (option_nodes y h.0) p) (sym is) h.2)

-- a list has what it begins with
pub of_front : (ps : List Span) (at : Span) → first ps ≡ Some at → Contains ps at
of_front [] at e = absurd (cc)
of_front (x ∷ rest) at e = let is : x ≡ at = cc in (0, omega arith, is)

of_one : (at : Span) (ps : List Span) → Contains (at ∷ ps) at
of_one at ps = (0, omega arith, refl)

pub variable_root : (at : Span) (v : VariableTree) → v.at ≡ at → VariableHasNode 1 at v
variable_root at v is = (0, omega arith, (0, omega arith, is))

-- ---- statements

-- a node at the root
pub rooted : (at : Span) (t b : StmtTree) → b ≡ t → stmt_nodes_at t 0 ≡ at ∷ [] → StmtHasNode 1 at b
rooted at t b e is = subst (StmtHasNode 1 at) (sym e) (0, omega arith, subst (λ (ps : List Span). Contains ps at) (sym is) (of_one at []))

-- what stands so deep stands less deep
pub fewer : {A : Type 0} {p : Span} (f : A → ℕ → List Span) (n m : ℕ) (a : A) → n ≤ m → Has f m p a → Has f n p a
fewer f n m a le h = (h.0, (let k = h.1 in omega arith), h.2)

-- what stands in the list of nodes below a node stands one deeper in a statement
below : {p : Span} (n above : ℕ) (ps : List Span) (t b : StmtTree) → b ≡ t → stmt_nodes_at t (suc above) ≡ ps → suc n ≤ suc above → Contains ps p → StmtHasNode (suc (suc n)) p b
below {p} n above ps t b e is deep h = subst (StmtHasNode (suc (suc n)) p) (sym e) (suc above, omega arith, subst (λ (qs : List Span). Contains qs p) (sym is) h)

pub tall_block_body : {p : Span} (n : ℕ) (at : Span) (body : List StmtTree) (end : Span) (b : StmtTree) → b ≡ stmt.Block at body end → SomeStmtHasNode (suc n) p body → StmtHasNode (suc (suc n)) p b
tall_block_body {p} n at body end b e h = below n h.0 (all_beside (map stmt_nodes_at body) h.0) (stmt.Block at body end) b e (forms.block_below at body end h.0) h.1 h.2

pub tall_local_variables : {p : Span} (n : ℕ) (at : Span) (is_final : Bool) (holds : TypeTree) (variables : List VariableTree) (b : StmtTree) → b ≡ stmt.Local at is_final holds variables → SomeVariableHasNode (suc n) p variables → StmtHasNode (suc (suc n)) p b
tall_local_variables {p} n at is_final holds variables b e h = below n h.0 (all_beside (map variable_nodes variables) h.0) (stmt.Local at is_final holds variables) b e (forms.local_below at is_final holds variables h.0) h.1 h.2

pub tall_expression_value : {p : Span} (n : ℕ) (at : Span) (value : ExprTree) (b : StmtTree) → b ≡ stmt.Expression at value → HasNode (suc n) p value → StmtHasNode (suc (suc n)) p b
tall_expression_value {p} n at value b e h = below n h.0 (nodes_at value h.0) (stmt.Expression at value) b e (forms.expression_below at value h.0) h.1 h.2

pub tall_if_test : {p : Span} (n : ℕ) (at : Span) (test : ExprTree) (body : StmtTree) (b : StmtTree) → b ≡ stmt.If at test body → HasNode (suc n) p test → StmtHasNode (suc (suc n)) p b
tall_if_test {p} n at test body b e h = below n h.0 (nodes_at test h.0 ++ stmt_nodes_at body h.0) (stmt.If at test body) b e (forms.if_below at test body h.0) h.1 (Contains-append_left (nodes_at test h.0) (stmt_nodes_at body h.0) p h.2)

pub tall_if_body : {p : Span} (n : ℕ) (at : Span) (test : ExprTree) (body : StmtTree) (b : StmtTree) → b ≡ stmt.If at test body → StmtHasNode (suc n) p body → StmtHasNode (suc (suc n)) p b
tall_if_body {p} n at test body b e h = below n h.0 (nodes_at test h.0 ++ stmt_nodes_at body h.0) (stmt.If at test body) b e (forms.if_below at test body h.0) h.1 (Contains-append_right (nodes_at test h.0) (stmt_nodes_at body h.0) p h.2)

pub tall_ifelse_test : {p : Span} (n : ℕ) (at : Span) (test : ExprTree) (body : StmtTree) (other : StmtTree) (b : StmtTree) → b ≡ stmt.IfElse at test body other → HasNode (suc n) p test → StmtHasNode (suc (suc n)) p b
tall_ifelse_test {p} n at test body other b e h = below n h.0 (nodes_at test h.0 ++ (stmt_nodes_at body h.0 ++ stmt_nodes_at other h.0)) (stmt.IfElse at test body other) b e (forms.ifelse_below at test body other h.0) h.1 (Contains-append_left (nodes_at test h.0) (stmt_nodes_at body h.0 ++ stmt_nodes_at other h.0) p h.2)

pub tall_ifelse_body : {p : Span} (n : ℕ) (at : Span) (test : ExprTree) (body : StmtTree) (other : StmtTree) (b : StmtTree) → b ≡ stmt.IfElse at test body other → StmtHasNode (suc n) p body → StmtHasNode (suc (suc n)) p b
tall_ifelse_body {p} n at test body other b e h = below n h.0 (nodes_at test h.0 ++ (stmt_nodes_at body h.0 ++ stmt_nodes_at other h.0)) (stmt.IfElse at test body other) b e (forms.ifelse_below at test body other h.0) h.1 (Contains-append_right (nodes_at test h.0) (stmt_nodes_at body h.0 ++ stmt_nodes_at other h.0) p (Contains-append_left (stmt_nodes_at body h.0) (stmt_nodes_at other h.0) p h.2))

pub tall_ifelse_other : {p : Span} (n : ℕ) (at : Span) (test : ExprTree) (body : StmtTree) (other : StmtTree) (b : StmtTree) → b ≡ stmt.IfElse at test body other → StmtHasNode (suc n) p other → StmtHasNode (suc (suc n)) p b
tall_ifelse_other {p} n at test body other b e h = below n h.0 (nodes_at test h.0 ++ (stmt_nodes_at body h.0 ++ stmt_nodes_at other h.0)) (stmt.IfElse at test body other) b e (forms.ifelse_below at test body other h.0) h.1 (Contains-append_right (nodes_at test h.0) (stmt_nodes_at body h.0 ++ stmt_nodes_at other h.0) p (Contains-append_right (stmt_nodes_at body h.0) (stmt_nodes_at other h.0) p h.2))

pub tall_while_test : {p : Span} (n : ℕ) (at : Span) (test : ExprTree) (body : StmtTree) (b : StmtTree) → b ≡ stmt.While at test body → HasNode (suc n) p test → StmtHasNode (suc (suc n)) p b
tall_while_test {p} n at test body b e h = below n h.0 (nodes_at test h.0 ++ stmt_nodes_at body h.0) (stmt.While at test body) b e (forms.while_below at test body h.0) h.1 (Contains-append_left (nodes_at test h.0) (stmt_nodes_at body h.0) p h.2)

pub tall_while_body : {p : Span} (n : ℕ) (at : Span) (test : ExprTree) (body : StmtTree) (b : StmtTree) → b ≡ stmt.While at test body → StmtHasNode (suc n) p body → StmtHasNode (suc (suc n)) p b
tall_while_body {p} n at test body b e h = below n h.0 (nodes_at test h.0 ++ stmt_nodes_at body h.0) (stmt.While at test body) b e (forms.while_below at test body h.0) h.1 (Contains-append_right (nodes_at test h.0) (stmt_nodes_at body h.0) p h.2)

pub tall_do_body : {p : Span} (n : ℕ) (at : Span) (body : StmtTree) (test : ExprTree) (b : StmtTree) → b ≡ stmt.Do at body test → StmtHasNode (suc n) p body → StmtHasNode (suc (suc n)) p b
tall_do_body {p} n at body test b e h = below n h.0 (stmt_nodes_at body h.0 ++ nodes_at test h.0) (stmt.Do at body test) b e (forms.do_below at body test h.0) h.1 (Contains-append_left (stmt_nodes_at body h.0) (nodes_at test h.0) p h.2)

pub tall_do_test : {p : Span} (n : ℕ) (at : Span) (body : StmtTree) (test : ExprTree) (b : StmtTree) → b ≡ stmt.Do at body test → HasNode (suc n) p test → StmtHasNode (suc (suc n)) p b
tall_do_test {p} n at body test b e h = below n h.0 (stmt_nodes_at body h.0 ++ nodes_at test h.0) (stmt.Do at body test) b e (forms.do_below at body test h.0) h.1 (Contains-append_right (stmt_nodes_at body h.0) (nodes_at test h.0) p h.2)

pub tall_for_init : {p : Span} (n : ℕ) (at : Span) (init : List StmtTree) (test : Option ExprTree) (update : List ExprTree) (body : StmtTree) (b : StmtTree) → b ≡ stmt.For at init test update body → SomeStmtHasNode (suc n) p init → StmtHasNode (suc (suc n)) p b
tall_for_init {p} n at init test update body b e h = below n h.0 (all_beside (map stmt_nodes_at init) h.0 ++ (option_nodes test h.0 ++ (all_beside (map nodes_at update) h.0 ++ stmt_nodes_at body h.0))) (stmt.For at init test update body) b e (forms.for_below at init test update body h.0) h.1 (Contains-append_left (all_beside (map stmt_nodes_at init) h.0) (option_nodes test h.0 ++ (all_beside (map nodes_at update) h.0 ++ stmt_nodes_at body h.0)) p h.2)

pub tall_for_test : {p : Span} (n : ℕ) (at : Span) (init : List StmtTree) (test : Option ExprTree) (update : List ExprTree) (body : StmtTree) (b : StmtTree) → b ≡ stmt.For at init test update body → OptionHasNode (suc n) p test → StmtHasNode (suc (suc n)) p b
tall_for_test {p} n at init test update body b e h = below n h.0 (all_beside (map stmt_nodes_at init) h.0 ++ (option_nodes test h.0 ++ (all_beside (map nodes_at update) h.0 ++ stmt_nodes_at body h.0))) (stmt.For at init test update body) b e (forms.for_below at init test update body h.0) h.1 (Contains-append_right (all_beside (map stmt_nodes_at init) h.0) (option_nodes test h.0 ++ (all_beside (map nodes_at update) h.0 ++ stmt_nodes_at body h.0)) p (Contains-append_left (option_nodes test h.0) (all_beside (map nodes_at update) h.0 ++ stmt_nodes_at body h.0) p h.2))

pub tall_for_update : {p : Span} (n : ℕ) (at : Span) (init : List StmtTree) (test : Option ExprTree) (update : List ExprTree) (body : StmtTree) (b : StmtTree) → b ≡ stmt.For at init test update body → SomeExprHasNode (suc n) p update → StmtHasNode (suc (suc n)) p b
tall_for_update {p} n at init test update body b e h = below n h.0 (all_beside (map stmt_nodes_at init) h.0 ++ (option_nodes test h.0 ++ (all_beside (map nodes_at update) h.0 ++ stmt_nodes_at body h.0))) (stmt.For at init test update body) b e (forms.for_below at init test update body h.0) h.1 (Contains-append_right (all_beside (map stmt_nodes_at init) h.0) (option_nodes test h.0 ++ (all_beside (map nodes_at update) h.0 ++ stmt_nodes_at body h.0)) p (Contains-append_right (option_nodes test h.0) (all_beside (map nodes_at update) h.0 ++ stmt_nodes_at body h.0) p (Contains-append_left (all_beside (map nodes_at update) h.0) (stmt_nodes_at body h.0) p h.2)))

pub tall_for_body : {p : Span} (n : ℕ) (at : Span) (init : List StmtTree) (test : Option ExprTree) (update : List ExprTree) (body : StmtTree) (b : StmtTree) → b ≡ stmt.For at init test update body → StmtHasNode (suc n) p body → StmtHasNode (suc (suc n)) p b
tall_for_body {p} n at init test update body b e h = below n h.0 (all_beside (map stmt_nodes_at init) h.0 ++ (option_nodes test h.0 ++ (all_beside (map nodes_at update) h.0 ++ stmt_nodes_at body h.0))) (stmt.For at init test update body) b e (forms.for_below at init test update body h.0) h.1 (Contains-append_right (all_beside (map stmt_nodes_at init) h.0) (option_nodes test h.0 ++ (all_beside (map nodes_at update) h.0 ++ stmt_nodes_at body h.0)) p (Contains-append_right (option_nodes test h.0) (all_beside (map nodes_at update) h.0 ++ stmt_nodes_at body h.0) p (Contains-append_right (all_beside (map nodes_at update) h.0) (stmt_nodes_at body h.0) p h.2)))

pub tall_foreach_ranges : {p : Span} (n : ℕ) (at : Span) (is_final : Bool) (holds : TypeTree) (name : NamedPlace) (ranges : ExprTree) (body : StmtTree) (b : StmtTree) → b ≡ stmt.ForEach at is_final holds name ranges body → HasNode (suc n) p ranges → StmtHasNode (suc (suc n)) p b
tall_foreach_ranges {p} n at is_final holds name ranges body b e h = below n h.0 (nodes_at ranges h.0 ++ stmt_nodes_at body h.0) (stmt.ForEach at is_final holds name ranges body) b e (forms.foreach_below at is_final holds name ranges body h.0) h.1 (Contains-append_left (nodes_at ranges h.0) (stmt_nodes_at body h.0) p h.2)

pub tall_foreach_body : {p : Span} (n : ℕ) (at : Span) (is_final : Bool) (holds : TypeTree) (name : NamedPlace) (ranges : ExprTree) (body : StmtTree) (b : StmtTree) → b ≡ stmt.ForEach at is_final holds name ranges body → StmtHasNode (suc n) p body → StmtHasNode (suc (suc n)) p b
tall_foreach_body {p} n at is_final holds name ranges body b e h = below n h.0 (nodes_at ranges h.0 ++ stmt_nodes_at body h.0) (stmt.ForEach at is_final holds name ranges body) b e (forms.foreach_below at is_final holds name ranges body h.0) h.1 (Contains-append_right (nodes_at ranges h.0) (stmt_nodes_at body h.0) p h.2)

pub tall_switch_value : {p : Span} (n : ℕ) (at : Span) (value : ExprTree) (members : List StmtTree) (b : StmtTree) → b ≡ stmt.Switch at value members → HasNode (suc n) p value → StmtHasNode (suc (suc n)) p b
tall_switch_value {p} n at value members b e h = below n h.0 (nodes_at value h.0 ++ all_beside (map stmt_nodes_at members) h.0) (stmt.Switch at value members) b e (forms.switch_below at value members h.0) h.1 (Contains-append_left (nodes_at value h.0) (all_beside (map stmt_nodes_at members) h.0) p h.2)

pub tall_switch_members : {p : Span} (n : ℕ) (at : Span) (value : ExprTree) (members : List StmtTree) (b : StmtTree) → b ≡ stmt.Switch at value members → SomeStmtHasNode (suc n) p members → StmtHasNode (suc (suc n)) p b
tall_switch_members {p} n at value members b e h = below n h.0 (nodes_at value h.0 ++ all_beside (map stmt_nodes_at members) h.0) (stmt.Switch at value members) b e (forms.switch_below at value members h.0) h.1 (Contains-append_right (nodes_at value h.0) (all_beside (map stmt_nodes_at members) h.0) p h.2)

pub tall_case_value : {p : Span} (n : ℕ) (at : Span) (value : ExprTree) (b : StmtTree) → b ≡ stmt.Case at value → HasNode (suc n) p value → StmtHasNode (suc (suc n)) p b
tall_case_value {p} n at value b e h = below n h.0 (nodes_at value h.0) (stmt.Case at value) b e (forms.case_below at value h.0) h.1 h.2

pub tall_labelled_body : {p : Span} (n : ℕ) (at : Span) (label : List ℕ) (body : StmtTree) (b : StmtTree) → b ≡ stmt.Labelled at label body → StmtHasNode (suc n) p body → StmtHasNode (suc (suc n)) p b
tall_labelled_body {p} n at label body b e h = below n h.0 (stmt_nodes_at body h.0) (stmt.Labelled at label body) b e (forms.labelled_below at label body h.0) h.1 h.2

pub tall_return_value : {p : Span} (n : ℕ) (at : Span) (value : Option ExprTree) (b : StmtTree) → b ≡ stmt.Return at value → OptionHasNode (suc n) p value → StmtHasNode (suc (suc n)) p b
tall_return_value {p} n at value b e h = below n h.0 (option_nodes value h.0) (stmt.Return at value) b e (forms.return_below at value h.0) h.1 h.2

pub tall_throw_value : {p : Span} (n : ℕ) (at : Span) (value : ExprTree) (b : StmtTree) → b ≡ stmt.Throw at value → HasNode (suc n) p value → StmtHasNode (suc (suc n)) p b
tall_throw_value {p} n at value b e h = below n h.0 (nodes_at value h.0) (stmt.Throw at value) b e (forms.throw_below at value h.0) h.1 h.2

pub tall_synchronized_lock : {p : Span} (n : ℕ) (at : Span) (lock : ExprTree) (body : StmtTree) (b : StmtTree) → b ≡ stmt.Synchronized at lock body → HasNode (suc n) p lock → StmtHasNode (suc (suc n)) p b
tall_synchronized_lock {p} n at lock body b e h = below n h.0 (nodes_at lock h.0 ++ stmt_nodes_at body h.0) (stmt.Synchronized at lock body) b e (forms.synchronized_below at lock body h.0) h.1 (Contains-append_left (nodes_at lock h.0) (stmt_nodes_at body h.0) p h.2)

pub tall_synchronized_body : {p : Span} (n : ℕ) (at : Span) (lock : ExprTree) (body : StmtTree) (b : StmtTree) → b ≡ stmt.Synchronized at lock body → StmtHasNode (suc n) p body → StmtHasNode (suc (suc n)) p b
tall_synchronized_body {p} n at lock body b e h = below n h.0 (nodes_at lock h.0 ++ stmt_nodes_at body h.0) (stmt.Synchronized at lock body) b e (forms.synchronized_below at lock body h.0) h.1 (Contains-append_right (nodes_at lock h.0) (stmt_nodes_at body h.0) p h.2)

pub tall_synchronizedclass_body : {p : Span} (n : ℕ) (at : Span) (class : NamedPlace) (body : StmtTree) (b : StmtTree) → b ≡ stmt.SynchronizedClass at class body → StmtHasNode (suc n) p body → StmtHasNode (suc (suc n)) p b
tall_synchronizedclass_body {p} n at class body b e h = below n h.0 (stmt_nodes_at body h.0) (stmt.SynchronizedClass at class body) b e (forms.synchronizedclass_below at class body h.0) h.1 h.2

pub tall_try_body : {p : Span} (n : ℕ) (at : Span) (body : StmtTree) (catches : List StmtTree) (b : StmtTree) → b ≡ stmt.Try at body catches → StmtHasNode (suc n) p body → StmtHasNode (suc (suc n)) p b
tall_try_body {p} n at body catches b e h = below n h.0 (stmt_nodes_at body h.0 ++ all_beside (map stmt_nodes_at catches) h.0) (stmt.Try at body catches) b e (forms.try_below at body catches h.0) h.1 (Contains-append_left (stmt_nodes_at body h.0) (all_beside (map stmt_nodes_at catches) h.0) p h.2)

pub tall_try_catches : {p : Span} (n : ℕ) (at : Span) (body : StmtTree) (catches : List StmtTree) (b : StmtTree) → b ≡ stmt.Try at body catches → SomeStmtHasNode (suc n) p catches → StmtHasNode (suc (suc n)) p b
tall_try_catches {p} n at body catches b e h = below n h.0 (stmt_nodes_at body h.0 ++ all_beside (map stmt_nodes_at catches) h.0) (stmt.Try at body catches) b e (forms.try_below at body catches h.0) h.1 (Contains-append_right (stmt_nodes_at body h.0) (all_beside (map stmt_nodes_at catches) h.0) p h.2)

pub tall_tryfinally_body : {p : Span} (n : ℕ) (at : Span) (body : StmtTree) (catches : List StmtTree) (finally : StmtTree) (b : StmtTree) → b ≡ stmt.TryFinally at body catches finally → StmtHasNode (suc n) p body → StmtHasNode (suc (suc n)) p b
tall_tryfinally_body {p} n at body catches finally b e h = below n h.0 (stmt_nodes_at body h.0 ++ (all_beside (map stmt_nodes_at catches) h.0 ++ stmt_nodes_at finally h.0)) (stmt.TryFinally at body catches finally) b e (forms.tryfinally_below at body catches finally h.0) h.1 (Contains-append_left (stmt_nodes_at body h.0) (all_beside (map stmt_nodes_at catches) h.0 ++ stmt_nodes_at finally h.0) p h.2)

pub tall_tryfinally_catches : {p : Span} (n : ℕ) (at : Span) (body : StmtTree) (catches : List StmtTree) (finally : StmtTree) (b : StmtTree) → b ≡ stmt.TryFinally at body catches finally → SomeStmtHasNode (suc n) p catches → StmtHasNode (suc (suc n)) p b
tall_tryfinally_catches {p} n at body catches finally b e h = below n h.0 (stmt_nodes_at body h.0 ++ (all_beside (map stmt_nodes_at catches) h.0 ++ stmt_nodes_at finally h.0)) (stmt.TryFinally at body catches finally) b e (forms.tryfinally_below at body catches finally h.0) h.1 (Contains-append_right (stmt_nodes_at body h.0) (all_beside (map stmt_nodes_at catches) h.0 ++ stmt_nodes_at finally h.0) p (Contains-append_left (all_beside (map stmt_nodes_at catches) h.0) (stmt_nodes_at finally h.0) p h.2))

pub tall_tryfinally_finally : {p : Span} (n : ℕ) (at : Span) (body : StmtTree) (catches : List StmtTree) (finally : StmtTree) (b : StmtTree) → b ≡ stmt.TryFinally at body catches finally → StmtHasNode (suc n) p finally → StmtHasNode (suc (suc n)) p b
tall_tryfinally_finally {p} n at body catches finally b e h = below n h.0 (stmt_nodes_at body h.0 ++ (all_beside (map stmt_nodes_at catches) h.0 ++ stmt_nodes_at finally h.0)) (stmt.TryFinally at body catches finally) b e (forms.tryfinally_below at body catches finally h.0) h.1 (Contains-append_right (stmt_nodes_at body h.0) (all_beside (map stmt_nodes_at catches) h.0 ++ stmt_nodes_at finally h.0) p (Contains-append_right (all_beside (map stmt_nodes_at catches) h.0) (stmt_nodes_at finally h.0) p h.2))

pub tall_catch_body : {p : Span} (n : ℕ) (at : Span) (is_final : Bool) (types : List TypeTree) (name : NamedPlace) (body : StmtTree) (b : StmtTree) → b ≡ stmt.Catch at is_final types name body → StmtHasNode (suc n) p body → StmtHasNode (suc (suc n)) p b
tall_catch_body {p} n at is_final types name body b e h = below n h.0 (stmt_nodes_at body h.0) (stmt.Catch at is_final types name body) b e (forms.catch_below at is_final types name body h.0) h.1 h.2

pub tall_constructorcall_args : {p : Span} (n : ℕ) (at : Span) (is_super : Bool) (args : List ExprTree) (b : StmtTree) → b ≡ stmt.ConstructorCall at is_super args → SomeExprHasNode (suc n) p args → StmtHasNode (suc (suc n)) p b
tall_constructorcall_args {p} n at is_super args b e h = below n h.0 (all_beside (map nodes_at args) h.0) (stmt.ConstructorCall at is_super args) b e (forms.constructorcall_below at is_super args h.0) h.1 h.2
