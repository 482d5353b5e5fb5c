-- A node stands no deeper in a statement than the statement is high.
use Rattle.std.proofs.Common.{◌≡◌, ℕ, zero, suc, ◌≤◌, inl, inr, List, [], ◌∷◌, ◌++◌, map, Option, None, Some, refl, sym, ap, ◌∙◌, subst, arith}
use Rattle.std.proofs.lemmas.Bool.{cases_lt}
use Rattle.std.specs.Prelude.{max, Contains}
use Rattle.bj_base.specs.declared.span.Span.{Span}
use Rattle.bj_expr_tree.specs.declared.expr.ExprTree.{ExprTree}
use Rattle.bj_tree.specs.declared.stmt.VariableTree.{VariableTree}
use Rattle.bj_tree.specs.declared.stmt.StmtTree.{StmtTree, roll-StmtTree, map-StmtTree, ind-StmtTree}
use Rattle.bj_tree.specs.declared.stmt.StmtTree.TheVariants as stmt
use Rattle.bj_tree.specs.declared.stmt.StmtTree.TheOpen.{StmtTree-F}
use Rattle.bj_expr_tree.specs.Size.{most, height_of}
use Rattle.bj_expr.specs.Nodes.{leaf, beside, all_beside, nodes_at}
use Rattle.bj_expr.proofs.NodeHeights.{low_nodes}
use Rattle.bj_stmt.specs.Heights.{variable_height, stmt_height}
use Rattle.bj_stmt.specs.Nodes.{option_nodes, variable_nodes, stmt_nodes_at, StmtHasNode, SomeStmtHasNode, SomeVariableHasNode}
use Rattle.bj_stmt.proofs.StmtHeights.{option_height, block_height, empty_height, local_height, expression_height, if_height, ifelse_height, while_height, do_height, for_height, foreach_height, switch_height, case_height, default_height, labelled_height, break_height, continue_height, return_height, throw_height, synchronized_height, synchronizedclass_height, try_height, tryfinally_height, catch_height, constructorcall_height}
use Rattle.bj_stmt.proofs.StmtNodeForms.{block_below, empty_below, local_below, expression_below, if_below, ifelse_below, while_below, do_below, for_below, foreach_below, switch_below, case_below, default_below, labelled_below, break_below, continue_below, return_below, throw_below, synchronized_below, synchronizedclass_below, try_below, tryfinally_below, catch_below, constructorcall_below}

-- some part that is no higher than a number: none of its nodes has so many above it or more
abbrev Below : (ℕ → List Span) → ℕ → Type 0
Below f h = (n : ℕ) → h ≤ n → f n ≡ []

below_leaf : Below leaf 0
below_leaf n low = refl

below_beside : {f g : ℕ → List Span} {h k : ℕ} → Below f h → Below g k → Below (beside f g) (max h k)
below_beside {f} {g} {h} {k} u v n low = ap (λ (xs : List Span). xs ++ g n) (u n (omega arith)) ∙ v n (omega arith)

below_all : {A : Type 0} (f : A → ℕ → List Span) (h : A → ℕ) → ((x : A) → Below (f x) (h x)) → (xs : List A) → Below (all_beside (map f xs)) (most (map h xs))
below_all f h u [] n low = refl
below_all f h u (x ∷ xs) n low = below_beside (u x) (below_all f h u xs) n low

below_exprs : (xs : List ExprTree) → Below (all_beside (map nodes_at xs)) (most (map height_of xs))
below_exprs xs = below_all nodes_at height_of low_nodes xs

below_option : (x : Option ExprTree) → Below (option_nodes x) (option_height x)
below_option None n low = refl
below_option (Some x) n low = low_nodes x n low

below_variable : (x : VariableTree) → Below (variable_nodes x) (variable_height x)
below_variable x zero low = absurd (omega arith)
below_variable x (suc n) low = below_option x.init n (omega arith)

below_variables : (xs : List VariableTree) → Below (all_beside (map variable_nodes xs)) (most (map variable_height xs))
below_variables xs = below_all variable_nodes variable_height below_variable xs

abbrev BelowStmt : StmtTree → Type 0
BelowStmt a = Below (stmt_nodes_at a) (stmt_height a)

-- what has a node at its root and a part below it
below_root : {f : ℕ → List Span} {k : ℕ} (a : StmtTree) → ((n : ℕ) → stmt_nodes_at a (suc n) ≡ f n) → stmt_height a ≡ suc k → Below f k → BelowStmt a
below_root {f} {k} a below high u zero low = absurd (omega arith)
below_root {f} {k} a below high u (suc n) low = below n ∙ u n (omega arith)

abbrev Known : Type 0
Known = (a : StmtTree) × BelowStmt a

abbrev tree_of : Known → StmtTree
tree_of x = x.0

below_stmts : (xs : List Known) → Below (all_beside (map stmt_nodes_at (map tree_of xs))) (most (map stmt_height (map tree_of xs)))
below_stmts [] n low = refl
below_stmts (x ∷ xs) n low = below_beside x.1 (below_stmts xs) n low

below_form : (y : StmtTree-F Known) → BelowStmt (roll-StmtTree (map-StmtTree Known StmtTree tree_of y))
below_form (StmtTree-F.Block at body end) = subst BelowStmt (sym (stmt.rolls-Block at (map tree_of body) end))
    (below_root (stmt.Block at (map tree_of body) end) (block_below at (map tree_of body) end) (block_height at (map tree_of body) end) (below_stmts body))
below_form (StmtTree-F.Empty at) = subst BelowStmt (sym (stmt.rolls-Empty at))
    (below_root (stmt.Empty at) (empty_below at) (empty_height at) below_leaf)
below_form (StmtTree-F.Local at is_final holds variables) = subst BelowStmt (sym (stmt.rolls-Local at is_final holds variables))
    (below_root (stmt.Local at is_final holds variables) (local_below at is_final holds variables) (local_height at is_final holds variables) (below_variables variables))
below_form (StmtTree-F.Expression at value) = subst BelowStmt (sym (stmt.rolls-Expression at value))
    (below_root (stmt.Expression at value) (expression_below at value) (expression_height at value) (low_nodes value))
below_form (StmtTree-F.If at test body) = subst BelowStmt (sym (stmt.rolls-If at test body.0))
    (below_root (stmt.If at test body.0) (if_below at test body.0) (if_height at test body.0) (below_beside (low_nodes test) body.1))
below_form (StmtTree-F.IfElse at test body other) = subst BelowStmt (sym (stmt.rolls-IfElse at test body.0 other.0))
    (below_root (stmt.IfElse at test body.0 other.0) (ifelse_below at test body.0 other.0) (ifelse_height at test body.0 other.0) (below_beside (low_nodes test) (below_beside body.1 other.1)))
below_form (StmtTree-F.While at test body) = subst BelowStmt (sym (stmt.rolls-While at test body.0))
    (below_root (stmt.While at test body.0) (while_below at test body.0) (while_height at test body.0) (below_beside (low_nodes test) body.1))
below_form (StmtTree-F.Do at body test) = subst BelowStmt (sym (stmt.rolls-Do at body.0 test))
    (below_root (stmt.Do at body.0 test) (do_below at body.0 test) (do_height at body.0 test) (below_beside body.1 (low_nodes test)))
below_form (StmtTree-F.For at init test update body) = subst BelowStmt (sym (stmt.rolls-For at (map tree_of init) test update body.0))
    (below_root (stmt.For at (map tree_of init) test update body.0) (for_below at (map tree_of init) test update body.0) (for_height at (map tree_of init) test update body.0) (below_beside (below_stmts init) (below_beside (below_option test) (below_beside (below_exprs update) body.1))))
below_form (StmtTree-F.ForEach at is_final holds name values body) = subst BelowStmt (sym (stmt.rolls-ForEach at is_final holds name values body.0))
    (below_root (stmt.ForEach at is_final holds name values body.0) (foreach_below at is_final holds name values body.0) (foreach_height at is_final holds name values body.0) (below_beside (low_nodes values) body.1))
below_form (StmtTree-F.Switch at value members) = subst BelowStmt (sym (stmt.rolls-Switch at value (map tree_of members)))
    (below_root (stmt.Switch at value (map tree_of members)) (switch_below at value (map tree_of members)) (switch_height at value (map tree_of members)) (below_beside (low_nodes value) (below_stmts members)))
below_form (StmtTree-F.Case at value) = subst BelowStmt (sym (stmt.rolls-Case at value))
    (below_root (stmt.Case at value) (case_below at value) (case_height at value) (low_nodes value))
below_form (StmtTree-F.Default at) = subst BelowStmt (sym (stmt.rolls-Default at))
    (below_root (stmt.Default at) (default_below at) (default_height at) below_leaf)
below_form (StmtTree-F.Labelled at label body) = subst BelowStmt (sym (stmt.rolls-Labelled at label body.0))
    (below_root (stmt.Labelled at label body.0) (labelled_below at label body.0) (labelled_height at label body.0) body.1)
below_form (StmtTree-F.Break at label) = subst BelowStmt (sym (stmt.rolls-Break at label))
    (below_root (stmt.Break at label) (break_below at label) (break_height at label) below_leaf)
below_form (StmtTree-F.Continue at label) = subst BelowStmt (sym (stmt.rolls-Continue at label))
    (below_root (stmt.Continue at label) (continue_below at label) (continue_height at label) below_leaf)
below_form (StmtTree-F.Return at value) = subst BelowStmt (sym (stmt.rolls-Return at value))
    (below_root (stmt.Return at value) (return_below at value) (return_height at value) (below_option value))
below_form (StmtTree-F.Throw at value) = subst BelowStmt (sym (stmt.rolls-Throw at value))
    (below_root (stmt.Throw at value) (throw_below at value) (throw_height at value) (low_nodes value))
below_form (StmtTree-F.Synchronized at lock body) = subst BelowStmt (sym (stmt.rolls-Synchronized at lock body.0))
    (below_root (stmt.Synchronized at lock body.0) (synchronized_below at lock body.0) (synchronized_height at lock body.0) (below_beside (low_nodes lock) body.1))
below_form (StmtTree-F.SynchronizedClass at class body) = subst BelowStmt (sym (stmt.rolls-SynchronizedClass at class body.0))
    (below_root (stmt.SynchronizedClass at class body.0) (synchronizedclass_below at class body.0) (synchronizedclass_height at class body.0) body.1)
below_form (StmtTree-F.Try at body catches) = subst BelowStmt (sym (stmt.rolls-Try at body.0 (map tree_of catches)))
    (below_root (stmt.Try at body.0 (map tree_of catches)) (try_below at body.0 (map tree_of catches)) (try_height at body.0 (map tree_of catches)) (below_beside body.1 (below_stmts catches)))
below_form (StmtTree-F.TryFinally at body catches finally) = subst BelowStmt (sym (stmt.rolls-TryFinally at body.0 (map tree_of catches) finally.0))
    (below_root (stmt.TryFinally at body.0 (map tree_of catches) finally.0) (tryfinally_below at body.0 (map tree_of catches) finally.0) (tryfinally_height at body.0 (map tree_of catches) finally.0) (below_beside body.1 (below_beside (below_stmts catches) finally.1)))
below_form (StmtTree-F.Catch at is_final types name body) = subst BelowStmt (sym (stmt.rolls-Catch at is_final types name body.0))
    (below_root (stmt.Catch at is_final types name body.0) (catch_below at is_final types name body.0) (catch_height at is_final types name body.0) body.1)
below_form (StmtTree-F.ConstructorCall at is_super args) = subst BelowStmt (sym (stmt.rolls-ConstructorCall at is_super args))
    (below_root (stmt.ConstructorCall at is_super args) (constructorcall_below at is_super args) (constructorcall_height at is_super args) (below_exprs args))

below_stmt : (a : StmtTree) → BelowStmt a
below_stmt = ind-StmtTree BelowStmt (λ x y is. subst (λ (z : StmtTree-F StmtTree). BelowStmt (roll-StmtTree z)) is (below_form y))

some_node : (xs : List Span) (at : Span) → Contains xs at → xs ≡ [] → ⊥
some_node [] at h e = let x = h.1 in absurd (omega arith)
some_node (x ∷ xs) at h e = absurd (cc)

below_high : (f : ℕ → List Span) (h : ℕ) (n above : ℕ) (at : Span) → Below f h → n ≤ suc above → Contains (f above) at → n ≤ h
below_high f h n above at u le node = elim (cases_lt above h) [ inl x ↦ (omega arith) | inr x ↦ absurd (some_node (f above) at node (u above x)) ]

pub stmt_node_high : (n : ℕ) (at : Span) (a : StmtTree) → StmtHasNode n at a → n ≤ stmt_height a
stmt_node_high n at a h = below_high (stmt_nodes_at a) (stmt_height a) n h.0 at (below_stmt a) h.1 h.2

pub stmts_node_high : (n : ℕ) (at : Span) (b : List StmtTree) → SomeStmtHasNode n at b → n ≤ most (map stmt_height b)
stmts_node_high n at b h = below_high (all_beside (map stmt_nodes_at b)) (most (map stmt_height b)) n h.0 at (below_all stmt_nodes_at stmt_height below_stmt b) h.1 h.2

pub variables_node_high : (n : ℕ) (at : Span) (vs : List VariableTree) → SomeVariableHasNode n at vs → n ≤ most (map variable_height vs)
variables_node_high n at vs h = below_high (all_beside (map variable_nodes vs)) (most (map variable_height vs)) n h.0 at (below_variables vs) h.1 h.2
