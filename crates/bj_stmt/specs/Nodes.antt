-- Where the nodes of a statement stand, by how many nodes are above them. Its variables are nodes, and so are those of its expressions.
use Rattle.std.specs.Prelude.{ℕ, suc, ◌≤◌, List, map, Option, None, Some, Contains}
use Rattle.bj_base.specs.declared.span.Span.{Span}
use Rattle.bj_expr_tree.specs.declared.expr.ExprTree.{ExprTree}
use Rattle.bj_tree.specs.declared.stmt.VariableTree.{VariableTree}
use Rattle.bj_tree.specs.declared.stmt.StmtTree.{StmtTree}
use Rattle.bj_tree.specs.declared.stmt.StmtTree.TheOpen.{StmtTree-F}
use Rattle.bj_tree.specs.declared.stmt.StmtTree.TheFolds.{fold-StmtTree}
use Rattle.bj_expr.specs.Nodes.{leaf, over, beside, all_beside, nodes_at}

abbrev pub option_nodes : Option ExprTree → ℕ → List Span
option_nodes None = leaf
option_nodes (Some x) = nodes_at x

-- a variable is a node, and its initializer is below it
abbrev pub variable_nodes : VariableTree → ℕ → List Span
variable_nodes variable = over variable.at (option_nodes variable.init)

abbrev pub stmt_nodes_form : StmtTree-F (ℕ → List Span) → ℕ → List Span
stmt_nodes_form (StmtTree-F.Block at body end) = over at (all_beside body)
stmt_nodes_form (StmtTree-F.Empty at) = over at leaf
stmt_nodes_form (StmtTree-F.Local at is_final holds variables) = over at (all_beside (map variable_nodes variables))
stmt_nodes_form (StmtTree-F.Expression at value) = over at (nodes_at value)
stmt_nodes_form (StmtTree-F.If at test body) = over at (beside (nodes_at test) body)
stmt_nodes_form (StmtTree-F.IfElse at test body other) = over at (beside (nodes_at test) (beside body other))
stmt_nodes_form (StmtTree-F.While at test body) = over at (beside (nodes_at test) body)
stmt_nodes_form (StmtTree-F.Do at body test) = over at (beside body (nodes_at test))
stmt_nodes_form (StmtTree-F.For at init test update body) = over at (beside (all_beside init) (beside (option_nodes test) (beside (all_beside (map nodes_at update)) body)))
stmt_nodes_form (StmtTree-F.ForEach at is_final holds name values body) = over at (beside (nodes_at values) body)
stmt_nodes_form (StmtTree-F.Switch at value members) = over at (beside (nodes_at value) (all_beside members))
stmt_nodes_form (StmtTree-F.Case at value) = over at (nodes_at value)
stmt_nodes_form (StmtTree-F.Default at) = over at leaf
stmt_nodes_form (StmtTree-F.Labelled at label body) = over at body
stmt_nodes_form (StmtTree-F.Break at label) = over at leaf
stmt_nodes_form (StmtTree-F.Continue at label) = over at leaf
stmt_nodes_form (StmtTree-F.Return at value) = over at (option_nodes value)
stmt_nodes_form (StmtTree-F.Throw at value) = over at (nodes_at value)
stmt_nodes_form (StmtTree-F.Synchronized at lock body) = over at (beside (nodes_at lock) body)
stmt_nodes_form (StmtTree-F.SynchronizedClass at class body) = over at body
stmt_nodes_form (StmtTree-F.Try at body catches) = over at (beside body (all_beside catches))
stmt_nodes_form (StmtTree-F.TryFinally at body catches finally) = over at (beside body (beside (all_beside catches) finally))
stmt_nodes_form (StmtTree-F.Catch at is_final types name body) = over at body
stmt_nodes_form (StmtTree-F.ConstructorCall at is_super args) = over at (all_beside (map nodes_at args))

-- where the nodes with so many above them stand, from left to right
unfoldable pub stmt_nodes_at : StmtTree → ℕ → List Span
stmt_nodes_at = fold-StmtTree (ℕ → List Span) stmt_nodes_form

-- A node stands at the place, and on the way from the statement to it, both included, are so many nodes or more.
abbrev pub StmtHasNode : ℕ → Span → StmtTree → Type 0
StmtHasNode n at a = (above : ℕ) × (n ≤ suc above) × Contains (stmt_nodes_at a above) at

-- one of some statements, or of some variables, has such a node
abbrev pub SomeStmtHasNode : ℕ → Span → List StmtTree → Type 0
SomeStmtHasNode n at b = (above : ℕ) × (n ≤ suc above) × Contains (all_beside (map stmt_nodes_at b) above) at

abbrev pub SomeVariableHasNode : ℕ → Span → List VariableTree → Type 0
SomeVariableHasNode n at b = (above : ℕ) × (n ≤ suc above) × Contains (all_beside (map variable_nodes b) above) at
