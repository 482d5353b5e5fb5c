-- How many nodes a statement has.
use Rattle.std.specs.Prelude.{ℕ, suc, ◌+◌, map, unwrap_or, option_map}
use Rattle.bj_tree.specs.declared.stmt.VariableTree.{VariableTree}
use Rattle.bj_tree.specs.declared.stmt.StmtTree.{StmtTree}
use Rattle.bj_tree.specs.declared.stmt.StmtTree.TheOpen.{StmtTree-F}
use Rattle.bj_tree.specs.declared.stmt.StmtTree.TheFolds.{fold-StmtTree}
use Rattle.bj_expr_tree.specs.Count.{total, nodes_of_expr}

-- a variable is a node, and its initializer is below it
abbrev pub nodes_of_variable : VariableTree → ℕ
nodes_of_variable variable = suc (unwrap_or (option_map nodes_of_expr variable.init) 0)

-- the nodes of a statement, itself included, where the statements in it have these
abbrev pub stmt_form : StmtTree-F ℕ → ℕ
stmt_form (StmtTree-F.Block at body end) = suc (total body)
stmt_form (StmtTree-F.Empty at) = 1
stmt_form (StmtTree-F.Local at is_final holds variables) = suc (total (map nodes_of_variable variables))
stmt_form (StmtTree-F.Expression at value) = suc (nodes_of_expr value)
stmt_form (StmtTree-F.If at test body) = suc (nodes_of_expr test + body)
stmt_form (StmtTree-F.IfElse at test body other) = suc (nodes_of_expr test + (body + other))
stmt_form (StmtTree-F.While at test body) = suc (nodes_of_expr test + body)
stmt_form (StmtTree-F.Do at body test) = suc (body + nodes_of_expr test)
stmt_form (StmtTree-F.For at init test update body) = suc (total init + (unwrap_or (option_map nodes_of_expr test) 0 + (total (map nodes_of_expr update) + body)))
stmt_form (StmtTree-F.ForEach at is_final holds name over body) = suc (nodes_of_expr over + body)
stmt_form (StmtTree-F.Switch at value members) = suc (nodes_of_expr value + total members)
stmt_form (StmtTree-F.Case at value) = suc (nodes_of_expr value)
stmt_form (StmtTree-F.Default at) = 1
stmt_form (StmtTree-F.Labelled at label body) = suc body
stmt_form (StmtTree-F.Break at label) = 1
stmt_form (StmtTree-F.Continue at label) = 1
stmt_form (StmtTree-F.Return at value) = suc (unwrap_or (option_map nodes_of_expr value) 0)
stmt_form (StmtTree-F.Throw at value) = suc (nodes_of_expr value)
stmt_form (StmtTree-F.Synchronized at lock body) = suc (nodes_of_expr lock + body)
stmt_form (StmtTree-F.SynchronizedClass at class body) = suc body
stmt_form (StmtTree-F.Try at body catches) = suc (body + total catches)
stmt_form (StmtTree-F.TryFinally at body catches finally) = suc (body + (total catches + finally))
stmt_form (StmtTree-F.Catch at is_final types name body) = suc body
stmt_form (StmtTree-F.ConstructorCall at is_super args) = suc (total (map nodes_of_expr args))

-- the nodes of a statement, itself and its expressions included
unfoldable pub nodes_of : StmtTree → ℕ
nodes_of = fold-StmtTree ℕ stmt_form
