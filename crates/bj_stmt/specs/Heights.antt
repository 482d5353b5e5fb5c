-- How high a statement is.
use Rattle.std.specs.Prelude.{ℕ, suc, max, List, map, unwrap_or, option_map}
use Rattle.bj_tree.specs.declared.stmt.VariableTree.{VariableTree}
use Rattle.bj_tree.specs.declared.stmt.StmtTree.{StmtTree}
use Rattle.bj_tree.specs.declared.stmt.StmtTree.TheOpen.{StmtTree-F}
use Rattle.bj_tree.specs.declared.stmt.StmtTree.TheFolds.{fold-StmtTree}
use Rattle.bj_expr_tree.specs.Size.{most, height_of}

-- a variable is a node, and its initializer is below it
abbrev pub variable_height : VariableTree → ℕ
variable_height variable = suc (unwrap_or (option_map height_of variable.init) 0)

-- the nodes on the longest way down from a statement, itself included, where the statements in it have these
abbrev pub stmt_form : StmtTree-F ℕ → ℕ
stmt_form (StmtTree-F.Block at body end) = suc (most body)
stmt_form (StmtTree-F.Empty at) = 1
stmt_form (StmtTree-F.Local at is_final holds variables) = suc (most (map variable_height variables))
stmt_form (StmtTree-F.Expression at value) = suc (height_of value)
stmt_form (StmtTree-F.If at test body) = suc (max (height_of test) body)
stmt_form (StmtTree-F.IfElse at test body other) = suc (max (height_of test) (max body other))
stmt_form (StmtTree-F.While at test body) = suc (max (height_of test) body)
stmt_form (StmtTree-F.Do at body test) = suc (max body (height_of test))
stmt_form (StmtTree-F.For at init test update body) = suc (max (most init) (max (unwrap_or (option_map height_of test) 0) (max (most (map height_of update)) body)))
stmt_form (StmtTree-F.ForEach at is_final holds name over body) = suc (max (height_of over) body)
stmt_form (StmtTree-F.Switch at value members) = suc (max (height_of value) (most members))
stmt_form (StmtTree-F.Case at value) = suc (height_of value)
stmt_form (StmtTree-F.Default at) = 1
stmt_form (StmtTree-F.Labelled at label body) = suc body
stmt_form (StmtTree-F.Break at label) = 1
stmt_form (StmtTree-F.Continue at label) = 1
stmt_form (StmtTree-F.Return at value) = suc (unwrap_or (option_map height_of value) 0)
stmt_form (StmtTree-F.Throw at value) = suc (height_of value)
stmt_form (StmtTree-F.Synchronized at lock body) = suc (max (height_of lock) body)
stmt_form (StmtTree-F.SynchronizedClass at class body) = suc body
stmt_form (StmtTree-F.Try at body catches) = suc (max body (most catches))
stmt_form (StmtTree-F.TryFinally at body catches finally) = suc (max body (max (most catches) finally))
stmt_form (StmtTree-F.Catch at is_final types name body) = suc body
stmt_form (StmtTree-F.ConstructorCall at is_super args) = suc (most (map height_of args))

-- the nodes on the longest way down from a statement, itself and its expressions included
unfoldable pub stmt_height : StmtTree → ℕ
stmt_height = fold-StmtTree ℕ stmt_form
