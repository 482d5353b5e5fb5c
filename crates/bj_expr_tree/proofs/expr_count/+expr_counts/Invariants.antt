use Rattle.std.proofs.Common.{◌≡◌, take, map}
use Rattle.std.specs.Prelude.{min}
use Rattle.bj_expr_tree.specs.Count.{nodes_of_expr, total}
use Rattle.bj_expr_tree.proofs.expr_count.+expr_counts.Given as goal

abbrev pub invariant-all_expr_nodes-loop-tree : goal.invariant-all_expr_nodes-loop-tree
invariant-all_expr_nodes-loop-tree l = l.count ≡ min (total (map nodes_of_expr (take l.tree-index l.trees))) 4294967295
