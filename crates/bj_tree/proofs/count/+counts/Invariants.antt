use Rattle.std.proofs.Common.{◌≡◌, take, map}
use Rattle.std.specs.Prelude.{min}
use Rattle.bj_expr_tree.specs.Count.{total}
use Rattle.bj_tree.specs.Count.{nodes_of}
use Rattle.bj_tree.proofs.count.+counts.Given as goal

abbrev pub invariant-all_nodes-loop-tree : goal.invariant-all_nodes-loop-tree
invariant-all_nodes-loop-tree l = l.count ≡ min (total (map nodes_of (take l.tree-index l.trees))) 4294967295
