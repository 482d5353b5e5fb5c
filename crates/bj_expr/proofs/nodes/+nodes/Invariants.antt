use Rattle.std.proofs.Common.{◌≡◌, take, None}
use Rattle.bj_expr.proofs.NodeForms.{first_of_all}
use Rattle.bj_expr.proofs.nodes.+nodes.Given as goal

abbrev pub invariant-node_among-loop-tree : goal.invariant-node_among-loop-tree
invariant-node_among-loop-tree l = first_of_all l.above (take l.tree-index l.trees) ≡ None
