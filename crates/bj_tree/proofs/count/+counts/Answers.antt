use Rattle.bj_expr_tree.proofs.Sums.{total_step}
use Rattle.bj_tree.specs.Count.{nodes_of}
use Rattle.bj_tree.proofs.count.+counts.Goals as goal

pub all_nodes-loop-tree-preserved : goal.all_nodes-loop-tree-preserved
all_nodes-loop-tree-preserved t c =
    total_step nodes_of c.args.trees.now c.loop-tree.tree-index c.tree-item.result c.loop-tree.count c.nodes.result c.plus-count.result c.loop-tree-test.true c.tree-item.is
    c.loop-tree.invariant c.nodes.ensures c.plus-count.ensures
