use Rattle.bj_expr_tree.proofs.Sums.{total_step}
use Rattle.bj_expr_tree.specs.Count.{nodes_of_expr}
use Rattle.bj_expr_tree.proofs.expr_count.+expr_counts.Goals as goal

pub all_expr_nodes-loop-tree-preserved : goal.all_expr_nodes-loop-tree-preserved
all_expr_nodes-loop-tree-preserved t c =
    total_step nodes_of_expr c.args.trees.now c.loop-tree.tree-index c.tree-item.result c.loop-tree.count c.expr_nodes.result c.plus-count.result c.loop-tree-test.true c.tree-item.is
    c.loop-tree.invariant c.expr_nodes.ensures c.plus-count.ensures
