use Rattle.bj_expr_tree.proofs.Heights.{highest_step}
use Rattle.bj_expr_tree.proofs.size.+heights.Goals as goal

pub highest-loop-tree-preserved : goal.highest-loop-tree-preserved
highest-loop-tree-preserved t c =
    highest_step c.args.trees.now c.loop-tree.tree-index c.tree-item.result c.loop-tree.most c.height.result c.greater-most.result c.loop-tree-test.true c.tree-item.is
    c.loop-tree.invariant c.height.ensures c.greater-most.ensures
