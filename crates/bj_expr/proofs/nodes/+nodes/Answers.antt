use Rattle.std.proofs.Common.{sym}
use Rattle.bj_expr.proofs.NodeForms.{among_some, among_none}
use Rattle.bj_expr.proofs.nodes.+nodes.Goals as goal

pub node_among-returns-in-Some : goal.node_among-returns-in-Some
node_among-returns-in-Some t c =
    among_some c.args.above c.args.trees.now c.loop-tree.tree-index c.tree-item.result c.in-Some.node c.loop-tree-test.true c.tree-item.is c.loop-tree.invariant c.in-Some.ensures

pub node_among-loop-tree-preserved : goal.node_among-loop-tree-preserved
node_among-loop-tree-preserved t c =
    among_none c.args.above c.args.trees.now c.loop-tree.tree-index c.tree-item.result c.loop-tree-test.true c.tree-item.is c.loop-tree.invariant (sym c.in-None.ensures)
