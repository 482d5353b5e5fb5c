use Rattle.bj_expr_tree.proofs.Sums.{total_step}
use Rattle.bj_tree.specs.Count.{nodes_of_variable}
use Rattle.bj_tree.proofs.count.all_variable_nodes.Goals as goal

pub loop-variable-preserved : goal.loop-variable-preserved
loop-variable-preserved c =
    total_step nodes_of_variable c.args.variables.now c.loop-variable.variable-index c.variable-item.result c.loop-variable.count c.variable_nodes.result c.plus-count.result c.loop-variable-test.true c.variable-item.is
    c.loop-variable.invariant c.variable_nodes.ensures c.plus-count.ensures
