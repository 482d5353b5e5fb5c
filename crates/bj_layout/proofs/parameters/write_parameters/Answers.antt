use Rattle.bj_layout.specs.Exprs.{comma}
use Rattle.bj_layout.specs.Classes.{parameter_pieces}
use Rattle.bj_layout.proofs.Writing.{nothing_wrote, item_at, wrote_separated}
use Rattle.bj_layout.proofs.parameters.write_parameters.Goals as goal

pub loop-index-init : goal.loop-index-init
loop-index-init c = nothing_wrote

pub loop-index-preserved : goal.loop-index-preserved
loop-index-preserved c =
    wrote_separated comma parameter_pieces c.args.trees.now c.loop-index.index c.tree-item.result (item_at c.as_slice-tree-items.ensures c.loop-index-test.true c.tree-item.is) c.loop-index.invariant
    c.in_ok-comma_before.ensures c.in_ok-write_parameter.ensures
