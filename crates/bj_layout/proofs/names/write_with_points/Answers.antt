use Rattle.bj_layout.specs.Parts.{point}
use Rattle.bj_layout.specs.Classes.{name_piece}
use Rattle.bj_layout.proofs.Writing.{nothing_wrote, item_at, wrote_separated}
use Rattle.bj_layout.proofs.names.write_with_points.Goals as goal

pub loop-index-init : goal.loop-index-init
loop-index-init c = nothing_wrote

pub loop-index-preserved : goal.loop-index-preserved
loop-index-preserved c =
    wrote_separated point name_piece c.args.names.now c.loop-index.index c.name-item.result (item_at c.as_slice-name-items.ensures c.loop-index-test.true c.name-item.is) c.loop-index.invariant
    c.in_ok-point_before.ensures c.in_ok-word.ensures
