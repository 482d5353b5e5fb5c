use Rattle.bj_layout.specs.Exprs.{type_pieces}
use Rattle.bj_layout.specs.Parts.{bar}
use Rattle.bj_layout.proofs.Writing.{nothing_wrote, item_at, wrote_separated}
use Rattle.bj_layout.proofs.heads.write_types.Goals as goal

pub loop-index-init : goal.loop-index-init
loop-index-init c = nothing_wrote

pub loop-index-preserved : goal.loop-index-preserved
loop-index-preserved c =
    wrote_separated bar type_pieces c.args.types.now c.loop-index.index c.tree-item.result (item_at c.as_slice-tree-items.ensures c.loop-index-test.true c.tree-item.is) c.loop-index.invariant
    c.in_ok-bar_before.ensures c.in_ok-write_type.ensures
