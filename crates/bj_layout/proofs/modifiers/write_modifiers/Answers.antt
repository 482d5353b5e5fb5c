use Rattle.std.proofs.Common.{[]}
use Rattle.bj_layout.specs.Classes.{modifier_pieces}
use Rattle.bj_layout.proofs.Writing.{nothing_wrote, item_got, wrote_behind}
use Rattle.bj_layout.proofs.modifiers.write_modifiers.Goals as goal

pub loop-modifier-init : goal.loop-modifier-init
loop-modifier-init c = nothing_wrote

pub loop-modifier-preserved : goal.loop-modifier-preserved
loop-modifier-preserved c =
    wrote_behind [] modifier_pieces c.args.modifiers.now c.loop-modifier.modifier-index _ (item_got _ c.as_slice-modifier-items.ensures c.loop-modifier-test.true) c.loop-modifier.invariant c.in_ok-write_modifier.ensures
