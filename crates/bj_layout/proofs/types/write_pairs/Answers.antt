use Rattle.bj_layout.proofs.Writing.{nothing_wrote, wrote_pair}
use Rattle.bj_layout.proofs.types.write_pairs.Goals as goal

pub loop-init : goal.loop-init
loop-init c = nothing_wrote

pub loop-preserved : goal.loop-preserved
loop-preserved c = wrote_pair c.loop.counter c.loop.invariant c.in_ok-sign.ensures c.in_ok-sign-2.ensures
