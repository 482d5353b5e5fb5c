use Rattle.bj_layout.proofs.Writing.{then_wrote}
use Rattle.bj_layout.proofs.tokens.spaced_sign.Goals as goal

pub returns : goal.returns
returns c = then_wrote c.in_ok-space.ensures (then_wrote c.in_ok-sign.ensures c.in_ok-space-2.ensures)
