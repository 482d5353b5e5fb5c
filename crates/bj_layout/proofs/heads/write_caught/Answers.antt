use Rattle.bj_layout.proofs.Writing.{then_wrote}
use Rattle.bj_layout.proofs.heads.write_caught.Goals as goal

pub returns : goal.returns
returns c = then_wrote c.in_ok-write_final.ensures (then_wrote c.in_ok-write_types.ensures (then_wrote c.in_ok-space.ensures c.in_ok-word.ensures))
