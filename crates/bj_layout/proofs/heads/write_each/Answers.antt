use Rattle.bj_layout.proofs.Writing.{then_wrote}
use Rattle.bj_layout.proofs.heads.write_each.Goals as goal

pub returns : goal.returns
returns c = then_wrote c.in_ok-write_final.ensures (then_wrote c.in_ok-write_type.ensures (then_wrote c.in_ok-space.ensures (then_wrote c.in_ok-word.ensures (then_wrote c.in_ok-spaced_sign.ensures c.in_ok-write_boxed.ensures))))
