use Rattle.bj_layout.proofs.Writing.{then_wrote}
use Rattle.bj_layout.proofs.member.write_field.Goals as goal

pub returns : goal.returns
returns c = then_wrote c.in_ok-write_prefix.ensures (then_wrote c.in_ok-write_type.ensures (then_wrote c.in_ok-space.ensures (then_wrote c.in_ok-write_variables.ensures c.in_ok-sign.ensures)))
