use Rattle.bj_layout.proofs.Writing.{then_wrote}
use Rattle.bj_layout.proofs.member.write_constructor.Goals as goal

pub returns : goal.returns
returns c = then_wrote c.in_ok-write_prefix.ensures (then_wrote c.in_ok-word.ensures (then_wrote c.in_ok-write_formals.ensures (then_wrote c.in_ok-write_names.ensures (then_wrote c.in_ok-line.ensures c.in_ok-write_block.ensures))))
