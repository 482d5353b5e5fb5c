use Rattle.bj_layout.proofs.Writing.{then_wrote}
use Rattle.bj_layout.proofs.member.write_initializer_block.Goals as goal

pub returns : goal.returns
returns c = then_wrote c.in_ok-write_static_line.ensures c.in_ok-write_block.ensures
