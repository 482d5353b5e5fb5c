use Rattle.bj_layout.proofs.Writing.{then_wrote}
use Rattle.bj_layout.proofs.heads.write_catch_head.Goals as goal

pub returns : goal.returns
returns c = then_wrote c.in_ok-open_head.ensures (then_wrote c.in_ok-write_caught.ensures c.in_ok-sign.ensures)
