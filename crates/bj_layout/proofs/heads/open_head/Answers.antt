use Rattle.bj_layout.proofs.Writing.{then_wrote}
use Rattle.bj_layout.proofs.heads.open_head.Goals as goal

pub returns : goal.returns
returns c = then_wrote c.in_ok-keyword_before.ensures c.in_ok-sign.ensures
