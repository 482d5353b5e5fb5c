use Rattle.bj_layout.proofs.Writing.{then_wrote}
use Rattle.bj_layout.proofs.tokens.keyword_before.Goals as goal

pub returns : goal.returns
returns c = then_wrote c.in_ok-keyword.ensures c.in_ok-space.ensures
