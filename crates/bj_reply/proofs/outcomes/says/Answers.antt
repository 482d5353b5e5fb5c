use Rattle.bj_reply.proofs.Forms.{said}
use Rattle.bj_reply.proofs.outcomes.says.Goals as goal

pub returns : goal.returns
returns c = said _ _ c.replied.result c.in_ok-from_slice.ensures c.replied.ensures
