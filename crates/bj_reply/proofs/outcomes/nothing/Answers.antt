use Rattle.bj_reply.proofs.Forms.{said}
use Rattle.bj_reply.proofs.outcomes.nothing.Goals as goal

pub returns : goal.returns
returns c = said _ _ c.replied.result c.new.ensures c.replied.ensures
