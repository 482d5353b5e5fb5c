use Rattle.std.proofs.Common.{◌∙◌}
use Rattle.bj_reply.proofs.Forms.{said_if_ok}
use Rattle.bj_reply.proofs.outcomes.says_bad.Goals as goal

pub returns : goal.returns
returns c = said_if_ok c.says.result _ _ (c.as_bytes.ensures.value ∙ c.in_ok-text.ensures.ok) c.says.ensures
