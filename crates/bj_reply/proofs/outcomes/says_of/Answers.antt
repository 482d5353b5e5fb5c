use Rattle.std.proofs.Common.{◌++◌, ap, ◌∙◌}
use Rattle.bj_reply.proofs.Forms.{said}
use Rattle.bj_reply.proofs.outcomes.says_of.Goals as goal

pub returns : goal.returns
returns c = said _ _ c.replied.result (c.in_ok-extend.ensures.ok ∙ ap (λ bs. bs ++ c.args.name.now) c.in_ok-reply.ensures) c.replied.ensures
