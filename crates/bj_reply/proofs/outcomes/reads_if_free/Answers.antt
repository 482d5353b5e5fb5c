use Rattle.std.proofs.Common.{sym, ◌∙◌}
use Rattle.bj_reply.proofs.Forms.{any_from, when_busy, when_free}
use Rattle.bj_reply.proofs.outcomes.reads_if_free.Goals as goal

pub returns-then-is_busy : goal.returns-then-is_busy
returns-then-is_busy c = any_from c.says.result c.args.machine.now _ _ c.says.ensures (λ s stands. when_busy s.world _ (sym (c.is_busy.ensures s.world stands) ∙ c.if-is_busy.true))

pub returns : goal.returns
returns c = any_from c.reads.result c.args.machine.now _ _ c.reads.ensures (λ s stands. when_free s.world _ (sym (c.is_busy.ensures s.world stands) ∙ c.if-is_busy.false))
