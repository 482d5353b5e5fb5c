use Rattle.std.proofs.Common.{sym, ◌∙◌}
use Rattle.bj_exec.proofs.Steps.{answered_plain, resumed_there}
use Rattle.bj_exec.proofs.answering.settle.Goals as goal

pub resume-requires-clause-goes : goal.resume-requires-clause-goes
resume-requires-clause-goes c =
    resumed_there _ c.args.run.now.below c.requires.goes.0
    (sym (answered_plain c.args.action.now c.args.answer c.args.run.now (sym c.is_raise.ensures ∙ c.if-is_raise.false) (sym c.in-None.ensures)) ∙ c.requires.goes.1)
