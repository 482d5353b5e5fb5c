use Rattle.std.proofs.Common.{sym, subst}
use Rattle.bj_machine.specs.Shown.{Shown}
use Rattle.bj_machine.specs.Reset.{IsBeginning, program_after}
use Rattle.bj_machine.proofs.Resets.{reset_after}
use Rattle.bj_machine.proofs.machine.Machine.reset.Goals as goal

pub begin_anew-requires-clause-made : goal.begin_anew-requires-clause-made
begin_anew-requires-clause-made c =
    (c.args.term, subst (λ (v : Shown). IsBeginning (program_after c.args.next v.program) v.limits c.args.term c.in-Ok.beginning) (sym c.foresee.ensures.same.2) c.in-Ok.ensures.made)

pub returns-in-Ok-clause-reset : goal.returns-in-Ok-clause-reset
returns-in-Ok-clause-reset c =
    reset_after _ _ _ c.args.first c.args.next c.args.term c.foresee.ensures.same
    (c.begin_anew.ensures c.args.term (subst (λ (v : Shown). IsBeginning (program_after c.args.next v.program) v.limits c.args.term c.in-Ok.beginning) (sym c.foresee.ensures.same.2) c.in-Ok.ensures.made))
