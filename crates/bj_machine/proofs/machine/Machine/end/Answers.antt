use Rattle.std.proofs.Common.{◌≡◌, Some, ap, sym, ◌∙◌}
use Rattle.bj_core.specs.declared.action.Action.TheVariants.{End}
use Rattle.bj_core.specs.declared.action.Done.{Done}
use Rattle.bj_machine.specs.Shown.{Shown}
use Rattle.bj_machine.proofs.Machines.{next_wanted, end_action}
use Rattle.bj_machine.proofs.machine.Machine.end.Goals as goal

pub returns-in-Do-clause-next : goal.returns-in-Do-clause-next
returns-in-Do-clause-next c =
    let v : Shown = record { program = c.self.inside.program; code = c.self.inside.code; limits = c.self.inside.limits; store = c.self.inside.store; log = c.self.inside.log; main = c.self.inside.main; acts = c.self.inside.acts } in
    rw (← c.self.view_is) (λ done is w st. next_wanted v c.in-Some.thread c.in-Do.action _ (record { main = c.in-Some.is; next = c.want.ensures.acts c.in-Do.action c.in-Do.is _ _ _ }) w st ∙ end_action c.in-Do.action done (sym c.end_in.ensures ∙ is))

pub returns-in-Over-clause-next : goal.returns-in-Over-clause-next
returns-in-Over-clause-next c =
    let v : Shown = record { program = c.self.inside.program; code = c.self.inside.code; limits = c.self.inside.limits; store = c.self.inside.store; log = c.self.inside.log; main = c.self.inside.main; acts = c.self.inside.acts } in
    rw (← c.self.view_is) (λ done is w st.
    let same : c.in-Over.done ≡ done = cc in
    next_wanted v c.in-Some.thread _ _ (record { main = c.in-Some.is; next = c.want.ensures.ends c.in-Over.done c.in-Over.is _ _ _ }) w st ∙ ap (λ (d : Done). Some (End d)) same)
