use Rattle.std.proofs.Common.{ap, sym, ◌∙◌}
use Rattle.std.specs.Prelude.{is_some}
use Rattle.bj_machine.specs.Shown.{Shown, can_step}
use Rattle.bj_machine.proofs.Machines.{enabled_wanted, unblocked, can_wanted, is_answered, idle_blocked}
use Rattle.bj_machine.proofs.machine.Machine.can_step.Goals as goal

pub returns-in-None-clause-settled : goal.returns-in-None-clause-settled
returns-in-None-clause-settled c =
    let v : Shown = record { program = c.self.inside.program; code = c.self.inside.code; limits = c.self.inside.limits; store = c.self.inside.store; log = c.self.inside.log; main = c.self.inside.main; acts = c.self.inside.acts } in
    rw (← c.self.view_is) (λ settled w stands. sym (idle_blocked v w c.in-None.is stands))

pub returns-in-Do-clause-can : goal.returns-in-Do-clause-can
returns-in-Do-clause-can c =
    let v : Shown = record { program = c.self.inside.program; code = c.self.inside.code; limits = c.self.inside.limits; store = c.self.inside.store; log = c.self.inside.log; main = c.self.inside.main; acts = c.self.inside.acts } in
    unblocked _ _ _ (c.blocked.ensures v.program) c.is_none.ensures
    ∙ (sym (can_wanted v c.in-Some.thread c.in-Do.action c.in-Some.is (sym c.want.ensures.is ∙ c.in-Do.is)) ∙ ap (λ (x : Shown). can_step x x.main) c.self.view_is)

pub returns-in-Do-clause-settled : goal.returns-in-Do-clause-settled
returns-in-Do-clause-settled c =
    let v : Shown = record { program = c.self.inside.program; code = c.self.inside.code; limits = c.self.inside.limits; store = c.self.inside.store; log = c.self.inside.log; main = c.self.inside.main; acts = c.self.inside.acts } in
    rw (← c.self.view_is) (λ settled w stands.
    unblocked _ _ _ (c.blocked.ensures v.program) c.is_none.ensures ∙ enabled_wanted v c.in-Some.thread c.in-Do.action _ (record { main = c.in-Some.is; next = c.want.ensures.acts c.in-Do.action c.in-Do.is _ _ _ }) w stands)

pub returns-in-Over-clause-settled : goal.returns-in-Over-clause-settled
returns-in-Over-clause-settled c =
    let v : Shown = record { program = c.self.inside.program; code = c.self.inside.code; limits = c.self.inside.limits; store = c.self.inside.store; log = c.self.inside.log; main = c.self.inside.main; acts = c.self.inside.acts } in
    rw (← c.self.view_is) (λ settled w stands.
    let lives = c.self.invariant.store.living ∙ ap is_some c.in-Some.is in
    sym (is_answered _ _ _ (c.ends_are_answered.ensures.always v.program v.store 1 c.in-Over.field-0 lives))
    ∙ enabled_wanted v c.in-Some.thread _ _ (record { main = c.in-Some.is; next = c.want.ensures.ends c.in-Over.field-0 c.in-Over.is _ _ _ }) w stands)
