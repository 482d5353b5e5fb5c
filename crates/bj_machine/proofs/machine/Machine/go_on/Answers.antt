use Rattle.std.proofs.Common.{◌≡◌, ◌<◌, Some, None, Bool, true, is_some, ap, sym, ◌∙◌, subst}
use Rattle.bj_core.specs.declared.action.Action.{Action}
use Rattle.bj_eval.specs.Allowed.{Allows}
use Rattle.bj_exec.specs.declared.run.Want.TheVariants as want
use Rattle.bj_machine.specs.Shown.{Shown, IsLiving, can_step, end_in, end_of}
use Rattle.bj_machine.proofs.Logs.{entry_after}
use Rattle.bj_machine.proofs.Machines.{stands_main, can_wanted, does_act, sound_acted, end_main}
use Rattle.bj_machine.proofs.machine.Machine.go_on.Goals as goal

pub advance-requires-clause-on : goal.advance-requires-clause-on
advance-requires-clause-on c =
    let v : Shown = record { program = c.self.inside.program; code = c.self.inside.code; limits = c.self.inside.limits; store = c.self.inside.store; log = c.self.inside.log; main = c.self.inside.main; acts = c.self.inside.acts } in
    let s = stands_main v c.self.invariant.world c.in-Some.thread c.in-Some.is c.self.invariant.stands in
    record { limit = v.limits.frames; term = s.0.term; answers = s.0.answers; follows = s.2 }

pub act_on-requires : goal.act_on-requires
act_on-requires c =
    let v : Shown = record { program = c.self.inside.program; code = c.self.inside.code; limits = c.self.inside.limits; store = c.self.inside.store; log = c.self.inside.log; main = c.self.inside.main; acts = c.self.inside.acts } in
    let wants : c.in-Some.thread.run.want ≡ want.Do c.in-Do.action = sym c.want.ensures.is ∙ c.in-Do.is in
    sym (can_wanted v c.in-Some.thread c.in-Do.action c.in-Some.is wants) ∙ (ap (λ (x : Shown). can_step x x.main) c.self.view_is ∙ c.requires.enabled)

pub answer-answered-requires : goal.answer-answered-requires
answer-answered-requires c =
    let v : Shown = record { program = c.self.inside.program; code = c.self.inside.code; limits = c.self.inside.limits; store = c.self.inside.store; log = c.self.inside.log; main = c.self.inside.main; acts = c.self.inside.acts } in
    let wants : c.in-Some.thread.run.want ≡ want.Do c.in-Do.action = sym c.want.ensures.is ∙ c.in-Do.is in
    let goes : end_of v.main ≡ None = rw (← c.self.view_is) at c.requires.goes in
    let n : end_in (Some c.in-Do.action) ≡ None = sym (end_main v.main c.in-Some.thread (want.Do c.in-Do.action) c.in-Some.is wants) ∙ goes in
    let allows = c.answers_are_allowed.ensures v.program v.store _ c.in-Do.action _ c.self.invariant.fields c.self.invariant.store.kept n c.in-Ok-act_on.ensures.ok in
    let s = stands_main v c.self.invariant.world c.in-Some.thread c.in-Some.is c.self.invariant.stands in
    record {
      program = v.program;
      code = v.code;
      on = record { limit = v.limits.frames; term = s.0.term; answers = s.0.answers; follows = s.2 };
      action = c.in-Do.action;
      wants = wants;
      allows = allows;
    }

pub invariant_of-self-in-Do : goal.invariant_of-self-in-Do
invariant_of-self-in-Do c =
    let v : Shown = record { program = c.self.inside.program; code = c.self.inside.code; limits = c.self.inside.limits; store = c.self.inside.store; log = c.self.inside.log; main = c.self.inside.main; acts = c.self.inside.acts } in
    let wants : c.in-Some.thread.run.want ≡ want.Do c.in-Do.action = sym c.want.ensures.is ∙ c.in-Do.is in
    let goes : end_of v.main ≡ None = rw (← c.self.view_is) at c.requires.goes in
    let n : end_in (Some c.in-Do.action) ≡ None = sym (end_main v.main c.in-Some.thread (want.Do c.in-Do.action) c.in-Some.is wants) ∙ goes in
    let allows = c.answers_are_allowed.ensures v.program v.store _ c.in-Do.action _ c.self.invariant.fields c.self.invariant.store.kept n c.in-Ok-act_on.ensures.ok in
    let left : v.acts < v.limits.acts = rw (← c.self.view_is) at c.requires.left in
    let busy : IsLiving v.program v.store true = subst (λ (b : Bool). IsLiving v.program v.store b) (ap is_some c.in-Some.is) c.self.invariant.store in
    let living = c.stores_know_what_lives.ensures.goes v.program v.store _ true c.in-Do.action _ busy n c.in-Ok-act_on.ensures.ok in
    sound_acted v _ _ _ c.self.invariant left living
    (does_act v c.in-Some.thread c.answer-answered.new.self c.in-Do.action c.answer-answered.result _ c.in-Ok-act_on.answer _ _ (record { main = c.in-Some.is; next = c.want.ensures.acts c.in-Do.action c.in-Do.is _ _ _ }) wants n
    c.in-Ok-act_on.ensures.ok left (cc (c.answer-answered.ensures.action, wants)) (entry_after _ _ _ _ _ c.in-Ok-act_on.ensures.log c.keep.ensures)
    (λ term answers f.
    let same : c.answer-answered.result ≡ c.in-Do.action = cc (c.answer-answered.ensures.action, wants) in
    c.answer-answered.ensures.follows v.program v.code v.limits.frames term answers f (subst (λ (a : Action). Allows v.program a c.in-Ok-act_on.answer) (sym same) allows)))

pub returns-in-Ok-act_on-clause-steps : goal.returns-in-Ok-act_on-clause-steps
returns-in-Ok-act_on-clause-steps c =
    let v : Shown = record { program = c.self.inside.program; code = c.self.inside.code; limits = c.self.inside.limits; store = c.self.inside.store; log = c.self.inside.log; main = c.self.inside.main; acts = c.self.inside.acts } in
    let wants : c.in-Some.thread.run.want ≡ want.Do c.in-Do.action = sym c.want.ensures.is ∙ c.in-Do.is in
    let goes : end_of v.main ≡ None = rw (← c.self.view_is) at c.requires.goes in
    let n : end_in (Some c.in-Do.action) ≡ None = sym (end_main v.main c.in-Some.thread (want.Do c.in-Do.action) c.in-Some.is wants) ∙ goes in
    let allows = c.answers_are_allowed.ensures v.program v.store _ c.in-Do.action _ c.self.invariant.fields c.self.invariant.store.kept n c.in-Ok-act_on.ensures.ok in
    let left : v.acts < v.limits.acts = rw (← c.self.view_is) at c.requires.left in
    rw (← c.self.view_is)
    (does_act v c.in-Some.thread c.answer-answered.new.self c.in-Do.action c.answer-answered.result _ c.in-Ok-act_on.answer _ _ (record { main = c.in-Some.is; next = c.want.ensures.acts c.in-Do.action c.in-Do.is _ _ _ }) wants n
    c.in-Ok-act_on.ensures.ok left (cc (c.answer-answered.ensures.action, wants)) (entry_after _ _ _ _ _ c.in-Ok-act_on.ensures.log c.keep.ensures)
    (λ term answers f.
    let same : c.answer-answered.result ≡ c.in-Do.action = cc (c.answer-answered.ensures.action, wants) in
    c.answer-answered.ensures.follows v.program v.code v.limits.frames term answers f (subst (λ (a : Action). Allows v.program a c.in-Ok-act_on.answer) (sym same) allows)))
