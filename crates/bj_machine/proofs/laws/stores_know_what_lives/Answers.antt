use Rattle.std.proofs.Common.{sym, subst, false}
use Rattle.bj_store.specs.State.{State}
use Rattle.bj_machine.specs.Shown.{IsLiving}
use Rattle.bj_machine.proofs.Living.{living_so, living_on, is_no_end}
use Rattle.bj_machine.proofs.laws.stores_know_what_lives.Goals as goal

pub returns-clause-begins : goal.returns-clause-begins
returns-clause-begins c p s b h = living_so p s b _ h (c.kept_states_stay_kept.ensures.lives p s 1 _ h.kept)

pub returns-clause-goes : goal.returns-clause-goes
returns-clause-goes c p s t b a x h n e = living_on p s t b h (c.kept_states_stay_kept.ensures.acts p s t 1 a x h.kept e) (c.threads_stay.ensures p s t 1 a x (is_no_end a n) e)

pub returns-clause-ends : goal.returns-clause-ends
returns-clause-ends c p s t b done x h e =
    subst (λ (u : State). IsLiving p u false) (sym (c.ends_are_answered.ensures.only p s t 1 done x e).1) (living_so p s b false h (c.kept_states_stay_kept.ensures.lives p s 1 false h.kept))
