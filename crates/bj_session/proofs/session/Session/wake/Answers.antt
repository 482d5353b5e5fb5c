use Rattle.std.proofs.Common.{ap, sym, ◌∙◌, subst}
use Rattle.bj_history.specs.History.{Wakes}
use Rattle.bj_session.specs.Desk.{world_of}
use Rattle.bj_session.specs.Session.{Session}
use Rattle.bj_session.proofs.Entries.{Wakens, may_wake, sound_wake, goes_wake}
use Rattle.bj_session.proofs.session.Session.wake.Goals as goal

pub invariant_of-self : goal.invariant_of-self
invariant_of-self g c =
    let k : Wakens c.wake-sent.result c.args.reason c.self.inside.reader c.self.inside.desk c.wake-sent.new.self c.self.inside.ending c.is_last-last.result c.is_over-over.result = record {
      sound = c.self.invariant;
      was = ap (λ (v : Session). v.ending) c.self.view_is ∙ c.requires.live;
      noted = c.wake-sent.ensures;
      opened = rw (← c.self.view_is) at c.requires.open;
      wakes = subst (λ (v : Session). Wakes v.desk.opening (world_of v.desk) c.args.reason) (sym c.self.view_is) c.requires.wakes;
      last_is = c.is_last-last.ensures;
      over_is = c.is_over-over.ensures.over;
      more_is = c.is_over-over.ensures.more;
    } in
    rw c.ending_woken-self-inside.ensures (sound_wake _ _ _ _ _ _ _ _ k)

pub returns-clause-goes : goal.returns-clause-goes
returns-clause-goes g c =
    let k : Wakens c.wake-sent.result c.args.reason c.self.inside.reader c.self.inside.desk c.wake-sent.new.self c.self.inside.ending c.is_last-last.result c.is_over-over.result = record {
      sound = c.self.invariant;
      was = ap (λ (v : Session). v.ending) c.self.view_is ∙ c.requires.live;
      noted = c.wake-sent.ensures;
      opened = rw (← c.self.view_is) at c.requires.open;
      wakes = subst (λ (v : Session). Wakes v.desk.opening (world_of v.desk) c.args.reason) (sym c.self.view_is) c.requires.wakes;
      last_is = c.is_last-last.ensures;
      over_is = c.is_over-over.ensures.over;
      more_is = c.is_over-over.ensures.more;
    } in
    rw (← c.self.view_is, c.ending_woken-self-inside.ensures) (goes_wake _ _ _ _ _ _ _ _ k)

pub wake-sent-requires : goal.wake-sent-requires
wake-sent-requires g c =
    may_wake c.self.inside.reader c.self.inside.desk c.self.inside.ending c.args.reason c.self.invariant (ap (λ (v : Session). v.ending) c.self.view_is ∙ c.requires.live) (rw (← c.self.view_is) at c.requires.open)
    (subst (λ (v : Session). Wakes v.desk.opening (world_of v.desk) c.args.reason) (sym c.self.view_is) c.requires.wakes)
