use Rattle.std.proofs.Common.{◌<◌, ap, ◌∙◌, sym, subst}
use Rattle.bj_history.specs.History.{after}
use Rattle.bj_command.specs.Words.{is_quit}
use Rattle.bj_session.specs.Session.{Session, todo}
use Rattle.bj_session.proofs.Answering.{may_take, Lined, GoesOn, Followed, quits_not, may_pause, sound_lined, goes_lined, sound_followed, goes_followed, falls_followed}
use Rattle.bj_session.proofs.session.Session.answer.Goals as goal

pub line-sent-requires : goal.line-sent-requires
line-sent-requires g c =
    may_take (record { reader = c.self.inside.reader; desk = c.self.inside.desk; ending = c.self.inside.ending })
    (c.self.invariant.live (ap (λ (v : Session). v.ending) c.self.view_is ∙ c.requires.live))
    (ap (λ (v : Session). (after v.desk.opening v.desk.log).wait) c.self.view_is ∙ c.requires.closed)

pub invariant_of-self-then-ends_at : goal.invariant_of-self-then-ends_at
invariant_of-self-then-ends_at g c =
    let k : Lined c.line-sent.result c.in-Line.bytes c.self.inside.reader c.take_line.new.self c.self.inside.desk c.line-sent.new.self c.self.inside.ending = record {
      sound = c.self.invariant;
      was = ap (λ (v : Session). v.ending) c.self.view_is ∙ c.requires.live;
      closed = ap (λ (v : Session). (after v.desk.opening v.desk.log).wait) c.self.view_is ∙ c.requires.closed;
      takes = c.in-Line.ensures.taken;
      lined = c.line-sent.ensures;
    } in
    rw c.ending_lined-self-inside.ensures (sound_lined _ c.is_quit-quit.result _ _ _ _ _ _ k (sym c.ends_at.ensures ∙ c.if-ends_at.true) (c.is_quit-quit.ensures ∙ ap is_quit c.as_slice.ensures))

pub returns-then-ends_at-clause-goes : goal.returns-then-ends_at-clause-goes
returns-then-ends_at-clause-goes g c =
    let k : Lined c.line-sent.result c.in-Line.bytes c.self.inside.reader c.take_line.new.self c.self.inside.desk c.line-sent.new.self c.self.inside.ending = record {
      sound = c.self.invariant;
      was = ap (λ (v : Session). v.ending) c.self.view_is ∙ c.requires.live;
      closed = ap (λ (v : Session). (after v.desk.opening v.desk.log).wait) c.self.view_is ∙ c.requires.closed;
      takes = c.in-Line.ensures.taken;
      lined = c.line-sent.ensures;
    } in
    rw (← c.self.view_is, c.ending_lined-self-inside.ensures) (goes_lined _ _ _ _ _ _ _ k)

pub follow-followed-requires : goal.follow-followed-requires
follow-followed-requires g c =
    let k : GoesOn c.line-sent.result c.is_quit-quit.result c.in-Line.bytes c.self.inside.reader c.take_line.new.self c.self.inside.desk c.line-sent.new.self c.self.inside.ending = record {
      lined = record {
        sound = c.self.invariant;
        was = ap (λ (v : Session). v.ending) c.self.view_is ∙ c.requires.live;
        closed = ap (λ (v : Session). (after v.desk.opening v.desk.log).wait) c.self.view_is ∙ c.requires.closed;
        takes = c.in-Line.ensures.taken;
        lined = c.line-sent.ensures;
      };
      ends = sym c.ends_at.ensures ∙ c.if-ends_at.false;
      quit_is = c.is_quit-quit.ensures ∙ ap is_quit c.as_slice.ensures;
    } in
    record { goes_on = quits_not _ _ _ _ _ _ _ _ k; due = may_pause _ _ _ _ _ _ _ _ k }

pub invariant_of-self-2 : goal.invariant_of-self-2
invariant_of-self-2 g c =
    let k : Followed c.follow-followed.result c.line-sent.result c.is_quit-quit.result c.in-Line.bytes c.self.inside.reader c.take_line.new.self c.self.inside.desk c.line-sent.new.self c.follow-followed.new.self c.self.inside.ending = record {
      going = record {
        lined = record {
          sound = c.self.invariant;
          was = ap (λ (v : Session). v.ending) c.self.view_is ∙ c.requires.live;
          closed = ap (λ (v : Session). (after v.desk.opening v.desk.log).wait) c.self.view_is ∙ c.requires.closed;
          takes = c.in-Line.ensures.taken;
          lined = c.line-sent.ensures;
        };
        ends = sym c.ends_at.ensures ∙ c.if-ends_at.false;
        quit_is = c.is_quit-quit.ensures ∙ ap is_quit c.as_slice.ensures;
      };
      follows = c.follow-followed.ensures;
    } in
    rw c.ending_after-self-inside.ensures (sound_followed _ _ _ _ _ _ _ _ _ _ k)

pub returns-clause-goes : goal.returns-clause-goes
returns-clause-goes g c =
    let k : Followed c.follow-followed.result c.line-sent.result c.is_quit-quit.result c.in-Line.bytes c.self.inside.reader c.take_line.new.self c.self.inside.desk c.line-sent.new.self c.follow-followed.new.self c.self.inside.ending = record {
      going = record {
        lined = record {
          sound = c.self.invariant;
          was = ap (λ (v : Session). v.ending) c.self.view_is ∙ c.requires.live;
          closed = ap (λ (v : Session). (after v.desk.opening v.desk.log).wait) c.self.view_is ∙ c.requires.closed;
          takes = c.in-Line.ensures.taken;
          lined = c.line-sent.ensures;
        };
        ends = sym c.ends_at.ensures ∙ c.if-ends_at.false;
        quit_is = c.is_quit-quit.ensures ∙ ap is_quit c.as_slice.ensures;
      };
      follows = c.follow-followed.ensures;
    } in
    rw (← c.self.view_is, c.ending_after-self-inside.ensures) (goes_followed _ _ _ _ _ _ _ _ _ _ k)

pub returns-clause-took : goal.returns-clause-took
returns-clause-took g c =
    let k : Followed c.follow-followed.result c.line-sent.result c.is_quit-quit.result c.in-Line.bytes c.self.inside.reader c.take_line.new.self c.self.inside.desk c.line-sent.new.self c.follow-followed.new.self c.self.inside.ending = record {
      going = record {
        lined = record {
          sound = c.self.invariant;
          was = ap (λ (v : Session). v.ending) c.self.view_is ∙ c.requires.live;
          closed = ap (λ (v : Session). (after v.desk.opening v.desk.log).wait) c.self.view_is ∙ c.requires.closed;
          takes = c.in-Line.ensures.taken;
          lined = c.line-sent.ensures;
        };
        ends = sym c.ends_at.ensures ∙ c.if-ends_at.false;
        quit_is = c.is_quit-quit.ensures ∙ ap is_quit c.as_slice.ensures;
      };
      follows = c.follow-followed.ensures;
    } in
    λ yes none. subst (λ (v : Session). todo (record { reader = c.take_line.new.self; desk = c.follow-followed.new.self; ending = c.ending_after-self-inside.result }) < todo v) c.self.view_is
    (falls_followed _ _ _ _ _ _ _ _ _ _ k (sym c.ending_after-self-inside.ensures ∙ none))
