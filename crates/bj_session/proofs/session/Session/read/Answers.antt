use Rattle.std.proofs.Common.{ap, ◌∙◌}
use Rattle.bj_history.specs.History.{after}
use Rattle.bj_session.specs.Session.{Session}
use Rattle.bj_session.proofs.Steps.{Polls, sound_read, goes_read}
use Rattle.bj_session.proofs.session.Session.read.Goals as goal

pub invariant_of-self : goal.invariant_of-self
invariant_of-self g c =
    let k : Polls c.poll-polled.result c.self.inside.reader c.poll-polled.new.self c.self.inside.desk c.self.inside.ending c.is_too_long-long.result c.is_done-done.result c.is_pad-pad.result = record {
      sound = c.self.invariant;
      was = ap (λ (v : Session). v.ending) c.self.view_is ∙ c.requires.live;
      polled = c.poll-polled.ensures.polled;
      going = ap (λ (v : Session). v.reader.ended) c.self.view_is ∙ c.requires.open;
      closed = ap (λ (v : Session). (after v.desk.opening v.desk.log).wait) c.self.view_is ∙ c.requires.closed;
      long_is = c.is_too_long-long.ensures;
      done_is = c.is_done-done.ensures.done;
      more_is = c.is_done-done.ensures.more;
      pad_is = c.is_pad-pad.ensures;
    } in
    rw c.ending_polled-self-inside.ensures (sound_read _ _ _ _ _ _ _ _ k)

pub returns-clause-goes : goal.returns-clause-goes
returns-clause-goes g c =
    let k : Polls c.poll-polled.result c.self.inside.reader c.poll-polled.new.self c.self.inside.desk c.self.inside.ending c.is_too_long-long.result c.is_done-done.result c.is_pad-pad.result = record {
      sound = c.self.invariant;
      was = ap (λ (v : Session). v.ending) c.self.view_is ∙ c.requires.live;
      polled = c.poll-polled.ensures.polled;
      going = ap (λ (v : Session). v.reader.ended) c.self.view_is ∙ c.requires.open;
      closed = ap (λ (v : Session). (after v.desk.opening v.desk.log).wait) c.self.view_is ∙ c.requires.closed;
      long_is = c.is_too_long-long.ensures;
      done_is = c.is_done-done.ensures.done;
      more_is = c.is_done-done.ensures.more;
      pad_is = c.is_pad-pad.ensures;
    } in
    rw (← c.self.view_is, c.ending_polled-self-inside.ensures) (goes_read _ _ _ _ _ _ _ _ k)
