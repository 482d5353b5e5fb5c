use Rattle.std.proofs.Common.{ap, ◌∙◌}
use Rattle.bj_session.specs.Session.{Session}
use Rattle.bj_session.proofs.Entries.{goes_noted}
use Rattle.bj_session.proofs.session.Session.close.Goals as goal

pub returns-clause-goes : goal.returns-clause-goes
returns-clause-goes g c =
    rw (← c.self.view_is, c.ending_after-self-inside.ensures)
    (goes_noted _ _ _ _ _ _ (ap (λ (v : Session). v.ending) c.self.view_is ∙ c.requires.live) c.pause-paused.ensures)
