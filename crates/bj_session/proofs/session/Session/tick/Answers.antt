use Rattle.bj_session.proofs.Steps.{goes_on}
use Rattle.bj_session.proofs.session.Session.tick.Goals as goal

pub returns-clause-goes : goal.returns-clause-goes
returns-clause-goes g c = goes_on _ _ _ c.step.ensures.goes c.run.ensures.goes
