use Rattle.bj_session.proofs.Steps.{goes_on}
use Rattle.bj_session.proofs.session.Session.step.Goals as goal

pub returns-then-is_none-clause-goes : goal.returns-then-is_none-clause-goes
returns-then-is_none-clause-goes g c = goes_on _ _ _ c.answer.ensures.goes (goes_on _ _ _ c.read.ensures.goes c.answer-answered.ensures.goes)
