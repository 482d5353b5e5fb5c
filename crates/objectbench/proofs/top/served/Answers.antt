use Rattle.bj_session.proofs.Steps.{goes_on}
use Rattle.objectbench.proofs.top.served.Goals as goal

pub turns-preserved : goal.turns-preserved
turns-preserved g c = goes_on _ _ _ c.turns.invariant c.tick.ensures.goes

pub returns-in-Over-clause-goes : goal.returns-in-Over-clause-goes
returns-in-Over-clause-goes g c = goes_on _ _ _ c.turns.invariant c.tick.ensures.goes
