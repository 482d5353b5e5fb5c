use Rattle.bj_session.specs.Session.{Goes, todo}
use Rattle.objectbench.proofs.top.served.Given as goal

abbrev pub invariant-turns : goal.invariant-turns
invariant-turns g l = Goes l.fn.session l.session

abbrev pub decreases-turns : goal.decreases-turns
decreases-turns g l = todo l.session
