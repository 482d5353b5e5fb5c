use Rattle.bj_machine.proofs.Logs.{kept_rows}
use Rattle.bj_machine.proofs.log.Log.reserve.Goals as goal

pub returns-clause-same : goal.returns-clause-same
returns-clause-same c = kept_rows _ _ _ _ _ _ _ c.self.view_is c.reserve.ensures.items c.reserve.ensures.len c.reserve.ensures.capacity
