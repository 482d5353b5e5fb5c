use Rattle.bj_machine.proofs.Logs.{kept_rows}
use Rattle.bj_machine.proofs.log.Log.push.Goals as goal

pub returns-in-Err-clause-err : goal.returns-in-Err-clause-err
returns-in-Err-clause-err c = kept_rows _ _ _ _ _ _ _ c.self.view_is c.in-Err.ensures.items c.in-Err.ensures.len c.in-Err.ensures.capacity
