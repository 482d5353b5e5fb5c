use Rattle.std.proofs.lemmas.Result.{IfOk-weaker}
use Rattle.bj_machine.proofs.machine.Machine.prepare.Goals as goal

pub returns : goal.returns
returns c = rw (← c.self.view_is) (IfOk-weaker c.start.result _ _ (λ thread ready. ready c.self.inside.code c.self.invariant.is_code) c.start.ensures)
