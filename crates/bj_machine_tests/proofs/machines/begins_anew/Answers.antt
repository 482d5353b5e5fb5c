use Rattle.std.proofs.Common.{ap}
use Rattle.bj_machine.specs.Shown.{Shown}
use Rattle.bj_machine_tests.proofs.machines.begins_anew.Goals as goal

pub returns-in-Ok : goal.returns-in-Ok
returns-in-Ok c = c.in-Ok.ensures.reset.program

pub returns-in-Err : goal.returns-in-Err
returns-in-Err c = ap (λ (v : Shown). v.program) c.in-Err.ensures.err.2
