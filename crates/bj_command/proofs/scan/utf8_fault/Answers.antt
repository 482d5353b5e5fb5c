use Rattle.bj_command.proofs.Utf8.{no_fault, fault_at}
use Rattle.bj_command.proofs.scan.utf8_fault.Goals as goal

pub returns-in-Ok : goal.returns-in-Ok
returns-in-Ok c = record { fault = no_fault c.args.line.now c.in-Ok.ensures.cases.1 }

pub returns-in-Err : goal.returns-in-Err
returns-in-Err c = record { fault = rw (c.valid_up_to.ensures, c.in-Err.ensures.valid_len) (fault_at c.args.line.now c.in-Err.ensures.cases.0) }
