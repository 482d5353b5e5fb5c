use Rattle.bj_sum.proofs.CellLaws.{creation_stands, is_creation, call_stands, is_call}
use Rattle.bj_sum.proofs.cells.cells_are_read.Goals as goal

pub returns-clause-creation : goal.returns-clause-creation
returns-clause-creation c = λ text argument. (creation_stands text argument, is_creation text argument)

pub returns-clause-call : goal.returns-clause-call
returns-clause-call c = λ text call. (call_stands text call, is_call text call)
