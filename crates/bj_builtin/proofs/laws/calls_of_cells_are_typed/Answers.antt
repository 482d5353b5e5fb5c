use Rattle.bj_builtin.proofs.Typing.{add_typed, get_typed}
use Rattle.bj_builtin.proofs.laws.calls_of_cells_are_typed.Goals as goal

pub returns-clause-adds : goal.returns-clause-adds
returns-clause-adds c = add_typed

pub returns-clause-gets : goal.returns-clause-gets
returns-clause-gets c = get_typed
