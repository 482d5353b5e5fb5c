use Rattle.bj_builtin.proofs.Typing.{new_typed}
use Rattle.bj_builtin.proofs.laws.new_cells_are_typed.Goals as goal

pub returns : goal.returns
returns c = new_typed
