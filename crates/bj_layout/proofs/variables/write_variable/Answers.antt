use Rattle.bj_layout.proofs.Writing.{then_wrote}
use Rattle.bj_layout.proofs.variables.write_variable.Goals as goal

pub returns : goal.returns
returns c = then_wrote c.in_ok-word.ensures (then_wrote c.in_ok-write_pairs.ensures c.in_ok-write_initializer.ensures)
