use Rattle.bj_layout.proofs.Writing.{then_wrote}
use Rattle.bj_layout.proofs.parameters.write_formals.Goals as goal

pub returns : goal.returns
returns c = then_wrote c.in_ok-sign.ensures (then_wrote c.in_ok-write_parameters.ensures c.in_ok-sign-2.ensures)
