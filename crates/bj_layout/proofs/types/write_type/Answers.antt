use Rattle.bj_layout.proofs.Writing.{then_wrote}
use Rattle.bj_layout.proofs.types.write_type.Goals as goal

pub returns : goal.returns
returns c = then_wrote c.in_ok-write_type_name.ensures c.in_ok-write_pairs.ensures
