use Rattle.bj_layout.proofs.Writing.{then_wrote}
use Rattle.bj_layout.proofs.modifiers.write_prefix.Goals as goal

pub returns : goal.returns
returns c = then_wrote c.in_ok-write_annotations.ensures c.in_ok-write_modifiers.ensures
