use Rattle.bj_layout.proofs.Writing.{then_wrote}
use Rattle.bj_layout.proofs.modifiers.write_annotation.Goals as goal

pub returns : goal.returns
returns c = then_wrote c.in_ok-sign.ensures (then_wrote c.in_ok-word.ensures (then_wrote c.in_ok-write_expected.ensures c.in_ok-line.ensures))
