use Rattle.bj_layout.proofs.Writing.{then_wrote}
use Rattle.bj_layout.proofs.class.write_class_head.Goals as goal

pub returns : goal.returns
returns c = then_wrote c.in_ok-write_prefix.ensures (then_wrote c.in_ok-write_kind.ensures (then_wrote c.in_ok-word.ensures (then_wrote c.in_ok-write_super.ensures (then_wrote c.in_ok-write_interfaces.ensures c.in_ok-line.ensures))))
