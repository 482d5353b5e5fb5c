use Rattle.bj_layout.proofs.Writing.{then_wrote}
use Rattle.bj_layout.proofs.class.write_class.Goals as goal

pub returns : goal.returns
returns c = then_wrote c.in_ok-write_imports.ensures (then_wrote c.in_ok-write_class_head.ensures (then_wrote c.in_ok-sign.ensures (then_wrote c.in_ok-write_members.ensures (then_wrote c.in_ok-line.ensures (then_wrote c.in_ok-sign-2.ensures c.in_ok-line-2.ensures)))))
