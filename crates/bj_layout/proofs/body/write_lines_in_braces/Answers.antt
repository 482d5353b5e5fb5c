use Rattle.bj_layout.proofs.Writing.{then_wrote}
use Rattle.bj_layout.proofs.body.write_lines_in_braces.Goals as goal

pub returns : goal.returns
returns c = then_wrote c.in_ok-sign.ensures (then_wrote c.in_ok-write_lines.ensures (then_wrote c.in_ok-line.ensures c.in_ok-sign-2.ensures))
