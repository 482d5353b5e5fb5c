use Rattle.bj_layout.proofs.Writing.{then_wrote}
use Rattle.bj_layout.proofs.imports.write_import.Goals as goal

pub returns : goal.returns
returns c = then_wrote c.in_ok-keyword_before.ensures (then_wrote c.in_ok-write_static.ensures (then_wrote c.in_ok-write_with_points.ensures (then_wrote c.in_ok-write_on_demand.ensures (then_wrote c.in_ok-sign.ensures c.in_ok-line.ensures))))
