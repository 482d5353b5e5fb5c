use Rattle.std.proofs.Common.{ap}
use Rattle.bj_layout.specs.Classes.{maybe_static}
use Rattle.bj_layout.proofs.Writing.{nothing_wrote, then_wrote, wrote_as}
use Rattle.bj_layout.proofs.member.write_static_line.Goals as goal

pub returns-in_ok-line : goal.returns-in_ok-line
returns-in_ok-line c = wrote_as (ap maybe_static c.if-is_static.true) (then_wrote c.in_ok-keyword.ensures c.in_ok-line.ensures)

pub returns-else-is_static : goal.returns-else-is_static
returns-else-is_static c = wrote_as (ap maybe_static c.if-is_static.false) nothing_wrote
