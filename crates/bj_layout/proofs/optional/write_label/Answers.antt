use Rattle.std.proofs.Common.{ap}
use Rattle.bj_layout.specs.Stmts.{maybe_label}
use Rattle.bj_layout.proofs.Writing.{then_wrote, nothing_wrote, wrote_as}
use Rattle.bj_layout.proofs.optional.write_label.Goals as goal

pub returns-in_ok-word : goal.returns-in_ok-word
returns-in_ok-word c = wrote_as (ap maybe_label c.in-Some.is) (then_wrote c.in_ok-space.ensures c.in_ok-word.ensures)

pub returns-in_default : goal.returns-in_default
returns-in_default c = wrote_as (ap maybe_label c.in_default.is) nothing_wrote
