use Rattle.std.proofs.Common.{ap}
use Rattle.bj_layout.specs.Stmts.{maybe_init}
use Rattle.bj_layout.proofs.Writing.{then_wrote, nothing_wrote, wrote_as}
use Rattle.bj_layout.proofs.optional.write_initializer.Goals as goal

pub returns-in_ok-write_boxed : goal.returns-in_ok-write_boxed
returns-in_ok-write_boxed c = wrote_as (ap maybe_init c.in-Some.is) (then_wrote c.in_ok-spaced_sign.ensures c.in_ok-write_boxed.ensures)

pub returns-in_default : goal.returns-in_default
returns-in_default c = wrote_as (ap maybe_init c.in_default.is) nothing_wrote
