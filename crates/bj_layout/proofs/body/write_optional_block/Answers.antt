use Rattle.std.proofs.Common.{ap}
use Rattle.bj_layout.specs.Classes.{maybe_body}
use Rattle.bj_layout.proofs.Writing.{then_wrote, wrote_as}
use Rattle.bj_layout.proofs.body.write_optional_block.Goals as goal

pub returns-in_ok-write_block-in-Some : goal.returns-in_ok-write_block-in-Some
returns-in_ok-write_block-in-Some c = wrote_as (ap maybe_body c.in-Some.is) (then_wrote c.in_ok-line-in-Some.ensures c.in_ok-write_block-in-Some.ensures)
