use Rattle.std.proofs.Common.{ap}
use Rattle.bj_layout.specs.Classes.{maybe_default}
use Rattle.bj_layout.proofs.Writing.{nothing_wrote, wrote_as}
use Rattle.bj_layout.proofs.member.write_default.Goals as goal

pub returns-in-None : goal.returns-in-None
returns-in-None c = wrote_as (ap maybe_default c.in-None.is) nothing_wrote
