use Rattle.std.proofs.Common.{ap}
use Rattle.bj_layout.specs.Stmts.{maybe_final}
use Rattle.bj_layout.proofs.Writing.{nothing_wrote, wrote_as}
use Rattle.bj_layout.proofs.optional.write_final.Goals as goal

pub returns : goal.returns
returns c = wrote_as (ap maybe_final c.if-is_final.false) nothing_wrote
