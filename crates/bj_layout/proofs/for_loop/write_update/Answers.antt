use Rattle.std.proofs.Common.{refl}
use Rattle.bj_layout.proofs.StmtParts.{wrote_no_update, wrote_update}
use Rattle.bj_layout.proofs.for_loop.write_update.Goals as goal

pub returns-then-is_empty : goal.returns-then-is_empty
returns-then-is_empty c = wrote_no_update (c.if-is_empty.ensures.0 refl)

pub returns : goal.returns
returns c = wrote_update c.args.update.now c.if-is_empty.ensures.1 c.in_ok-space.ensures c.in_ok-write_exprs.ensures
