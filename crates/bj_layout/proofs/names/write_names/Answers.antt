use Rattle.std.proofs.Common.{refl}
use Rattle.bj_layout.proofs.ClassPieces.{wrote_no_names, wrote_names}
use Rattle.bj_layout.proofs.names.write_names.Goals as goal

pub returns-then-is_empty : goal.returns-then-is_empty
returns-then-is_empty c = wrote_no_names c.args.before.now (c.if-is_empty.ensures.0 refl)

pub returns : goal.returns
returns c = wrote_names c.args.before.now c.args.names.now c.if-is_empty.ensures.1 c.in_ok-spaced_keyword.ensures c.in_ok-write_name_list.ensures
