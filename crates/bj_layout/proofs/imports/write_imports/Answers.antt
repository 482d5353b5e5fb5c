use Rattle.std.proofs.Common.{refl}
use Rattle.bj_layout.proofs.ClassPieces.{wrote_no_imports, wrote_imports}
use Rattle.bj_layout.proofs.imports.write_imports.Goals as goal

pub returns-then-is_empty : goal.returns-then-is_empty
returns-then-is_empty c = wrote_no_imports (c.if-is_empty.ensures.0 refl)

pub returns : goal.returns
returns c = wrote_imports c.args.trees.now c.if-is_empty.ensures.1 c.in_ok-write_each_import.ensures c.in_ok-line.ensures
