use Rattle.std.proofs.Common.{take, map}
use Rattle.bj_writer.specs.Pieces.{Wrote}
use Rattle.bj_layout.specs.Exprs.{separated, type_pieces}
use Rattle.bj_layout.specs.Parts.{bar}
use Rattle.bj_layout.proofs.heads.write_types.Given as goal

abbrev pub invariant-loop-index : goal.invariant-loop-index
invariant-loop-index l = Wrote l.fn.out l.out (separated bar (map type_pieces (take l.index l.types)))
