use Rattle.std.proofs.Common.{take, map}
use Rattle.bj_writer.specs.Pieces.{Wrote}
use Rattle.bj_layout.specs.Exprs.{separated}
use Rattle.bj_layout.specs.Parts.{point}
use Rattle.bj_layout.specs.Classes.{name_piece}
use Rattle.bj_layout.proofs.names.write_with_points.Given as goal

abbrev pub invariant-loop-index : goal.invariant-loop-index
invariant-loop-index l = Wrote l.fn.out l.out (separated point (map name_piece (take l.index l.names)))
