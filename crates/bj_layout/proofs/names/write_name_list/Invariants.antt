use Rattle.std.proofs.Common.{take, map}
use Rattle.bj_writer.specs.Pieces.{Wrote}
use Rattle.bj_layout.specs.Exprs.{with_commas}
use Rattle.bj_layout.specs.Classes.{name_piece}
use Rattle.bj_layout.proofs.names.write_name_list.Given as goal

abbrev pub invariant-loop-index : goal.invariant-loop-index
invariant-loop-index l = Wrote l.fn.out l.out (with_commas (map name_piece (take l.index l.names)))
