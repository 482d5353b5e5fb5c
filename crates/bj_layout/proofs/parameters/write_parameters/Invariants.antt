use Rattle.std.proofs.Common.{take, map}
use Rattle.bj_writer.specs.Pieces.{Wrote}
use Rattle.bj_layout.specs.Exprs.{with_commas}
use Rattle.bj_layout.specs.Classes.{parameter_pieces}
use Rattle.bj_layout.proofs.parameters.write_parameters.Given as goal

abbrev pub invariant-loop-index : goal.invariant-loop-index
invariant-loop-index l = Wrote l.fn.out l.out (with_commas (map parameter_pieces (take l.index l.trees)))
