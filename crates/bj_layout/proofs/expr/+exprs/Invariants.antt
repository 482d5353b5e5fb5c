use Rattle.std.proofs.Common.{[], take, map}
use Rattle.bj_writer.specs.Pieces.{Wrote}
use Rattle.bj_layout.specs.Exprs.{expr_pieces, with_commas, each_behind, in_brackets}
use Rattle.bj_layout.proofs.expr.+exprs.Given as goal

abbrev pub invariant-write_exprs-loop-index : goal.invariant-write_exprs-loop-index
invariant-write_exprs-loop-index l = Wrote l.fn.out l.out (with_commas (map expr_pieces (take l.index l.trees)))

abbrev pub invariant-write_sizes-loop-size : goal.invariant-write_sizes-loop-size
invariant-write_sizes-loop-size l = Wrote l.fn.out l.out (each_behind [] (map in_brackets (map expr_pieces (take l.size-index l.sizes))))
