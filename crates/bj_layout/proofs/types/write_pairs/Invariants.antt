use Rattle.bj_writer.specs.Pieces.{Wrote}
use Rattle.bj_layout.specs.Exprs.{pairs}
use Rattle.bj_layout.proofs.types.write_pairs.Given as goal

abbrev pub invariant-loop : goal.invariant-loop
invariant-loop l = Wrote l.fn.out l.out (pairs l.counter)
