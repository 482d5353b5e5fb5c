use Rattle.std.proofs.Common.{◌≡◌, drop}
use Rattle.bj_sum.specs.Cells.{skipped}
use Rattle.bj_sum.proofs.cells.skip_spaces.Given as goal

abbrev pub invariant-loop-index : goal.invariant-loop-index
invariant-loop-index l = skipped l.text ≡ skipped (drop l.index l.text)
