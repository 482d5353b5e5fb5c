use Rattle.std.proofs.Common.{◌≡◌, ◌+◌, drop}
use Rattle.bj_sum.specs.Cells.{letters_of}
use Rattle.bj_sum.proofs.cells.letters_of.Given as goal

abbrev pub invariant-loop-index : goal.invariant-loop-index
invariant-loop-index l = letters_of l.text ≡ l.index + letters_of (drop l.index l.text)
