use Rattle.std.proofs.Common.{◌≡◌, drop}
use Rattle.bj_sum.specs.Cells.{is_blank}
use Rattle.bj_sum.proofs.cells.is_blank.Given as goal

abbrev pub invariant-loop-byte : goal.invariant-loop-byte
invariant-loop-byte l = is_blank l.text ≡ is_blank (drop l.byte-index l.text)
