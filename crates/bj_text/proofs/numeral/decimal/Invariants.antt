use Rattle.std.proofs.Common.{◌≡◌, take}
use Rattle.bj_text.proofs.numeral.decimal.Given as goal

abbrev pub invariant-loop-byte : goal.invariant-loop-byte
invariant-loop-byte l = l.units ≡ take l.byte-index l.byte-items
