-- The bytes so far, with those of the units that are left, are those of all the units.
use Rattle.std.proofs.Common.{◌≡◌, ◌++◌, ◌-◌, length, drop}
use Rattle.bj_text.specs.Utf16.{bytes_of}
use Rattle.bj_text.proofs.utf.to_utf8.Given as goal

abbrev pub invariant-loop-at : goal.invariant-loop-at
invariant-loop-at l = l.bytes ++ bytes_of (drop l.at l.units) ≡ bytes_of l.units

abbrev pub decreases-loop-at : goal.decreases-loop-at
decreases-loop-at l = length l.units - l.at
