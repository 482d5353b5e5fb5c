use Rattle.std.proofs.Common.{◌≡◌}
use Rattle.bj_text.specs.Utf16.{utf16_of}
use Rattle.bj_text.proofs.utf.utf16.Given as goal

abbrev pub invariant-loop-c : goal.invariant-loop-c
invariant-loop-c l = l.units ≡ utf16_of l.yielded
