use Rattle.std.proofs.Common.{◌≡◌, ◌≤◌, drop}
use Rattle.bj_text.specs.Numeral.{numeral_up_to}
use Rattle.bj_text.proofs.Numerals.{numeral_after}
use Rattle.bj_text.proofs.numeral.numeral_up_to.Given as goal

abbrev pub invariant-loop-digit : goal.invariant-loop-digit
invariant-loop-digit l = (l.value ≤ l.most) × (numeral_after l.most l.value (drop l.digit-index l.digits) ≡ numeral_up_to l.most l.digits)
