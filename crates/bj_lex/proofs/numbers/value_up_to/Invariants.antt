use Rattle.std.proofs.Common.{◌≡◌, drop}
use Rattle.bj_lex.specs.Numerals.{value_after}
use Rattle.bj_lex.proofs.numbers.value_up_to.Given as goal

abbrev pub invariant-loop-unit : goal.invariant-loop-unit
invariant-loop-unit l = value_after l.base l.value (drop l.unit-index l.digits) ≡ value_after l.base 0 l.digits
