use Rattle.std.proofs.Common.{◌≡◌, ◌+◌, drop}
use Rattle.bj_lex.specs.Numerals.{digits_len}
use Rattle.bj_lex.proofs.numbers.digits_len.Given as goal

abbrev pub invariant-loop-at : goal.invariant-loop-at
invariant-loop-at l = l.at + digits_len l.base (drop l.at l.units) ≡ digits_len l.base l.units
