use Rattle.std.proofs.Common.{◌≡◌, drop}
use Rattle.bj_lex.specs.Signs.{is_one_of}
use Rattle.bj_lex.proofs.signs.is_one_of.Given as goal

abbrev pub invariant-loop-sign : goal.invariant-loop-sign
invariant-loop-sign l = is_one_of (drop l.sign-index l.signs) l.unit ≡ is_one_of l.signs l.unit
