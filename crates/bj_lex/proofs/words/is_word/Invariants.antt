use Rattle.std.proofs.Common.{◌≡◌, drop, bytes_eq}
use Rattle.bj_lex.proofs.words.is_word.Given as goal

abbrev pub invariant-loop-at : goal.invariant-loop-at
invariant-loop-at l = bytes_eq (drop l.at l.units) (drop l.at l.word) ≡ bytes_eq l.units l.word
