use Rattle.std.proofs.Common.{◌≡◌, drop, map}
use Rattle.bj_rules.specs.Words.{is_one_of}
use Rattle.bj_rules.proofs.words.is_one_of.Given as goal

abbrev pub invariant-loop-word : goal.invariant-loop-word
invariant-loop-word l = is_one_of (map (λ word. word.now) l.words) l.units ≡ is_one_of (map (λ word. word.now) (drop l.word-index l.words)) l.units
