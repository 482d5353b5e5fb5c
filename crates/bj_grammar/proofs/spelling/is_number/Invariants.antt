use Rattle.std.proofs.Common.{◌≡◌, ◌≤◌, drop, length}
use Rattle.std.specs.Str.{bytes_eq}
use Rattle.bj_grammar.specs.Terminal.{digits}
use Rattle.bj_grammar.proofs.spelling.is_number.Given as goal

abbrev pub invariant-loop-unit : goal.invariant-loop-unit
invariant-loop-unit l = record {
  so_far : bytes_eq (digits l.units) l.word ≡ bytes_eq (digits (drop l.unit-index l.units)) (drop l.matched l.word);
  within : l.matched ≤ length l.word;
}
