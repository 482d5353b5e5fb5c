use Rattle.std.proofs.Common.{◌≡◌, suc, drop}
use Rattle.bj_sum.specs.Lexing.{tokens_of, tokens_from, IsSmall}
use Rattle.bj_sum.proofs.lex.tokens_of.Given as goal

abbrev pub invariant-loop-index : goal.invariant-loop-index
invariant-loop-index l = record {
  so_far : tokens_of l.text ≡ tokens_from l.tokens l.numeral (suc l.index) (drop l.index l.text);
  small : IsSmall l.numeral;
}
