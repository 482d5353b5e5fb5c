use Rattle.std.proofs.Common.{suc, ◌+◌, List, [], ◌∷◌, ◌++◌, None, drop, sym, ap, ◌∙◌}
use Rattle.std.proofs.lemmas.Bool.{ne_eqb}
use Rattle.bj_sum.specs.declared.token.Token.{Token}
use Rattle.bj_sum.specs.Lexical.{token}
use Rattle.bj_sum.specs.Lexing.{tokens_from}
use Rattle.bj_sum.proofs.LexTurns.{digit_more, sign_more}
use Rattle.bj_sum.proofs.lex.tokens_of.Goals as goal

pub loop-index-preserved-then-is_digit : goal.loop-index-preserved-then-is_digit
loop-index-preserved-then-is_digit c = record {
  so_far = digit_more c.args.text.now _ c.loop-index.tokens c.loop-index.numeral c.loop-index.index c.loop-index-test.true c.loop-index.invariant.so_far c.in-Some.more
      (sym c.if-is_digit.ensures) (sym c.in-Some.ensures.value);
  small = c.in-Some.ensures.small;
}

pub loop-index-preserved : goal.loop-index-preserved
loop-index-preserved c = record {
  so_far = sign_more c.args.text.now _ c.loop-index.tokens c.loop-index.numeral c.loop-index.index c.loop-index-test.true c.loop-index.invariant.so_far c.in-Some-sign_of.sort
      (sym c.if-is_digit.ensures) (ne_eqb _ _ c.if-byte-eq32.false) (sym c.if-is_doubled.ensures) (sym c.in-Some-sign_of.ensures)
      ∙ ap (λ (all : List Token). tokens_from all None (suc (c.loop-index.index + 1)) (drop (c.loop-index.index + 1) c.args.text.now))
      (sym (c.in_ok-push.ensures.ok ∙ ap (λ (all : List Token). all ++ token (c.loop-index.index + 1) c.in-Some-sign_of.sort ∷ []) c.in_ok-finish.ensures));
  small = tt;
}
