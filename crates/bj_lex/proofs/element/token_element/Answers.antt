use Rattle.std.proofs.Common.{length, get_or, sym, ap, ◌∙◌, arith}
use Rattle.bj_lex.proofs.Cases.{IsCounted-more, word_case, number_case}
use Rattle.std.proofs.lemmas.List.{length-take-le}
use Rattle.bj_lex.proofs.element.token_element.Goals as goal

pub returns-then-begins_word-clause-value : goal.returns-then-begins_word-clause-value
returns-then-begins_word-clause-value c =
    word_case (get_or c.args.rest.now 0 0) c.args.rest.now c.front_of.result.now c.parts_len-length.result c.word_element.result c.parts_len-length.ensures.value c.parts_len-length.ensures.within c.if-length-eq0.false
    (sym c.begins_word.ensures.value ∙ c.if-begins_word.true) c.front_of.ensures c.word_element.ensures.value

pub returns-then-is_digit_in-clause-within : goal.returns-then-is_digit_in-clause-within
returns-then-is_digit_in-clause-within c =
    IsCounted-more (length c.front_of-then-is_digit_in.result.now) (length c.args.rest.now) c.number_element.result
    (omega (arith, ap length c.front_of-then-is_digit_in.ensures, length-take-le c.parts_len-length.result c.args.rest.now c.parts_len-length.ensures.within, c.parts_len-length.ensures.within))
    c.number_element.ensures.within

pub returns-then-is_digit_in-clause-value : goal.returns-then-is_digit_in-clause-value
returns-then-is_digit_in-clause-value c =
    number_case (get_or c.args.rest.now 0 0) c.args.rest.now c.front_of-then-is_digit_in.result.now c.rest_from.result.now c.parts_len-length.result c.number_element.result c.parts_len-length.ensures.value c.if-length-eq0.false
    (sym c.begins_word.ensures.value ∙ c.if-begins_word.false) (sym c.is_digit_in.ensures ∙ c.if-is_digit_in.true) c.front_of-then-is_digit_in.ensures c.rest_from.ensures c.number_element.ensures.value
