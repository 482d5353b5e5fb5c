use Rattle.std.proofs.Common.{◌∙◌, ◌+◌, sym, refl, arith}
use Rattle.bj_grammar.specs.declared.terminal.Terminal.TheVariants as t
use Rattle.bj_grammar.specs.Given.{text_of}
use Rattle.bj_grammar.proofs.TextLemmas.{not_at_end}
use Rattle.bj_expr.proofs.CastTokens.{cast_end, cast_primitive, cast_no_word, cast_close, cast_no_bracket, cast_bracket}
use Rattle.bj_expr.proofs.types.is_cast.Goals as goal

pub returns-then-at-tokens : goal.returns-then-at-tokens
returns-then-at-tokens c = cast_end (text_of c.args.tokens.now) c.args.at _ refl (not_at_end c.args.tokens.now c.args.at t.LeftParen (omega arith) (λ e. cc))

pub returns-then-not-sees : goal.returns-then-not-sees
returns-then-not-sees c = cast_end (text_of c.args.tokens.now) c.args.at _ refl (sym c.sees.ensures ∙ c.if-not-sees.true)

pub returns-then-is_primitive : goal.returns-then-is_primitive
returns-then-is_primitive c = cast_primitive (text_of c.args.tokens.now) c.args.at (c.args.at + 1) (c.args.at + 2) (c.args.at + 3) (omega arith) (omega arith) (omega arith) (sym c.sees.ensures ∙ c.if-not-sees.false) _ refl
    (sym c.is_primitive.ensures ∙ c.if-is_primitive.true)

pub returns-then-not-sees-2 : goal.returns-then-not-sees-2
returns-then-not-sees-2 c = cast_no_word (text_of c.args.tokens.now) c.args.at (c.args.at + 1) (c.args.at + 2) (c.args.at + 3) (omega arith) (omega arith) (omega arith) (sym c.sees.ensures ∙ c.if-not-sees.false) _ refl
    (sym c.is_primitive.ensures ∙ c.if-is_primitive.false) (sym c.sees-2.ensures ∙ c.if-not-sees-2.true)

pub returns-then-sees : goal.returns-then-sees
returns-then-sees c = cast_close (text_of c.args.tokens.now) c.args.at (c.args.at + 1) (c.args.at + 2) (c.args.at + 3) (omega arith) (omega arith) (omega arith) (sym c.sees.ensures ∙ c.if-not-sees.false) _
    c.begins_plain.ensures
    (sym c.is_primitive.ensures ∙ c.if-is_primitive.false) (sym c.sees-2.ensures ∙ c.if-not-sees-2.false) (sym c.sees-3.ensures ∙ c.if-sees.true)

pub returns-then-not-sees-3 : goal.returns-then-not-sees-3
returns-then-not-sees-3 c = cast_no_bracket (text_of c.args.tokens.now) c.args.at (c.args.at + 1) (c.args.at + 2) (c.args.at + 3) (omega arith) (omega arith) (omega arith) (sym c.sees.ensures ∙ c.if-not-sees.false) _ refl
    (sym c.is_primitive.ensures ∙ c.if-is_primitive.false) (sym c.sees-2.ensures ∙ c.if-not-sees-2.false) (sym c.sees-3.ensures ∙ c.if-sees.false) (sym c.sees-4.ensures ∙ c.if-not-sees-3.true)

pub returns : goal.returns
returns c = cast_bracket (text_of c.args.tokens.now) c.args.at (c.args.at + 1) (c.args.at + 2) (c.args.at + 3) (omega arith) (omega arith) (omega arith) (sym c.sees.ensures ∙ c.if-not-sees.false) _ c.sees-5.ensures
    (sym c.is_primitive.ensures ∙ c.if-is_primitive.false) (sym c.sees-2.ensures ∙ c.if-not-sees-2.false) (sym c.sees-3.ensures ∙ c.if-sees.false) (sym c.sees-4.ensures ∙ c.if-not-sees-3.false)
