use Rattle.std.proofs.Common.{sym, ◌∙◌, arith}
use Rattle.bj_lex.proofs.Runs.{digits_stop, digits_more, digits_end}
use Rattle.bj_lex.proofs.numbers.digits_len.Goals as goal

pub returns-then-not-is_digit_or_underscore-clause-value : goal.returns-then-not-is_digit_or_underscore-clause-value
returns-then-not-is_digit_or_underscore-clause-value c =
    omega (arith, c.loop-at.invariant, digits_stop c.args.units.now c.loop-at.at c.args.base c.loop-at-test.true (sym c.is_digit_or_underscore.ensures ∙ c.if-not-is_digit_or_underscore.true))

pub loop-at-preserved : goal.loop-at-preserved
loop-at-preserved c =
    omega (arith, c.loop-at.invariant, digits_more c.args.units.now c.loop-at.at c.args.base c.loop-at-test.true (sym c.is_digit_or_underscore.ensures ∙ c.if-not-is_digit_or_underscore.false))

pub returns-clause-value : goal.returns-clause-value
returns-clause-value c =
    omega (arith, c.loop-at.invariant, c.loop-at.auto.at-end, digits_end c.args.units.now c.loop-at.at c.args.base c.loop-at-test.false)
