use Rattle.std.proofs.Common.{sym, ◌∙◌, arith}
use Rattle.bj_lex.proofs.DigitValues.{stops, goes_on, within_most, beyond_most}
use Rattle.bj_lex.proofs.Runs.{value_end}
use Rattle.bj_lex.proofs.numbers.value_up_to.Goals as goal

pub returns-in-None : goal.returns-in-None
returns-in-None c =
    stops c.args.base c.args.most c.loop-unit.value c.args.digits.now c.loop-unit.unit-index c.hex_of.result c.loop-unit-test.true c.hex_of.ensures c.loop-unit.invariant (omega arith) (omega arith)
    (sym c.in-None.is ∙ c.with_digit.ensures)

pub loop-unit-preserved : goal.loop-unit-preserved
loop-unit-preserved c =
    goes_on c.args.base c.args.most c.loop-unit.value c.args.digits.now c.loop-unit.unit-index c.hex_of.result c.loop-unit-test.true c.hex_of.ensures c.loop-unit.invariant c.in-Some.next
    (sym c.in-Some.is ∙ c.with_digit.ensures)

pub returns-then-value-most : goal.returns-then-value-most
returns-then-value-most c =
    within_most c.args.base c.args.most c.loop-unit.value c.args.digits.now (sym (value_end c.args.digits.now c.loop-unit.unit-index c.args.base c.loop-unit.value c.loop-unit-test.false) ∙ c.loop-unit.invariant) c.if-value-most.true

pub returns-else-value-most : goal.returns-else-value-most
returns-else-value-most c =
    beyond_most c.args.base c.args.most c.args.digits.now
    (omega (arith, c.if-value-most.false, value_end c.args.digits.now c.loop-unit.unit-index c.args.base c.loop-unit.value c.loop-unit-test.false, c.loop-unit.invariant))
