use Rattle.std.proofs.Common.{sym, ap, ◌∙◌}
use Rattle.bj_lex.proofs.Runs.{raised, at_zero, closing_line, closing_mark, closing_more, closing_end}
use Rattle.bj_lex.proofs.literals.closing.Goals as goal

pub returns-then-is_line_end-clause-value : goal.returns-then-is_line_end-clause-value
returns-then-is_line_end-clause-value c =
    sym (ap (raised c.loop-at.at) (closing_line c.args.rest.now c.loop-at.at c.args.mark c.loop-at.escaped c.loop-at-test.true (sym c.is_line_end.ensures ∙ c.if-is_line_end.true)))
    ∙ c.loop-at.invariant

pub returns-then-closes-clause-value : goal.returns-then-closes-clause-value
returns-then-closes-clause-value c =
    at_zero c.loop-at.at ∙ sym (ap (raised c.loop-at.at) (closing_mark c.args.rest.now c.loop-at.at c.args.mark c.loop-at.escaped c.loop-at-test.true
    (sym c.is_line_end.ensures ∙ c.if-is_line_end.false) (sym c.closes.ensures ∙ c.if-closes.true)))
    ∙ c.loop-at.invariant

pub loop-at-preserved : goal.loop-at-preserved
loop-at-preserved c =
    sym (closing_more c.args.rest.now c.loop-at.at c.args.mark c.loop-at.escaped c.escapes-escaped.result c.loop-at-test.true
    (sym c.is_line_end.ensures ∙ c.if-is_line_end.false) (sym c.closes.ensures ∙ c.if-closes.false) c.escapes-escaped.ensures)
    ∙ c.loop-at.invariant

pub returns-clause-value : goal.returns-clause-value
returns-clause-value c =
    sym (ap (raised c.loop-at.at) (closing_end c.args.rest.now c.loop-at.at c.args.mark c.loop-at.escaped c.loop-at-test.false)) ∙ c.loop-at.invariant
