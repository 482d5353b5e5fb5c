use Rattle.std.proofs.Common.{sym, ◌∙◌, arith}
use Rattle.bj_lex.proofs.Runs.{line_stop, line_more, line_end}
use Rattle.bj_lex.proofs.comments.line_len.Goals as goal

pub returns-then-is_line_end-clause-value : goal.returns-then-is_line_end-clause-value
returns-then-is_line_end-clause-value c =
    omega (arith, c.loop-at.invariant, line_stop c.args.rest.now c.loop-at.at c.loop-at-test.true (sym c.is_line_end.ensures ∙ c.if-is_line_end.true))

pub loop-at-preserved : goal.loop-at-preserved
loop-at-preserved c =
    omega (arith, c.loop-at.invariant, line_more c.args.rest.now c.loop-at.at c.loop-at-test.true (sym c.is_line_end.ensures ∙ c.if-is_line_end.false))

pub returns-clause-value : goal.returns-clause-value
returns-clause-value c = omega (arith, c.loop-at.invariant, c.loop-at.auto.at-end, line_end c.args.rest.now c.loop-at.at c.loop-at-test.false)
