use Rattle.std.proofs.Common.{◌≤◌, length, length-drop, drop, sym, ap, ◌∙◌, arith}
use Rattle.bj_lex.specs.Characters.{begins_part, front_width}
use Rattle.bj_lex.proofs.Runs.{parts_stop, parts_more_at, parts_end}
use Rattle.bj_lex.proofs.characters.parts_len.Goals as goal

pub returns-then-not-begins_part-clause-value : goal.returns-then-not-begins_part-clause-value
returns-then-not-begins_part-clause-value c =
    let stop = ap begins_part (sym c.rest_from-front.ensures) ∙ sym c.begins_part.ensures ∙ c.if-not-begins_part.true in
    omega (arith, c.loop-at.invariant.1, parts_stop (drop c.loop-at.at c.args.rest.now) stop)

pub loop-at-preserved : goal.loop-at-preserved
loop-at-preserved c =
    let us = c.args.rest.now in
    let at = c.loop-at.at in
    let front = c.rest_from-front.ensures in
    let go = ap begins_part (sym front) ∙ sym c.begins_part.ensures ∙ c.if-not-begins_part.false in
    let width = c.front_width-at.ensures.value ∙ ap front_width front in
    let fits : c.front_width-at.result ≤ length (drop at us) = omega (arith, c.front_width-at.ensures.within, ap length front) in
    (omega (arith, fits, length-drop at us, c.loop-at-test.true), sym (parts_more_at us at c.front_width-at.result go width c.front_width-at.ensures.positive fits) ∙ c.loop-at.invariant.1)

pub returns-clause-value : goal.returns-clause-value
returns-clause-value c = omega (arith, c.loop-at.invariant.0, c.loop-at.invariant.1, parts_end c.args.rest.now c.loop-at.at c.loop-at-test.false)
