use Rattle.std.proofs.Common.{◌≡◌, ◌+◌, ◌≤◌, length, drop, arith, Some, sym, ap, ◌∙◌, length-drop}
use Rattle.bj_text.specs.Unescape.{sequence_of}
use Rattle.bj_text.proofs.Sequences.{rest_from, plain_step, sequence_step, bad_step, end_step}
use Rattle.bj_text.proofs.unescaping.unescape.Goals as goal

pub loop-at-preserved-then-units-at-ne-BACKSLASH : goal.loop-at-preserved-then-units-at-ne-BACKSLASH
loop-at-preserved-then-units-at-ne-BACKSLASH c =
    (omega arith, plain_step c.loop-at.text _ c.args.units.now c.loop-at.at _ c.loop-at.invariant.1 c.loop-at-test.true c.if-units-at-ne-BACKSLASH.true c.in_ok-push.ensures.ok)

pub loop-at-preserved : goal.loop-at-preserved
loop-at-preserved c =
    let rest = rest_from c.args.units.now (c.loop-at.at + 1) in
    let fits : c.in-Some.length ≤ length (drop (c.loop-at.at + 1) c.args.units.now) = omega (arith, c.in-Some.ensures.within, ap length rest) in (
      omega (arith, fits, length-drop (c.loop-at.at + 1) c.args.units.now),
      sequence_step c.loop-at.text _ c.args.units.now c.loop-at.at _ c.loop-at.invariant.1 c.in-Some.length c.in-Some.unit c.loop-at-test.true c.if-units-at-ne-BACKSLASH.false (ap sequence_of (sym rest) ∙ sym c.in-Some.ensures.value) fits c.in_ok-push-in-Some.ensures.ok,
    )

pub returns-in-None-clause-err : goal.returns-in-None-clause-err
returns-in-None-clause-err c =
    bad_step c.loop-at.text c.loop-at.text c.args.units.now c.loop-at.at _ c.loop-at.invariant.1 c.loop-at-test.true c.if-units-at-ne-BACKSLASH.false (ap sequence_of (sym (rest_from c.args.units.now (c.loop-at.at + 1))) ∙ sym c.in-None.ensures.value)

pub returns-clause-ok : goal.returns-clause-ok
returns-clause-ok c = end_step c.loop-at.text c.loop-at.text c.args.units.now c.loop-at.at _ c.loop-at.invariant.1 c.loop-at-test.false
