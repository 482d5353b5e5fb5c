use Rattle.std.proofs.Common.{◌+◌, drop, sym, ap, ◌∙◌, arith}
use Rattle.bj_lex.specs.Places.{place_after}
use Rattle.bj_lex.proofs.Runs.{place_at, place_end}
use Rattle.bj_lex.proofs.place.Place.past.Goals as goal

pub loop-unit-preserved : goal.loop-unit-preserved
loop-unit-preserved c =
    let units = c.args.units.now in
    let i = c.loop-unit.unit-index in
    let step = c.next_place-place.ensures in
    let column = step.column c.loop-unit.invariant.3 in (
      ap (λ p. place_after p (drop (i + 1) units)) step.value ∙ sym (place_at units i c.loop-unit.place c.loop-unit-test.true) ∙ c.loop-unit.invariant.0,
      omega (arith, step.line, c.loop-unit.invariant.1),
      omega (arith, column, c.loop-unit.invariant.2),
      step.first c.loop-unit.invariant.3,
    )

pub returns-clause-value : goal.returns-clause-value
returns-clause-value c = sym (place_end c.args.units.now c.loop-unit.unit-index c.loop-unit.place c.loop-unit-test.false) ∙ c.loop-unit.invariant.0
