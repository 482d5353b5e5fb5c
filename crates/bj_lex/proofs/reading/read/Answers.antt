use Rattle.std.proofs.Common.{◌≡◌, ◌-◌, length, ap, ◌∙◌, arith}
use Rattle.std.proofs.lemmas.List.{length-take-le}
use Rattle.std.proofs.Common.{length-drop}
use Rattle.bj_lex.proofs.Steps.{read_more, read_done}
use Rattle.bj_lex.proofs.reading.read.Goals as goal

pub loop-at-preserved : goal.loop-at-preserved
loop-at-preserved c =
    let ok = c.in_ok-length.ensures.ok in
    let n = c.in_ok-length.length in
    let front : length c.front_of.result.now ≡ n = ap length c.front_of.ensures ∙ length-take-le n c.rest_from-rest.result.now ok.1 in
    let rest : length c.rest_from-rest.result.now ≡ length c.args.units.now - c.loop-at.at = ap length c.rest_from-rest.ensures ∙ length-drop c.loop-at.at c.args.units.now in
    let place = c.past-place.ensures in (
      omega (arith, ok.1, rest, c.loop-at-test.true),
      read_more c.loop-at.items c.read_element.new.items c.loop-at.at n c.loop-at.place c.past-place.result c.args.units.now c.rest_from-rest.result.now c.front_of.result.now
          c.rest_from-rest.ensures ok c.front_of.ensures place.value c.loop-at.invariant.1,
      omega (arith, place.line, front, c.loop-at.invariant.2),
      omega (arith, place.column, front, c.loop-at.invariant.3),
      place.first,
    )

pub returns-clause-ok : goal.returns-clause-ok
returns-clause-ok c = read_done c.loop-at.items c.loop-at.at c.loop-at.place c.args.units.now c.loop-at-test.false c.loop-at.invariant.1
