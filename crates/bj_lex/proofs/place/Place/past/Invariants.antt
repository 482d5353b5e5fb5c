use Rattle.std.proofs.Common.{◌≡◌, ◌≤◌, ◌+◌, drop}
use Rattle.bj_lex.specs.Places.{place_after}
use Rattle.bj_lex.proofs.place.Place.past.Given as goal

abbrev pub invariant-loop-unit : goal.invariant-loop-unit
invariant-loop-unit l = (place_after l.place (drop l.unit-index l.units) ≡ place_after l.fn.self l.units)
    × (l.place.line ≤ l.fn.self.line + l.unit-index) × (l.place.column ≤ l.fn.self.column + l.unit-index) × (1 ≤ l.place.column)
