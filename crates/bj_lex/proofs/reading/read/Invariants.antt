-- The tokens so far, with those of the units that are left, are those of all the units.
use Rattle.std.proofs.Common.{◌≡◌, ◌≤◌, ◌+◌, ◌-◌, length, drop}
use Rattle.bj_lex.specs.Texts.{after_tokens, read_after, read}
use Rattle.bj_lex.proofs.reading.read.Given as goal

abbrev pub invariant-loop-at : goal.invariant-loop-at
invariant-loop-at l = (l.at ≤ length l.units) × (after_tokens l.items (read_after 0 l.at l.place (drop l.at l.units)) ≡ read l.units)
    × (l.place.line ≤ 1 + l.at) × (l.place.column ≤ 1 + l.at) × (1 ≤ l.place.column)

abbrev pub decreases-loop-at : goal.decreases-loop-at
decreases-loop-at l = length l.units - l.at
