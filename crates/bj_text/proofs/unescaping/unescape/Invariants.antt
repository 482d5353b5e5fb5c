-- What the text so far stands for, with what the rest stands for, is what the whole stands for.
use Rattle.std.proofs.Common.{◌≡◌, ◌≤◌, ◌-◌, length, drop}
use Rattle.bj_text.specs.Unescape.{unescaped, unescaped_after, before_units}
use Rattle.bj_text.proofs.unescaping.unescape.Given as goal

abbrev pub invariant-loop-at : goal.invariant-loop-at
invariant-loop-at l = (l.at ≤ length l.units) × (before_units l.text (unescaped_after 0 l.at (drop l.at l.units)) ≡ unescaped l.units)

abbrev pub decreases-loop-at : goal.decreases-loop-at
decreases-loop-at l = length l.units - l.at
