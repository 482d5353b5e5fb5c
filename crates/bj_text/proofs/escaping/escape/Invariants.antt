-- What is written, with what is written for the units that are left, is what is written for all.
use Rattle.std.proofs.Common.{◌≡◌, ◌++◌, drop}
use Rattle.bj_text.specs.Escape.{escaped, escaped_after}
use Rattle.bj_text.proofs.escaping.escape.Given as goal

abbrev pub invariant-loop-at : goal.invariant-loop-at
invariant-loop-at l = l.text ++ escaped_after l.quote l.before (drop l.at l.units) ≡ escaped l.quote l.units
