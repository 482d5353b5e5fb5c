use Rattle.std.proofs.Common.{◌≡◌, drop}
use Rattle.bj_grammar.specs.Terminal.{spelled}
use Rattle.bj_grammar.proofs.spelling.spelled.Given as goal

abbrev pub invariant-loop-candidate : goal.invariant-loop-candidate
invariant-loop-candidate l = spelled l.as_sign l.candidates l.units ≡ spelled l.as_sign (drop l.candidate-index l.candidates) l.units
