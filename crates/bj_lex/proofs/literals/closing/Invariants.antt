use Rattle.std.proofs.Common.{◌≡◌, drop, false}
use Rattle.bj_lex.specs.Literals.{closing}
use Rattle.bj_lex.proofs.Runs.{raised}
use Rattle.bj_lex.proofs.literals.closing.Given as goal

abbrev pub invariant-loop-at : goal.invariant-loop-at
invariant-loop-at l = raised l.at (closing l.mark l.escaped (drop l.at l.rest)) ≡ closing l.mark false l.rest
