use Rattle.std.proofs.Common.{◌≡◌, drop}
use Rattle.bj_rules.specs.Rules.{values_misfit}
use Rattle.bj_rules.proofs.size.values_misfit.Given as goal

abbrev pub invariant-loop-variable : goal.invariant-loop-variable
invariant-loop-variable l = values_misfit l.variables ≡ values_misfit (drop l.variable-index l.variables)
