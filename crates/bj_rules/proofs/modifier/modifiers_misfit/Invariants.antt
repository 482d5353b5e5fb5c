use Rattle.std.proofs.Common.{◌≡◌, take, drop}
use Rattle.bj_rules.specs.Modifiers.{misfit_behind, modifiers_misfit}
use Rattle.bj_rules.proofs.modifier.modifiers_misfit.Given as goal

abbrev pub invariant-loop-index : goal.invariant-loop-index
invariant-loop-index l = modifiers_misfit l.place l.modifiers ≡ misfit_behind l.place (take l.index l.modifiers) (drop l.index l.modifiers)
