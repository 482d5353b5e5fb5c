use Rattle.std.proofs.Common.{◌≡◌, drop}
use Rattle.bj_rules.specs.Rules.{annotations_misfit}
use Rattle.bj_rules.proofs.annotation.annotations_misfit.Given as goal

abbrev pub invariant-loop-annotation : goal.invariant-loop-annotation
invariant-loop-annotation l = annotations_misfit l.annotations ≡ annotations_misfit (drop l.annotation-index l.annotations)
