use Rattle.std.proofs.Common.{◌≡◌, take}
use Rattle.bj_eval.specs.Frames.{parameters}
use Rattle.bj_eval.proofs.activation.parameters_of.Given as goal

abbrev pub invariant-loop-slot : goal.invariant-loop-slot
invariant-loop-slot l = l.variables ≡ parameters (take l.slot l.params) l.values
