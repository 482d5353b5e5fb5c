use Rattle.std.proofs.Common.{◌≡◌, take}
use Rattle.std.specs.Prelude.{map}
use Rattle.bj_eval.specs.Frames.{given}
use Rattle.bj_eval.proofs.activation.variables_of.Given as goal

abbrev pub invariant-loop-local : goal.invariant-loop-local
invariant-loop-local l = l.variables ≡ map given (take l.local-index l.scope)
