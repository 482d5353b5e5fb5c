use Rattle.std.proofs.Common.{◌≡◌, take}
use Rattle.bj_eval.specs.Frames.{assigned}
use Rattle.bj_eval.proofs.activation.assigned_of.Given as goal

abbrev pub invariant-loop-variable : goal.invariant-loop-variable
invariant-loop-variable l = l.locals ≡ assigned (take l.variable-index l.variables)
