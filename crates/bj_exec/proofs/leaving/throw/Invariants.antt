-- What is thrown ends in the same run, from wherever among the frames.
use Rattle.std.proofs.Common.{◌≡◌, length}
use Rattle.bj_exec.specs.Machine.{threw}
use Rattle.bj_exec.proofs.leaving.throw.Given as goal

abbrev pub invariant-loop-caller : goal.invariant-loop-caller
invariant-loop-caller l = threw l.value l.run.top l.run.below ≡ threw l.value l.fn.run.top l.fn.run.below

abbrev pub decreases-loop-caller : goal.decreases-loop-caller
decreases-loop-caller l = length l.run.below
