use Rattle.std.proofs.Common.{◌≡◌, ◌∷◌, take}
use Rattle.std.specs.Prelude.{map}
use Rattle.bj_exec.specs.Machine.{frame_shown}
use Rattle.bj_exec.proofs.run.shown_of.Given as goal

abbrev pub invariant-loop-depth : goal.invariant-loop-depth
invariant-loop-depth l = l.frames ≡ frame_shown l.run.top ∷ map frame_shown (take l.depth l.run.below)
