use Rattle.std.proofs.Common.{sym}
use Rattle.bj_exec.specs.Machine.{frame_shown}
use Rattle.bj_exec.proofs.Below.{one_more}
use Rattle.bj_exec.proofs.run.shown_of.Goals as goal

pub loop-depth-preserved : goal.loop-depth-preserved
loop-depth-preserved c =
    one_more frame_shown (frame_shown c.args.run.now.top) c.in_ok-shown-2.field-0 c.args.run.now.below c.loop-depth.depth c.in-Some.frame.now c.loop-depth.frames c.push-in-loop-depth.new.self
    (sym c.in-Some.ensures) c.in_ok-shown-2.ensures c.loop-depth.invariant c.in_ok-push-2.ensures.ok
