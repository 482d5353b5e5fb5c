use Rattle.bj_machine.specs.Shown.{Shown}
use Rattle.bj_machine.proofs.Machines.{stands_main}
use Rattle.bj_machine.proofs.machine.Machine.settle.Goals as goal

pub settle_thread-requires : goal.settle_thread-requires
settle_thread-requires c =
    let v : Shown = record { program = c.self.inside.program; code = c.self.inside.code; limits = c.self.inside.limits; store = c.self.inside.store; log = c.self.inside.log; main = c.self.inside.main; acts = c.self.inside.acts } in
    let s = stands_main v c.self.invariant.world c.in-Some.thread c.in-Some.is c.self.invariant.stands in
    record { limit = v.limits.frames; term = s.0.term; answers = s.0.answers; follows = s.2 }
