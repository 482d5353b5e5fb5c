use Rattle.bj_machine.specs.Shown.{Shown}
use Rattle.bj_machine.proofs.Machines.{does_begin, sound_begun}
use Rattle.bj_machine.proofs.machine.Machine.begin_with.Goals as goal

pub invariant_of-self : goal.invariant_of-self
invariant_of-self c =
    let v : Shown = record { program = c.self.inside.program; code = c.self.inside.code; limits = c.self.inside.limits; store = c.self.inside.store; log = c.self.inside.log; main = c.self.inside.main; acts = c.self.inside.acts } in
    let r = rw (← c.self.view_is) at c.requires in
    rw c.replace.ensures.after
    (sound_begun v _ c.args.thread r.0 c.begin.ensures r.1 (c.stores_know_what_lives.ensures.begins v.program v.store _ c.self.invariant.store) c.self.invariant)

pub returns : goal.returns
returns c =
    let v : Shown = record { program = c.self.inside.program; code = c.self.inside.code; limits = c.self.inside.limits; store = c.self.inside.store; log = c.self.inside.log; main = c.self.inside.main; acts = c.self.inside.acts } in
    rw (← c.self.view_is, c.replace.ensures.after) (λ term ready. does_begin v _ c.args.thread term c.begin.ensures ready)
