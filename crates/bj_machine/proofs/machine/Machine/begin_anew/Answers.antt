use Rattle.bj_machine.specs.Shown.{Shown}
use Rattle.bj_machine.specs.Reset.{program_after}
use Rattle.bj_machine.proofs.Resets.{sound_anew, does_reset}
use Rattle.bj_machine.proofs.machine.Machine.begin_anew.Goals as goal

pub invariant_of-self : goal.invariant_of-self
invariant_of-self c =
    let v : Shown = record { program = c.self.inside.program; code = c.self.inside.code; limits = c.self.inside.limits; store = c.self.inside.store; log = c.self.inside.log; main = c.self.inside.main; acts = c.self.inside.acts } in
    let made = rw (← c.self.view_is) at c.requires.made in
    rw (c.load.ensures.program, c.load.ensures.code, c.replace.ensures.after, c.replace-2.ensures.after)
    (sound_anew v c.args.next c.put-2.new.self made.0 c.args.beginning c.requires.next made.1 c.stores_know_what_lives.ensures.begins (c.new_stores_are_kept.ensures (program_after c.args.next v.program) v.limits) c.self.invariant)

pub returns : goal.returns
returns c =
    let v : Shown = record { program = c.self.inside.program; code = c.self.inside.code; limits = c.self.inside.limits; store = c.self.inside.store; log = c.self.inside.log; main = c.self.inside.main; acts = c.self.inside.acts } in
    rw (← c.self.view_is, c.load.ensures.program, c.load.ensures.code, c.replace.ensures.after, c.replace-2.ensures.after)
    (λ term made. does_reset v c.args.first c.args.next c.put.new.self c.put-2.new.self term c.args.beginning c.put.ensures c.put-2.ensures c.requires.next c.self.invariant.is_code made)
