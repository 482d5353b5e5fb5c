use Rattle.bj_machine.specs.Shown.{Shown}
use Rattle.bj_machine.proofs.Machines.{does_end, sound_acted, is_answered, ends_living}
use Rattle.bj_machine.proofs.machine.Machine.finish.Goals as goal

pub end_on-requires : goal.end_on-requires
end_on-requires c =
    let v : Shown = record { program = c.self.inside.program; code = c.self.inside.code; limits = c.self.inside.limits; store = c.self.inside.store; log = c.self.inside.log; main = c.self.inside.main; acts = c.self.inside.acts } in
    let over = rw (← c.self.view_is) at c.requires.done in
    is_answered _ _ _ (c.ends_are_answered.ensures.always v.program v.store 1 c.args.done (ends_living v c.args.done c.self.invariant over))

pub invariant_of-self-2 : goal.invariant_of-self-2
invariant_of-self-2 c =
    let v : Shown = record { program = c.self.inside.program; code = c.self.inside.code; limits = c.self.inside.limits; store = c.self.inside.store; log = c.self.inside.log; main = c.self.inside.main; acts = c.self.inside.acts } in
    let k = rw (← c.self.view_is) at c.requires.ends in
    let over = rw (← c.self.view_is) at c.requires.done in
    let left = rw (← c.self.view_is) at c.requires.left in
    let living = c.stores_know_what_lives.ensures.ends v.program v.store _ _ c.args.done _ c.self.invariant.store c.in-Ok.ensures.ok.0 in
    rw c.replace.ensures.after (sound_acted v _ _ _ c.self.invariant left living (does_end v c.args.done _ _ _ k over c.in-Ok.ensures.ok.0 left c.in-Ok.ensures.ok.1))

pub returns-clause-steps : goal.returns-clause-steps
returns-clause-steps c =
    let v : Shown = record { program = c.self.inside.program; code = c.self.inside.code; limits = c.self.inside.limits; store = c.self.inside.store; log = c.self.inside.log; main = c.self.inside.main; acts = c.self.inside.acts } in
    let k = rw (← c.self.view_is) at c.requires.ends in
    let over = rw (← c.self.view_is) at c.requires.done in
    let left = rw (← c.self.view_is) at c.requires.left in
    rw (← c.self.view_is, c.replace.ensures.after) (does_end v c.args.done _ _ _ k over c.in-Ok.ensures.ok.0 left c.in-Ok.ensures.ok.1)
