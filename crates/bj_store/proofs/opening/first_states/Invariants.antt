use Rattle.std.proofs.Common.{◌≡◌, map, take}
use Rattle.bj_store.specs.State.{first_state}
use Rattle.bj_store.proofs.opening.first_states.Given as goal

abbrev pub invariant-loop-class : goal.invariant-loop-class
invariant-loop-class l = l.states.items ≡ map first_state (take l.class-index l.classes)
