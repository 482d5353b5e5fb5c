use Rattle.std.proofs.Common.{map, ap, ◌∙◌}
use Rattle.std.specs.Prelude.{codes}
use Rattle.bj_core.specs.declared.program.Class.{Class}
use Rattle.std.proofs.Common.{List}
use Rattle.bj_store.specs.State.{first_state}
use Rattle.bj_store.specs.Objects.{first_objects, class_named}
use Rattle.bj_store.proofs.Openings.{heap_of, opens}
use Rattle.bj_store.proofs.store.Store.new.Goals as goal

pub returns : goal.returns
returns c = opens c.args.program.now c.args.limits c.in_ok-heap.heap.state c.in_ok-threads.threads.items c.in_ok-states.states.items c.class_named.result
    (c.in_ok-heap.ensures ∙ ap (λ (cs : List Class). heap_of c.args.limits.heap (first_objects cs)) c.as_slice-classes.ensures)
    c.in_ok-threads.ensures
    (c.in_ok-states.ensures ∙ ap (λ (cs : List Class). map first_state cs) c.as_slice-classes.ensures)
    (c.class_named.ensures ∙ ap (λ (cs : List Class). class_named cs (codes "OutOfMemoryError")) c.as_slice-classes.ensures)
