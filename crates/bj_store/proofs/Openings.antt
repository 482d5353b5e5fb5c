-- A new store.
use Rattle.std.proofs.Common.{◌≡◌, ℕ, List, [], ◌∷◌, map, false, ap, ◌∙◌}
use Rattle.std.specs.Prelude.{codes}
use Rattle.bj_core.specs.declared.limits.HeapLimits.{HeapLimits}
use Rattle.bj_core.specs.declared.limits.Limits.{Limits}
use Rattle.bj_core.specs.declared.program.Program.{Program}
use Rattle.bj_heap.specs.Objects.{Object, HeapState, with_object}
use Rattle.bj_store.specs.declared.row.ThreadRow.{ThreadRow}
use Rattle.bj_store.specs.declared.row.Initialization.{Initialization}
use Rattle.bj_store.specs.Objects.{first_objects, class_named}
use Rattle.bj_store.specs.State.{State, fresh, first_state, thread_row}

abbrev pub heap_of : HeapLimits → List Object → HeapState
heap_of limits objects = record { limits = limits; objects = objects }

-- four objects made one after another
pub four : (limits : HeapLimits) (a b c d : Object) (s0 s1 s2 s3 s4 : HeapState)
    → s0 ≡ heap_of limits [] → s1 ≡ with_object s0 a → s2 ≡ with_object s1 b → s3 ≡ with_object s2 c → s4 ≡ with_object s3 d
    → s4 ≡ heap_of limits (a ∷ (b ∷ (c ∷ (d ∷ []))))
four limits a b c d s0 s1 s2 s3 s4 e0 e1 e2 e3 e4 =
    e4 ∙ ap (λ (s : HeapState). with_object s d) (e3 ∙ ap (λ (s : HeapState). with_object s c) (e2 ∙ ap (λ (s : HeapState). with_object s b) (e1 ∙ ap (λ (s : HeapState). with_object s a) e0)))

abbrev pub state_of : HeapState → List ThreadRow → List Initialization → ℕ → State
state_of heap threads classes out_of_memory = record { heap = heap; threads = threads; classes = classes; out_of_memory = out_of_memory; clock = 0 }

abbrev pub one : List ThreadRow
one = thread_row 1 false ∷ []

pub opens : (program : Program) (limits : Limits) (heap : HeapState) (threads : List ThreadRow) (classes : List Initialization) (out_of_memory : ℕ)
    → heap ≡ heap_of limits.heap (first_objects program.classes) → threads ≡ one → classes ≡ map first_state program.classes
    → out_of_memory ≡ class_named program.classes (codes "OutOfMemoryError") → state_of heap threads classes out_of_memory ≡ fresh program limits
opens program limits heap threads classes out_of_memory e1 e2 e3 e4 =
    ap (λ (h : HeapState). state_of h threads classes out_of_memory) e1
    ∙ (ap (λ (ts : List ThreadRow). state_of (heap_of limits.heap (first_objects program.classes)) ts classes out_of_memory) e2
    ∙ (ap (λ (cs : List Initialization). state_of (heap_of limits.heap (first_objects program.classes)) one cs out_of_memory) e3
    ∙ ap (λ (n : ℕ). state_of (heap_of limits.heap (first_objects program.classes)) one (map first_state program.classes) n) e4))
