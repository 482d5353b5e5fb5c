-- The state that all threads share.
use Rattle.std.specs.Prelude.{ℕ, zero, suc, Bool, false, ◌==◌, if◌then◌else◌, List, [], ◌∷◌, Option, Some, None, slice_get, slice_set, map, codes}
use Rattle.bj_core.specs.declared.types.Ty.{Ty}
use Rattle.bj_core.specs.declared.types.Ty.TheVariants as ty
use Rattle.bj_core.specs.declared.types.Val.{Val}
use Rattle.bj_core.specs.declared.types.Val.TheVariants as val
use Rattle.bj_core.specs.declared.limits.Limits.{Limits}
use Rattle.bj_core.specs.declared.program.Class.{Class}
use Rattle.bj_core.specs.declared.program.Program.{Program}
use Rattle.bj_heap.specs.Objects.{Object, HeapState, own_at, cell, with_cell}
use Rattle.bj_store.specs.declared.row.ThreadRow.{ThreadRow}
use Rattle.bj_store.specs.declared.row.Initialization.{Initialization}
use Rattle.bj_store.specs.declared.row.Initialization.TheVariants as init
use Rattle.bj_store.specs.Objects.{first_objects, class_named}

-- The heap, the threads by number from 1, how far the initialization of each class is, the class OutOfMemoryError, and the
-- clock in milliseconds.
pub record State : Type 0 where
  pub heap : HeapState
  pub threads : List ThreadRow
  pub classes : List Initialization
  pub out_of_memory : ℕ
  pub clock : ℕ

abbrev pub thread_row : ℕ → Bool → ThreadRow
thread_row object lives = record { object = object; lives = lives }

-- the prelude's classes are initialized from the start
abbrev pub first_state : Class → Initialization
first_state c = if c.is_prelude then init.Ready else init.Untouched

-- a new store: its four objects, and one thread, which has no term
abbrev pub fresh : Program → Limits → State
fresh program limits = record {
  heap = record { limits = limits.heap; objects = first_objects program.classes };
  threads = thread_row 1 false ∷ [];
  classes = map first_state program.classes;
  out_of_memory = class_named program.classes (codes "OutOfMemoryError");
  clock = 0;
}

abbrev pub with_heap : State → HeapState → State
with_heap s heap = record { heap = heap; threads = s.threads; classes = s.classes; out_of_memory = s.out_of_memory; clock = s.clock }

abbrev pub with_class : State → ℕ → Initialization → State
with_class s class x = record { heap = s.heap; threads = s.threads; classes = slice_set s.classes class x; out_of_memory = s.out_of_memory; clock = s.clock }

abbrev pub row_at : List ThreadRow → ℕ → Option ThreadRow
row_at threads zero = None
row_at threads (suc n) = slice_get threads n

abbrev pub lives_in : Option ThreadRow → Bool
lives_in None = false
lives_in (Some row) = row.lives

-- the thread has a term that is not over
abbrev pub lives : State → ℕ → Bool
lives s thread = lives_in (row_at s.threads thread)

abbrev pub with_row : List ThreadRow → ℕ → Bool → Option ThreadRow → List ThreadRow
with_row threads n lives None = threads
with_row threads n lives (Some row) = slice_set threads n (thread_row row.object lives)

abbrev pub with_lives_in : List ThreadRow → ℕ → Bool → List ThreadRow
with_lives_in threads zero lives = threads
with_lives_in threads (suc n) lives = with_row threads n lives (slice_get threads n)

-- the thread begins to live, or ends
abbrev pub with_lives : State → ℕ → Bool → State
with_lives s thread lives = record { heap = s.heap; threads = with_lives_in s.threads thread lives; classes = s.classes; out_of_memory = s.out_of_memory; clock = s.clock }

-- an object of the class
abbrev pub is_of : Option Ty → Ty → Bool
is_of (Some (ty.Class own)) (ty.Class class) = own == class
is_of own class = false

-- the object that a value refers to
abbrev pub referred : Val → Option ℕ
referred (val.Ref object of) = Some object
referred _ = None

-- the value in a field of what a reference refers to, where that is an object of the reference's class
abbrev pub field_in : List Object → Val → ℕ → Option Val
field_in objects (val.Ref object of) slot = if is_of (own_at objects object) of then cell objects object slot else None
field_in objects _ slot = None

abbrev pub field_of : State → Val → ℕ → Option Val
field_of s value slot = field_in s.heap.objects value slot

abbrev pub with_field_in : State → Option ℕ → ℕ → Val → State
with_field_in s None slot v = s
with_field_in s (Some object) slot v = with_heap s (record { limits = s.heap.limits; objects = with_cell s.heap.objects object slot v })

-- the state with a value in a field of what a reference refers to
abbrev pub with_field : State → Val → ℕ → Val → State
with_field s value slot v = with_field_in s (referred value) slot v
