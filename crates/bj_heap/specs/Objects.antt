-- Objects by number, from 1, and the values in their cells.
use Rattle.std.specs.Prelude.{◌≡◌, ◌≤◌, ◌+◌, ◌++◌, ℕ, zero, suc, Bool, List, [], ◌∷◌, length, Option, Some, None, Result, Ok, Err, slice_get, slice_set}
use Rattle.bj_core.specs.declared.types.Ty.{Ty}
use Rattle.bj_core.specs.declared.types.Val.{Val}
use Rattle.bj_core.specs.declared.limits.HeapLimits.{HeapLimits}
use Rattle.bj_heap.specs.declared.fault.HeapFault.{HeapFault}
use Rattle.bj_heap.specs.Cells.{Object, fits_in}
pub use Rattle.bj_heap.specs.Cells.{Object}

-- the objects of a heap, the first of which has number 1, and the limits that they keep
pub record HeapState : Type 0 where
  pub limits : HeapLimits
  pub objects : List Object

-- a heap, with how many objects and cells more it has room for
pub record HeapValue : Type 0 where
  pub state : HeapState
  pub object_room : ℕ
  pub cell_room : ℕ

abbrev pub object_at : List Object → ℕ → Option Object
object_at objects zero = None
object_at objects (suc n) = slice_get objects n

abbrev pub own_of : Option Object → Option Ty
own_of None = None
own_of (Some o) = Some o.own

-- the type of which the object was made
abbrev pub own_at : List Object → ℕ → Option Ty
own_at objects object = own_of (object_at objects object)

abbrev pub slot_of : Option Object → ℕ → Option Val
slot_of None slot = None
slot_of (Some o) slot = slice_get o.cells slot

-- the value in the object's cell
abbrev pub cell : List Object → ℕ → ℕ → Option Val
cell objects object slot = slot_of (object_at objects object) slot

abbrev pub with_slot : List Object → ℕ → Option Object → ℕ → Val → List Object
with_slot objects n None slot value = objects
with_slot objects n (Some o) slot value = slice_set objects n (record { own = o.own; cells = slice_set o.cells slot value })

-- the objects with the value in that cell, where it is there
abbrev pub with_cell : List Object → ℕ → ℕ → Val → List Object
with_cell objects zero slot value = objects
with_cell objects (suc n) slot value = with_slot objects n (slice_get objects n) slot value

abbrev pub with_object : HeapState → Object → HeapState
with_object s o = record { limits = s.limits; objects = s.objects ++ o ∷ [] }

-- how many cells the objects have: a field, an element and a unit of a text are one each
abbrev pub cells_of : List Object → ℕ
cells_of [] = 0
cells_of (o ∷ rest) = length o.cells + cells_of rest

-- so many objects and cells more stay within the limits
abbrev pub can_make : HeapState → ℕ → ℕ → Bool
can_make s objects cells = fits_in s.limits (length s.objects) (cells_of s.objects) objects cells

-- the object is made with the next number, or all stays
abbrev pub Made : Result ℕ HeapFault → HeapState → HeapState → Object → Type 0
Made (Ok number) old new o = (number ≡ suc (length old.objects)) × (new ≡ with_object old o)
Made (Err e) old new o = new ≡ old

-- no more room is used than so many objects and cells
pub record Keeps (old new : HeapValue) (objects cells : ℕ) : Type 0 where
  pub object_room : old.object_room ≤ new.object_room + objects
  pub cell_room : old.cell_room ≤ new.cell_room + cells
