-- How the heap keeps the objects: one after another in one list of cells.
use Rattle.std.specs.Prelude.{◌≡◌, ◌+◌, ◌&&◌, ℕ, zero, suc, Bool, nat_le, nat_lt, if◌then◌else◌, List, [], ◌∷◌, Option, Some, None, slice_get, take, drop}
use Rattle.bj_core.specs.declared.types.Ty.{Ty}
use Rattle.bj_core.specs.declared.types.Val.{Val}
use Rattle.bj_core.specs.declared.limits.HeapLimits.{HeapLimits}
use Rattle.bj_heap.specs.declared.header.Header.{Header}

-- an object: the type of which it was made, and the values of its cells
pub record Object : Type 0 where
  pub own : Ty
  pub cells : List Val

-- the objects that the headers and the cells stand for
abbrev pub split : List Header → List Val → List Object
split [] cells = []
split (h ∷ rest) cells = record { own = h.own; cells = take h.count cells } ∷ split rest (drop h.count cells)

-- the cells of the objects stand one after another from a place up to another
abbrev pub Laid : ℕ → List Header → ℕ → Type 0
Laid from [] to = from ≡ to
Laid from (h ∷ rest) to = (h.start ≡ from) × Laid (from + h.count) rest to

abbrev pub place_in : Option Header → ℕ → Option ℕ
place_in None slot = None
place_in (Some h) slot = if nat_lt slot h.count then Some (h.start + slot) else None

-- the place of an object's cell
abbrev pub place_of : List Header → ℕ → ℕ → Option ℕ
place_of headers zero slot = None
place_of headers (suc n) slot = place_in (slice_get headers n) slot

abbrev pub own_of_header : Option Header → Option Ty
own_of_header None = None
own_of_header (Some h) = Some h.own

abbrev pub own_in : List Header → ℕ → Option Ty
own_in headers zero = None
own_in headers (suc n) = own_of_header (slice_get headers n)

abbrev pub header_of : Ty → ℕ → ℕ → Header
header_of own start count = record { own = own; start = start; count = count }

-- so many objects and cells more stay within the limits
abbrev pub fits_in : HeapLimits → ℕ → ℕ → ℕ → ℕ → Bool
fits_in limits objects cells more_objects more_cells = nat_le (objects + more_objects) limits.objects && nat_le (cells + more_cells) limits.cells
