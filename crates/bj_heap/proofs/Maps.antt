-- The cells are a finite map.
use Rattle.std.proofs.Common.{◌≡◌, ◌≢◌, ℕ, zero, suc, List, [], ◌∷◌, Option, Some, None, refl, sym, ap, ◌∙◌}
use Rattle.std.specs.Prelude.{slice_get, slice_set}
use Rattle.bj_core.specs.declared.types.Val.{Val}
use Rattle.bj_heap.specs.Cells.{Object}
use Rattle.bj_heap.specs.Objects.{slot_of, cell, with_slot, with_cell}

set_here : {A : Type 0} (xs : List A) (n : ℕ) (x y : A) → slice_get xs n ≡ Some y → slice_get (slice_set xs n x) n ≡ Some x
set_here [] n x y e = absurd (cc)
set_here (z ∷ zs) zero x y e = refl
set_here (z ∷ zs) (suc n) x y e = set_here zs n x y e

set_other : {A : Type 0} (xs : List A) (n m : ℕ) (x : A) → n ≢ m → slice_get (slice_set xs n x) m ≡ slice_get xs m
set_other [] n m x other = refl
set_other (z ∷ zs) zero zero x other = absurd (other refl)
set_other (z ∷ zs) zero (suc m) x other = refl
set_other (z ∷ zs) (suc n) zero x other = refl
set_other (z ∷ zs) (suc n) (suc m) x other = set_other zs n m x (λ e. other (ap suc e))

pub put_here : (objects : List Object) (object slot : ℕ) (value : Val) → cell objects object slot ≢ None → cell (with_cell objects object slot value) object slot ≡ Some value
put_here objects zero slot value there = absurd (there refl)
put_here objects (suc n) slot value there = of (slice_get objects n) refl there
  where
    of : (r : Option Object) → slice_get objects n ≡ r → slot_of r slot ≢ None → slot_of (slice_get (with_slot objects n r slot value) n) slot ≡ Some value
    of None is there = absurd (there refl)
    of (Some o) is there = ap (λ (r : Option Object). slot_of r slot) (set_here objects n (record { own = o.own; cells = slice_set o.cells slot value }) o is)
        ∙ in_object (slice_get o.cells slot) refl there
      where
        in_object : (v : Option Val) → slice_get o.cells slot ≡ v → v ≢ None → slice_get (slice_set o.cells slot value) slot ≡ Some value
        in_object None e there = absurd (there refl)
        in_object (Some w) e there = set_here o.cells slot value w e

pub put_object : (objects : List Object) (object slot other at : ℕ) (value : Val) → object ≢ other → cell (with_cell objects object slot value) other at ≡ cell objects other at
put_object objects zero slot other at value apart = refl
put_object objects (suc n) slot zero at value apart = refl
put_object objects (suc n) slot (suc m) at value apart = of (slice_get objects n)
  where
    of : (r : Option Object) → slot_of (slice_get (with_slot objects n r slot value) m) at ≡ slot_of (slice_get objects m) at
    of None = refl
    of (Some o) = ap (λ (r : Option Object). slot_of r at) (set_other objects n m (record { own = o.own; cells = slice_set o.cells slot value }) (λ e. apart (ap suc e)))

pub put_slot : (objects : List Object) (object slot at : ℕ) (value : Val) → slot ≢ at → cell (with_cell objects object slot value) object at ≡ cell objects object at
put_slot objects zero slot at value apart = refl
put_slot objects (suc n) slot at value apart = of (slice_get objects n) refl
  where
    of : (r : Option Object) → slice_get objects n ≡ r → slot_of (slice_get (with_slot objects n r slot value) n) at ≡ slot_of (slice_get objects n) at
    of None is = refl
    of (Some o) is = ap (λ (r : Option Object). slot_of r at) (set_here objects n (record { own = o.own; cells = slice_set o.cells slot value }) o is)
        ∙ (set_other o.cells slot at value apart ∙ ap (λ (r : Option Object). slot_of r at) (sym is))
