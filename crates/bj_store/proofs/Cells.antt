-- Lists of objects: one more, or one whose cell is put.
use Rattle.std.proofs.Common.{◌≡◌, ℕ, zero, suc, List, [], ◌∷◌, ◌++◌, length, Option, Some, None, refl, sym, ap, ◌∙◌, subst}
use Rattle.std.specs.Prelude.{slice_get, slice_set}
use Rattle.std.proofs.lemmas.List.{length-set}
use Rattle.bj_core.specs.declared.types.Ty.{Ty}
use Rattle.bj_core.specs.declared.types.Val.{Val}
use Rattle.bj_heap.specs.Objects.{Object, own_of, own_at, with_slot, with_cell}

pub set_keeps : {A : Type 0} (P : Option A → Type 0) (xs : List A) (n k : ℕ) (x : A) → (P (slice_get xs n) → P (Some x)) → P (slice_get xs k) → P (slice_get (slice_set xs n x) k)
set_keeps P [] n k x h is = is
set_keeps P (y ∷ ys) zero zero x h is = h is
set_keeps P (y ∷ ys) zero (suc k) x h is = is
set_keeps P (y ∷ ys) (suc n) zero x h is = is
set_keeps P (y ∷ ys) (suc n) (suc k) x h is = set_keeps P ys n k x h is

pub set_at : {A : Type 0} (xs : List A) (n : ℕ) (x y : A) → slice_get xs n ≡ Some y → slice_get (slice_set xs n x) n ≡ Some x
set_at [] n x y e = absurd (cc)
set_at (z ∷ zs) zero x y e = refl
set_at (z ∷ zs) (suc n) x y e = set_at zs n x y e

-- what holds of each element and of one more holds of each
pub more_keep : {A : Type 0} (P : A → Type 0) (xs : List A) (x : A) → ((n : ℕ) (y : A) → slice_get xs n ≡ Some y → P y) → P x → (n : ℕ) (y : A) → slice_get (xs ++ x ∷ []) n ≡ Some y → P y
more_keep P [] x all one zero y e = let same : x ≡ y = cc in subst P same one
more_keep P [] x all one (suc n) y e = absurd (cc)
more_keep P (z ∷ zs) x all one zero y e = all zero y e
more_keep P (z ∷ zs) x all one (suc n) y e = more_keep P zs x (λ k w is. all (suc k) w is) one n y e

pub more_owns : (xs ys : List Object) (k : ℕ) (of : Ty) → own_of (slice_get xs k) ≡ Some of → own_of (slice_get (xs ++ ys) k) ≡ Some of
more_owns [] ys k of is = absurd (cc)
more_owns (x ∷ xs) ys zero of is = is
more_owns (x ∷ xs) ys (suc k) of is = more_owns xs ys k of is

pub last_owns : (xs : List Object) (o : Object) → own_of (slice_get (xs ++ o ∷ []) (length xs)) ≡ Some o.own
last_owns [] o = refl
last_owns (x ∷ xs) o = last_owns xs o

-- ---- a cell that is put

slot_own : (objects : List Object) (n : ℕ) (r : Option Object) (slot : ℕ) (v : Val) (k : ℕ) → slice_get objects n ≡ r
    → own_of (slice_get (with_slot objects n r slot v) k) ≡ own_of (slice_get objects k)
slot_own objects n None slot v k e = refl
slot_own objects n (Some o) slot v k e =
    set_keeps (λ (r : Option Object). own_of r ≡ own_of (slice_get objects k)) objects n k (record { own = o.own; cells = slice_set o.cells slot v })
    (λ was. sym (ap own_of e) ∙ was) refl

-- each object stays of the type of which it was made
pub own_same : (objects : List Object) (object slot : ℕ) (v : Val) (n : ℕ) → own_at (with_cell objects object slot v) n ≡ own_at objects n
own_same objects zero slot v n = refl
own_same objects (suc object) slot v zero = refl
own_same objects (suc object) slot v (suc n) = slot_own objects object (slice_get objects object) slot v n refl

slot_count : (objects : List Object) (n : ℕ) (r : Option Object) (slot : ℕ) (v : Val) → length (with_slot objects n r slot v) ≡ length objects
slot_count objects n None slot v = refl
slot_count objects n (Some o) slot v = length-set objects n (record { own = o.own; cells = slice_set o.cells slot v })

pub cell_count : (objects : List Object) (object slot : ℕ) (v : Val) → length (with_cell objects object slot v) ≡ length objects
cell_count objects zero slot v = refl
cell_count objects (suc object) slot v = slot_count objects object (slice_get objects object) slot v
