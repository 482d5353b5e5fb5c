-- What holds of objects whose cells stand one after another in one list.
use Rattle.std.proofs.Common.{◌≡◌, ℕ, zero, suc, ◌+◌, ◌-◌, ◌<◌, ◌≤◌, Bool, true, false, cond, nat_lt, List, [], ◌∷◌, ◌++◌, length, take, drop, Option, Some, None, refl, sym, ap, ◌∙◌, subst, arith, length-append, length-drop}
use Rattle.std.specs.Prelude.{slice_get, slice_set}
use Rattle.std.proofs.lemmas.Bool.{ltb-true, ltb-false}
use Rattle.std.proofs.lemmas.Bool.Decides.{nat_tests}
use Rattle.std.proofs.lemmas.List.{take-append-le, drop-append-le, take-set-le, drop-set-lt, drop-set-add, length-take-le, length-take}
use Rattle.std.proofs.lemmas.Option.{slice_get_past}
use Rattle.std.proofs.Math.Seq.{take-set-lt, take-length}
use Rattle.bj_core.specs.declared.types.Ty.{Ty}
use Rattle.bj_core.specs.declared.types.Val.{Val}
use Rattle.bj_heap.specs.declared.header.Header.{Header}
use Rattle.bj_core.specs.declared.limits.HeapLimits.{HeapLimits}
use Rattle.bj_heap.specs.Cells.{Object, split, Laid, place_in, place_of, own_in, own_of_header, header_of, fits_in}
use Rattle.bj_heap.specs.Objects.{HeapState, own_of, own_at, slot_of, cell, with_slot, with_cell, with_object, can_make, cells_of}

-- ---- lists

get_take : {A : Type 0} (xs : List A) (n k : ℕ) → k < n → slice_get (take n xs) k ≡ slice_get xs k
get_take xs zero k h = absurd (omega arith)
get_take [] (suc n) k h = refl
get_take (x ∷ xs) (suc n) zero h = refl
get_take (x ∷ xs) (suc n) (suc k) h = get_take xs n k (omega arith)

get_drop : {A : Type 0} (xs : List A) (n k m : ℕ) → m ≡ n + k → slice_get (drop n xs) k ≡ slice_get xs m
get_drop xs zero k m e = ap (λ (i : ℕ). slice_get xs i) (let same : k ≡ m = omega arith in same)
get_drop [] (suc n) k m e = refl
get_drop (x ∷ xs) (suc n) k zero e = absurd (omega arith)
get_drop (x ∷ xs) (suc n) k (suc m) e = get_drop xs n k m (omega arith)

no_cells : {A : Type 0} (xs : List A) → length xs ≡ 0 → xs ≡ []
no_cells [] e = refl
no_cells (x ∷ xs) e = absurd (omega arith)

-- ---- where cells stand

laid_le : (hs : List Header) (from to : ℕ) → Laid from hs to → from ≤ to
laid_le [] from to l = omega arith
laid_le (h ∷ rest) from to l = let k = laid_le rest (from + h.count) to l.1 in omega arith

pub split_length : (hs : List Header) (cs : List Val) → length (split hs cs) ≡ length hs
split_length [] cs = refl
split_length (h ∷ rest) cs = ap suc (split_length rest (drop h.count cs))

pub split_cells : (hs : List Header) (cs : List Val) (from to : ℕ) → Laid from hs to → length cs + from ≡ to → cells_of (split hs cs) ≡ length cs
split_cells [] cs from to l e = omega arith
split_cells (h ∷ rest) cs from to l e =
    let le = laid_le rest (from + h.count) to l.1 in
    let within : h.count ≤ length cs = omega arith in
    let again = split_cells rest (drop h.count cs) (from + h.count) to l.1 (omega (arith, length-drop h.count cs)) in
    omega (arith, again, length-take-le h.count cs within, length-drop h.count cs)

pub split_own : (hs : List Header) (cs : List Val) (n : ℕ) (h : Header) → slice_get hs n ≡ Some h → own_of (slice_get (split hs cs) n) ≡ Some h.own
split_own [] cs n h e = absurd (cc)
split_own (k ∷ rest) cs zero h e = let same : k ≡ h = cc in ap (λ (k : Header). Some k.own) same
split_own (k ∷ rest) cs (suc n) h e = split_own rest (drop k.count cs) n h e

pub split_none : (hs : List Header) (cs : List Val) (n : ℕ) → slice_get hs n ≡ None → own_of (slice_get (split hs cs) n) ≡ None
split_none [] cs n e = refl
split_none (k ∷ rest) cs zero e = absurd (cc)
split_none (k ∷ rest) cs (suc n) e = split_none rest (drop k.count cs) n e

record Placed (from to p : ℕ) : Type 0 where
  low : from ≤ p
  high : p < to

placed : (hs : List Header) (from to n slot p : ℕ) → Laid from hs to → place_in (slice_get hs n) slot ≡ Some p → Placed from to p
placed [] from to n slot p l e = absurd (cc)
placed (h ∷ rest) from to zero slot p l e = of (nat_lt slot h.count) refl e
  where
    of : (b : Bool) → nat_lt slot h.count ≡ b → ◌≡◌ {A = Option ℕ} (cond b (Some (h.start + slot)) None) (Some p) → Placed from to p
    of true is e =
        let at : h.start + slot ≡ p = cc in
        let below = ltb-true slot h.count is in
        let le = laid_le rest (from + h.count) to l.1 in
        let start = l.0 in
        record { low = omega arith; high = omega arith }
    of false is e = absurd (cc)
placed (h ∷ rest) from to (suc n) slot p l e =
    let k = placed rest (from + h.count) to n slot p l.1 e in
    record { low = omega (arith, k.low); high = k.high }

-- the value at a place of cells that begin at another
abbrev pub value_at : List Val → ℕ → Option ℕ → Option Val
value_at cs from None = None
value_at cs from (Some p) = slice_get cs (p - from)

pub split_cell : (hs : List Header) (cs : List Val) (from to n slot : ℕ) → Laid from hs to → length cs + from ≡ to
    → slot_of (slice_get (split hs cs) n) slot ≡ value_at cs from (place_in (slice_get hs n) slot)
split_cell [] cs from to n slot l e = refl
split_cell (h ∷ rest) cs from to zero slot l e = of (nat_lt slot h.count) refl
  where
    of : (b : Bool) → nat_lt slot h.count ≡ b → slice_get (take h.count cs) slot ≡ value_at cs from (cond b (Some (h.start + slot)) None)
    of true is =
        let start = l.0 in
        get_take cs h.count slot (ltb-true slot h.count is) ∙ ap (λ (i : ℕ). slice_get cs i) (let at : slot ≡ h.start + slot - from = omega arith in at)
    of false is = let past = ltb-false slot h.count is in slice_get_past (take h.count cs) slot (omega (arith, length-take h.count cs))
split_cell (h ∷ rest) cs from to (suc n) slot l e =
    let le = laid_le rest (from + h.count) to l.1 in
    split_cell rest (drop h.count cs) (from + h.count) to n slot l.1 (omega (arith, length-drop h.count cs))
    ∙ moved (place_in (slice_get rest n) slot) (λ p e. (placed rest (from + h.count) to n slot p l.1 e).low)
  where
    moved : (r : Option ℕ) → ((p : ℕ) → r ≡ Some p → from + h.count ≤ p) → value_at (drop h.count cs) (from + h.count) r ≡ value_at cs from r
    moved None low = refl
    moved (Some p) low = let le = low p refl in get_drop cs h.count (p - (from + h.count)) (p - from) (omega arith)

-- ---- a cell that is put

with_slot_cons : (o : Object) (os : List Object) (n : ℕ) (r : Option Object) (slot : ℕ) (v : Val) → with_slot (o ∷ os) (suc n) r slot v ≡ o ∷ with_slot os n r slot v
with_slot_cons o os n None slot v = refl
with_slot_cons o os n (Some x) slot v = refl

abbrev pub object : Ty → List Val → Object
object own cells = record { own = own; cells = cells }

pub split_put : (hs : List Header) (cs : List Val) (from to n slot p : ℕ) (v : Val) → Laid from hs to → length cs + from ≡ to → place_in (slice_get hs n) slot ≡ Some p
    → split hs (slice_set cs (p - from) v) ≡ with_slot (split hs cs) n (slice_get (split hs cs) n) slot v
split_put [] cs from to n slot p v l e is = absurd (cc)
split_put (h ∷ rest) cs from to zero slot p v l e is = of (nat_lt slot h.count) refl is
  where
    of : (b : Bool) → nat_lt slot h.count ≡ b → ◌≡◌ {A = Option ℕ} (cond b (Some (h.start + slot)) None) (Some p)
        → split (h ∷ rest) (slice_set cs (p - from) v) ≡ object h.own (slice_set (take h.count cs) slot v) ∷ split rest (drop h.count cs)
    of false is e = absurd (cc)
    of true is e =
        let at : h.start + slot ≡ p = cc in
        let start = l.0 in
        let below = ltb-true slot h.count is in
        let offset : p - from ≡ slot = omega arith in
        ap (λ (i : ℕ). split (h ∷ rest) (slice_set cs i v)) offset
        ∙ (ap (λ (c : List Val). object h.own c ∷ split rest (drop h.count (slice_set cs slot v))) (take-set-lt h.count cs slot v below)
        ∙ ap (λ (c : List Val). object h.own (slice_set (take h.count cs) slot v) ∷ split rest c) (drop-set-lt h.count cs slot v below))
split_put (h ∷ rest) cs from to (suc n) slot p v l e is =
    let at = placed rest (from + h.count) to n slot p l.1 is in
    let low : from + h.count ≤ p = at.low in
    let k = p - (from + h.count) in
    let offset : p - from ≡ h.count + (p - (from + h.count)) = omega arith in
    let beyond : h.count ≤ h.count + (p - (from + h.count)) = omega arith in
    ap (λ (i : ℕ). split (h ∷ rest) (slice_set cs i v)) offset
    ∙ (ap (λ (c : List Val). object h.own c ∷ split rest (drop h.count (slice_set cs (h.count + (p - (from + h.count))) v)))
    (take-set-le h.count cs (h.count + (p - (from + h.count))) v beyond)
    ∙ (ap (λ (c : List Val). object h.own (take h.count cs) ∷ split rest c) (drop-set-add h.count cs (p - (from + h.count)) v)
    ∙ (ap (λ (os : List Object). object h.own (take h.count cs) ∷ os)
    (split_put rest (drop h.count cs) (from + h.count) to n slot p v l.1 (omega (arith, laid_le rest (from + h.count) to l.1, length-drop h.count cs)) is)
    ∙ sym (with_slot_cons (object h.own (take h.count cs)) (split rest (drop h.count cs)) n (slice_get (split rest (drop h.count cs)) n) slot v))))

-- ---- an object that is made

pub split_made : (hs : List Header) (cs fields : List Val) (from to : ℕ) (h : Header) → Laid from hs to → length cs + from ≡ to → h.count ≡ length fields
    → split (hs ++ h ∷ []) (cs ++ fields) ≡ split hs cs ++ object h.own fields ∷ []
split_made [] cs fields from to h l e count =
    ap (λ (c : List Val). object h.own (take h.count (c ++ fields)) ∷ []) (no_cells cs (omega arith))
    ∙ (ap (λ (n : ℕ). object h.own (take n fields) ∷ []) count ∙ ap (λ (c : List Val). object h.own c ∷ []) (take-length fields))
split_made (k ∷ rest) cs fields from to h l e count =
    let le = laid_le rest (from + k.count) to l.1 in
    let within : k.count ≤ length cs = omega arith in
    ap (λ (c : List Val). object k.own c ∷ split (rest ++ h ∷ []) (drop k.count (cs ++ fields))) (take-append-le k.count cs fields within)
    ∙ (ap (λ (c : List Val). object k.own (take k.count cs) ∷ split (rest ++ h ∷ []) c) (drop-append-le k.count cs fields within)
    ∙ ap (λ (os : List Object). object k.own (take k.count cs) ∷ os)
    (split_made rest (drop k.count cs) fields (from + k.count) to h l.1 (omega (arith, length-drop k.count cs)) count))

pub laid_made : (hs : List Header) (from to end : ℕ) (h : Header) → Laid from hs to → h.start ≡ to → end ≡ to + h.count → Laid from (hs ++ h ∷ []) end
laid_made [] from to end h l start e = (start ∙ sym l, omega (arith, l))
laid_made (k ∷ rest) from to end h l start e = (l.0, laid_made rest (from + k.count) to end h l.1 start e)

-- ---- the heap's view

abbrev pub viewed : HeapLimits → List Header → List Val → HeapState
viewed limits hs cs = record { limits = limits; objects = split hs cs }

pub fits_is : (limits : HeapLimits) (objects cells m n : ℕ) → fits_in limits objects cells m n ≡ true → (objects + m ≤ limits.objects) × (cells + n ≤ limits.cells)
fits_is limits objects cells m n e = (grind (arith, nat_tests), grind (arith, nat_tests))

abbrev with_objects : HeapLimits → List Object → HeapState
with_objects limits os = record { limits = limits; objects = os }

module _ (limits : HeapLimits) (hs : List Header) (cs : List Val) (laid : Laid 0 hs (length cs)) (s : HeapState) (shown : viewed limits hs cs ≡ s) where
  whole : length cs + 0 ≡ length cs
  whole = omega arith

  pub can_make_at : (b : Bool) (m n objects cells : ℕ) → objects ≡ length hs → cells ≡ length cs → b ≡ fits_in limits objects cells m n → can_make s m n ≡ b
  can_make_at b m n objects cells is_objects is_cells e =
      ap (λ (s : HeapState). can_make s m n) (sym shown)
      ∙ (ap (λ (k : ℕ). fits_in limits k (cells_of (split hs cs)) m n) (split_length hs cs ∙ sym is_objects)
      ∙ (ap (λ (k : ℕ). fits_in limits objects k m n) (split_cells hs cs 0 (length cs) laid whole ∙ sym is_cells) ∙ sym e))

  pub cell_at : (object slot : ℕ) → cell s.objects object slot ≡ value_at cs 0 (place_of hs object slot)
  cell_at zero slot = refl
  cell_at (suc n) slot = ap (λ (s : HeapState). cell s.objects (suc n) slot) (sym shown) ∙ split_cell hs cs 0 (length cs) n slot laid whole

  pub cell_none : (object slot : ℕ) → place_of hs object slot ≡ None → cell s.objects object slot ≡ None
  cell_none object slot e = cell_at object slot ∙ ap (value_at cs 0) e

  pub cell_some : (object slot p : ℕ) → place_of hs object slot ≡ Some p → cell s.objects object slot ≡ slice_get cs p
  cell_some object slot p e = cell_at object slot ∙ (ap (value_at cs 0) e ∙ ap (λ (i : ℕ). slice_get cs i) (let at : p - 0 ≡ p = omega arith in at))

  pub place_within : (object slot p : ℕ) → place_of hs object slot ≡ Some p → p < length cs
  place_within zero slot p e = absurd (cc)
  place_within (suc n) slot p e = (placed hs 0 (length cs) n slot p laid e).high

  pub own_is : (object : ℕ) → own_in hs object ≡ own_at s.objects object
  own_is zero = refl
  own_is (suc n) = of (slice_get hs n) refl ∙ ap (λ (s : HeapState). own_at s.objects (suc n)) shown
    where
      of : (r : Option Header) → slice_get hs n ≡ r → own_of_header r ≡ own_of (slice_get (split hs cs) n)
      of None e = sym (split_none hs cs n e)
      of (Some h) e = sym (split_own hs cs n h e)

  pub put_at : (object slot p : ℕ) (v : Val) → place_of hs object slot ≡ Some p → viewed limits hs (slice_set cs p v) ≡ record { limits = s.limits; objects = with_cell s.objects object slot v }
  put_at zero slot p v e = absurd (cc)
  put_at (suc n) slot p v e =
      ap (λ (os : List Object). with_objects limits os)
      (ap (λ (i : ℕ). split hs (slice_set cs i v)) (let at : p ≡ p - 0 = omega arith in at) ∙ split_put hs cs 0 (length cs) n slot p v laid whole e)
      ∙ ap (λ (s : HeapState). with_objects s.limits (with_cell s.objects (suc n) slot v)) shown

  pub made_at : (hs2 : List Header) (cs2 fields : List Val) (own : Ty) (start : ℕ) → start ≡ length cs → hs2 ≡ hs ++ header_of own start (length fields) ∷ [] → cs2 ≡ cs ++ fields
      → viewed limits hs2 cs2 ≡ with_object s (object own fields)
  made_at hs2 cs2 fields own start e is_hs is_cs =
      ap (λ (hs : List Header). viewed limits hs cs2) is_hs
      ∙ (ap (λ (cs : List Val). viewed limits (hs ++ header_of own start (length fields) ∷ []) cs) is_cs
      ∙ (ap (λ (os : List Object). with_objects limits os) (split_made hs cs fields 0 (length cs) (header_of own start (length fields)) laid whole refl)
      ∙ ap (λ (s : HeapState). with_object s (object own fields)) shown))

  pub number_at : (hs2 : List Header) (h : Header) (n : ℕ) → hs2 ≡ hs ++ h ∷ [] → n ≡ length hs2 → n ≡ suc (length s.objects)
  number_at hs2 h n is_hs e =
      let count : length hs2 ≡ length hs + 1 = ap length is_hs ∙ length-append hs (h ∷ []) in
      let shown_count : length (split hs cs) ≡ length s.objects = ap (λ (s : HeapState). length s.objects) shown in
      omega (arith, count, shown_count, split_length hs cs)

  pub laid_at : (hs2 : List Header) (cs2 fields : List Val) (own : Ty) (start : ℕ) → start ≡ length cs → hs2 ≡ hs ++ header_of own start (length fields) ∷ [] → cs2 ≡ cs ++ fields
      → Laid 0 hs2 (length cs2)
  laid_at hs2 cs2 fields own start e is_hs is_cs =
      subst (λ (hs : List Header). Laid 0 hs (length cs2)) (sym is_hs)
      (laid_made hs 0 (length cs) (length cs2) (header_of own start (length fields)) laid e (ap length is_cs ∙ length-append cs fields))
