-- Names that are told apart, and what they stand for once one more is bound.
use Rattle.std.proofs.Common.{◌≡◌, ◌≢◌, ℕ, Bool, true, false, if◌then◌else◌, List, [], ◌∷◌, ◌++◌, Option, Some, None, refl, sym, ap, ◌∙◌}
use Rattle.std.specs.Str.{bytes_eq}
use Rattle.std.proofs.lemmas.Slice.Eq.{bytes_eq-Decides}
use Rattle.bj_core.specs.declared.types.Val.{Val}
use Rattle.bj_bench.specs.declared.names.BoundName.{BoundName}
use Rattle.bj_bench.specs.Names.{bound_name, value_in, AreApart}

false_by : (b : Bool) → (b ≡ true → ⊥) → b ≡ false
false_by true f = absurd (f refl)
false_by false f = refl

-- texts that differ are told apart
pub told_apart : (xs ys : List ℕ) → xs ≢ ys → bytes_eq xs ys ≡ false
told_apart xs ys differ = false_by (bytes_eq xs ys) (λ t. differ ((bytes_eq-Decides xs ys).0 t))

apart_turned : (xs ys : List ℕ) → bytes_eq xs ys ≡ false → bytes_eq ys xs ≡ false
apart_turned xs ys e = false_by (bytes_eq ys xs) (λ t. let same = (bytes_eq-Decides xs ys).1 (sym ((bytes_eq-Decides ys xs).0 t)) in cc)

-- a name that stands for nothing is no name in front, and stands for nothing behind
past : (b : Bool) (v : Val) (x : Option Val) → (if b then Some v else x) ≡ None → (b ≡ false) × (x ≡ None)
past true v x e = absurd cc
past false v x e = (refl, e)

-- the other names stand for what they stood for
pub others_stay : (names : List BoundName) (name other : List ℕ) (v : Val) → bytes_eq name other ≡ false → value_in (names ++ bound_name name v ∷ []) other ≡ value_in names other
others_stay [] name other v e = rw e refl
others_stay (b ∷ rest) name other v e = ap (λ (x : Option Val). if bytes_eq b.name other then Some b.value else x) (others_stay rest name other v e)

-- a name that is bound stands for what it was bound to
pub bound_stands : (names : List BoundName) (name : List ℕ) (v : Val) → value_in names name ≡ None → value_in (names ++ bound_name name v ∷ []) name ≡ Some v
bound_stands [] name v e = rw ((bytes_eq-Decides name name).1 refl) refl
bound_stands (b ∷ rest) name v e =
    let p = past (bytes_eq b.name name) b.value (value_in rest name) e in
    ap (λ (t : Bool). if t then Some b.value else value_in (rest ++ bound_name name v ∷ []) name) p.0 ∙ bound_stands rest name v p.1

-- names that differ do so with one more that stands for nothing yet
pub apart_with : (names : List BoundName) (name : List ℕ) (v : Val) → AreApart names → value_in names name ≡ None → AreApart (names ++ bound_name name v ∷ [])
apart_with [] name v apart e = (refl, tt)
apart_with (b ∷ rest) name v apart e =
    let p = past (bytes_eq b.name name) b.value (value_in rest name) e in
    (others_stay rest name b.name v (apart_turned b.name name p.0) ∙ apart.0, apart_with rest name v apart.1 p.1)
