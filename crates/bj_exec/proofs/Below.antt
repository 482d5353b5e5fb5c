-- The frames below the topmost one, from the newest.
use Rattle.std.proofs.Common.{◌≡◌, ℕ, zero, suc, ◌+◌, ◌-◌, ◌<◌, List, [], ◌∷◌, ◌++◌, length, take, get_or, Some, refl, sym, ap, ◌∙◌, arith}
use Rattle.std.specs.Prelude.{map, reverse, slice_get}
use Rattle.std.proofs.lemmas.Option.{slice_get-get_or, get_or_from_slice_get, slice_get_within}
use Rattle.std.proofs.lemmas.List.{get_or-reverse, length-reverse, map-append}
use Rattle.std.proofs.Math.Seq.{take-suc}

there : {X : Type 0} (xs : List X) (i : ℕ) → i < length xs → (x : X) × (slice_get xs i ≡ Some x)
there [] i lt = absurd (omega arith)
there (x ∷ xs) zero lt = (x, refl)
there (x ∷ xs) (suc i) lt = there xs i (omega arith)

-- a list from its end
pub from_end : {X : Type 0} (xs : List X) (k : ℕ) → k < length xs → slice_get xs (length xs - 1 - k) ≡ slice_get (reverse xs) k
from_end xs k lt =
    let i : length xs - 1 - k < length xs = omega arith in
    let x = there xs (length xs - 1 - k) i in
    let r : k < length (reverse xs) = omega (arith, length-reverse xs) in
    x.1 ∙ sym (slice_get-get_or (reverse xs) k x.0 r ∙ ap Some (get_or-reverse xs k x.0 lt ∙ get_or_from_slice_get xs (length xs - 1 - k) x.0 x.0 x.1))

-- one frame more
pub one_more : {X Y : Type 0} (f : X → Y) (g y : Y) (xs : List X) (i : ℕ) (x : X) (fs fs' : List Y) → slice_get xs i ≡ Some x → y ≡ f x → fs ≡ g ∷ map f (take i xs) → fs' ≡ fs ++ y ∷ [] → fs' ≡ g ∷ map f (take (i + 1) xs)
one_more f g y xs i x fs fs' e ey inv push =
    let lt = slice_get_within xs i x e in
    let n : i + 1 ≡ suc i = omega arith in
    push ∙ ap (λ l. l ++ y ∷ []) inv ∙ ap (λ y. (g ∷ map f (take i xs)) ++ y ∷ []) (ey ∙ ap f (sym (get_or_from_slice_get xs i x x e)))
    ∙ ap (λ l. g ∷ l) (sym (map-append f (take i xs) (get_or xs i x ∷ []))) ∙ ap (λ l. g ∷ map f l) (sym (take-suc xs i x lt)) ∙ ap (λ n. g ∷ map f (take n xs)) (sym n)
