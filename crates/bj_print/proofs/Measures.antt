-- Measures of trees that do not depend on places, over lists and options of trees.
use Rattle.std.proofs.Common.{◌≡◌, ℕ, List, [], ◌∷◌, map, Option, Some, None, option_map, refl, ap, ◌∙◌}

pub each_steady : {A : Type 0} (f : A → ℕ) (u : A → A) → ((x : A) → f (u x) ≡ f x) → (xs : List A) → map f (map u xs) ≡ map f xs
each_steady f u h [] = refl
each_steady f u h (x ∷ xs) = ap (λ (n : ℕ). n ∷ map f (map u xs)) (h x) ∙ ap (λ (w : List ℕ). f x ∷ w) (each_steady f u h xs)

pub maybe_steady : {A : Type 0} (f : A → ℕ) (u : A → A) → ((x : A) → f (u x) ≡ f x) → (x : Option A) → option_map f (option_map u x) ≡ option_map f x
maybe_steady f u h None = refl
maybe_steady f u h (Some x) = ap (λ (n : ℕ). Some n) (h x)

-- trees with the fact of each beside it
pub each_known : {A B : Type 0} (f : A → B) (u : A → A) (xs : List ((x : A) × (f (u x) ≡ f x)))
    → map f (map u (map (λ (k : (x : A) × (f (u x) ≡ f x)). k.0) xs)) ≡ map f (map (λ (k : (x : A) × (f (u x) ≡ f x)). k.0) xs)
each_known f u [] = refl
each_known {A} {B} f u (x ∷ xs) =
    ap (λ (n : B). n ∷ map f (map u (map (λ (k : (x : A) × (f (u x) ≡ f x)). k.0) xs))) x.1 ∙ ap (λ (w : List B). f x.0 ∷ w) (each_known f u xs)
