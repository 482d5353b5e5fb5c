-- On tests and their parts.
use Rattle.std.proofs.Common.{◌≡◌, ℕ, Bool, true, false, ◌&&◌, ◌||◌, cond, eqb, List, [], ◌∷◌, refl, ap, ◌∙◌, inl, inr}
use borrow.Author.Tests.{eqb-true}
use Rattle.std.specs.List.{list_all}
use Rattle.bj_lex.specs.Signs.{is_one_of}
use Rattle.bj_lex.proofs.Letters.{or_split}

pub and_true : (a b : Bool) → (a && b) ≡ true → (a ≡ true) × (b ≡ true)
and_true true b e = (refl, e)
and_true false b e = cc

-- what would make a false test true is false
pub denied : (a b : Bool) → (a ≡ true → b ≡ true) → b ≡ false → a ≡ false
denied true b f e = let t = f refl in cc
denied false b f e = refl

pub and_denied : (a b : Bool) → a ≡ true → (a && b) ≡ false → b ≡ false
and_denied true b t e = e
and_denied false b t e = cc

pub no_left : (a b : Bool) → a ≡ false → (a && b) ≡ false
no_left true b e = cc
no_left false b e = refl

pub no_right : (a b : Bool) → b ≡ false → (a && b) ≡ false
no_right true b e = e
no_right false b e = refl

pub left_true : (a b : Bool) → a ≡ true → (a || b) ≡ true
left_true true b e = refl
left_true false b e = cc

pub right_true : (a b : Bool) → b ≡ true → (a || b) ≡ true
right_true true b e = refl
right_true false b e = e

pub and_same : (a x y : Bool) → (x ≡ false → y ≡ false) → (a && x) ≡ false → (a && y) ≡ false
and_same true x y f e = f e
and_same false x y f e = refl

pub or_same : (x y b : Bool) → (x ≡ false → y ≡ false) → (x || b) ≡ false → (y || b) ≡ false
or_same true y b f e = cc
or_same false y b f e = ap (λ t. t || b) (f refl) ∙ e

pub if_same : (b x y v w : Bool) → (x ≡ false → v ≡ false) → (y ≡ false → w ≡ false) → cond b x y ≡ false → cond b v w ≡ false
if_same true x y v w f g e = f e
if_same false x y v w f g e = g e

-- what holds of each unit of a list holds of one of them
pub among : (p : ℕ → Bool) (units : List ℕ) → list_all p units ≡ true → (u : ℕ) → is_one_of units u ≡ true → p u ≡ true
among p [] all u e = cc
among p (v ∷ vs) all u e =
    let each = and_true (p v) (list_all p vs) all in
    elim (or_split (eqb u v) (is_one_of vs u) e) [ inl is ↦ ap p (eqb-true u v is) ∙ each.0 | inr more ↦ among p vs each.1 u more ]
