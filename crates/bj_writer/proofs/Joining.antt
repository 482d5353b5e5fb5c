-- The units of a sign: each is no letter and no digit, and two side by side join.
use Rattle.std.proofs.Common.{◌≡◌, ℕ, suc, ◌-◌, ◌≤◌, Bool, true, false, not, ◌&&◌, ◌||◌, eqb, ltb, List, [], ◌∷◌, ◌++◌, length, get_or, codes, refl, sym, ap, ◌∙◌, subst, arith, inl, inr}
use borrow.Author.Tests.{eqb-true}
use Rattle.std.specs.List.{list_all}
use Rattle.std.specs.Char.{is_ascii_alphanumeric}
use Rattle.bj_lex.specs.Signs.{is_sign, is_one_of, is_quadruple, is_triple, is_double, is_single}
use Rattle.bj_lex.proofs.Letters.{or_split}
use Rattle.bj_writer.specs.Pieces.{signs_join}
use Rattle.bj_writer.proofs.Conditions.{and_true, left_true, among}

-- two tests for a unit
pub both_are : (u v m n : ℕ) → (eqb u m && eqb v n) ≡ true → (u ≡ m) × (v ≡ n)
both_are u v m n e = let each = and_true (eqb u m) (eqb v n) e in (eqb-true u m each.0, eqb-true v n each.1)

pub join_at : (u v m n : ℕ) → u ≡ m → v ≡ n → signs_join m n ≡ true → signs_join u v ≡ true
join_at u v m n f g e = (λ i. signs_join (f i) (g i)) ∙ e

-- what holds of each sign of three units, and of the one of four
module _ (P : ℕ → ℕ → ℕ → Type 0) where
  triple_at : (u v w k m n : ℕ) → u ≡ k → v ≡ m → w ≡ n → P k m n → P u v w
  triple_at u v w k m n a b c p = subst (λ (x : ℕ). P x v w) (sym a) (subst (λ (y : ℕ). P k y w) (sym b) (subst (λ (z : ℕ). P k m z) (sym c) p))

  of_triple : P 60 60 61 → P 62 62 61 → P 62 62 62 → P 46 46 46 → (u v w : ℕ) → is_triple u v w ≡ true → P u v w
  of_triple left right more points u v w e =
      elim (or_split (((eqb u 60 || eqb u 62) && eqb u v && eqb w 61) || (eqb u 62 && eqb v 62 && eqb w 62)) (eqb u 46 && eqb v 46 && eqb w 46) e) [
        | inl a ↦ elim (or_split ((eqb u 60 || eqb u 62) && eqb u v && eqb w 61) (eqb u 62 && eqb v 62 && eqb w 62) a) [ inl b ↦ shift b | inr c ↦ alike 62 more c ]
        | inr d ↦ alike 46 points d
      ]
    where
      alike : (k : ℕ) → P k k k → (eqb u k && eqb v k && eqb w k) ≡ true → P u v w
      alike k p a =
          let ends = and_true (eqb u k && eqb v k) (eqb w k) a in
          let fronts = both_are u v k k ends.0 in triple_at u v w k k k fronts.0 fronts.1 (eqb-true w k ends.1) p

      shift : ((eqb u 60 || eqb u 62) && eqb u v && eqb w 61) ≡ true → P u v w
      shift a =
          let ends = and_true ((eqb u 60 || eqb u 62) && eqb u v) (eqb w 61) a in
          let fronts = and_true (eqb u 60 || eqb u 62) (eqb u v) ends.0 in
          let same = eqb-true u v fronts.1 in
          let equals = eqb-true w 61 ends.1 in
          elim (or_split (eqb u 60) (eqb u 62) fronts.0) [
            | inl less ↦ triple_at u v w 60 60 61 (eqb-true u 60 less) (sym same ∙ eqb-true u 60 less) equals left
            | inr greater ↦ triple_at u v w 62 62 61 (eqb-true u 62 greater) (sym same ∙ eqb-true u 62 greater) equals right
          ]

of_quadruple : (P : ℕ → ℕ → ℕ → ℕ → Type 0) → P 62 62 62 61 → (u v w x : ℕ) → is_quadruple u v w x ≡ true → P u v w x
of_quadruple P p u v w x e =
    let last = and_true (eqb u 62 && eqb v 62 && eqb w 62) (eqb x 61) e in
    let third = and_true (eqb u 62 && eqb v 62) (eqb w 62) last.0 in
    let front = both_are u v 62 62 third.0 in
    triple_at (λ a b c. P a b c x) u v w 62 62 62 front.0 front.1 (eqb-true w 62 third.1) (subst (λ (k : ℕ). P 62 62 62 k) (sym (eqb-true x 61 last.1)) p)

-- each two units side by side join
abbrev pub AreJoined : List ℕ → Type 0
AreJoined [] = Unit {0}
AreJoined (u ∷ []) = Unit {0}
AreJoined (u ∷ v ∷ us) = (signs_join u v ≡ true) × AreJoined (v ∷ us)

pub sign_joined : (units : List ℕ) → is_sign units ≡ true → AreJoined units
sign_joined [] e = tt
sign_joined (u ∷ []) e = tt
sign_joined (u ∷ v ∷ []) e = (left_true (is_double u v) _ e, tt)
sign_joined (u ∷ v ∷ w ∷ []) e = of_triple (λ a b c. AreJoined (a ∷ b ∷ c ∷ [])) (refl, (refl, tt)) (refl, (refl, tt)) (refl, (refl, tt)) (refl, (refl, tt)) u v w e
sign_joined (u ∷ v ∷ w ∷ x ∷ []) e = of_quadruple (λ a b c d. AreJoined (a ∷ b ∷ c ∷ d ∷ [])) (refl, (refl, (refl, tt))) u v w x e
sign_joined (u ∷ v ∷ w ∷ x ∷ y ∷ more) e = cc

pub heads : (u v : ℕ) (us vs : List ℕ) → (u ∷ us) ≡ (v ∷ vs) → (u ≡ v) × (us ≡ vs)
heads u v us vs e = (cc, cc)

same_last : (u v : ℕ) (us : List ℕ) → get_or (v ∷ us) (length (v ∷ us) - 1) 0 ≡ get_or (u ∷ v ∷ us) (length (u ∷ v ∷ us) - 1) 0
same_last u v us =
    ap (λ n. get_or (v ∷ us) n 0) {x = length (v ∷ us) - 1} {y = length us} (omega arith) ∙ ap (λ n. get_or (u ∷ v ∷ us) n 0) {x = suc (length us)} {y = length (u ∷ v ∷ us) - 1} (omega arith)

-- where the unit behind a sign does not join with its last one, no longer sign stands there
pub none_longer : (units rest longer after : List ℕ) → 1 ≤ length units → units ++ rest ≡ longer ++ after → AreJoined longer
    → signs_join (get_or units (length units - 1) 0) (get_or rest 0 0) ≡ false → length longer ≤ length units
none_longer [] rest longer after some is joined apart = absurd (omega arith)
none_longer (u ∷ us) rest [] after some is joined apart = omega arith
none_longer (u ∷ us) rest (l ∷ []) after some is joined apart = omega arith
none_longer (u ∷ []) rest (l ∷ m ∷ ls) after some is joined apart =
    let front = heads u l rest (m ∷ (ls ++ after)) is in
    let next : get_or rest 0 0 ≡ m = ap (λ t. get_or t 0 0) front.1 in
    let joins = join_at u (get_or rest 0 0) l m front.0 next joined.0 in cc
none_longer (u ∷ v ∷ us) rest (l ∷ m ∷ ls) after some is joined apart =
    let front = heads u l ((v ∷ us) ++ rest) (m ∷ (ls ++ after)) is in
    let less = none_longer (v ∷ us) rest (m ∷ ls) after (omega arith) front.1 joined.1 (ap (λ k. signs_join k (get_or rest 0 0)) (same_last u v us) ∙ apart) in omega (arith, less)

-- a unit of ASCII that is no letter and no digit
abbrev pub is_mark_unit : ℕ → Bool
is_mark_unit u = ltb u 128 && not (((is_ascii_alphanumeric u || eqb u 95) || eqb u 95) || eqb u 36)

mark_unit_at : (u k : ℕ) → u ≡ k → is_mark_unit k ≡ true → is_mark_unit u ≡ true
mark_unit_at u k is e = ap is_mark_unit is ∙ e

all_one : (u : ℕ) (us : List ℕ) → is_mark_unit u ≡ true → list_all is_mark_unit us ≡ true → list_all is_mark_unit (u ∷ us) ≡ true
all_one u us e f = ap (λ b. b && list_all is_mark_unit us) e ∙ f

single_unit : (u : ℕ) → is_single u ≡ true → is_mark_unit u ≡ true
single_unit u e = among is_mark_unit (codes "(){}[];,.@=><!~?:+-*/&|^%") refl u e

double_units : (u v : ℕ) → is_double u v ≡ true → (is_mark_unit u ≡ true) × (is_mark_unit v ≡ true)
double_units u v e =
    elim (or_split ((eqb v 61 && is_one_of (codes "=><!+-*/&|^%") u) || (eqb u v && is_one_of (codes "&|+-<>:") u)) (eqb u 45 && eqb v 62) e) [
      | inl a ↦ elim (or_split (eqb v 61 && is_one_of (codes "=><!+-*/&|^%") u) (eqb u v && is_one_of (codes "&|+-<>:") u) a) [
        | inl b ↦
            let each = and_true (eqb v 61) (is_one_of (codes "=><!+-*/&|^%") u) b in (among is_mark_unit (codes "=><!+-*/&|^%") refl u each.1, mark_unit_at v 61 (eqb-true v 61 each.0) refl)
        | inr c ↦
            let each = and_true (eqb u v) (is_one_of (codes "&|+-<>:") u) c in
            let first = among is_mark_unit (codes "&|+-<>:") refl u each.1 in (first, mark_unit_at v u (sym (eqb-true u v each.0)) first)
      ]
      | inr d ↦ let each = both_are u v 45 62 d in (mark_unit_at u 45 each.0 refl, mark_unit_at v 62 each.1 refl)
    ]

-- so are all units of a sign
pub sign_units : (units : List ℕ) → is_sign units ≡ true → list_all is_mark_unit units ≡ true
sign_units [] e = refl
sign_units (u ∷ []) e = all_one u [] (single_unit u e) refl
sign_units (u ∷ v ∷ []) e = let each = double_units u v e in all_one u (v ∷ []) each.0 (all_one v [] each.1 refl)
sign_units (u ∷ v ∷ w ∷ []) e = of_triple (λ a b c. list_all is_mark_unit (a ∷ b ∷ c ∷ []) ≡ true) refl refl refl refl u v w e
sign_units (u ∷ v ∷ w ∷ x ∷ []) e = of_quadruple (λ a b c d. list_all is_mark_unit (a ∷ b ∷ c ∷ d ∷ []) ≡ true) refl u v w x e
sign_units (u ∷ v ∷ w ∷ x ∷ y ∷ more) e = cc
