-- A sign that does not join with what follows is one there too.
use Rattle.std.proofs.Common.{◌≡◌, ℕ, ◌-◌, ◌≤◌, Bool, true, false, ◌&&◌, ◌||◌, eqb, ltb, List, [], ◌∷◌, ◌++◌, length, get_or, refl, sym, ap, ◌∙◌, arith, inl, inr}
use borrow.Author.Tests.{eqb-true, lt-ltb}
use Rattle.std.specs.List.{list_all}
use Rattle.bj_lex.specs.Characters.{is_white, passes, is_letter_char, begins_word}
use Rattle.bj_lex.specs.Elements.{begins_comment}
use Rattle.bj_lex.specs.Numerals.{is_digit_in}
use Rattle.bj_lex.specs.Signs.{is_sign, is_double, is_left_out_sign}
use Rattle.bj_lex.specs.Grammar.{IsLongestSign, begins_other}
use Rattle.bj_lex.proofs.Letters.{or_split, or_false, or_none}
use Rattle.bj_writer.specs.Pieces.{signs_join}
use Rattle.bj_writer.proofs.Conditions.{and_true, left_true, right_true, denied}
use Rattle.bj_writer.proofs.Joining.{both_are, join_at, is_mark_unit, sign_units, sign_joined, none_longer}
use Rattle.bj_writer.proofs.Behind.{ascii_front, is_ascii}

pub sign_some : (units : List ℕ) → is_sign units ≡ true → 1 ≤ length units
sign_some [] e = cc
sign_some (u ∷ us) e = omega arith

pub first_unit : (u : ℕ) (us : List ℕ) → is_sign (u ∷ us) ≡ true → is_mark_unit u ≡ true
first_unit u us e = (and_true (is_mark_unit u) (list_all is_mark_unit us) (sign_units (u ∷ us) e)).0

pub still_longest : (units rest : List ℕ) → is_sign units ≡ true → signs_join (get_or units (length units - 1) 0) (get_or rest 0 0) ≡ false → IsLongestSign (units ++ rest) units
still_longest units rest e apart = (e, λ longer after is s. none_longer units rest longer after (sign_some units e) is (sign_joined longer s) apart)

-- no other element begins where none did, if the first unit is the same and no comment begins
other_same : (u : ℕ) (us vs : List ℕ) → is_mark_unit u ≡ true → (begins_comment 47 (u ∷ us) ≡ false → begins_comment 47 (u ∷ vs) ≡ false) → (begins_comment 42 (u ∷ us) ≡ false → begins_comment 42 (u ∷ vs) ≡ false)
    → begins_other (u ∷ us) ≡ false → begins_other (u ∷ vs) ≡ false
other_same u us vs plain line block alone =
    let a = or_none _ (eqb u 39) alone in
    let b = or_none _ (eqb u 34) a.0 in
    let d = or_none _ (is_digit_in 10 u) b.0 in
    let e = or_none _ (begins_word (u ∷ us)) d.0 in
    let f = or_none _ (begins_comment 42 (u ∷ us)) e.0 in
    let g = or_none (is_white u) (begins_comment 47 (u ∷ us)) f.0 in
    let word : begins_word (u ∷ vs) ≡ false = ap (passes is_letter_char) (ascii_front u vs (is_ascii u plain) ∙ sym (ascii_front u us (is_ascii u plain))) ∙ e.1 in
    or_false _ (eqb u 39) (or_false _ (eqb u 34) (or_false _ (is_digit_in 10 u) (or_false _ (begins_word (u ∷ vs)) (or_false _ (begins_comment 42 (u ∷ vs))
    (or_false (is_white u) (begins_comment 47 (u ∷ vs)) g.0 (line g.1)) (block f.1)) word) d.1) b.1) a.1

comment_same : (k u v : ℕ) (us vs : List ℕ) → begins_comment k (u ∷ v ∷ us) ≡ false → begins_comment k (u ∷ v ∷ vs) ≡ false
comment_same k u v us vs e =
    ap (λ b. (b && eqb u 47) && eqb v k) (lt-ltb 1 (length (u ∷ v ∷ vs)) (omega arith)) ∙ sym (ap (λ b. (b && eqb u 47) && eqb v k) (lt-ltb 1 (length (u ∷ v ∷ us)) (omega arith))) ∙ e

no_comment : (k u : ℕ) (rest : List ℕ) → signs_join 47 k ≡ true → signs_join u (get_or rest 0 0) ≡ false → begins_comment k (u ∷ rest) ≡ false
no_comment k u rest joins apart = denied (begins_comment k (u ∷ rest)) (signs_join u (get_or rest 0 0)) (λ e.
    let ends = and_true (ltb 1 (length (u ∷ rest)) && eqb u 47) (eqb (get_or rest 0 0) k) e in
    let front = and_true (ltb 1 (length (u ∷ rest))) (eqb u 47) ends.0 in
    join_at u (get_or rest 0 0) 47 k (eqb-true u 47 front.1) (eqb-true (get_or rest 0 0) k ends.1) joins) apart

pub still_alone : (units before rest : List ℕ) → is_sign units ≡ true → signs_join (get_or units (length units - 1) 0) (get_or rest 0 0) ≡ false → begins_other (units ++ before) ≡ false → begins_other (units ++ rest) ≡ false
still_alone [] before rest e apart alone = cc
still_alone (u ∷ []) before rest e apart alone = other_same u before rest (first_unit u [] e) (λ _. no_comment 47 u rest refl apart) (λ _. no_comment 42 u rest refl apart) alone
still_alone (u ∷ v ∷ us) before rest e apart alone =
    other_same u (v ∷ (us ++ before)) (v ∷ (us ++ rest)) (first_unit u (v ∷ us) e) (comment_same 47 u v (us ++ before) (us ++ rest)) (comment_same 42 u v (us ++ before) (us ++ rest)) alone

-- a point before a second one, or before a digit
abbrev is_left_out_point : ℕ → ℕ → ℕ → Bool
is_left_out_point u v w = eqb u 46 && ((eqb v 46 && eqb w 46) || is_digit_in 10 v)

alone_kept : (u v w : ℕ) → signs_join u v ≡ false → (((eqb u 45 && eqb v 62) || (eqb u 58 && eqb v 58)) || is_left_out_point u v w) ≡ false
alone_kept u v w apart =
    or_false ((eqb u 45 && eqb v 62) || (eqb u 58 && eqb v 58)) (is_left_out_point u v w)
    (or_false (eqb u 45 && eqb v 62) (eqb u 58 && eqb v 58)
    (denied (eqb u 45 && eqb v 62) (signs_join u v) (λ e. let both = both_are u v 45 62 e in join_at u v 45 62 both.0 both.1 refl) apart)
    (denied (eqb u 58 && eqb v 58) (signs_join u v) (λ e. let both = both_are u v 58 58 e in join_at u v 58 58 both.0 both.1 refl) apart))
    (denied (is_left_out_point u v w) (signs_join u v) (λ e. point e) apart)
  where
    point : is_left_out_point u v w ≡ true → signs_join u v ≡ true
    point e =
        let parts = and_true (eqb u 46) ((eqb v 46 && eqb w 46) || is_digit_in 10 v) e in
        let is = eqb-true u 46 parts.0 in
        elim (or_split (eqb v 46 && eqb w 46) (is_digit_in 10 v) parts.1) [
          | inl second ↦ join_at u v 46 46 is (eqb-true v 46 (and_true (eqb v 46) (eqb w 46) second).0) refl
          | inr digit ↦ ap (λ k. signs_join k v) is ∙ right_true (is_double 46 v) _ (left_true (eqb v 46 || is_digit_in 10 v) _ (right_true (eqb v 46) (is_digit_in 10 v) digit))
        ]

double_kept : (u v w x : ℕ) → is_double u v ≡ true → (((eqb u 45 && eqb v 62) || (eqb u 58 && eqb v 58)) || is_left_out_point u v w) ≡ false
    → (((eqb u 45 && eqb v 62) || (eqb u 58 && eqb v 58)) || is_left_out_point u v x) ≡ false
double_kept u v w x double kept =
    let each = or_none ((eqb u 45 && eqb v 62) || (eqb u 58 && eqb v 58)) (is_left_out_point u v w) kept in
    or_false ((eqb u 45 && eqb v 62) || (eqb u 58 && eqb v 58)) (is_left_out_point u v x) each.0 (denied (is_left_out_point u v x) (is_left_out_point u v w) point each.1)
  where
    point : is_left_out_point u v x ≡ true → is_left_out_point u v w ≡ true
    point e =
        let parts = and_true (eqb u 46) ((eqb v 46 && eqb x 46) || is_digit_in 10 v) e in
        elim (or_split (eqb v 46 && eqb x 46) (is_digit_in 10 v) parts.1) [
          | inl second ↦
              let none : is_double 46 46 ≡ true = sym (λ i. is_double (eqb-true u 46 parts.0 i) (eqb-true v 46 (and_true (eqb v 46) (eqb x 46) second).0 i)) ∙ double in
              absurd (no_points none)
          | inr digit ↦ ap (λ b. b && ((eqb v 46 && eqb w 46) || is_digit_in 10 v)) parts.0 ∙ right_true (eqb v 46 && eqb w 46) (is_digit_in 10 v) digit
        ]
      where
        no_points : is_double 46 46 ≡ true → ⊥
        no_points e = cc

pub still_kept : (units before rest : List ℕ) → is_sign units ≡ true → signs_join (get_or units (length units - 1) 0) (get_or rest 0 0) ≡ false → is_left_out_sign (units ++ before) ≡ false → is_left_out_sign (units ++ rest) ≡ false
still_kept [] before rest e apart kept = cc
still_kept (u ∷ []) before rest e apart kept = alone_kept u (get_or rest 0 0) (get_or rest 1 0) apart
still_kept (u ∷ v ∷ []) before rest e apart kept = double_kept u v (get_or before 0 0) (get_or rest 0 0) e kept
still_kept (u ∷ v ∷ w ∷ us) before rest e apart kept = kept
