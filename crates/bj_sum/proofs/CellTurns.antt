-- Where the parenthesis is that closes a text: its last byte that is no space.
use Rattle.std.proofs.Common.{◌≡◌, ◌≢◌, ℕ, zero, suc, ◌-◌, ◌<◌, ◌≤◌, Bool, true, false, cond, ◌==◌, ◌&&◌, List, [], ◌∷◌, length, take, drop, get_or, Some, None, refl, ap, ◌∙◌, subst, arith}
use Rattle.std.proofs.lemmas.Bool.{eqb-true, ne_eqb}
use Rattle.bj_sum.specs.Cells.{is_blank, before_close, with_front}

pub and_false : (x : Bool) → (x && false) ≡ false
and_false true = refl
and_false false = refl

-- a text with a byte that is no space is not blank
not_blank : (text : List ℕ) (n : ℕ) → n < length text → get_or text n 0 ≢ 32 → is_blank text ≡ false
not_blank [] n below differs = absurd (omega arith)
not_blank (b ∷ bs) zero below differs = ap (λ (x : Bool). x && is_blank bs) (ne_eqb b 32 differs)
not_blank (b ∷ bs) (suc n) below differs = ap (λ (x : Bool). (b == 32) && x) (not_blank bs n (omega arith) differs) ∙ and_false (b == 32)

-- a byte before one that is no space closes nothing
pub not_there : (b : ℕ) (bs : List ℕ) → is_blank bs ≡ false → before_close (b ∷ bs) ≡ with_front b (before_close bs)
not_there b bs differs = ap (λ (x : Bool). cond x (Some []) (with_front b (before_close bs))) (ap (λ (x : Bool). (b == 41) && x) differs ∙ and_false (b == 41))

forty_one : (n : ℕ) → n ≡ 41 → n ≡ 32 → ⊥
forty_one n is other = omega arith

-- the parenthesis at a place closes the text where only spaces follow
closes : (text : List ℕ) (n : ℕ) → n < length text → get_or text n 0 ≡ 41 → is_blank (drop (suc n) text) ≡ true → before_close text ≡ Some (take n text)
closes [] n below is blank = absurd (omega arith)
closes (b ∷ bs) zero below is blank =
    ap (λ (x : Bool). cond x (Some []) (with_front b (before_close bs))) (ap (λ (c : ℕ). (c == 41) && is_blank bs) is ∙ blank)
closes (b ∷ bs) (suc n) below is blank =
    not_there b bs (not_blank bs n (omega arith) (forty_one (get_or bs n 0) is)) ∙ ap (with_front b) (closes bs n (omega arith) is blank)

-- the last byte that is no space is a closing parenthesis
pub close_found : (text : List ℕ) (end : ℕ) → 0 < end → end ≤ length text → get_or text (end - 1) 0 ≡ 41 → is_blank (drop end text) ≡ true
    → before_close text ≡ Some (take (end - 1) text)
close_found text end some within is blank =
    closes text (end - 1) (omega arith) is (subst (λ (n : ℕ). is_blank (drop n text) ≡ true) (let same : end ≡ suc (end - 1) = omega arith in same) blank)

-- nothing closes spaces
module _ (b : ℕ) (bs : List ℕ) (none : is_blank bs ≡ true → before_close bs ≡ None) where
  none_behind : (x : Bool) → (b == 32) ≡ x → (x && is_blank bs) ≡ true → before_close (b ∷ bs) ≡ None
  none_behind true is blank =
      ap (λ (x : Bool). cond x (Some []) (with_front b (before_close bs))) (ap (λ (c : ℕ). (c == 41) && is_blank bs) (eqb-true b 32 is))
      ∙ ap (with_front b) (none blank)
  none_behind false is blank = absurd (cc)

pub none_in_blank : (text : List ℕ) → is_blank text ≡ true → before_close text ≡ None
none_in_blank [] blank = refl
none_in_blank (b ∷ bs) blank = none_behind b bs (none_in_blank bs) (b == 32) refl blank

-- the last byte that is no space is another
other : (text : List ℕ) (n : ℕ) → n < length text → get_or text n 0 ≢ 41 → get_or text n 0 ≢ 32 → is_blank (drop (suc n) text) ≡ true → before_close text ≡ None
other [] n below differs no_space blank = absurd (omega arith)
other (b ∷ bs) zero below differs no_space blank =
    ap (λ (x : Bool). cond x (Some []) (with_front b (before_close bs))) (ap (λ (x : Bool). x && is_blank bs) (ne_eqb b 41 differs))
    ∙ ap (with_front b) (none_in_blank bs blank)
other (b ∷ bs) (suc n) below differs no_space blank =
    not_there b bs (not_blank bs n (omega arith) no_space) ∙ ap (with_front b) (other bs n (omega arith) differs no_space blank)

-- so it has none that closes it
pub none_found : (text : List ℕ) (end : ℕ) → 0 < end → end ≤ length text → get_or text (end - 1) 0 ≢ 41 → get_or text (end - 1) 0 ≢ 32 → is_blank (drop end text) ≡ true
    → before_close text ≡ None
none_found text end some within differs no_space blank =
    other text (end - 1) (omega arith) differs no_space (subst (λ (n : ℕ). is_blank (drop n text) ≡ true) (let same : end ≡ suc (end - 1) = omega arith in same) blank)
