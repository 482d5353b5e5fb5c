-- The sign at the front of a text is the longest that stands there.
use Rattle.std.proofs.Common.{◌≡◌, ℕ, ◌<◌, ◌≤◌, Bool, true, false, ◌&&◌, cond, eqb, leb, List, [], ◌∷◌, ◌++◌, length, take, drop, get_or, refl, sym, ap, ◌∙◌, arith, length-append}
use Rattle.std.proofs.lemmas.List.{take-append-drop, length-take-le}
use borrow.Author.Tests.{le-leb, leb-true, eqb-true, eqb-false}
use Rattle.bj_lex.specs.Signs.{is_sign, sign_len, is_quadruple, is_triple, is_double, is_single}
use Rattle.bj_lex.specs.Grammar.{IsLongestSign}

both : (a b : Bool) → (a && b) ≡ true → (a ≡ true) × (b ≡ true)
both true b e = (refl, e)
both false b e = cc

-- how long a sign is, by whether one of four, three, two units and one stands there
abbrev by_tests : Bool → Bool → Bool → Bool → ℕ
by_tests a b c d = cond a 4 (cond b 3 (cond c 2 (cond d 1 0)))

one_or_more : (a b c d : Bool) → d ≡ true → 1 ≤ by_tests a b c d
one_or_more true b c d e = omega arith
one_or_more false true c d e = omega arith
one_or_more false false true d e = omega arith
one_or_more false false false true e = omega arith
one_or_more false false false false e = cc

two_or_more : (a b c d : Bool) → c ≡ true → 2 ≤ by_tests a b c d
two_or_more true b c d e = omega arith
two_or_more false true c d e = omega arith
two_or_more false false true d e = omega arith
two_or_more false false false d e = cc

three_or_more : (a b c d : Bool) → b ≡ true → 3 ≤ by_tests a b c d
three_or_more true b c d e = omega arith
three_or_more false true c d e = omega arith
three_or_more false false c d e = cc

four_or_more : (a b c d : Bool) → a ≡ true → 4 ≤ by_tests a b c d
four_or_more true b c d e = omega arith
four_or_more false b c d e = cc

fits : (k : ℕ) (us : List ℕ) (b : Bool) → k ≤ length us → b ≡ true → (leb k (length us) && b) ≡ true
fits k us b h e = ap (λ t. t && b) (le-leb k (length us) h) ∙ e

module _ (us : List ℕ) where
  abbrev four : Bool
  four = leb 4 (length us) && is_quadruple (get_or us 0 0) (get_or us 1 0) (get_or us 2 0) (get_or us 3 0)

  abbrev three : Bool
  three = leb 3 (length us) && is_triple (get_or us 0 0) (get_or us 1 0) (get_or us 2 0)

  abbrev two : Bool
  two = leb 2 (length us) && is_double (get_or us 0 0) (get_or us 1 0)

  abbrev one : Bool
  one = is_single (get_or us 0 0)

-- the longest sign stands within the text
pub sign_within : (us : List ℕ) → 0 < length us → sign_len us ≤ length us
sign_within us some =
    fits_if (leb 4 (length us)) (is_quadruple (get_or us 0 0) (get_or us 1 0) (get_or us 2 0) (get_or us 3 0)) 4 _ refl
    (fits_if (leb 3 (length us)) (is_triple (get_or us 0 0) (get_or us 1 0) (get_or us 2 0)) 3 _ refl
    (fits_if (leb 2 (length us)) (is_double (get_or us 0 0) (get_or us 1 0)) 2 _ refl (last (is_single (get_or us 0 0)))))
  where
    fits_if : (fits b : Bool) (k m : ℕ) → fits ≡ leb k (length us) → m ≤ length us → cond (fits && b) k m ≤ length us
    fits_if true true k m e h = leb-true k (length us) (sym e)
    fits_if true false k m e h = h
    fits_if false b k m e h = h

    last : (b : Bool) → cond b 1 0 ≤ length us
    last true = omega arith
    last false = omega arith

-- no sign that stands at the front is longer
sign_at_most : (longer rest : List ℕ) → is_sign longer ≡ true → length longer ≤ sign_len (longer ++ rest)
sign_at_most [] rest e = cc
sign_at_most (u ∷ []) rest e = let us = u ∷ rest in one_or_more (four us) (three us) (two us) (one us) e
sign_at_most (u ∷ v ∷ []) rest e =
    let us = u ∷ v ∷ rest in two_or_more (four us) (three us) (two us) (one us) (fits 2 us (is_double u v) (omega arith) e)
sign_at_most (u ∷ v ∷ w ∷ []) rest e =
    let us = u ∷ v ∷ w ∷ rest in three_or_more (four us) (three us) (two us) (one us) (fits 3 us (is_triple u v w) (omega arith) e)
sign_at_most (u ∷ v ∷ w ∷ x ∷ []) rest e =
    let us = u ∷ v ∷ w ∷ x ∷ rest in four_or_more (four us) (three us) (two us) (one us) (fits 4 us (is_quadruple u v w x) (omega arith) e)
sign_at_most (u ∷ v ∷ w ∷ x ∷ y ∷ more) rest e = cc

four_is : (us : List ℕ) → four us ≡ true → is_sign (take 4 us) ≡ true
four_is [] e = cc
four_is (u ∷ []) e = cc
four_is (u ∷ v ∷ []) e = cc
four_is (u ∷ v ∷ w ∷ []) e = cc
four_is (u ∷ v ∷ w ∷ x ∷ us) e = (both (leb 4 (length (u ∷ v ∷ w ∷ x ∷ us))) (is_quadruple u v w x) e).1

three_is : (us : List ℕ) → three us ≡ true → is_sign (take 3 us) ≡ true
three_is [] e = cc
three_is (u ∷ []) e = cc
three_is (u ∷ v ∷ []) e = cc
three_is (u ∷ v ∷ w ∷ us) e = (both (leb 3 (length (u ∷ v ∷ w ∷ us))) (is_triple u v w) e).1

two_is : (us : List ℕ) → two us ≡ true → is_sign (take 2 us) ≡ true
two_is [] e = cc
two_is (u ∷ []) e = cc
two_is (u ∷ v ∷ us) e = (both (leb 2 (length (u ∷ v ∷ us))) (is_double u v) e).1

one_is : (us : List ℕ) → 0 < length us → one us ≡ true → is_sign (take 1 us) ≡ true
one_is [] some e = absurd (omega arith)
one_is (u ∷ us) some e = e

taken_by : (us : List ℕ) → 0 < length us → (a b c d : Bool) → four us ≡ a → three us ≡ b → two us ≡ c → one us ≡ d → (by_tests a b c d ≡ 0 → ⊥) → is_sign (take (by_tests a b c d) us) ≡ true
taken_by us some true b c d e f g h n = four_is us e
taken_by us some false true c d e f g h n = three_is us f
taken_by us some false false true d e f g h n = two_is us g
taken_by us some false false false true e f g h n = one_is us some h
taken_by us some false false false false e f g h n = absurd (n refl)

-- where a sign stands at the front, the longest one is a sign
taken_is_sign : (us : List ℕ) → 0 < length us → (sign_len us ≡ 0 → ⊥) → is_sign (take (sign_len us) us) ≡ true
taken_is_sign us some n = taken_by us some (four us) (three us) (two us) (one us) refl refl refl refl n

pub taken_is_longest : (us : List ℕ) → 0 < length us → (sign_len us ≡ 0 → ⊥) → IsLongestSign us (take (sign_len us) us)
taken_is_longest us some n =
    (taken_is_sign us some n, λ longer rest is e. omega (arith, sign_at_most longer rest e, ap sign_len is, length-take-le (sign_len us) us (sign_within us some)))

no_empty_sign : (units : List ℕ) → is_sign units ≡ true → 1 ≤ length units
no_empty_sign [] e = cc
no_empty_sign (u ∷ us) e = omega arith

-- where none is read, none stands
pub no_sign : (us : List ℕ) → sign_len us ≡ 0 → (units rest : List ℕ) → us ≡ units ++ rest → is_sign units ≡ true → ⊥
no_sign us none units rest is e = absurd (omega (arith, none, sign_at_most units rest e, ap sign_len is, no_empty_sign units e))

-- and where none stands, none is read
pub none_read : (us : List ℕ) → 0 < length us → ((units rest : List ℕ) → us ≡ units ++ rest → is_sign units ≡ true → ⊥) → sign_len us ≡ 0
none_read us some none = by_read (eqb (sign_len us) 0) refl
  where
    by_read : (t : Bool) → eqb (sign_len us) 0 ≡ t → sign_len us ≡ 0
    by_read true e = eqb-true (sign_len us) 0 e
    by_read false e = absurd (none (take (sign_len us) us) (drop (sign_len us) us) (sym (take-append-drop (sign_len us) us)) (taken_is_sign us some (eqb-false (sign_len us) 0 e)))

module _ (us units rest : List ℕ) (is : us ≡ units ++ rest) (longest : IsLongestSign us units) where
  -- a sign has one unit at least
  pub sign_some : 1 ≤ length units
  sign_some = no_empty_sign units longest.0

  -- the longest sign is as long as the one that is read
  pub longest_is_read : length units ≡ sign_len us
  longest_is_read =
      let low : length units ≤ sign_len us = omega (arith, sign_at_most units rest longest.0, ap sign_len is) in
      let some : 0 < length us = omega (arith, ap length is ∙ length-append units rest, sign_some) in
      let sign = taken_is_sign us some (λ z. absurd (omega (arith, z, low, sign_some))) in
      let high = longest.1 (take (sign_len us) us) (drop (sign_len us) us) (sym (take-append-drop (sign_len us) us)) sign in
      omega (arith, low, high, length-take-le (sign_len us) us (sign_within us some))
