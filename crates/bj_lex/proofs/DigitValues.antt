-- On the numbers that digits stand for.
use Rattle.std.proofs.Common.{◌≡◌, ℕ, ◌+◌, ◌<◌, ◌≤◌, List, [], ◌∷◌, length, drop, get_or, sym, ap, ◌∙◌, arith, Option, Some, None}
use Rattle.std.proofs.lemmas.Bool.Decides.{nat_tests}
use Rattle.std.proofs.Math.Nat.{mul-le-mul_left}
use Rattle.bj_text.specs.Unescape.{hex_of}
use Rattle.bj_lex.specs.Numerals.{value_after, with_digit, fitting, value_up_to}
use Rattle.bj_lex.proofs.Runs.{value_after-nil, value_after-cons, value_at}

with_digit-ge : (base n : ℕ) (d : Option ℕ) → 1 ≤ base → n ≤ with_digit base n d
with_digit-ge base n None low = omega arith
with_digit-ge base n (Some d) low = omega (arith, mul-le-mul_left n low)

pub value_after-ge : (base n : ℕ) (us : List ℕ) → 1 ≤ base → n ≤ value_after base n us
value_after-ge base n [] low = omega (arith, value_after-nil base n)
value_after-ge base n (u ∷ us) low =
    omega (arith, value_after-cons base n u us, value_after-ge base (with_digit base n (hex_of u)) us low, with_digit-ge base n (hex_of u) low)

over : (n : ℕ) → None ≡ fitting n → 18446744073709551615 < n
over n e = grind (arith, nat_tests)

fits : (n v : ℕ) → Some v ≡ fitting n → v ≡ n
fits n v e = grind (arith, nat_tests)

pub within_most : (base most v : ℕ) (us : List ℕ) → v ≡ value_after base 0 us → v ≤ most → Some v ≡ value_up_to base most us
within_most base most v us e h = grind (arith, nat_tests)

pub beyond_most : (base most : ℕ) (us : List ℕ) → most < value_after base 0 us → None ≡ value_up_to base most us
beyond_most base most us h = grind (arith, nat_tests)

module _ (base most n : ℕ) (us : List ℕ) (at : ℕ) (d : Option ℕ) (lt : at < length us) (is : d ≡ hex_of (get_or us at 0)) (so_far : value_after base n (drop at us) ≡ value_after base 0 us) where
  step : value_after base 0 us ≡ value_after base (with_digit base n d) (drop (at + 1) us)
  step = sym so_far ∙ value_at us at base n lt ∙ ap (λ o. value_after base (with_digit base n o) (drop (at + 1) us)) (sym is)

  pub stops : 1 ≤ base → most < 18446744073709551616 → None ≡ fitting (with_digit base n d) → None ≡ value_up_to base most us
  stops low small e = beyond_most base most us (omega (arith, over (with_digit base n d) e, value_after-ge base (with_digit base n d) (drop (at + 1) us) low, step))

  pub goes_on : (m : ℕ) → Some m ≡ fitting (with_digit base n d) → value_after base m (drop (at + 1) us) ≡ value_after base 0 us
  goes_on m e = ap (λ k. value_after base k (drop (at + 1) us)) (fits (with_digit base n d) m e) ∙ sym step
