-- On numerals, as far as they are read.
use Rattle.std.proofs.Common.{◌≡◌, ℕ, ◌+◌, ◌-◌, ◌*◌, ◌<◌, ◌≤◌, Bool, true, false, cond, ◌&&◌, List, [], ◌∷◌, nat_le, refl, sym, ap, ◌∙◌, arith, Option, Some, None}
use Rattle.std.specs.Str.{all_ascii_digits}
use Rattle.std.specs.Char.{is_ascii_digit}
use Rattle.std.proofs.lemmas.Bool.Decides.{nat_tests}
use Rattle.bj_text.specs.Numeral.{value_after}

-- the numeral of the digits so far and the rest, if it is at most so large
abbrev pub numeral_after : ℕ → ℕ → List ℕ → Option ℕ
numeral_after most value rest = cond (all_ascii_digits rest && nat_le (value_after value rest) most) (Some (value_after value rest)) None

pub value_after-ge : (n : ℕ) (cs : List ℕ) → n ≤ value_after n cs
value_after-ge n [] = omega arith
value_after-ge n (c ∷ cs) = omega (arith, value_after-ge (10 * n + (c - 48)) cs)

pub digit_true : (d : ℕ) → 48 ≤ d → d ≤ 57 → is_ascii_digit d ≡ true
digit_true d l h = grind (arith, nat_tests)

pub digit_low : (d : ℕ) → d < 48 → is_ascii_digit d ≡ false
digit_low d h = grind (arith, nat_tests)

pub digit_high : (d : ℕ) → 57 < d → is_ascii_digit d ≡ false
digit_high d h = grind (arith, nat_tests)

pub goes_on : (most value d : ℕ) (rest : List ℕ) → 48 ≤ d → d ≤ 57 → numeral_after most value (d ∷ rest) ≡ numeral_after most (value * 10 + (d - 48)) rest
goes_on most value d rest l h =
    ap (λ b. cond (b && all_ascii_digits rest && nat_le (value_after (10 * value + (d - 48)) rest) most) (Some (value_after (10 * value + (d - 48)) rest)) None) (digit_true d l h)
    ∙ ap (λ n. numeral_after most n rest) {x = 10 * value + (d - 48)} {y = value * 10 + (d - 48)} (omega arith)

pub stops_at : (most value d : ℕ) (rest : List ℕ) → is_ascii_digit d ≡ false → numeral_after most value (d ∷ rest) ≡ None
stops_at most value d rest e =
    ap (λ b. cond (b && all_ascii_digits rest && nat_le (value_after (10 * value + (d - 48)) rest) most) (Some (value_after (10 * value + (d - 48)) rest)) None) e

no_more : (a : Bool) (n most : ℕ) → most < n → cond (a && nat_le n most) (Some n) None ≡ None
no_more true n most h = grind (arith, nat_tests)
no_more false n most h = refl

pub passes : (most value d : ℕ) (rest : List ℕ) → most < value * 10 + (d - 48) → numeral_after most value (d ∷ rest) ≡ None
passes most value d rest h = no_more (is_ascii_digit d && all_ascii_digits rest) _ most (omega (arith, value_after-ge (10 * value + (d - 48)) rest))
