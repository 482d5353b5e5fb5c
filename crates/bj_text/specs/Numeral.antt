-- Decimal numerals.
use Rattle.std.specs.Prelude.{ℕ, ◌+◌, ◌-◌, ◌*◌, ◌^◌, Bool, true, false, ◌&&◌, not, List, [], ◌∷◌, Option, Some, None, option_and_then, option_map, ◌==◌, nat_lt, nat_le, if◌then◌else◌, ℤ, pos, neg_ℤ, length}
use Rattle.std.specs.Str.{all_ascii_digits}

-- the number that digits stand for, behind the number n
abbrev pub value_after : ℕ → List ℕ → ℕ
value_after n [] = n
value_after n (c ∷ cs) = value_after (10 * n + (c - 48)) cs

abbrev pub value_of : List ℕ → ℕ
value_of digits = value_after 0 digits

-- the number of one or more digits, if it is at most so large
abbrev pub numeral_up_to : ℕ → List ℕ → Option ℕ
numeral_up_to most digits = if nat_lt 0 (length digits) && all_ascii_digits digits && nat_le (value_of digits) most then Some (value_of digits) else None

-- the `int` that an optional sign and digits stand for
abbrev pub int_of : List ℕ → Option ℤ
int_of [] = None
int_of (c ∷ cs) = if c == 45 then option_map (λ n. neg_ℤ (pos n)) (numeral_up_to 2147483648 cs)
    else (if c == 43 then option_map pos (numeral_up_to 2147483647 cs) else option_map pos (numeral_up_to 2147483647 (c ∷ cs)))
