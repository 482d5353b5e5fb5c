-- Numbers [JLS 3.10.1, 3.10.2].
use Rattle.std.specs.Prelude.{ℕ, ◌+◌, ◌-◌, ◌*◌, Bool, false, ◌&&◌, ◌||◌, List, [], ◌∷◌, Option, Some, None, ◌==◌, nat_lt, nat_le, if◌then◌else◌, slice_index, length, take, drop, suc}
use Rattle.bj_text.specs.Unescape.{hex_of}
use Rattle.bj_lex.specs.declared.element.Element.{Element}
use Rattle.bj_lex.specs.declared.element.Element.TheVariants.{Token, Fault}
use Rattle.bj_lex.specs.declared.numbers.Numeral.{Numeral}
use Rattle.bj_lex.specs.declared.numbers.Numeral.TheVariants.{Malformed, TooWide, Value}
use Rattle.bj_token.specs.declared.token.TokenKind.{TokenKind}
use Rattle.bj_token.specs.declared.token.TokenKind.TheVariants.{Number, LongNumber}
use Rattle.bj_base.specs.declared.fault.FaultCode.TheVariants.{Char, Wide, Profile}

abbrev pub below : ℕ → Option ℕ → Bool
below base None = false
below base (Some d) = nat_lt d base

-- a digit of the base; Digit is one of base 10
abbrev pub is_digit_in : ℕ → ℕ → Bool
is_digit_in base c = below base (hex_of c)

abbrev pub is_digit_or_underscore : ℕ → ℕ → Bool
is_digit_or_underscore base c = is_digit_in base c || (c == 95)

-- how many digits and underscores stand at the front
unfoldable pub digits_len : ℕ → List ℕ → ℕ
digits_len base [] = 0
digits_len base (c ∷ cs) = if is_digit_or_underscore base c then suc (digits_len base cs) else 0

-- Digits, HexDigits, OctalDigits, BinaryDigits: digits and underscores, a digit at each end
abbrev pub is_digits : ℕ → List ℕ → Bool
is_digits base us = nat_lt 0 (length us) && is_digit_in base (slice_index us 0) && is_digit_in base (slice_index us (length us - 1)) && (digits_len base us == length us)

-- the number that the digits stand for, behind the number n; an underscore stands for nothing
abbrev pub with_digit : ℕ → ℕ → Option ℕ → ℕ
with_digit base n None = n
with_digit base n (Some d) = n * base + d

unfoldable pub value_after : ℕ → ℕ → List ℕ → ℕ
value_after base n [] = n
value_after base n (c ∷ cs) = value_after base (with_digit base n (hex_of c)) cs

-- IntegerTypeSuffix
abbrev pub is_suffix : ℕ → Bool
is_suffix c = (c == 108) || (c == 76)

abbrev pub is_long : List ℕ → Bool
is_long run = is_suffix (slice_index run (length run - 1))

-- the numeral without its suffix
abbrev pub body_of : List ℕ → List ℕ
body_of run = if is_long run then take (length run - 1) run else run

abbrev pub is_hex_mark : ℕ → Bool
is_hex_mark c = (c == 120) || (c == 88)

abbrev pub is_binary_mark : ℕ → Bool
is_binary_mark c = (c == 98) || (c == 66)

-- the base of a numeral: HexNumeral, BinaryNumeral, OctalNumeral, DecimalNumeral
abbrev pub base_of : List ℕ → ℕ
base_of body = if (slice_index body 0 == 48) && nat_lt 1 (length body)
    then (if is_hex_mark (slice_index body 1) then 16 else (if is_binary_mark (slice_index body 1) then 2 else 8)) else 10

-- its digits, behind `0x` or `0b`
abbrev pub digits_of : ℕ → List ℕ → List ℕ
digits_of base body = if (base == 16) || (base == 2) then drop 2 body else body

-- the largest number that a numeral of the type may stand for in some place: a decimal one may be one more as the operand of unary minus
abbrev pub most_of : ℕ → Bool → ℕ
most_of base long = if base == 10 then (if long then 9223372036854775808 else 2147483648) else (if long then 18446744073709551615 else 4294967295)

-- the number, if 64 bits hold it
abbrev pub fitting : ℕ → Option ℕ
fitting n = if nat_le n 18446744073709551615 then Some n else None

-- the number that the digits stand for, if it is at most so large
abbrev pub value_up_to : ℕ → ℕ → List ℕ → Option ℕ
value_up_to base most digits = if nat_le (value_after base 0 digits) most then Some (value_after base 0 digits) else None

abbrev pub of_value : Option ℕ → Numeral
of_value None = TooWide
of_value (Some v) = Value v

abbrev pub numeral_in : ℕ → ℕ → List ℕ → Numeral
numeral_in base most digits = if is_digits base digits then of_value (value_up_to base most digits) else Malformed

-- what a run that begins with a digit is
abbrev pub numeral_of : List ℕ → Numeral
numeral_of run = let body = body_of run in let base = base_of body in numeral_in base (most_of base (is_long run)) (digits_of base body)

-- FloatTypeSuffix, ExponentIndicator, BinaryExponentIndicator, Sign
abbrev pub is_float_suffix : ℕ → Bool
is_float_suffix c = (c == 102) || (c == 70) || (c == 100) || (c == 68)

abbrev pub is_exponent_mark : ℕ → ℕ → Bool
is_exponent_mark base c = if base == 16 then (c == 112) || (c == 80) else (c == 101) || (c == 69)

abbrev pub is_sign : ℕ → Bool
is_sign c = (c == 43) || (c == 45)

abbrev pub is_digits_and_suffix : List ℕ → Bool
is_digits_and_suffix us = is_float_suffix (slice_index us (length us - 1)) && is_digits 10 (take (length us - 1) us)

-- Digits, or Digits and a FloatTypeSuffix
abbrev pub is_suffixed : List ℕ → Bool
is_suffixed us = is_digits 10 us || is_digits_and_suffix us

-- SignedInteger and the suffix behind an exponent's letter: within the run, or a sign and a digit behind it
abbrev pub is_exponent : List ℕ → List ℕ → Bool
is_exponent us after = if length us == 0 then is_sign (slice_index after 0) && is_digit_in 10 (slice_index after 1) else is_suffixed us

abbrev pub begins_exponent : ℕ → List ℕ → List ℕ → Bool
begins_exponent base tail after = is_exponent_mark base (slice_index tail 0) && is_exponent (drop 1 tail) after

abbrev pub is_last_suffix : ℕ → List ℕ → Bool
is_last_suffix base tail = (base == 10) && ((length tail == 1) && is_float_suffix (slice_index tail 0))

-- what follows the digits of a run makes it a floating-point literal: a fraction, an exponent, or a suffix
abbrev pub is_float_tail : ℕ → List ℕ → List ℕ → Bool
is_float_tail base tail after = if length tail == 0 then slice_index after 0 == 46
    else begins_exponent base tail after || is_last_suffix base tail

-- DecimalFloatingPointLiteral with a digit before its point
abbrev pub is_decimal_float : List ℕ → List ℕ → Bool
is_decimal_float run after = let n = digits_len 10 run in is_digits 10 (take n run) && is_float_tail 10 (drop n run) after

abbrev pub is_digits_or_none : List ℕ → Bool
is_digits_or_none us = (length us == 0) || is_digits 16 us

-- HexadecimalFloatingPointLiteral behind `0x`; before a point no digit need stand
abbrev pub is_hex_float : List ℕ → List ℕ → Bool
is_hex_float run after = let n = digits_len 16 run in is_digits_or_none (take n run) && is_float_tail 16 (drop n run) after

abbrev pub has_hex_mark : List ℕ → Bool
has_hex_mark run = nat_lt 1 (length run) && (slice_index run 0 == 48) && is_hex_mark (slice_index run 1)

abbrev pub is_float : List ℕ → List ℕ → Bool
is_float run after = if has_hex_mark run then is_hex_float (drop 2 run) after else is_decimal_float run after

abbrev pub number_kind : List ℕ → TokenKind
number_kind run = if is_long run then LongNumber else Number

abbrev pub numeral_element : List ℕ → Numeral → Element
numeral_element run Malformed = Fault Char
numeral_element run TooWide = Fault Wide
numeral_element run (Value v) = Token (number_kind run) (length run)

-- the number at the front of what begins with a digit
abbrev pub number_element : List ℕ → List ℕ → Element
number_element run after = if is_float run after then Fault Profile else numeral_element run (numeral_of run)
