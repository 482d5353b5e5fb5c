-- Separators, operators and `@` [JLS 3.11, 3.12].
use Rattle.std.specs.Prelude.{ℕ, Bool, false, ◌&&◌, ◌||◌, List, [], ◌∷◌, codes, ◌==◌, if◌then◌else◌, slice_index, nat_le, length}
use Rattle.std.specs.List.{list_any}
use Rattle.bj_lex.specs.Numerals.{is_digit_in}
use Rattle.bj_lex.specs.declared.element.Element.{Element}
use Rattle.bj_lex.specs.declared.element.Element.TheVariants.{Token, Fault}
use Rattle.bj_token.specs.declared.token.TokenKind.TheVariants.{Sign}
use Rattle.bj_base.specs.declared.fault.FaultCode.TheVariants.{Char, Profile}

abbrev pub is_one_of : List ℕ → ℕ → Bool
is_one_of units u = list_any (λ v. u == v) units

-- a sign of one unit; of two: with `=` behind it, doubled, or `->`; of three; `>>>=`
abbrev pub is_single : ℕ → Bool
is_single u = is_one_of (codes "(){}[];,.@=><!~?:+-*/&|^%") u

abbrev pub is_double : ℕ → ℕ → Bool
is_double u v = ((v == 61) && is_one_of (codes "=><!+-*/&|^%") u) || ((u == v) && is_one_of (codes "&|+-<>:") u) || ((u == 45) && (v == 62))

abbrev pub is_triple : ℕ → ℕ → ℕ → Bool
is_triple u v w = (((u == 60) || (u == 62)) && (u == v) && (w == 61)) || ((u == 62) && (v == 62) && (w == 62)) || ((u == 46) && (v == 46) && (w == 46))

abbrev pub is_quadruple : ℕ → ℕ → ℕ → ℕ → Bool
is_quadruple u v w x = (u == 62) && (v == 62) && (w == 62) && (x == 61)

-- the units are a sign
abbrev pub is_sign : List ℕ → Bool
is_sign (u ∷ []) = is_single u
is_sign (u ∷ v ∷ []) = is_double u v
is_sign (u ∷ v ∷ w ∷ []) = is_triple u v w
is_sign (u ∷ v ∷ w ∷ x ∷ []) = is_quadruple u v w x
is_sign _ = false

-- how many units the longest sign at the front has
abbrev pub sign_len : List ℕ → ℕ
sign_len us = let u = slice_index us 0 in let v = slice_index us 1 in let w = slice_index us 2 in
    if nat_le 4 (length us) && is_quadruple u v w (slice_index us 3) then 4 else (if nat_le 3 (length us) && is_triple u v w then 3
    else (if nat_le 2 (length us) && is_double u v then 2 else (if is_single u then 1 else 0)))

-- `->`, `::` and `...`, which the profile leaves out, and the point of a floating-point literal before a digit
abbrev pub is_left_out_sign : List ℕ → Bool
is_left_out_sign us = let u = slice_index us 0 in let v = slice_index us 1 in
    ((u == 45) && (v == 62)) || ((u == 58) && (v == 58)) || ((u == 46) && (((v == 46) && (slice_index us 2 == 46)) || is_digit_in 10 v))

abbrev pub sign_of : List ℕ → ℕ → Element
sign_of us n = if n == 0 then Fault Char else (if is_left_out_sign us then Fault Profile else Token Sign n)

abbrev pub sign_element : List ℕ → Element
sign_element us = sign_of us (sign_len us)
