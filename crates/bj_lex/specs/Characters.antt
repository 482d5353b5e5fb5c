-- The characters of tokens [JLS 3.4, 3.6, 3.8].
use Rattle.std.specs.Prelude.{ℕ, zero, suc, ◌-◌, Bool, false, ◌&&◌, ◌||◌, List, [], ◌∷◌, Option, Some, None, ◌==◌, if◌then◌else◌, slice_index}
use Rattle.std.specs.Char.Utf16.{is_high_surrogate, is_low_surrogate, surrogate_pair_char, lone_unit_char}
use Rattle.unicode_ident.specs.Ident.{is_xid_start, is_xid_continue}

-- LineTerminator is LF, CR, or CR LF
abbrev pub is_line_end : ℕ → Bool
is_line_end u = (u == 10) || (u == 13)

-- WhiteSpace: space, tab, form feed, line ends
abbrev pub is_white : ℕ → Bool
is_white u = (u == 32) || (u == 9) || (u == 12) || is_line_end u

-- the two units make a pair of surrogates
abbrev pub is_pair : ℕ → ℕ → Bool
is_pair u v = is_high_surrogate u && is_low_surrogate v

-- the character at the front, if it is not half of one, and how many units it has
abbrev pub front_char : List ℕ → Option ℕ
front_char [] = None
front_char (u ∷ us) = if is_pair u (slice_index us 0) then Some (surrogate_pair_char u (slice_index us 0)) else lone_unit_char u

abbrev pub front_width : List ℕ → ℕ
front_width [] = 0
front_width (u ∷ us) = if is_pair u (slice_index us 0) then 2 else 1

-- JavaLetter: XID_Start, `_` or `$`; JavaLetterOrDigit: XID_Continue, to which `_` belongs, or `$`
abbrev pub is_letter_char : ℕ → Bool
is_letter_char c = is_xid_start c || (c == 95) || (c == 36)

abbrev pub is_part_char : ℕ → Bool
is_part_char c = is_xid_continue c || (c == 95) || (c == 36)

abbrev pub passes : (ℕ → Bool) → Option ℕ → Bool
passes p None = false
passes p (Some c) = p c

abbrev pub begins_word : List ℕ → Bool
begins_word us = passes is_letter_char (front_char us)

abbrev pub begins_part : List ℕ → Bool
begins_part us = passes is_part_char (front_char us)

-- how many units the letters and digits at the front have, behind so many that belong to the first of them
unfoldable pub parts_after : ℕ → List ℕ → ℕ
parts_after n [] = 0
parts_after (suc n) (u ∷ us) = suc (parts_after n us)
parts_after zero (u ∷ us) = if begins_part (u ∷ us) then suc (parts_after (front_width (u ∷ us) - 1) us) else 0

-- how many units the longest run of letters and digits at the front has
abbrev pub parts_len : List ℕ → ℕ
parts_len us = parts_after 0 us
