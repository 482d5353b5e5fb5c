-- How a text is written in a source, or on one line [JLS 3.10.6].
use Rattle.std.specs.Prelude.{ℕ, ◌+◌, ◌/◌, ◌%◌, Bool, true, false, ◌&&◌, ◌||◌, not, List, [], ◌∷◌, ◌++◌, Option, Some, None, ◌==◌, nat_lt, nat_le, if◌then◌else◌, slice_index}
use Rattle.std.specs.Char.Utf16.{is_high_surrogate, is_low_surrogate}
use Rattle.bj_text.specs.declared.escaping.Quote.{Quote}
use Rattle.bj_text.specs.declared.escaping.Quote.TheVariants.{Plain, Text, Char, Source}

-- the letter that stands behind a backslash for backspace, tab, line feed, form feed, return and backslash
abbrev pub letter_for : ℕ → Option ℕ
letter_for u = if u == 8 then Some 98 else (if u == 9 then Some 116 else (if u == 10 then Some 110
    else (if u == 12 then Some 102 else (if u == 13 then Some 114 else (if u == 92 then Some 92 else None)))))

-- the quotation mark that is escaped
abbrev pub mark_of : Quote → Option ℕ
mark_of Plain = None
mark_of Text = Some 34
mark_of Char = Some 39
mark_of Source = Some 34

abbrev pub is_mark : Option ℕ → ℕ → Bool
is_mark None u = false
is_mark (Some mark) u = u == mark

abbrev pub is_source : Quote → Bool
is_source Source = true
is_source _ = false

-- a control character, as U+0000 to U+001F and U+007F are
abbrev pub is_control : ℕ → Bool
is_control u = nat_lt u 32 || (u == 127)

-- the surrogate u, between these two units, is in no pair
abbrev pub is_unpaired : ℕ → ℕ → ℕ → Bool
is_unpaired before u after = (is_high_surrogate u && not (is_low_surrogate after)) || (is_low_surrogate u && not (is_high_surrogate before))

-- the digit in base 16, in upper case
abbrev pub upper_hex : ℕ → ℕ
upper_hex d = if nat_lt d 10 then 48 + d else 55 + d

-- a backslash and three octal digits; a backslash, `u` and four hexadecimal digits
abbrev pub octal_escape : ℕ → List ℕ
octal_escape u = 92 ∷ (48 + u / 64) ∷ (48 + u / 8 % 8) ∷ (48 + u % 8) ∷ []

abbrev pub unicode_escape : ℕ → List ℕ
unicode_escape u = 92 ∷ 117 ∷ upper_hex (u / 4096) ∷ upper_hex (u / 256 % 16) ∷ upper_hex (u / 16 % 16) ∷ upper_hex (u % 16) ∷ []

-- a unit without a letter of its own
abbrev pub escaped_other : Quote → ℕ → ℕ → ℕ → List ℕ
escaped_other quote before u after = if is_mark (mark_of quote) u then 92 ∷ u ∷ []
    else (if is_control u then octal_escape u
    else (if is_source quote && is_unpaired before u after then unicode_escape u else u ∷ []))

-- what is written for the unit u, between these two units
abbrev pub escaped_unit : Quote → ℕ → ℕ → ℕ → List ℕ
escaped_unit quote before u after = elim (letter_for u) [ None ↦ escaped_other quote before u after | Some letter ↦ 92 ∷ letter ∷ [] ]

-- what is written for the units that follow the unit before
abbrev pub escaped_after : Quote → ℕ → List ℕ → List ℕ
escaped_after quote before [] = []
escaped_after quote before (u ∷ us) = escaped_unit quote before u (slice_index us 0) ++ escaped_after quote u us

-- what is written for a text
abbrev pub escaped : Quote → List ℕ → List ℕ
escaped quote units = escaped_after quote 0 units
