-- A text as UTF-16, as Java holds it, and as UTF-8 [Unicode 3.9, tables 3-5 to 3-7].
use Rattle.std.specs.Prelude.{◌≡◌, ℕ, List, [], ◌∷◌, ◌++◌, map, Option, Some, None, unwrap_or, IsUtf8, chars, encode_utf8_all}
use Rattle.std.specs.Char.Escape.{encode_utf16}
use Rattle.std.specs.Char.Utf16.{utf16_chars}
use Rattle.std.specs.Str.Lossy.{utf8_valid_len}
use Rattle.bj_text.specs.declared.utf.TextFault.{TextFault}
use Rattle.bj_text.specs.declared.utf.TextFault.TheVariants.{NotUtf8, NoMemory}

-- the units of characters: one or two of each
abbrev pub utf16_of : List ℕ → List ℕ
utf16_of [] = []
utf16_of (c ∷ cs) = encode_utf16 c ++ utf16_of cs

-- the units of a text in UTF-8
abbrev pub units_of : List ℕ → List ℕ
units_of bytes = utf16_of (chars bytes)

-- the characters that units spell, with `?` for each unpaired surrogate
abbrev pub shown_chars : List ℕ → List ℕ
shown_chars units = map (λ o. unwrap_or o 63) (utf16_chars units)

-- their bytes in UTF-8
abbrev pub bytes_of : List ℕ → List ℕ
bytes_of units = encode_utf8_all (shown_chars units)

-- the bytes are not UTF-8, and the longest front of them that is ends at the place
abbrev pub IsFaultOf : List ℕ → TextFault → Type 0
IsFaultOf bytes (NotUtf8 at) = (IsUtf8 bytes → ⊥) × (at ≡ utf8_valid_len bytes)
IsFaultOf bytes NoMemory = Unit {0}
