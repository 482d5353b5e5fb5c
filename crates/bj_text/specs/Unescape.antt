-- What the text of a literal stands for [JLS 3.10.6, and 3.3 within literals].
use Rattle.std.specs.Prelude.{◌≡◌, ℕ, zero, suc, ◌+◌, ◌-◌, ◌*◌, Bool, true, false, ◌&&◌, ◌||◌, List, [], ◌∷◌, ◌++◌, Option, Some, None, Result, Ok, Err, option_map, option_and_then, ◌==◌, nat_lt, nat_le, if◌then◌else◌, slice_get}
use Rattle.bj_text.specs.declared.unescaping.EscapeFault.{EscapeFault}
use Rattle.bj_text.specs.declared.unescaping.EscapeFault.TheVariants.{BadEscape, NoMemory}

-- OctalDigit
abbrev pub is_octal : ℕ → Bool
is_octal c = nat_le 48 c && nat_lt c 56

-- the value of a HexDigit
abbrev pub hex_of : ℕ → Option ℕ
hex_of c = if nat_le 48 c && nat_lt c 58 then Some (c - 48) else (if nat_le 65 c && nat_lt c 71 then Some (c - 55)
    else (if nat_le 97 c && nat_lt c 103 then Some (c - 87) else None))

-- `b t n f r " ' \`
abbrev pub unit_for : ℕ → Option ℕ
unit_for c = if c == 98 then Some 8 else (if c == 116 then Some 9 else (if c == 110 then Some 10
    else (if c == 102 then Some 12 else (if c == 114 then Some 13
    else (if c == 34 then Some 34 else (if c == 39 then Some 39 else (if c == 92 then Some 92 else None)))))))

-- the value of the OctalDigit at a place
abbrev pub octal_value : ℕ → Option ℕ
octal_value c = if is_octal c then Some (c - 48) else None

abbrev pub octal_at : List ℕ → ℕ → Option ℕ
octal_at units at = option_and_then octal_value (slice_get units at)

-- OctalEscape from its first digit on: how many units it has, and the unit that it stands for.
-- It is the longest: three digits where the first is at most 3, else two, else one
abbrev pub octal_sequence : ℕ → List ℕ → ℕ × ℕ
octal_sequence first more = let a = first - 48 in elim (octal_at more 0) [
  | None ↦ (1, a)
  | Some b ↦ if nat_lt 3 a then (2, a * 8 + b) else elim (octal_at more 1) [ None ↦ (2, a * 8 + b) | Some c ↦ (3, a * 64 + (b * 8 + c)) ]
]

-- what `\u` may not stand for: a line end, a quotation mark, a backslash
abbrev pub is_kept_out : ℕ → Bool
is_kept_out v = (v == 10) || (v == 13) || (v == 34) || (v == 39) || (v == 92)

-- the value of the HexDigit at a place, of two from a place on, and of the first four
abbrev pub hex_at : List ℕ → ℕ → Option ℕ
hex_at units at = option_and_then hex_of (slice_get units at)

abbrev pub join_hex : ℕ → Option ℕ → Option ℕ → Option ℕ
join_hex base (Some x) (Some y) = Some (x * base + y)
join_hex base _ _ = None

abbrev pub two_hex_at : List ℕ → ℕ → Option ℕ
two_hex_at units at = join_hex 16 (hex_at units at) (hex_at units (at + 1))

abbrev pub four_hex : List ℕ → Option ℕ
four_hex units = join_hex 256 (two_hex_at units 0) (two_hex_at units 2)

-- UnicodeEscape behind its one `u`
abbrev pub unicode_of : ℕ → Option (ℕ × ℕ)
unicode_of v = if is_kept_out v then None else Some (5, v)

abbrev pub unicode_sequence : List ℕ → Option (ℕ × ℕ)
unicode_sequence more = option_and_then unicode_of (four_hex more)

-- the escape sequence at the front of what follows a backslash, if one stands there
abbrev pub sequence_of : List ℕ → Option (ℕ × ℕ)
sequence_of [] = None
sequence_of (c ∷ cs) = if c == 117 then unicode_sequence cs
    else (if is_octal c then Some (octal_sequence c cs) else option_map (λ v. (1, v)) (unit_for c))

-- units before what the rest stands for
abbrev pub before_units : List ℕ → Result (List ℕ) ℕ → Result (List ℕ) ℕ
before_units us (Ok vs) = Ok (us ++ vs)
before_units us (Err at) = Err at

-- what the units from a place on stand for, behind so many that belong to an escape sequence,
-- or the place of the first backslash that begins none
unfoldable pub unescaped_after : ℕ → ℕ → List ℕ → Result (List ℕ) ℕ
unescaped_after n at [] = Ok []
unescaped_after (suc n) at (u ∷ us) = unescaped_after n (at + 1) us
unescaped_after zero at (u ∷ us) = if u == 92
    then elim (sequence_of us) [ None ↦ Err at | Some s ↦ before_units (s.1 ∷ []) (unescaped_after s.0 (at + 1) us) ]
    else before_units (u ∷ []) (unescaped_after zero (at + 1) us)

-- what a text stands for, or the place of the first backslash that begins no escape sequence
abbrev pub unescaped : List ℕ → Result (List ℕ) ℕ
unescaped units = unescaped_after 0 0 units

-- the first backslash that begins no escape sequence stands at the place
abbrev pub IsBadEscape : List ℕ → EscapeFault → Type 0
IsBadEscape units (BadEscape at) = unescaped units ≡ Err at
IsBadEscape units NoMemory = Unit {0}
