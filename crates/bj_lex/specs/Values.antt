-- What literals in quotes stand for [JLS 3.10.4 to 3.10.6].
use Rattle.std.specs.Prelude.{ℕ, ◌-◌, List, [], ◌∷◌, Option, Some, None, Result, Ok, Err, length, take, drop, option_and_then}
use Rattle.bj_text.specs.Unescape.{unescaped}

-- the units within the quotation marks
abbrev pub quoted : List ℕ → List ℕ
quoted literal = take (length literal - 2) (drop 1 literal)

abbrev pub if_ok : Result (List ℕ) ℕ → Option (List ℕ)
if_ok (Ok units) = Some units
if_ok (Err at) = None

-- the units that a literal stands for, if each backslash begins an escape sequence
abbrev pub meaning : List ℕ → Option (List ℕ)
meaning literal = if_ok (unescaped (quoted literal))

abbrev pub only : List ℕ → Option ℕ
only (u ∷ []) = Some u
only _ = None

-- the one unit that a character literal stands for
abbrev pub char_value : List ℕ → Option ℕ
char_value literal = option_and_then only (meaning literal)
