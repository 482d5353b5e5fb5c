-- Lines and columns [JLS 3.4]: both from 1, columns in UTF-16 units.
use Rattle.std.specs.Prelude.{ℕ, ◌+◌, Bool, true, false, List, [], ◌∷◌, ◌==◌, if◌then◌else◌}
use Rattle.bj_lex.specs.declared.place.Place.{Place}
use Rattle.bj_base.specs.declared.span.Span.{Span}

abbrev pub start : Place
start = record { line = 1; column = 1; after_return = false }

abbrev pub new_line : Place → Bool → Place
new_line p after_return = record { line = p.line + 1; column = 1; after_return = after_return }

-- the place behind a unit: a line ends at LF, CR or CR LF
unfoldable pub next_place : Place → ℕ → Place
next_place p u = if u == 13 then new_line p true
    else (if u == 10 then (if p.after_return then record p { after_return = false } else new_line p false)
    else record { line = p.line; column = p.column + 1; after_return = false })

-- the place behind units
unfoldable pub place_after : Place → List ℕ → Place
place_after p [] = p
place_after p (u ∷ us) = place_after (next_place p u) us

abbrev pub span_of : Place → Span
span_of p = record { line = p.line; column = p.column }
