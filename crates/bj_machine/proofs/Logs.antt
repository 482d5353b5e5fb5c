-- What the rows of a log show, and what an entry more is.
use Rattle.std.proofs.Common.{◌≡◌, ◌≤◌, ◌<◌, ◌-◌, ℕ, List, ◌∷◌, Option, Some, length, refl, ap, ◌∙◌, arith}
use Rattle.std.specs.Prelude.{reverse, map, slice_get, slice_index_or}
use Rattle.std.specs.Option.{option_map}
use Rattle.std.proofs.lemmas.List.{reverse-reverse, length-reverse, length-map}
use Rattle.std.proofs.lemmas.Option.{slice_get-map, slice_get_read}
use Rattle.bj_core.specs.declared.action.Action.{Action}
use Rattle.bj_core.specs.declared.entry.Entry.{Entry}
use Rattle.bj_machine.specs.declared.log.Row.{Row}
use Rattle.bj_machine.specs.Kept.{LogValue, IsSameLog, HasEntry, entry_of, action_beside, with_log_room}

-- as much is shown as there are rows
pub shown_count : {X : Type 0} (f : Row → X) (rows : List Row) → length (reverse (map f rows)) ≡ length rows
shown_count f rows = length-reverse (map f rows) ∙ length-map rows f

-- what is shown of a row stands at its place
pub shown_at : {X : Type 0} (f : Row → X) (rows : List Row) (i : ℕ) (row : Row) → i < length rows → row ≡ slice_index_or rows i row → slice_get (reverse (reverse (map f rows))) i ≡ Some (f row)
shown_at {X} f rows i row within is = ap (λ (xs : List X). slice_get xs i) (reverse-reverse (map f rows)) ∙ (slice_get-map f rows i ∙ ap (option_map f) (slice_get_read rows (length rows) i row refl within is))

-- the log of these rows
abbrev pub shown : List Row → ℕ → LogValue
shown rows room = record { entries = reverse (map entry_of rows); actions = reverse (map action_beside rows); room = room }

-- the rows stay, and there is no less room for more
pub kept_rows : (old : LogValue) (rows now : List Row) (room count more as_many : ℕ) → shown rows (room - count) ≡ old → now ≡ rows → as_many ≡ count → room ≤ more → IsSameLog old (shown now (more - as_many))
kept_rows old rows now room count more as_many is same e wider =
    let had = ap (λ (v : LogValue). v.room) is in
    (more - as_many, omega arith, ap (λ (rs : List Row). shown rs (more - as_many)) same ∙ ap (λ (v : LogValue). with_log_room (more - as_many) v) is)

-- room was taken, and then an entry added
pub entry_after : (old mid new : LogValue) (e : Entry) (a : Option Action) → IsSameLog old mid → HasEntry e a mid new → HasEntry e a old new
entry_after old mid new e a same h =
    let is = ap (λ (v : LogValue). v.room) same.2 in
    let more = same.1 in
    let used = h.room in
    record {
      entries = h.entries ∙ ap (λ (v : LogValue). e ∷ v.entries) same.2;
      actions = h.actions ∙ ap (λ (v : LogValue). a ∷ v.actions) same.2;
      room = omega arith;
    }
