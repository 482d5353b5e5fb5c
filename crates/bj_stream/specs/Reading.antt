-- What is read.
use Rattle.std.specs.Prelude.{ℕ, ◌≡◌, ◌+◌, ◌≤◌, ◌<◌, ◌||◌, Bool, true, false, nat_lt, List, [], ◌++◌, length, slice_index, Option}
use Rattle.bj_io.specs.Told.{before, Rose}
use Rattle.bj_command.specs.declared.cut.Lines.{Lines}
use Rattle.bj_command.specs.Items.{items, line_then, lines_begun, begins_line}
use Rattle.bj_stream.specs.declared.reader.Polled.{Polled}
use Rattle.bj_stream.specs.declared.reader.Polled.TheVariants.{Got, NotYet, End, Failed}
use Rattle.bj_stream.specs.declared.reader.Taken.{Taken}
use Rattle.bj_stream.specs.declared.reader.Taken.TheVariants.{Line, Nothing, NoMemory as NoRoom}

-- what the source tells; the bytes that were got, and those of them that no line has taken
pub record Reader : Type 0 where
  pub left : Option (List ℕ)
  pub faults : ℕ
  pub waits : ℕ
  pub polls : ℕ
  pub ended : Bool
  pub got : List ℕ
  pub rest : List ℕ

abbrev pub fresh_reader : Option (List ℕ) → ℕ → ℕ → ℕ → Reader
fresh_reader left faults waits polls = record { left = left; faults = faults; waits = waits; polls = polls; ended = false; got = []; rest = [] }

-- byte 16,777,217 was got, or a byte of line 100,001
abbrev pub is_too_long : List ℕ → Bool
is_too_long got = nat_lt 16777216 (length got) || nat_lt 100000 (lines_begun true got)

-- a poll brings a piece, which is empty but at Got
pub record HasPolled (answer : Polled) (old new : Reader) : Type 0 where
  pub piece : List ℕ
  pub left : old.left ≡ before piece new.left
  pub got : new.got ≡ old.got ++ piece
  pub rest : new.rest ≡ old.rest ++ piece
  pub some : answer ≡ Got → 0 < length piece
  pub none : (answer ≡ Got → ⊥) → piece ≡ []
  pub ended : answer ≡ End → new.ended ≡ true
  pub goes_on : (answer ≡ End → ⊥) → new.ended ≡ old.ended
  pub faults : old.faults ≤ new.faults
  pub failed : answer ≡ Failed → Rose old.faults new.faults
  pub waits : old.waits ≤ new.waits
  pub not_yet : answer ≡ NotYet → Rose old.waits new.waits
  pub once : new.polls ≤ old.polls + 1

-- more bytes, and whether they have ended then, may still come
abbrev pub MayStill : Bool → List ℕ → Bool → Type 0
MayStill false more ended = Unit {0}
MayStill true more ended = (more ≡ []) × (ended ≡ true)

-- a line is taken from the rest
pub record TakesLine (line : List ℕ) (old new : Reader) : Type 0 where
  pub same : new ≡ record { left = old.left; faults = old.faults; waits = old.waits; polls = old.polls; ended = old.ended; got = old.got; rest = new.rest }
  pub shorter : length new.rest < length old.rest
  pub reads : (more : List ℕ) (ended : Bool) → MayStill old.ended more ended → items (old.rest ++ more) ended ≡ line_then line (items (new.rest ++ more) ended)

abbrev pub HasTaken : Taken → Reader → Reader → Type 0
HasTaken (Line bytes) old new = TakesLine bytes old new
HasTaken Nothing old new = (new ≡ old) × (old.ended ≡ true → old.rest ≡ [])
HasTaken NoRoom old new = new ≡ old

-- there is no LF among these bytes
abbrev pub HasNoLf : List ℕ → Type 0
HasNoLf bytes = (k : ℕ) → k < length bytes → slice_index bytes k ≡ 10 → ⊥

-- what a reader keeps of the bytes that it has got
pub record IsReader (got : List ℕ) (cut scanned : ℕ) (lines : Lines) (ended kept : Bool) : Type 0 where
  pub cut_within : cut ≤ scanned
  pub within : scanned ≤ length got
  pub none : (k : ℕ) → cut ≤ k → k < scanned → slice_index got k ≡ 10 → ⊥
  pub begun : lines.begun ≡ lines_begun true got
  pub first : lines.first ≡ begins_line true got
  pub few : lines.begun ≤ length got
  pub known : ended ≡ kept
