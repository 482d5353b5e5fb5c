-- What a run of the program is.
use Rattle.std.specs.Prelude.{ℕ, ◌≡◌, ◌==◌, ◌+◌, ◌≤◌, ◌⊎◌, Bool, true, false, not, if◌then◌else◌, List, [], ◌∷◌, length, Option, Some, None, codes, string_bytes}
use Rattle.std.specs.Str.{bytes_eq}
use Rattle.std.specs.declared.string.String.{String}
use Rattle.std.specs.declared.alloc.Global.{Global}
use Rattle.bj_io.specs.Told.{before, behind}
use Rattle.bj_history.specs.declared.opening.Opening.{Opening}
use Rattle.bj_command.specs.Items.{items, IsPrefixOf}
use Rattle.bj_machine.specs.Kept.{LogValue}
use Rattle.bj_history.specs.History.{Legal, actions, after, lines, written}
use Rattle.bj_stream.specs.Reading.{is_too_long}
use Rattle.bj_session.specs.Session.{IsOver, Holds}
use Rattle.bj_stream.specs.declared.sending.Sent.{Sent}
use Rattle.bj_stream.specs.declared.sending.Sent.TheVariants.{All, Failed, NoMemory}

-- the words are `pad` alone
abbrev pub is_pad : List (String Global) → Bool
is_pad [] = false
is_pad (word ∷ []) = bytes_eq (string_bytes word) (codes "pad")
is_pad (word ∷ other ∷ words) = false

-- a word that begins with `-` is no folder
abbrev pub is_option : List ℕ → Bool
is_option [] = false
is_option (b ∷ bs) = b == 45

-- the words are `bench` and a folder, which is not read yet
abbrev pub is_bench : List (String Global) → Bool
is_bench (word ∷ folder ∷ []) = if bytes_eq (string_bytes word) (codes "bench") then not (is_option (string_bytes folder)) else false
is_bench words = false

-- what a session of `pad` or of `bench` begins with
abbrev pub opening : Bool → Opening
opening pad = record { pad = pad; limits = record { acts = 4000000; frames = 2000; threads = 1000; heap = record { objects = 1000000; cells = 4000000 } } }

-- what the session begins with that the words ask for
abbrev pub opening_of : List (String Global) → Option Opening
opening_of words = if is_pad words then Some (opening true) else if is_bench words then Some (opening false) else None

-- a put failed, or memory was wanting
abbrev pub IsCut : ℕ → Type 0
IsCut status = (status ≡ 4) ⊎ (status ≡ 5)

-- a run of `pad` or of `bench` ends so
abbrev pub IsStatus : ℕ → Type 0
IsStatus status = (status ≡ 0) ⊎ ((status ≡ 3) ⊎ ((status ≡ 4) ⊎ ((status ≡ 5) ⊎ ((status ≡ 7) ⊎ (status ≡ 8)))))

-- A run of this opening, from the ends as they were to the ends as they are: some bytes were got, the history is legal, its
-- lines begin the lines of those bytes, and its printing was written.
pub record Ran (o : Opening) (left left' : Option (List ℕ)) (polls polls' : ℕ) (ended : Bool) (held held' : Option (List ℕ)) (status : ℕ) (log : LogValue) : Type 0 where
  pub got : List ℕ
  pub read : left ≡ before got left'
  pub legal : Legal o log.entries
  -- beside each act the log keeps the action that was answered
  pub acted : log.actions ≡ actions o log.entries
  pub lines_are : IsPrefixOf (lines log.entries) (items got ended)
  pub wrote : Holds held held' (IsCut status) (written o log.entries)
  pub known : IsStatus status
  -- 0 exactly where all is done: then the lines of the history are all lines that were got, up to the first `quit`
  pub complete : status ≡ 0 → IsOver o.pad got ended log.entries
  pub only_complete : IsOver o.pad got ended log.entries → status ≡ 0
  -- 7 exactly where too much was got
  pub long : status ≡ 7 → is_too_long got ≡ true
  pub only_long : is_too_long got ≡ true → status ≡ 7
  -- the source is polled at most once for each byte that was got and once more, and no more actions are done than the limit
  pub few_polls : polls' ≤ polls + length got + 1
  pub few_acts : (after o log.entries).world.acts ≤ o.limits.acts

abbrev pub usage : List ℕ
usage = codes "usage: objectbench bench FOLDER [--runners N] [--actions N] | check FOLDER | test FOLDER [CLASS] | demo N | pad\n"

-- the usage line was written, of which a part may be missing at 4 and 5
abbrev pub Refused : Option (List ℕ) → Option (List ℕ) → ℕ → Type 0
Refused held held' status = ((status ≡ 2) × (held' ≡ behind held usage)) ⊎ (((status ≡ 4) ⊎ (status ≡ 5)) × ((sent : List ℕ) × IsPrefixOf sent usage × (held' ≡ behind held sent)))

abbrev pub status_used : Sent → ℕ
status_used All = 2
status_used Failed = 4
status_used NoMemory = 5
