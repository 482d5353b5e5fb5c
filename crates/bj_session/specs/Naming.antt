-- The name that the main thread's term binds, from its beginning to its end.
use Rattle.std.specs.Prelude.{ℕ, ◌≡◌, Bool, true, false, List, [], ◌∷◌, ◌++◌, Option, Some, None}
use Rattle.bj_core.specs.declared.action.Done.{Done}
use Rattle.bj_core.specs.declared.action.Done.TheVariants.{Value}
use Rattle.bj_core.specs.declared.frame.Term.{Term}
use Rattle.bj_exec.specs.declared.thread.Thread.{Thread}
use Rattle.bj_machine.specs.Shown.{Shown, IsReady, HasBegun, HasNoted}
use Rattle.bj_core.specs.declared.entry.Entry.TheVariants.{Line}
use Rattle.bj_reply.specs.declared.asking.Asked.{Asked}
use Rattle.bj_bench.specs.declared.names.BoundName.{BoundName}
use Rattle.bj_bench.specs.Names.{bound_name}

-- a prepared term begins, where there is one
abbrev pub MayBegin : Shown → Option Thread → Type 0
MayBegin m None = Unit {0}
MayBegin m (Some thread) = (term : Term) × IsReady m term thread

abbrev pub Begins : Option Thread → Shown → Shown → Type 0
Begins None old new = new ≡ old
Begins (Some thread) old new = (term : Term) → IsReady old term thread → HasBegun old new term

-- the line is noted with its reply, and then its term begins
pub record HasEntered (line : List ℕ) (asked : Asked) (old new : Shown) : Type 0 where
  pub lined : Shown
  pub noted : HasNoted (Line line asked.reply) old lined
  pub begins : Begins asked.thread lined new

-- the name that the present term binds, where one begins that binds this name
abbrev pub binds_then : Option Thread → Option (List ℕ) → Option (List ℕ) → Option (List ℕ)
binds_then None name binds = binds
binds_then (Some thread) name binds = name

-- the names where a term ends that binds this one
abbrev pub names_at_end : Option (List ℕ) → Option Done → List BoundName → List BoundName
names_at_end (Some name) (Some (Value v)) names = names ++ bound_name name v ∷ []
names_at_end binds end names = names

-- the name that the present term binds: none behind its end
abbrev pub binds_after : Option Done → Option (List ℕ) → Option (List ℕ)
binds_after None binds = binds
binds_after (Some done) binds = None

-- without the name that was bound last, where one was, the names are these
abbrev pub HasUndone : Bool → List BoundName → List BoundName → Type 0
HasUndone true names old = (last : BoundName) × (names ≡ old ++ last ∷ [])
HasUndone false names old = names ≡ old
