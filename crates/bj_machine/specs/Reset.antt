-- What it is for a machine to begin anew.
use Rattle.std.specs.Prelude.{◌≡◌, ◌+◌, ◌≤◌, ℕ, [], ◌∷◌, Option, Some, None}
use Rattle.bj_core.specs.declared.entry.Entry.{Entry}
use Rattle.bj_core.specs.declared.entry.Entry.TheVariants as entry
use Rattle.bj_core.specs.declared.frame.Term.{Term}
use Rattle.bj_core.specs.declared.limits.Limits.{Limits}
use Rattle.bj_core.specs.declared.program.Program.{Program}
use Rattle.bj_code.specs.declared.code.Code.{Code}
use Rattle.bj_code.specs.ProgramCode.{program_code}
use Rattle.bj_eval.specs.Typed.{IsTyped}
use Rattle.bj_exec.specs.declared.thread.Thread.{Thread}
use Rattle.bj_exec.specs.Follows.{Follows}
use Rattle.bj_machine.specs.declared.loaded.Loaded.{Loaded}
use Rattle.bj_machine.specs.declared.beginning.Beginning.{Beginning}
use Rattle.bj_machine.specs.World.{World, begun_by, begun_store, reset_world}
use Rattle.bj_machine.specs.Shown.{Shown, Stands, HasFields, setting_of}
use Rattle.bj_store.specs.State.{fresh}

-- the program and the code where the next one, if there is one, is loaded
abbrev pub program_after : Option Loaded → Program → Program
program_after None program = program
program_after (Some next) program = next.program

abbrev pub code_after : Option Loaded → Code → Code
code_after None code = code
code_after (Some next) code = next.code

-- the next program, if there is one, stands beside its code, and none of its fields is of type void
abbrev pub CanLoad : Option Loaded → Type 0
CanLoad None = Unit {0}
CanLoad (Some next) = (next.code ≡ program_code next.program) × HasFields next.program

-- the term, if there is one, is typed over the program
abbrev pub CanBegin : Program → Option Term → Type 0
CanBegin program None = Unit {0}
CanBegin program (Some term) = IsTyped program term

-- a thread is about to begin with the term, where there is one
abbrev pub IsPrepared : Program → ℕ → Option Term → Option Thread → Type 0
IsPrepared program frames None None = Unit {0}
IsPrepared program frames None (Some thread) = ⊥
IsPrepared program frames (Some term) None = ⊥
IsPrepared program frames (Some term) (Some thread) = (code : Code) → code ≡ program_code program → Follows program code frames term [] thread

-- a new store, in which the main thread lives where it has a term, and the thread that is about to begin with it
pub record IsBeginning (program : Program) (limits : Limits) (term : Option Term) (beginning : Beginning) : Type 0 where
  pub store : beginning.store ≡ begun_store term (fresh program limits)
  pub main : IsPrepared program limits.frames term beginning.main

-- the log has the first entry and then Reset; the next program, if there is one, is loaded; the store is new, and the term, if
-- there is one, begins; the limits and the count of acts stay
pub record HasReset (old new : Shown) (first : Entry) (next : Option Loaded) (term : Option Term) : Type 0 where
  pub log : new.log.entries ≡ entry.Reset ∷ first ∷ old.log.entries
  pub actions : new.log.actions ≡ None ∷ None ∷ old.log.actions
  pub room : old.log.room ≤ new.log.room + 2
  pub program : new.program ≡ program_after next old.program
  pub code : new.code ≡ code_after next old.code
  pub limits : new.limits ≡ old.limits
  pub acts : new.acts ≡ old.acts
  pub world : (w : World) → Stands old w → Stands new (begun_by term (reset_world (setting_of new) w))
