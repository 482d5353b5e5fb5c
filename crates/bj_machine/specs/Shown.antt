-- The machine as its callers see it, and for which abstract machine it stands.
use Rattle.std.specs.Prelude.{ℕ, ◌≡◌, ◌+◌, ◌≤◌, List, [], ◌∷◌, Option, Some, None, Bool, true, false, if◌then◌else◌, not, is_some, All, ◌≢◌}
use Rattle.bj_core.specs.declared.action.Action.{Action}
use Rattle.bj_core.specs.declared.action.Action.TheVariants.{End}
use Rattle.bj_core.specs.declared.action.Answer.{Answer}
use Rattle.bj_core.specs.declared.action.Done.{Done}
use Rattle.bj_core.specs.declared.entry.Entry.{Entry}
use Rattle.bj_core.specs.declared.entry.Entry.TheVariants.{Act}
use Rattle.bj_core.specs.declared.frame.Term.{Term}
use Rattle.bj_core.specs.declared.program.Class.{Class}
use Rattle.bj_core.specs.declared.program.Field.{Field}
use Rattle.bj_core.specs.declared.program.Program.{Program}
use Rattle.bj_core.specs.declared.types.Ty.TheVariants.{Void}
use Rattle.bj_core.specs.declared.limits.Limits.{Limits}
use Rattle.bj_code.specs.declared.code.Code.{Code}
use Rattle.bj_code.specs.ProgramCode.{program_code}
use Rattle.bj_exec.specs.declared.thread.Thread.{Thread}
use Rattle.bj_exec.specs.declared.run.Want.{Want}
use Rattle.bj_exec.specs.declared.run.Want.TheVariants as want
use Rattle.bj_exec.specs.Follows.{Follows}
use Rattle.bj_machine.specs.declared.machine.Step.{Step}
use Rattle.bj_machine.specs.declared.machine.Step.TheVariants.{Acted, Moved, Idle, Spent, NoMemory}
use Rattle.bj_machine.specs.Kept.{LogValue, with_log_room}
use Rattle.bj_machine.specs.World.{Setting, Told, World, opened, next_action, is_enabled, acted, begun, answer_of, MayAct}
use Rattle.bj_store.specs.State.{State, row_at, lives}
use Rattle.bj_store.specs.React.{react, takes_memory}
use Rattle.bj_store.specs.Kept.{IsKept}

-- the program, the code and the limits; the store's state; the log; the main thread, while it has a term; and how many actions
-- were done
pub record Shown : Type 0 where
  pub program : Program
  pub code : Code
  pub limits : Limits
  pub store : State
  pub log : LogValue
  pub main : Option Thread
  pub acts : ℕ

abbrev pub setting_of : Shown → Setting
setting_of v = record { program = v.program; limits = v.limits }

-- the thread follows the term with its answers, where there is one
abbrev pub At : Shown → Option Told → Option Thread → Type 0
At v None None = Unit {0}
At v None (Some t) = ⊥
At v (Some d) None = ⊥
At v (Some d) (Some t) = Follows v.program v.code v.limits.frames d.term d.answers t

-- the store is in its state, and the main thread follows its term with the answers that it had
pub record Stands (v : Shown) (w : World) : Type 0 where
  pub store : v.store ≡ w.store
  pub main : At v w.main v.main
  pub acts : v.acts ≡ w.acts

abbrev pub is_field : Field → Type 0
is_field f = f.ty ≢ Void

-- no field of a class of the program is of type void
abbrev pub HasFields : Program → Type 0
HasFields program = All (λ (c : Class). All is_field c.fields) program.classes

-- the store is kept, and knows the main thread, which lives in it where it has a term
pub record IsLiving (program : Program) (s : State) (busy : Bool) : Type 0 where
  pub kept : IsKept program s
  pub known : is_some (row_at s.threads 1) ≡ true
  pub living : lives s 1 ≡ busy

-- what holds always
pub record IsSound (v : Shown) : Type 0 where
  pub world : World
  pub stands : Stands v world
  pub spent : v.acts ≤ v.limits.acts
  pub store : IsLiving v.program v.store (is_some v.main)
  pub fields : HasFields v.program
  pub enough : 2 ≤ v.limits.frames
  pub is_code : v.code ≡ program_code v.program

-- nothing has happened
pub record IsFresh (program : Program) (limits : Limits) (v : Shown) : Type 0 where
  pub made : setting_of v ≡ record { program = program; limits = limits }
  pub log : v.log.entries ≡ []
  pub actions : v.log.actions ≡ []
  pub stands : Stands v (opened (setting_of v))

-- the thread is about to begin with the term
abbrev pub IsReady : Shown → Term → Thread → Type 0
IsReady v term t = Follows v.program v.code v.limits.frames term [] t

-- the main thread, if it has a term, is not about to do an instruction that asks for nothing
abbrev pub rests : Want → Bool
rests want.Move = false
rests (want.Do a) = true
rests (want.Over d) = true

abbrev pub rests_main : Option Thread → Bool
rests_main None = true
rests_main (Some t) = rests t.run.want

abbrev pub IsSettled : Shown → Type 0
IsSettled v = rests_main v.main ≡ true

-- how a term is over by an action, where that is its end
abbrev pub end_in : Option Action → Option Done
end_in (Some (End d)) = Some d
end_in a = None

-- how the main thread's term is over, where its end comes next
abbrev pub end_wanted : Want → Option Done
end_wanted want.Move = None
end_wanted (want.Do a) = end_in (Some a)
end_wanted (want.Over d) = Some d

abbrev pub end_of : Option Thread → Option Done
end_of None = None
end_of (Some t) = end_wanted t.run.want

-- the main thread's term ends next
pub record Finishes (v : Shown) : Type 0 where
  pub done : Done
  pub ends : end_of v.main ≡ Some done
  pub next : (w : World) → Stands v w → next_action (setting_of v) w ≡ Some (End done)

abbrev pub with_room : ℕ → Shown → Shown
with_room room v = record { program = v.program; code = v.code; limits = v.limits; store = v.store; log = with_log_room room v.log; main = v.main; acts = v.acts }

-- all is as before, and there is no less room in the log
abbrev pub IsSame : Shown → Shown → Type 0
IsSame old new = (room : ℕ) × (old.log.room ≤ room) × (new ≡ with_room room old)

-- all stays but for the store, the main thread, the log and the count
pub record KeepsSetting (old new : Shown) : Type 0 where
  pub program : new.program ≡ old.program
  pub code : new.code ≡ old.code
  pub limits : new.limits ≡ old.limits

-- the main thread's next action was done, and the log has it beside its answer
pub record HasActed (old new : Shown) (thread : ℕ) : Type 0 where
  pub answer : Answer
  pub log : new.log.entries ≡ Act thread answer ∷ old.log.entries
  pub actions : (w : World) → Stands old w → new.log.actions ≡ next_action (setting_of old) w ∷ old.log.actions
  pub room : old.log.room ≤ new.log.room + 1
  pub keeps : KeepsSetting old new
  pub acts : new.acts ≡ old.acts + 1
  pub world : (w : World) → Stands old w → MayAct (setting_of old) w thread answer × Stands new (acted (setting_of old) w answer)
  pub end : (w : World) → Stands old w → end_of old.main ≡ end_in (next_action (setting_of old) w)

-- the main thread has done instructions at most that ask for nothing
pub record HasMoved (old new : Shown) : Type 0 where
  pub log : new.log ≡ old.log
  pub keeps : KeepsSetting old new
  pub acts : new.acts ≡ old.acts
  pub world : (w : World) → Stands old w → Stands new w

-- a term has begun on the main thread
pub record HasBegun (old new : Shown) (term : Term) : Type 0 where
  pub log : new.log ≡ old.log
  pub keeps : KeepsSetting old new
  pub acts : new.acts ≡ old.acts
  pub world : (w : World) → Stands old w → Stands new (begun w term)

-- one instruction, or the reason why there is none
abbrev pub Steps : Step → Shown → Shown → Type 0
Steps (Acted thread place) old new = HasActed old new thread
Steps (Moved thread) old new = HasMoved old new × (rests_main old.main ≡ false)
Steps Idle old new = (new ≡ old) × (rests_main old.main ≡ true) × ((w : World) → Stands old w → is_enabled (setting_of old) w ≡ false)
Steps (Spent count) old new = (new ≡ old) × (old.acts ≡ old.limits.acts)
Steps NoMemory old new = IsSame old new

-- the next action takes no memory
abbrev pub wants_no_memory : Want → Bool
wants_no_memory want.Move = false
wants_no_memory (want.Do a) = not (takes_memory a)
wants_no_memory (want.Over d) = true

abbrev pub asks_no_memory : Option Thread → Bool
asks_no_memory None = true
asks_no_memory (Some t) = wants_no_memory t.run.want

-- the threads that are enabled
abbrev pub enabled_list : Bool → List ℕ
enabled_list enabled = if enabled then 1 ∷ [] else []

-- the main thread wants an instruction, or an action that is not blocked
abbrev pub can_move : Shown → Want → Bool
can_move v want.Move = true
can_move v (want.Do a) = is_some (answer_of (react v.program v.store 1 a))
can_move v (want.Over d) = true

abbrev pub can_step : Shown → Option Thread → Bool
can_step v None = false
can_step v (Some t) = can_move v t.run.want

-- the log has an entry more, which is no act
pub record HasNoted (entry : Entry) (old new : Shown) : Type 0 where
  pub log : new.log.entries ≡ entry ∷ old.log.entries
  pub actions : new.log.actions ≡ None ∷ old.log.actions
  pub room : old.log.room ≤ new.log.room + 1
  pub keeps : KeepsSetting old new
  pub store : new.store ≡ old.store
  pub main : new.main ≡ old.main
  pub acts : new.acts ≡ old.acts
