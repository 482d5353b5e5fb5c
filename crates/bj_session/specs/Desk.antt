-- The machine's history, and what is written of it.
use Rattle.std.specs.Prelude.{ℕ, ◌≡◌, ◌≤◌, ◌<◌, ◌⊎◌, Bool, true, false, List, [], ◌∷◌, ◌++◌, Option, Some, None}
use Rattle.bj_io.specs.Told.{behind, Rose}
use Rattle.bj_core.specs.declared.entry.Entry.{Entry}
use Rattle.bj_core.specs.declared.entry.Entry.TheVariants.{Line, Pause, Act}
use Rattle.bj_core.specs.declared.action.Answer.{Answer}
use Rattle.bj_history.specs.declared.opening.Opening.{Opening}
use Rattle.bj_say.specs.declared.wait.Wait.{Wait}
use Rattle.bj_say.specs.declared.wait.Wait.TheVariants.{Silent}
use Rattle.bj_bench.specs.declared.names.BoundName.{BoundName}
use Rattle.bj_history.specs.History.{after, actions, setting, Legal, May, IsReply, written, printed, Wakes, HasHadATurn, has_quit, line_is_due}
use Rattle.bj_history.specs.Names.{bound_by}
use Rattle.bj_machine.specs.World.{World, is_enabled}
use Rattle.bj_machine.specs.Shown.{Shown, Stands, setting_of}
use Rattle.bj_stream.specs.declared.sending.Sent.{Sent}
use Rattle.bj_stream.specs.declared.sending.Sent.TheVariants.{All, Failed}
use Rattle.bj_session.specs.declared.desk.Decision.{Decision}
use Rattle.bj_session.specs.declared.desk.Decision.TheVariants.{Wake, Act as Acts, NoMemory}

pub record Desk : Type 0 where
  pub opening : Opening
  pub log : List Entry
  pub held : Option (List ℕ)
  pub faults : ℕ

abbrev pub fresh_desk : Opening → Option (List ℕ) → ℕ → Desk
fresh_desk opening held faults = record { opening = opening; log = []; held = held; faults = faults }

-- the abstract machine where the history leaves it
abbrev pub world_of : Desk → World
world_of d = (after d.opening d.log).world

-- the machine is where its history leaves it, and that is legal; beside each act stands its action; and the wait, the name that
-- the main thread's term binds and the names on the bench are those of the history
pub record IsKept (opening : Opening) (m : Shown) (wait : Option Wait) (name : Option (List ℕ)) (bench : List BoundName) : Type 0 where
  pub legal : Legal opening m.log.entries
  pub actions : m.log.actions ≡ actions opening m.log.entries
  pub stands : Stands m (after opening m.log.entries).world
  pub waits : (after opening m.log.entries).wait ≡ wait
  pub binds : bound_by (after opening m.log.entries).world.main ≡ name
  pub names : (after opening m.log.entries).names ≡ bench
  pub setting : setting_of m ≡ setting opening

-- an entry was added and what it prints was sent; but for All the entry or a part may be missing
pub record HasNoted (answer : Sent) (entry : Entry) (old new : Desk) : Type 0 where
  pub sent : List ℕ
  pub unsent : List ℕ
  pub opening : new.opening ≡ old.opening
  pub log : (new.log ≡ entry ∷ old.log) ⊎ (new.log ≡ old.log)
  pub parts : written old.opening old.log ++ (sent ++ unsent) ≡ written old.opening new.log
  pub held : new.held ≡ behind old.held sent
  pub all : answer ≡ All → (new.log ≡ entry ∷ old.log) × (unsent ≡ [])
  pub silent : new.log ≡ entry ∷ old.log → printed old.opening (after old.opening old.log) entry ≡ [] → answer ≡ All
  pub faults : old.faults ≤ new.faults
  pub failed : answer ≡ Failed → Rose old.faults new.faults

-- a line may come next
pub record MayTake (o : Opening) (front : List Entry) : Type 0 where
  pub closed : (after o front).wait ≡ None
  pub goes_on : has_quit front ≡ false
  pub due : line_is_due o.pad front ≡ true
  pub turn : HasHadATurn o front

-- a line was noted, with a reply that is its own
pub record HasLined (answer : Sent) (line : List ℕ) (old new : Desk) : Type 0 where
  pub text : List ℕ
  pub replied : IsReply old.opening (after old.opening old.log) line text
  pub noted : HasNoted answer (Line line text) old new

-- why the open wait ends, or that the main thread can act
abbrev pub IsDecided : Decision → Desk → Type 0
IsDecided (Wake reason) d = Wakes d.opening (world_of d) reason
IsDecided Acts d = (is_enabled (setting d.opening) (world_of d) ≡ true) × ((world_of d).acts < d.opening.limits.acts)
IsDecided NoMemory d = Unit {0}

-- the main thread's next action was done
pub record HasActed (answer : Sent) (old new : Desk) : Type 0 where
  pub reply : Answer
  pub may : May old.opening old.log (Act 1 reply)
  pub noted : HasNoted answer (Act 1 reply) old new

-- nothing can act
abbrev pub IsRested : Opening → World → Type 0
IsRested o w = (is_enabled (setting o) w ≡ false) ⊎ (o.limits.acts ≤ w.acts)

-- nothing was done, since nothing can act, or for want of memory
pub record HasRested (answer : Sent) (old new : Desk) : Type 0 where
  pub same : new ≡ old
  pub rested : answer ≡ All → IsRested old.opening (world_of old)
  pub kept : answer ≡ Failed → ⊥

-- what follows a line: in `pad` the silent wait, in `bench` the first act, where one can be done
abbrev pub HasFollowed : Bool → Sent → Desk → Desk → Type 0
HasFollowed true answer old new = HasNoted answer Pause old new
HasFollowed false answer old new = HasActed answer old new ⊎ HasRested answer old new

-- with the end of this wait all may be over: in `pad` with each, in `bench` with the silent one at the end of the input
abbrev pub is_last : Bool → Option Wait → Bool
is_last true wait = true
is_last false (Some Silent) = true
is_last false wait = false
