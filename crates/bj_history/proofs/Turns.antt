-- Where a thread could act after the last line, one has had its turn.
use Rattle.std.proofs.Common.{◌≡◌, ◌<◌, ◌≤◌, ℕ, Bool, true, false, List, [], ◌∷◌, Option, None, is_some, refl, ap, subst, arith}
use Rattle.std.specs.Option.{option_and_then}
use Rattle.bj_core.specs.declared.action.Answer.{Answer}
use Rattle.bj_core.specs.declared.entry.Entry.{Entry}
use Rattle.bj_core.specs.declared.entry.Entry.TheVariants.{Act, Line}
use Rattle.bj_core.specs.declared.entry.Reason.{Reason}
use Rattle.bj_core.specs.declared.entry.Reason.TheVariants.{Idle, Halted, Stuck, Spent, Still, Jobs}
use Rattle.bj_machine.specs.World.{Setting, Told, World, next_told, action_of, reacts_to, answer_of, is_enabled}
use Rattle.bj_history.specs.declared.opening.Opening.{Opening}
use Rattle.bj_history.specs.History.{setting, after, to_line, has_acted, HasHadATurn, Wakes}

-- the entry is no line
abbrev pub IsNoLine : Entry → Type 0
IsNoLine (Line line text) = ⊥
IsNoLine e = Unit {0}

-- a turn that was had stays so until the next line
pub turn_stays : (o : Opening) (e : Entry) (front : List Entry) → IsNoLine e → HasHadATurn o front → HasHadATurn o (e ∷ front)
turn_stays o (Act thread answer) front other turn = λ enabled left. refl
turn_stays o (Line line text) front other turn = absurd other
turn_stays o e front other turn = turn

-- an action is a turn
pub turn_acted : (o : Opening) (thread : ℕ) (answer : Answer) (front : List Entry) → HasHadATurn o (Act thread answer ∷ front)
turn_acted o thread answer front = λ enabled left. refl

-- where no thread could act after the last line, none wants a turn
pub turn_disabled : (o : Opening) (front : List Entry) → is_enabled (setting o) (after o (to_line front)).world ≡ false → HasHadATurn o front
turn_disabled o front disabled = λ enabled left. absurd cc

-- where no acts were left after the last line, none has a turn
pub turn_spent : (o : Opening) (front : List Entry) → o.limits.acts ≤ (after o (to_line front)).world.acts → HasHadATurn o front
turn_spent o front spent = λ enabled left. absurd (omega arith)

-- without an action the machine is as after the last line
pub world_unacted : (o : Opening) (front : List Entry) → has_acted front ≡ false → (after o front).world ≡ (after o (to_line front)).world
world_unacted o [] none = refl
world_unacted o (Act thread answer ∷ front) none = absurd cc
world_unacted o (Line line text ∷ front) none = refl
world_unacted o (e ∷ front) none = world_unacted o front none

-- a machine whose main thread has no term can do nothing
pub idle_disabled : (o : Setting) (w : World) → w.main ≡ None → is_enabled o w ≡ false
idle_disabled o w idle = ap (λ (told : Option Told). is_some (answer_of (reacts_to o.program w.store (option_and_then action_of (option_and_then (next_told o) told))))) idle

-- at the opening none wants a turn
pub turn_at_opening : (o : Opening) → HasHadATurn o []
turn_at_opening o = turn_disabled o [] (idle_disabled (setting o) (after o []).world refl)

-- where a wait ends, no thread can act, or no acts are left
wakes_stopped : (o : Opening) (w : World) (reason : Reason) → Wakes o w reason → is_enabled (setting o) w ≡ true → w.acts < o.limits.acts → ⊥
wakes_stopped o w Idle wakes enabled left = let disabled = idle_disabled (setting o) w wakes in cc
wakes_stopped o w Stuck wakes enabled left = let disabled = wakes.1 in cc
wakes_stopped o w Spent wakes enabled left = let spent = wakes.1 in omega arith
wakes_stopped o w Halted wakes enabled left = wakes
wakes_stopped o w Still wakes enabled left = wakes
wakes_stopped o w Jobs wakes enabled left = wakes

turn_if : (o : Opening) (front : List Entry) (acted : Bool) → has_acted front ≡ acted → (acted ≡ false → is_enabled (setting o) (after o (to_line front)).world ≡ true → (after o (to_line front)).world.acts < o.limits.acts → ⊥)
    → HasHadATurn o front
turn_if o front true e stopped = λ enabled left. e
turn_if o front false e stopped = λ enabled left. absurd (stopped refl enabled left)

-- where a wait ends, each has had its turn
pub turn_before_waking : (o : Opening) (front : List Entry) (reason : Reason) → Wakes o (after o front).world reason → HasHadATurn o front
turn_before_waking o front reason wakes =
    turn_if o front (has_acted front) refl
    (λ none. wakes_stopped o (after o (to_line front)).world reason (subst (λ (w : World). Wakes o w reason) (world_unacted o front none) wakes))
