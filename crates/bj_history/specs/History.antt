-- Histories, the newest entry first: what holds after one, which are legal, and what they print.
use Rattle.std.specs.Prelude.{ℕ, ◌≡◌, ◌⊎◌, ◌<◌, ◌≤◌, Bool, true, false, not, if◌then◌else◌, List, [], ◌∷◌, ◌++◌, Option, Some, None, IsSome}
use Rattle.std.specs.Str.{bytes_eq}
use Rattle.bj_core.specs.declared.action.Action.{Action}
use Rattle.bj_core.specs.declared.action.Answer.{Answer}
use Rattle.bj_core.specs.declared.entry.Entry.{Entry}
use Rattle.bj_core.specs.declared.entry.Entry.TheVariants.{Act, Line, Pause, Tick, Taken, Landed, Dropped, Woke, Reset}
use Rattle.bj_core.specs.declared.entry.Reason.{Reason}
use Rattle.bj_core.specs.declared.entry.Reason.TheVariants.{Idle, Halted, Stuck, Spent, Still, Jobs}
use Rattle.bj_core.specs.declared.frame.Term.{Term}
use Rattle.bj_core.specs.declared.program.Program.{Program}
use Rattle.bj_builtin.specs.Builtin.{builtin}
use Rattle.bj_history.specs.declared.opening.Opening.{Opening}
use Rattle.bj_say.specs.declared.wait.Wait.{Wait}
use Rattle.bj_say.specs.declared.wait.Wait.TheVariants.{Silent}
use Rattle.bj_command.specs.Words.{form_in, is_quit, takes_memory}
use Rattle.bj_machine.specs.World.{Setting, World, opened, next_action, is_enabled, acted, begun, MayAct}
use Rattle.bj_bench.specs.Names.{names_after}
use Rattle.bj_history.specs.Names.{bound_by}
use Rattle.bj_history.specs.Replies.{After, Answers, LineOutcome, no_memory, outcome_of}
use Rattle.bj_say.specs.Events.{act_event, woke_event, written_line}
pub use Rattle.bj_history.specs.Replies.{After}

-- the program that is loaded at the opening, until folders are read
unfoldable pub loaded : Program
loaded = builtin

abbrev pub setting : Opening → Setting
setting o = record { program = loaded; limits = o.limits }

abbrev pub opening_state : Opening → After
opening_state o = record { world = opened (setting o); wait = None; names = [] }

-- what a line comes to
abbrev pub line_outcome : Opening → List ℕ → After → LineOutcome
line_outcome o line s = outcome_of loaded (form_in o.pad line) s

-- the reply is that of the line, or want of memory where memory is taken
abbrev pub IsReply : Opening → After → List ℕ → List ℕ → Type 0
IsReply o s line text = Answers (line_outcome o line s).reply text ⊎ ((takes_memory (form_in o.pad line) ≡ true) × (text ≡ no_memory))

abbrev pub started : Option Term → World → World
started None w = w
started (Some term) w = begun w term

abbrev pub wait_after : Option Wait → Option Wait → Option Wait
wait_after None wait = wait
wait_after (Some opened) wait = Some opened

-- the term of a line begins, and its wait opens
abbrev pub after_outcome : LineOutcome → After → After
after_outcome x s = record { world = started x.term s.world; wait = wait_after x.wait s.wait; names = s.names }

-- a line that wanted memory leaves all as it was
abbrev pub after_line : Opening → List ℕ → List ℕ → After → After
after_line o line text s = if bytes_eq text no_memory then s else after_outcome (line_outcome o line s) s

abbrev pub with_wait : Option Wait → After → After
with_wait wait s = record { world = s.world; wait = wait; names = s.names }

-- the main thread's next action is answered: where it ends a term that binds a name, the name is bound
abbrev pub after_act : Opening → Answer → After → After
after_act o x s = record { world = acted (setting o) s.world x; wait = s.wait; names = names_after (bound_by s.world.main) (next_action (setting o) s.world) s.names }

-- what an entry changes
abbrev pub next : Opening → After → Entry → After
next o s (Act thread answer) = after_act o answer s
next o s (Line line text) = after_line o line text s
next o s Pause = with_wait (Some Silent) s
next o s (Tick now) = s
next o s (Taken job) = s
next o s (Landed job outcome) = s
next o s (Dropped job why) = s
next o s (Woke reason) = with_wait None s
next o s Reset = s

abbrev pub after : Opening → List Entry → After
after o [] = opening_state o
after o (e ∷ front) = next o (after o front) e

-- the lines of a history, in order
abbrev pub lines : List Entry → List (List ℕ)
lines [] = []
lines (Line line text ∷ front) = lines front ++ line ∷ []
lines (e ∷ front) = lines front

abbrev pub has_quit : List Entry → Bool
has_quit [] = false
has_quit (Line line text ∷ front) = if is_quit line then true else has_quit front
has_quit (e ∷ front) = has_quit front

abbrev pub has_pause : List Entry → Bool
has_pause [] = false
has_pause (Pause ∷ front) = true
has_pause (e ∷ front) = has_pause front

-- the history up to its last line, and with it
abbrev pub to_line : List Entry → List Entry
to_line [] = []
to_line (Line line text ∷ front) = Line line text ∷ front
to_line (e ∷ front) = to_line front

-- whether an action was done behind the last line
abbrev pub has_acted : List Entry → Bool
has_acted [] = false
has_acted (Act thread answer ∷ front) = true
has_acted (Line line text ∷ front) = false
has_acted (e ∷ front) = has_acted front

-- the last entry is a line, and not `quit`
abbrev pub follows_line : List Entry → Bool
follows_line [] = false
follows_line (Line line text ∷ front) = not (is_quit line)
follows_line (e ∷ front) = false

-- whether a pause may come: in `pad` one follows each line but `quit`, in `bench` there is one at most
abbrev pub pause_is_due : Bool → List Entry → Bool
pause_is_due pad front = if pad then follows_line front else not (has_pause front)

-- whether a line may come: in `pad` not before the pause of the last one, in `bench` not behind the pause
abbrev pub line_is_due : Bool → List Entry → Bool
line_is_due pad front = if pad then not (follows_line front) else not (has_pause front)

-- where a thread could act after the last line, and acts were left, one has acted since
abbrev pub HasHadATurn : Opening → List Entry → Type 0
HasHadATurn o front =
    is_enabled (setting o) (after o (to_line front)).world ≡ true → (after o (to_line front)).world.acts < o.limits.acts → has_acted front ≡ true

-- why a wait ends: the first of these that holds
abbrev pub Wakes : Opening → World → Reason → Type 0
Wakes o w Idle = w.main ≡ None
Wakes o w Stuck = IsSome w.main × (is_enabled (setting o) w ≡ false)
Wakes o w Spent = (is_enabled (setting o) w ≡ true) × (o.limits.acts ≤ w.acts)
Wakes o w Halted = ⊥
Wakes o w Still = ⊥
Wakes o w Jobs = ⊥

-- the line may come next, with this reply
pub record MayCome (o : Opening) (front : List Entry) (line text : List ℕ) : Type 0 where
  pub closed : (after o front).wait ≡ None
  pub due : line_is_due o.pad front ≡ true
  pub turn : HasHadATurn o front
  pub replied : IsReply o (after o front) line text

-- the entry may come next; the clock, jobs and resets are not built
abbrev pub May : Opening → List Entry → Entry → Type 0
May o front (Act thread answer) = MayAct (setting o) (after o front).world thread answer
May o front (Line line text) = MayCome o front line text
May o front Pause = ((after o front).wait ≡ None) × (pause_is_due o.pad front ≡ true)
May o front (Woke reason) = IsSome (after o front).wait × Wakes o (after o front).world reason
May o front (Tick now) = ⊥
May o front (Taken job) = ⊥
May o front (Landed job outcome) = ⊥
May o front (Dropped job why) = ⊥
May o front Reset = ⊥

-- the entry may come where it stands, which is not behind `quit`
pub record Fits (o : Opening) (front : List Entry) (e : Entry) : Type 0 where
  pub goes_on : has_quit front ≡ false
  pub may : May o front e

-- each entry may come where it stands
abbrev pub Legal : Opening → List Entry → Type 0
Legal o [] = Unit {0}
Legal o (e ∷ front) = Fits o front e × Legal o front

-- what an entry prints where it stands
abbrev pub printed : Opening → After → Entry → List ℕ
printed o s (Act thread answer) = act_event loaded (bound_by s.world.main) (next_action (setting o) s.world)
printed o s (Line line text) = written_line text
printed o s (Woke reason) = woke_event s.wait reason
printed o s e = []

-- all that a history prints
abbrev pub written : Opening → List Entry → List ℕ
written o [] = []
written o (e ∷ front) = written o front ++ printed o (after o front) e

-- the action of an entry, where it is one's answer
abbrev pub action_at : Opening → After → Entry → Option Action
action_at o s (Act thread answer) = next_action (setting o) s.world
action_at o s e = None

-- the actions of a history, each beside its entry
abbrev pub actions : Opening → List Entry → List (Option Action)
actions o [] = []
actions o (e ∷ front) = action_at o (after o front) e ∷ actions o front
