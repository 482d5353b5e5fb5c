-- The abstract machine: what each thread runs and has been answered, and which of its actions may come next.
use Rattle.std.specs.Prelude.{ℕ, ◌≡◌, ◌+◌, ◌<◌, List, [], ◌∷◌, ◌++◌, Option, Some, None, is_some, Bool, true}
use Rattle.std.specs.Option.{option_and_then}
use Rattle.bj_core.specs.declared.action.Action.{Action}
use Rattle.bj_core.specs.declared.action.Action.TheVariants.{End}
use Rattle.bj_core.specs.declared.action.Answer.{Answer}
use Rattle.bj_core.specs.declared.frame.Term.{Term}
use Rattle.bj_core.specs.declared.limits.Limits.{Limits}
use Rattle.bj_core.specs.declared.program.Program.{Program}
use Rattle.bj_eval.specs.Next.{Asked, next_of}
use Rattle.bj_store.specs.State.{State, fresh, with_lives}
use Rattle.bj_store.specs.React.{Outcome, Answered, Blocked, react, unfit}

-- what a machine is made for
pub record Setting : Type 0 where
  pub program : Program
  pub limits : Limits

-- a thread's term, and the answers that it had, the oldest first
pub record Told : Type 0 where
  pub term : Term
  pub answers : List Answer

-- the store's state, the main thread's term, while it has one, and how many actions were done
pub record World : Type 0 where
  pub store : State
  pub main : Option Told
  pub acts : ℕ

abbrev pub opened : Setting → World
opened o = record { store = fresh o.program o.limits; main = None; acts = 0 }

abbrev pub next_told : Setting → Told → Option Asked
next_told o d = next_of o.program o.limits.frames d.term d.answers

abbrev pub action_of : Asked → Option Action
action_of a = Some a.action

-- the next action of the main thread, where it has a term
abbrev pub next_action : Setting → World → Option Action
next_action o w = option_and_then action_of (option_and_then (next_told o) w.main)

-- what the store makes of an action of the main thread
abbrev pub reacts_to : Program → State → Option Action → Outcome
reacts_to p s None = unfit
reacts_to p s (Some a) = react p s 1 a

-- what the store makes of the main thread's next action
abbrev pub reaction : Setting → World → Outcome
reaction o w = reacts_to o.program w.store (next_action o w)

abbrev pub answer_of : Outcome → Option Answer
answer_of (Answered x s) = Some x
answer_of (Blocked b) = None

-- the state after what is answered; what is blocked changes nothing
abbrev pub state_after : State → Outcome → State
state_after s (Answered x t) = t
state_after s (Blocked b) = s

-- the main thread lives, and its next action is not blocked
abbrev pub is_enabled : Setting → World → Bool
is_enabled o w = is_some (answer_of (reaction o w))

-- the term with one answer more
abbrev pub told_more : Answer → Told → Option Told
told_more x d = Some (record { term = d.term; answers = d.answers ++ x ∷ [] })

-- the main thread's term after an action: none after its end
abbrev pub main_after : Option Action → Answer → Option Told → Option Told
main_after (Some (End d)) x told = None
main_after a x told = option_and_then (told_more x) told

-- the main thread's next action is answered
abbrev pub acted : Setting → World → Answer → World
acted o w x = record { store = state_after w.store (reaction o w); main = main_after (next_action o w) x w.main; acts = w.acts + 1 }

-- the thread may be answered so: it is the main thread, the answer is the store's, and acts are left
pub record MayAct (o : Setting) (w : World) (thread : ℕ) (x : Answer) : Type 0 where
  pub main : thread ≡ 1
  pub answer : answer_of (reaction o w) ≡ Some x
  pub left : w.acts < o.limits.acts

-- a term begins on the main thread
abbrev pub begun : World → Term → World
begun w term = record { store = with_lives w.store 1 true; main = Some (record { term = term; answers = [] }); acts = w.acts }

-- the term, if there is one, begins on the main thread
abbrev pub begun_by : Option Term → World → World
begun_by None w = w
begun_by (Some term) w = begun w term

-- the store is new, and the main thread has no term; the count of acts stays
abbrev pub reset_world : Setting → World → World
reset_world o w = record { store = fresh o.program o.limits; main = None; acts = w.acts }

-- the store where the term, if there is one, has begun
abbrev pub begun_store : Option Term → State → State
begun_store None s = s
begun_store (Some term) s = with_lives s 1 true
