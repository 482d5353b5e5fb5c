-- What a term wants next, after the answers that it was given.
use Rattle.std.specs.Prelude.{ℕ, ◌-◌, List, [], ◌∷◌, Option, Some, None}
use Rattle.bj_core.specs.declared.frame.Frame.{Frame}
use Rattle.bj_core.specs.declared.frame.Term.{Term}
use Rattle.bj_core.specs.declared.program.Program.{Program}
use Rattle.bj_core.specs.declared.action.Action.{Action}
use Rattle.bj_core.specs.declared.action.Action.TheVariants.{End}
use Rattle.bj_core.specs.declared.action.Answer.{Answer}
use Rattle.bj_core.specs.declared.action.Done.{Done}
use Rattle.bj_core.specs.declared.action.Done.TheVariants as done
use Rattle.bj_eval.specs.declared.activation.Activation.{Activation}
use Rattle.bj_eval.specs.Frames.{frame_of, invocation_of_term, start_of}
use Rattle.bj_eval.specs.Evaluation.{Context, Fine, Gives, Throws, Returns, Result, Went, Wants, Wrong, Unfit}
use Rattle.bj_eval.specs.Statements.{stmt}
use Rattle.bj_eval.specs.Entering.{enter}

-- an action, and the frames of the thread that wants it, the newest first
pub record Asked : Type 0 where
  pub action : Action
  pub frames : List Frame

-- what a term comes to when the answers are used up: an action, its end, or nothing that the definition knows
pub data Outcome : Type 0 where
  Asks : Action → List Frame → Outcome
  Over : Done → List Frame → Outcome
  Lost : Outcome
  Misfit : Outcome

-- the end of a term, which asks for no answer
abbrev pub over_in : Done → Activation → List Answer → Outcome
over_in d s [] = Over d (frame_of invocation_of_term s ∷ [])
over_in d s (x ∷ xs) = Lost

abbrev pub outcome_of : Result → Outcome
outcome_of (Went Fine s xs) = over_in done.Nothing s xs
outcome_of (Went (Gives v) s xs) = Lost
outcome_of (Went (Throws r) s xs) = over_in (done.Threw r) s xs
outcome_of (Went (Returns None) s xs) = over_in done.Nothing s xs
outcome_of (Went (Returns (Some v)) s xs) = over_in (done.Value v) s xs
outcome_of (Wants a fs) = Asks a fs
outcome_of Wrong = Lost
outcome_of Unfit = Misfit

-- around a term there are no frames, and its own is the first of at most so many
abbrev pub outermost : Program → ℕ → Context
outermost program limit = record { program = program; invocation = invocation_of_term; outer = []; call = enter (limit - 1) program }

abbrev pub outcome : Program → ℕ → Term → List Answer → Outcome
outcome program limit term answers = outcome_of (stmt (outermost program limit) term.body (start_of term) answers)

abbrev pub asked : Outcome → Option Asked
asked (Asks a fs) = Some (record { action = a; frames = fs })
asked (Over d fs) = Some (record { action = End d; frames = fs })
asked Lost = None
asked Misfit = None

-- the next action of a term with the frames of its thread: where the term is over, the action `End` with the one frame of
-- the term; None after that, and where the definition knows nothing
abbrev pub next_of : Program → ℕ → Term → List Answer → Option Asked
next_of program limit term answers = asked (outcome program limit term answers)
