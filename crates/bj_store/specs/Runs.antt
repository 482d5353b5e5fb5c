-- What many threads do to the state, one step after another.
use Rattle.std.specs.Prelude.{◌≡◌, ℕ, true, List, [], ◌∷◌}
use Rattle.bj_core.specs.declared.action.Action.{Action}
use Rattle.bj_core.specs.declared.action.Answer.{Answer}
use Rattle.bj_core.specs.declared.program.Program.{Program}
use Rattle.bj_store.specs.State.{State, with_lives}
use Rattle.bj_store.specs.React.{Answered, react}

-- the thread of `main` gets a term, or a thread's action is answered
pub data Step : Type 0 where
  Begins : Step
  Acts : ℕ → Action → Answer → Step

abbrev pub Steps : Program → Step → State → State → Type 0
Steps p Begins s t = t ≡ with_lives s 1 true
Steps p (Acts thread a x) s t = react p s thread a ≡ Answered x t

-- the steps, the last one first, lead from one state to the other
abbrev pub Runs : Program → State → List Step → State → Type 0
Runs p s [] t = t ≡ s
Runs p s (step ∷ front) t = (u : State) × Runs p s front u × Steps p step u t
