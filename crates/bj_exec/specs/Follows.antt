-- What it is for a thread to follow its term.
use Rattle.std.specs.Prelude.{◌≡◌, ◌≤◌, ◌<◌, ◌+◌, ◌^◌, ℕ, List, ◌++◌}
use Rattle.bj_core.specs.declared.frame.Term.{Term}
use Rattle.bj_core.specs.declared.program.Program.{Program}
use Rattle.bj_core.specs.declared.action.Action.{Action}
use Rattle.bj_core.specs.declared.action.Action.TheVariants.{InitBegin}
use Rattle.bj_core.specs.declared.action.Answer.{Answer}
use Rattle.bj_eval.specs.Allowed.{Allows, IsAllowed}
use Rattle.bj_eval.specs.Next.{Outcome, Asks, Over, Lost, Misfit, outcome}
use Rattle.bj_eval.specs.Typed.{IsTyped}
use Rattle.bj_code.specs.declared.code.Code.{Code}
use Rattle.bj_exec.specs.declared.thread.Thread.{Thread}
use Rattle.bj_exec.specs.declared.run.Want.TheVariants as want
use Rattle.bj_code.specs.TermCode.{term_code}
use Rattle.bj_code.specs.ProgramCode.{program_code}
use Rattle.bj_exec.specs.Machine.{exec, loaded}

-- the definition knows what comes next
abbrev pub Tells : Outcome → Type 0
Tells (Asks a fs) = Unit {0}
Tells (Over d fs) = Unit {0}
Tells Lost = ⊥
Tells Misfit = Unit {0}

-- the thread runs a typed term that was given allowed answers, after which the definition knows what comes next, and stands
-- where the term stands after them: whatever answers come, it comes to what the term then comes to. Where a class may be
-- ready, the place behind its initialization is one that 64 bits count
pub record Follows (program : Program) (code : Code) (limit : ℕ) (term : Term) (answers : List Answer) (t : Thread) : Type 0 where
  pub typed : IsTyped program term
  pub allowed : IsAllowed program limit term answers
  pub tells : Tells (outcome program limit term answers)
  pub enough : 2 ≤ limit
  pub is_term : t.term ≡ term
  pub is_limit : t.limit ≡ limit
  pub is_body : t.body ≡ term_code program term
  pub is_code : code ≡ program_code program
  pub room : (class : ℕ) → t.run.want ≡ want.Do (InitBegin class) → t.run.top.place + 2 < 2 ^ 64
  pub by : (more : List Answer) → Tells (outcome program limit term (answers ++ more)) → (n : ℕ) × (exec (loaded code t) n t.run more ≡ outcome program limit term (answers ++ more))

-- the thread follows some term of the program
pub record IsOn (program : Program) (code : Code) (t : Thread) : Type 0 where
  pub limit : ℕ
  pub term : Term
  pub answers : List Answer
  pub follows : Follows program code limit term answers t

-- the thread follows some term of some program, and the answer is one that the program allows to the action it wants
pub record Awaits (t : Thread) (x : Answer) : Type 0 where
  pub program : Program
  pub code : Code
  pub on : IsOn program code t
  pub action : Action
  pub wants : t.run.want ≡ want.Do action
  pub allows : Allows program action x
