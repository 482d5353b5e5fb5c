-- Words for the laws of terms.
use Rattle.std.specs.Prelude.{◌≡◌, ℕ, List, [], ◌∷◌, Some, false, slice_get}
use Rattle.bj_base.specs.declared.span.Span.{Span}
use Rattle.bj_core.specs.declared.types.Val.{Val}
use Rattle.bj_core.specs.declared.frame.Local.{Local}
use Rattle.bj_core.specs.declared.frame.Term.{Term}
use Rattle.bj_core.specs.declared.program.Class.{Class}
use Rattle.bj_core.specs.declared.program.Program.{Program}
use Rattle.bj_core.specs.declared.action.Action.{Action}
use Rattle.bj_core.specs.declared.action.Answer.{Answer}
use Rattle.bj_core.specs.declared.tree.Expr.{Expr}
use Rattle.bj_core.specs.declared.tree.Stmt.TheVariants.{Return}
use Rattle.bj_eval.specs.Frames.{frame_of, invocation_of_term, start_of}
use Rattle.bj_eval.specs.Next.{next_of}

-- after these answers the term wants the action, in its own frame alone
abbrev pub ItWants : Program → ℕ → Term → List Answer → Action → Type 0
ItWants program limit term answers a = next_of program limit term answers ≡ Some (record { action = a; frames = frame_of invocation_of_term (start_of term) ∷ [] })

-- the term is an expression with a value
abbrev pub IsValue : Term → Expr → Type 0
IsValue term x = (at : Span) × (term.body ≡ Return at (Some x))

-- the name around the term stands for the value
abbrev pub StandsFor : Term → ℕ → Val → Type 0
StandsFor term slot x = (l : Local) × (slice_get term.scope slot ≡ Some l) × (l.value ≡ x)

-- the class is not of the prelude
abbrev pub IsOwn : Program → ℕ → Class → Type 0
IsOwn program class c = (slice_get program.classes class ≡ Some c) × (c.is_prelude ≡ false)
