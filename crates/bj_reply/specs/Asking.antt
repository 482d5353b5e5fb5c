-- What a line asks of the machine, once it is read and its term is prepared.
use Rattle.std.specs.Prelude.{ℕ, ◌≡◌, List, [], ◌∷◌, Option, Some, None}
use Rattle.bj_core.specs.declared.action.Done.{Done}
use Rattle.bj_core.specs.declared.frame.Term.{Term}
use Rattle.bj_core.specs.declared.frame.TermKind.TheVariants as kind
use Rattle.bj_core.specs.declared.program.Program.{Program}
use Rattle.bj_core.specs.declared.tree.Expr.{Expr}
use Rattle.bj_core.specs.declared.tree.Expr.TheVariants as e
use Rattle.bj_core.specs.declared.tree.Stmt.TheVariants.{Return}
use Rattle.bj_core.specs.declared.types.Ty.TheVariants as ty
use Rattle.bj_core.specs.declared.types.Val.{Val}
use Rattle.bj_sum.specs.declared.cells.CellCall.{CellCall}
use Rattle.bj_sum.specs.declared.cells.CellCall.TheVariants.{Add, Get}
use Rattle.bj_sum.specs.Sums.{IsSum}
use Rattle.bj_exec.specs.declared.thread.Thread.{Thread}
use Rattle.bj_machine.specs.Shown.{Shown, Stands, IsReady}
use Rattle.bj_bench.specs.declared.names.BoundName.{BoundName}
use Rattle.bj_say.specs.Events.{done_event}
use Rattle.bj_bench.specs.Names.{binds}
use Rattle.bj_history.specs.Replies.{After, Answers, LineOutcome, local, start_place}
use Rattle.bj_reply.specs.declared.asking.Asked.{Asked}

-- a thread is prepared for the term that begins, where there is one
abbrev pub IsPrepared : Shown → Option Term → Option Thread → Type 0
IsPrepared m None None = Unit {0}
IsPrepared m None (Some thread) = ⊥
IsPrepared m (Some term) None = ⊥
IsPrepared m (Some term) (Some thread) = IsReady m term thread

-- the name that a term binds, where one begins
abbrev pub binds_of : Option Term → Option (List ℕ)
binds_of None = None
binds_of (Some term) = binds term.kind

-- what is asked is what the line comes to
pub record IsAsked (m : Shown) (x : LineOutcome) (asked : Asked) : Type 0 where
  pub reply : Answers x.reply asked.reply
  pub thread : IsPrepared m x.term asked.thread
  pub binds : asked.binds ≡ binds_of x.term
  pub wait : asked.wait ≡ x.wait

-- what is asked is what the line comes to, after each history for which the machine stands with these names
abbrev pub IsFor : Shown → List BoundName → (After → LineOutcome) → Asked → Type 0
IsFor m names outcome asked = (s : After) → Stands m s.world → names ≡ s.names → IsAsked m (outcome s) asked

-- the same, whatever the names are
abbrev pub IsForAny : Shown → (After → LineOutcome) → Asked → Type 0
IsForAny m outcome asked = (s : After) → Stands m s.world → IsAsked m (outcome s) asked

-- the argument of a creation, where one was read, is a sum
abbrev pub IsSumIfAny : Option Expr → Type 0
IsSumIfAny None = Unit {0}
IsSumIfAny (Some argument) = IsSum argument

-- the argument of a call is a sum
abbrev pub HasSum : CellCall → Type 0
HasSum (Add name argument) = IsSum argument
HasSum (Get name) = Unit {0}

-- the term of a call of a method of `Cell` on the object for which a name stands
abbrev pub call_on : List ℕ → Val → ℕ → List Expr → Term
call_on name object method args = record {
  kind = kind.Call;
  body = Return start_place (Some (e.Virtual start_place (e.Local start_place 0) 5 method args));
  scope = local name object ∷ [];
  gives = ty.Int;
}
