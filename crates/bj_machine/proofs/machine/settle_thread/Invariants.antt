use Rattle.std.proofs.Common.{ℕ, List}
use Rattle.bj_core.specs.declared.action.Answer.{Answer}
use Rattle.bj_core.specs.declared.frame.Term.{Term}
use Rattle.bj_exec.specs.Follows.{Follows, IsOn}
use Rattle.bj_exec.specs.Machine.{moves_left}
use Rattle.bj_machine.proofs.machine.settle_thread.Given as goal

abbrev pub invariant-moves : goal.invariant-moves
invariant-moves l = record {
  on : IsOn l.program l.code l.thread;
  follows : (limit : ℕ) (term : Term) (answers : List Answer) → Follows l.program l.code limit term answers l.fn.thread → Follows l.program l.code limit term answers l.thread;
}

abbrev pub decreases-moves : goal.decreases-moves
decreases-moves l = moves_left l.code l.thread
