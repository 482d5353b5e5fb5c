use Rattle.std.proofs.Common.{sym, ◌∙◌}
use Rattle.bj_machine.proofs.machine.Machine.instruct.Goals as goal

pub finish-requires-clause-ends : goal.finish-requires-clause-ends
finish-requires-clause-ends c = record { done = c.in-Some.done; ends = sym c.end.ensures.end ∙ c.in-Some.is; next = c.end.ensures.next c.in-Some.done c.in-Some.is }
