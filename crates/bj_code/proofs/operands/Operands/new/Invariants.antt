use Rattle.std.proofs.Common.{◌≡◌, length}
use Rattle.bj_code.proofs.operands.Operands.new.Given as goal

abbrev pub invariant-loop : goal.invariant-loop
invariant-loop l = length l.items ≡ l.counter
