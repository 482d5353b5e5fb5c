use Rattle.std.proofs.Common.{◌≡◌}
use Rattle.bj_machine_tests.proofs.machines.run.Given as goal

abbrev pub invariant-loop : goal.invariant-loop
invariant-loop l = l.machine.program ≡ l.initial.machine.program
