use Rattle.std.proofs.Common.{◌≡◌, drop}
use Rattle.bj_bench.specs.Names.{value_in}
use Rattle.bj_bench.proofs.bench.find_in.Given as goal

abbrev pub invariant-loop-bound : goal.invariant-loop-bound
invariant-loop-bound l = value_in l.names l.name ≡ value_in (drop l.bound-index l.names) l.name
