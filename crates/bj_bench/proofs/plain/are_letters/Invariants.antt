use Rattle.std.proofs.Common.{◌≡◌, drop}
use Rattle.bj_bench.specs.Names.{are_letters}
use Rattle.bj_bench.proofs.plain.are_letters.Given as goal

abbrev pub invariant-loop-byte : goal.invariant-loop-byte
invariant-loop-byte l = are_letters l.name ≡ are_letters (drop l.byte-index l.name)
