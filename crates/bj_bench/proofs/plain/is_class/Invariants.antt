use Rattle.std.proofs.Common.{◌≡◌, drop}
use Rattle.bj_bench.specs.Names.{is_class_in}
use Rattle.bj_bench.proofs.plain.is_class.Given as goal

abbrev pub invariant-loop-class : goal.invariant-loop-class
invariant-loop-class l = is_class_in l.classes l.name ≡ is_class_in (drop l.class-index l.classes) l.name
