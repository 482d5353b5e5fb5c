use Rattle.std.proofs.Common.{◌≡◌, take}
use Rattle.bj_code.specs.ProgramCode.{classes_code}
use Rattle.bj_gen.proofs.program.generate.Given as goal

abbrev pub invariant-loop-class : goal.invariant-loop-class
invariant-loop-class l = l.methods ≡ classes_code l.program 0 (take l.class l.program.classes)
