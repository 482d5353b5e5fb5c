use Rattle.std.proofs.Common.{◌≡◌, take}
use Rattle.bj_code.specs.ProgramCode.{methods_code}
use Rattle.bj_gen.proofs.program.class_bodies.Given as goal

abbrev pub invariant-loop-method : goal.invariant-loop-method
invariant-loop-method l = l.bodies ≡ methods_code l.program l.class l.declared (take l.method-index l.declared.methods)
