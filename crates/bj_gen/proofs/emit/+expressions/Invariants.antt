use Rattle.std.proofs.Common.{◌≡◌, ◌++◌, take}
use Rattle.bj_code.specs.TermCode.{args_code, args_depth}
use Rattle.bj_gen.proofs.emit.+expressions.Given as goal

abbrev pub invariant-emit_args-loop-before : goal.invariant-emit_args-loop-before
invariant-emit_args-loop-before l = (l.steps ≡ l.initial.steps ++ args_code l.program (take l.before l.args)) × (l.depth ≡ args_depth (take l.before l.args))
