use Rattle.std.proofs.Common.{◌≡◌, ◌++◌, take}
use Rattle.bj_code.specs.TermCode.{all_code, all_depth}
use Rattle.bj_gen.proofs.statements.+statements.Given as goal

abbrev pub invariant-emit_all-loop-stmt : goal.invariant-emit_all-loop-stmt
invariant-emit_all-loop-stmt l = (l.steps ≡ l.initial.steps ++ all_code l.program l.class (take l.stmt-index l.stmts)) × (l.depth ≡ all_depth (take l.stmt-index l.stmts))
