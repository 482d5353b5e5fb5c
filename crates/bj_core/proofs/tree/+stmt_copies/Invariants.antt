use Rattle.std.proofs.Common.{◌≡◌, take}
use Rattle.bj_core.proofs.tree.+stmt_copies.Given as goal

abbrev pub invariant-copy_stmts-loop-stmt : goal.invariant-copy_stmts-loop-stmt
invariant-copy_stmts-loop-stmt l = l.copied ≡ take l.stmt-index l.stmts
