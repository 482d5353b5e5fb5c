use Rattle.std.proofs.Common.{◌≡◌, take}
use Rattle.bj_tree.proofs.+stmt_copies.Given as goal

abbrev pub invariant-stmt_copy::copy_stmts-loop-stmt : goal.invariant-stmt_copy::copy_stmts-loop-stmt
invariant-stmt_copy::copy_stmts-loop-stmt l = l.copied ≡ take l.stmt-index l.stmts
