use Rattle.std.proofs.Common.{◌≡◌, take}
use Rattle.bj_expr_tree.proofs.+expr_copies.Given as goal

abbrev pub invariant-expr_copy::copy_exprs-loop-expr : goal.invariant-expr_copy::copy_exprs-loop-expr
invariant-expr_copy::copy_exprs-loop-expr l = l.copied ≡ take l.expr-index l.exprs
