use Rattle.std.proofs.Common.{◌≡◌, take}
use Rattle.bj_core.proofs.tree.+expr_copies.Given as goal

abbrev pub invariant-copy_exprs-loop-expr : goal.invariant-copy_exprs-loop-expr
invariant-copy_exprs-loop-expr l = l.copied ≡ take l.expr-index l.exprs
