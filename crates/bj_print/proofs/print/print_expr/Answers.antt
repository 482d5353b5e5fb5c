use Rattle.std.proofs.Common.{ℕ, List, sym, subst}
use Rattle.bj_print.specs.Printed.{ReadsAsExpr}
use Rattle.bj_print.proofs.ReadBack.{expr_reads_back}
use Rattle.bj_print.proofs.print.print_expr.Goals as goal

pub returns-clause-reads_back : goal.returns-clause-reads_back
returns-clause-reads_back c bytes l = subst (λ (units : List ℕ). ReadsAsExpr units c.args.tree.now) (sym c.in_ok-units.ensures) (expr_reads_back c.args.tree.now bytes l)
