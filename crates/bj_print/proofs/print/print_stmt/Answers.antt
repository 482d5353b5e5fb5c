use Rattle.std.proofs.Common.{ℕ, List, sym, subst}
use Rattle.bj_print.specs.Printed.{ReadsAsStmt}
use Rattle.bj_print.proofs.StmtReadBack.{stmt_reads_back}
use Rattle.bj_print.proofs.print.print_stmt.Goals as goal

pub returns-clause-reads_back : goal.returns-clause-reads_back
returns-clause-reads_back c bytes l = subst (λ (units : List ℕ). ReadsAsStmt units c.args.tree.now) (sym c.in_ok-units.ensures) (stmt_reads_back c.args.tree.now bytes l)
