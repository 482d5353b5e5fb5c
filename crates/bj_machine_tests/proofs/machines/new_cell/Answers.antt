use Rattle.std.proofs.Common.{Some, refl, ap}
use Rattle.bj_core.specs.declared.tree.Expr.TheVariants as e
use Rattle.bj_core.specs.declared.tree.Stmt.TheVariants.{Return}
use Rattle.bj_eval.specs.Typed.{int_constant}
use Rattle.bj_machine_tests.proofs.Cells.{at, argument}
use Rattle.bj_machine_tests.proofs.machines.new_cell.Goals as goal

pub returns : goal.returns
returns c =
    c.new_cells_are_typed.ensures _ at _ (ap (λ l. Return at (Some (e.New at 5 0 l))) (argument c.push.new.self c.new-args.result c.literal.result _ c.in_ok-push.ensures.ok c.new-args.ensures c.literal.ensures)) refl
    (int_constant at _ refl)
