use Rattle.std.proofs.Common.{Some, ap, ◌∙◌}
use Rattle.bj_core.specs.declared.tree.Expr.TheVariants as e
use Rattle.bj_core.specs.declared.tree.Stmt.TheVariants.{Return}
use Rattle.bj_machine_tests.proofs.Cells.{at, if_all}
use Rattle.bj_machine_tests.proofs.machines.call_get.Goals as goal

pub returns : goal.returns
returns c =
    if_all c.call.result (λ t body object gives. c.calls_of_cells_are_typed.ensures.gets t at 0 5 object
    (body ∙ ap (λ l. Return at (Some (e.Virtual at (e.Local at 0) 5 2 l))) c.new.ensures) gives) c.call.ensures.body c.call.ensures.object c.call.ensures.gives
