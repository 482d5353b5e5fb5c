use Rattle.std.proofs.Common.{Some, refl, ap, ◌∙◌}
use Rattle.bj_core.specs.declared.tree.Expr.TheVariants as e
use Rattle.bj_core.specs.declared.tree.Stmt.TheVariants.{Return}
use Rattle.bj_eval.specs.Typed.{int_constant}
use Rattle.bj_machine_tests.proofs.Cells.{at, argument, if_all}
use Rattle.bj_machine_tests.proofs.machines.call_add.Goals as goal

pub returns : goal.returns
returns c =
    if_all c.call.result (λ t body object gives. c.calls_of_cells_are_typed.ensures.adds t at 0 5 _ object
    (body ∙ ap (λ l. Return at (Some (e.Virtual at (e.Local at 0) 5 1 l))) (argument c.push.new.self c.new-args.result c.literal.result _ c.in_ok-push.ensures.ok c.new-args.ensures c.literal.ensures)) gives
    (int_constant at _ refl)) c.call.ensures.body c.call.ensures.object c.call.ensures.gives
