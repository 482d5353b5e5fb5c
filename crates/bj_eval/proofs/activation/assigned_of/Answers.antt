use Rattle.std.proofs.Common.{◌∙◌, ◌++◌, ◌∷◌, [], ap}
use Rattle.bj_eval.proofs.activation.assigned_of.Goals as goal
use Rattle.bj_eval.proofs.activation.assigned_of.Goals.{in-Some+in_ok-copy-in-Some+in_ok-push-in-Some, in-None}
use Rattle.bj_eval.proofs.Shown.{shown, hidden}

pub loop-variable-preserved : goal.loop-variable-preserved
loop-variable-preserved c =
    elim c.match-variable.branch [
      | in-Some+in_ok-copy-in-Some+in_ok-push-in-Some w ↦ shown c.args.variables.now c.loop-variable.variable-index c.variable-item.result w.in-Some.value c.loop-variable.locals c.match-variable.locals c.variable-item.is c.loop-variable-test.true w.in-Some.is
          c.loop-variable.invariant (w.locals-is ∙ w.in_ok-push-in-Some.ensures.ok ∙ ap (λ n. c.loop-variable.locals ++ record { name = n; value = w.in-Some.value } ∷ []) w.in_ok-copy-in-Some.ensures)
      | in-None w ↦ w.locals-is ∙ hidden c.args.variables.now c.loop-variable.variable-index c.variable-item.result c.loop-variable.locals c.variable-item.is c.loop-variable-test.true w.in-None.is c.loop-variable.invariant
    ]
