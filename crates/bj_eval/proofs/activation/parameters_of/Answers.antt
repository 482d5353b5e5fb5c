use Rattle.std.proofs.Common.{◌∙◌, ◌++◌, ◌∷◌, [], ap}
use Rattle.std.specs.Prelude.{slice_get}
use Rattle.bj_eval.proofs.activation.parameters_of.Goals as goal
use Rattle.bj_eval.proofs.Shown.{passed, read_is}

pub loop-slot-preserved : goal.loop-slot-preserved
loop-slot-preserved c =
    let value = c.copied.ensures ∙ read_is c.args.values.now c.loop-slot.slot c.get.result c.get.ensures.lookup.3 in
    passed c.args.params.now c.args.values.now c.loop-slot.slot c.index-params-slot.result c.loop-slot.variables c.push.new.self c.index-params-slot.is c.loop-slot-test.true c.loop-slot.invariant
    (c.in_ok-push.ensures.ok ∙ ap (λ o. c.loop-slot.variables ++ record { name = c.in_ok-copy.field-0; value = o } ∷ []) value
    ∙ ap (λ n. c.loop-slot.variables ++ record { name = n; value = slice_get c.args.values.now c.loop-slot.slot } ∷ []) c.in_ok-copy.ensures)
