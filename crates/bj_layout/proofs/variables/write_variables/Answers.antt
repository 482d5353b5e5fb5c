use Rattle.bj_layout.specs.Exprs.{comma}
use Rattle.bj_layout.specs.Stmts.{variable_pieces}
use Rattle.bj_layout.proofs.Writing.{nothing_wrote, item_at, wrote_separated}
use Rattle.bj_layout.proofs.variables.write_variables.Goals as goal

pub loop-index-init : goal.loop-index-init
loop-index-init c = nothing_wrote

pub loop-index-preserved : goal.loop-index-preserved
loop-index-preserved c =
    wrote_separated comma variable_pieces c.args.variables.now c.loop-index.index c.variable-item.result (item_at c.as_slice-variable-items.ensures c.loop-index-test.true c.variable-item.is) c.loop-index.invariant
    c.in_ok-comma_before.ensures c.in_ok-write_variable.ensures
