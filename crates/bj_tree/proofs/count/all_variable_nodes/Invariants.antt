use Rattle.std.proofs.Common.{◌≡◌, take, map}
use Rattle.std.specs.Prelude.{min}
use Rattle.bj_expr_tree.specs.Count.{total}
use Rattle.bj_tree.specs.Count.{nodes_of_variable}
use Rattle.bj_tree.proofs.count.all_variable_nodes.Given as goal

abbrev pub invariant-loop-variable : goal.invariant-loop-variable
invariant-loop-variable l = l.count ≡ min (total (map nodes_of_variable (take l.variable-index l.variables))) 4294967295
