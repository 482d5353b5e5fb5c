use Rattle.std.proofs.Common.{◌≡◌, take, map}
use Rattle.std.specs.Prelude.{min}
use Rattle.bj_expr_tree.specs.Size.{height_of, most}
use Rattle.bj_expr_tree.proofs.size.+heights.Given as goal

abbrev pub invariant-highest-loop-tree : goal.invariant-highest-loop-tree
invariant-highest-loop-tree l = l.most ≡ min (most (map height_of (take l.tree-index l.trees))) 4294967295
