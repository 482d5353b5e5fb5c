use Rattle.std.proofs.Common.{[]}
use Rattle.bj_layout.specs.Classes.{statement_line}
use Rattle.bj_layout.proofs.Writing.{nothing_wrote, item_at, wrote_behind, then_wrote}
use Rattle.bj_layout.proofs.body.write_lines.Goals as goal

pub loop-tree-init : goal.loop-tree-init
loop-tree-init c = nothing_wrote

pub loop-tree-preserved : goal.loop-tree-preserved
loop-tree-preserved c =
    wrote_behind [] statement_line c.args.trees.now c.loop-tree.tree-index c.tree-item.result (item_at c.as_slice-tree-items.ensures c.loop-tree-test.true c.tree-item.is) c.loop-tree.invariant
    (then_wrote c.in_ok-line.ensures c.in_ok-write_stmt.ensures)
