use Rattle.std.proofs.Common.{refl, ◌∙◌}
use Rattle.bj_layout.proofs.Writing.{nothing_wrote, item_at}
use Rattle.bj_layout.proofs.ClassPieces.{wrote_member, next_is_field}
use Rattle.bj_layout.proofs.members.write_members.Goals as goal

pub loop-index-init : goal.loop-index-init
loop-index-init c = (nothing_wrote, refl)

pub loop-index-preserved : goal.loop-index-preserved
loop-index-preserved c =
    let at = item_at c.as_slice-tree-items.ensures c.loop-index-test.true c.tree-item.is in (
      wrote_member c.args.trees.now c.loop-index.index c.tree-item.result c.loop-index.is_behind_field c.is_field-is_field.result at c.loop-index.invariant.1 c.is_field-is_field.ensures c.loop-index.invariant.0
          c.in_ok-gap_before.ensures c.in_ok-line.ensures c.in_ok-write_member.ensures,
      c.is_field-is_field.ensures ∙ next_is_field c.args.trees.now c.loop-index.index c.tree-item.result at,
    )
