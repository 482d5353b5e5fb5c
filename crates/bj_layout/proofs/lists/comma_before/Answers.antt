use Rattle.bj_layout.specs.Exprs.{comma}
use Rattle.bj_layout.proofs.Writing.{then_wrote, nothing_next, wrote_next}
use Rattle.bj_layout.proofs.lists.comma_before.Goals as goal

pub returns-then-index-eq0 : goal.returns-then-index-eq0
returns-then-index-eq0 c = nothing_next comma c.args.index c.if-index-eq0.true

pub returns : goal.returns
returns c = wrote_next comma c.args.index c.if-index-eq0.false (then_wrote c.in_ok-sign.ensures c.in_ok-space.ensures)
