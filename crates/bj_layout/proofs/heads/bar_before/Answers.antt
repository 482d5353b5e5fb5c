use Rattle.bj_layout.specs.Parts.{bar}
use Rattle.bj_layout.proofs.Writing.{nothing_next}
use Rattle.bj_layout.proofs.heads.bar_before.Goals as goal

pub returns-then-index-eq0 : goal.returns-then-index-eq0
returns-then-index-eq0 c = nothing_next bar c.args.index c.if-index-eq0.true
