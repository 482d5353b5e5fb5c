use Rattle.bj_layout.proofs.Writing.{nothing_next}
use Rattle.bj_layout.specs.Parts.{gap_between}
use Rattle.bj_layout.proofs.members.gap_before.Goals as goal

pub returns-then-index-eq0 : goal.returns-then-index-eq0
returns-then-index-eq0 c = nothing_next (gap_between c.args.is_behind_field c.args.is_field) c.args.index c.if-index-eq0.true
