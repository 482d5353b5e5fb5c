use Rattle.std.proofs.Common.{true, ap, ◌∙◌, Bool}
use Rattle.bj_layout.specs.Parts.{gap_between}
use Rattle.bj_layout.proofs.Writing.{nothing_wrote, wrote_as}
use Rattle.bj_layout.proofs.members.write_gap.Goals as goal

pub returns-then-is_field : goal.returns-then-is_field
returns-then-is_field c =
    wrote_as (ap (λ (b : Bool). gap_between b c.args.is_field) c.if-is_behind_field.true ∙ ap (gap_between true) c.if-is_field.true) nothing_wrote
