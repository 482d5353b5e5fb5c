use Rattle.std.proofs.Common.{[], ◌∷◌, ap, Bool}
use Rattle.std.specs.Prelude.{codes, if◌then◌else◌}
use Rattle.bj_writer.specs.Pieces.{Space}
use Rattle.bj_layout.specs.Exprs.{keyword}
use Rattle.bj_layout.proofs.Writing.{nothing_wrote, wrote_as}
use Rattle.bj_layout.proofs.imports.write_static.Goals as goal

pub returns : goal.returns
returns c = wrote_as (ap (λ (b : Bool). if b then keyword (codes "static") ∷ Space ∷ [] else []) c.if-is_static.false) nothing_wrote
