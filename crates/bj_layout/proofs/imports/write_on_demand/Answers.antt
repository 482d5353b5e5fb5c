use Rattle.std.proofs.Common.{[], ◌∷◌, ap, Bool}
use Rattle.std.specs.Prelude.{codes, if◌then◌else◌}
use Rattle.bj_layout.specs.Exprs.{sign}
use Rattle.bj_layout.proofs.Writing.{nothing_wrote, then_wrote, wrote_as}
use Rattle.bj_layout.proofs.imports.write_on_demand.Goals as goal

pub returns-in_ok-sign-2 : goal.returns-in_ok-sign-2
returns-in_ok-sign-2 c = wrote_as (ap (λ (b : Bool). if b then sign (codes ".") ∷ sign (codes "*") ∷ [] else []) c.if-is_on_demand.true) (then_wrote c.in_ok-sign.ensures c.in_ok-sign-2.ensures)

pub returns-else-is_on_demand : goal.returns-else-is_on_demand
returns-else-is_on_demand c = wrote_as (ap (λ (b : Bool). if b then sign (codes ".") ∷ sign (codes "*") ∷ [] else []) c.if-is_on_demand.false) nothing_wrote
