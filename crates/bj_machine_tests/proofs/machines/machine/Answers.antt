use Rattle.std.proofs.Common.{sym, ap, subst, ◌∙◌}
use Rattle.bj_machine.specs.Shown.{HasFields}
use Rattle.bj_machine.specs.World.{Setting}
use Rattle.bj_machine_tests.proofs.Cells.{has_fields, if_ok}
use Rattle.bj_machine_tests.proofs.machines.machine.Goals as goal

pub new-requires-clause-fields : goal.new-requires-clause-fields
new-requires-clause-fields c = subst HasFields (sym c.in_ok-program.ensures) has_fields

pub returns : goal.returns
returns c = if_ok c.new.result (λ m fresh. ap (λ (s : Setting). s.program) fresh.made ∙ c.in_ok-program.ensures) c.new.ensures
