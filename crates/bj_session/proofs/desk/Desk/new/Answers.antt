use Rattle.std.proofs.Common.{sym, subst, rules}
use Rattle.bj_core.specs.declared.program.Program.{Program}
use Rattle.bj_history.specs.History.{loaded}
use Rattle.bj_machine.specs.Shown.{HasFields}
use Rattle.bj_session.proofs.desk.Desk.new.Goals as goal

-- no field of the program that is loaded is of type void
loaded_has_fields : HasFields loaded
unfolding loaded
loaded_has_fields = search rules

pub new-requires-clause-fields : goal.new-requires-clause-fields
new-requires-clause-fields g c = subst (λ (p : Program). HasFields p) (sym c.requires.loaded) loaded_has_fields
