use Rattle.std.proofs.Common.{List, [], ◌++◌, ◌∷◌}
use Rattle.bj_core.specs.declared.entry.Entry.{Entry}
use Rattle.bj_history.specs.declared.opening.Opening.{Opening}
use Rattle.bj_history.specs.History.{Legal, Fits}
use Rattle.bj_history.proofs.laws.each_entry_may_come.Goals as goal

each : (o : Opening) (later front : List Entry) (e : Entry) → Legal o (later ++ e ∷ front) → Fits o front e
each o [] front e legal = legal.0
each o (x ∷ later) front e legal = each o later front e legal.1

pub returns : goal.returns
returns c = each
