use Rattle.bj_builtin.proofs.Members.{memberless}
use Rattle.bj_builtin.proofs.laws.classes_stand_in_order.Goals as goal

pub returns-clause-bare : goal.returns-clause-bare
returns-clause-bare c = memberless
