use Rattle.bj_builtin.proofs.Members.{valued}
use Rattle.bj_builtin.proofs.laws.no_field_is_void.Goals as goal

pub returns : goal.returns
returns c = valued
