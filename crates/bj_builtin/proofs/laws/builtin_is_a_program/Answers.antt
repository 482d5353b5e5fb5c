use Rattle.bj_builtin.proofs.Typing.{is_program}
use Rattle.bj_builtin.proofs.laws.builtin_is_a_program.Goals as goal

pub returns : goal.returns
returns c = is_program
