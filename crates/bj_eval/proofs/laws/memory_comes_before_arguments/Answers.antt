use Rattle.bj_eval.proofs.Firsts.{memory_first}
use Rattle.bj_eval.proofs.laws.memory_comes_before_arguments.Goals as goal

pub returns : goal.returns
returns c program limit term at class constructor args k own is = memory_first program limit term at class constructor args k own is
