use Rattle.bj_eval.proofs.Firsts.{initialization_first}
use Rattle.bj_eval.proofs.laws.initialization_comes_before_memory.Goals as goal

pub returns : goal.returns
returns c program limit term at class constructor args k own is = initialization_first program limit term at class constructor args k own is
