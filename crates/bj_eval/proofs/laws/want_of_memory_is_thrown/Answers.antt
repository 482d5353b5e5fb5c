use Rattle.bj_eval.proofs.Firsts.{no_memory, raised}
use Rattle.bj_eval.proofs.laws.want_of_memory_is_thrown.Goals as goal

pub returns : goal.returns
returns c program limit term at class constructor args k thrown r own is =
    (no_memory program limit term at class constructor args k own thrown is, raised program limit term at class constructor args k own thrown r is)
