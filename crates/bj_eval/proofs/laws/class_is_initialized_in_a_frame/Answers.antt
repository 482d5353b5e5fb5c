use Rattle.bj_eval.proofs.Firsts.{starts_in_frame}
use Rattle.bj_eval.proofs.laws.class_is_initialized_in_a_frame.Goals as goal

pub returns : goal.returns
returns c program limit term at line class constructor args x k room own starts is = starts_in_frame program limit term at line class constructor args x k room own starts is
