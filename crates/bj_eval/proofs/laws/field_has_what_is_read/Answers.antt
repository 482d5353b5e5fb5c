use Rattle.bj_eval.proofs.Firsts.{reads, has_read}
use Rattle.bj_eval.proofs.laws.field_has_what_is_read.Goals as goal

pub returns : goal.returns
returns c program limit term at spot name slot object of x for is = (reads program limit term at spot name slot object of for is, has_read program limit term at spot name slot object of for x is)
