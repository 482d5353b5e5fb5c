use Rattle.bj_eval.proofs.Firsts.{writes, has_written}
use Rattle.bj_eval.proofs.laws.assignment_has_what_is_written.Goals as goal

pub returns : goal.returns
returns c program limit term at spot place name slot object of n for is =
    (writes program limit term at spot name slot object of for place n is, has_written program limit term at spot name slot object of for place n is)
