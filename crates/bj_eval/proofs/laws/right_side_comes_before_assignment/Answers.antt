use Rattle.bj_eval.proofs.Firsts.{right_side_first}
use Rattle.bj_eval.proofs.laws.right_side_comes_before_assignment.Goals as goal

pub returns : goal.returns
returns c program limit term at spot place name slot object of class constructor args k own for is =
    right_side_first program limit term at spot name slot object of for place class constructor args k own is
