use Rattle.bj_sum.proofs.Wholes.{sum_is}
use Rattle.bj_sum.proofs.sum.sums_are_of_sums.Goals as goal

pub returns : goal.returns
returns c = sum_is
