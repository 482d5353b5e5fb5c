use Rattle.bj_history.proofs.Acts.{few_acts}
use Rattle.bj_history.proofs.laws.acts_are_within_the_limit.Goals as goal

pub returns : goal.returns
returns c = few_acts
