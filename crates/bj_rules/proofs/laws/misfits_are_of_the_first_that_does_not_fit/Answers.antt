use Rattle.bj_rules.proofs.FirstLaws.{is_first}
use Rattle.bj_rules.proofs.laws.misfits_are_of_the_first_that_does_not_fit.Goals as goal

pub returns : goal.returns
returns c = λ place modifiers misfit e. is_first place modifiers misfit e
