use Rattle.bj_rules.proofs.ModifierLaws.{all_fit}
use Rattle.bj_rules.proofs.laws.modifiers_without_misfit_fit.Goals as goal

pub returns : goal.returns
returns c = λ place modifiers e. all_fit place modifiers e
