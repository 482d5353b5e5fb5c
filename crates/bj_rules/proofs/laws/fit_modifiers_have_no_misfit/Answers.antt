use Rattle.bj_rules.proofs.ModifierLaws.{no_misfit}
use Rattle.bj_rules.proofs.laws.fit_modifiers_have_no_misfit.Goals as goal

pub returns : goal.returns
returns c = λ place modifiers fit kept. no_misfit place modifiers fit kept
