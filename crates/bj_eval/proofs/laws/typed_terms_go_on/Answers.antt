use Rattle.bj_eval.proofs.Sound.{goes_on}
use Rattle.bj_eval.proofs.laws.typed_terms_go_on.Goals as goal

pub returns : goal.returns
returns c program limit term answers room typed allowed = goes_on program limit term answers room typed allowed
