use Rattle.bj_store.proofs.Kept.{fresh_kept}
use Rattle.bj_store.proofs.laws.new_stores_are_kept.Goals as goal

pub returns : goal.returns
returns c = fresh_kept
