use Rattle.bj_store.proofs.Kept.{react_kept}
use Rattle.bj_store.proofs.laws.kept_states_stay_kept.Goals as goal

pub returns-clause-acts : goal.returns-clause-acts
returns-clause-acts c = react_kept
