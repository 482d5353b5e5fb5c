use Rattle.bj_store.proofs.Puts.{put_same, put_others}
use Rattle.bj_store.proofs.laws.what_is_put_is_what_is_got.Goals as goal

pub returns-clause-same : goal.returns-clause-same
returns-clause-same c = put_same

pub returns-clause-others : goal.returns-clause-others
returns-clause-others c = put_others
