use Rattle.bj_store.proofs.Kept.{fields_kind}
use Rattle.bj_store.proofs.laws.fields_have_their_kind.Goals as goal

pub returns : goal.returns
returns c = fields_kind
