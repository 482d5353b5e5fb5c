use Rattle.std.proofs.Common.{arith}
use Rattle.bj_class.proofs.ClassCode.{past_next}
use Rattle.bj_class.proofs.tokens.sees_next.Goals as goal

pub returns : goal.returns
returns c = past_next c.args.tokens.now c.args.at c.args.wanted _ (omega arith) c.is.ensures
