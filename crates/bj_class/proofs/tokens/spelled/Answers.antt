use Rattle.std.proofs.Common.{refl, arith}
use Rattle.bj_class.proofs.ClassCode.{past_spelled}
use Rattle.bj_class.proofs.tokens.spelled.Goals as goal

pub returns-else-at-tokens : goal.returns-else-at-tokens
returns-else-at-tokens c = (past_spelled c.args.tokens.now c.args.at c.args.word.now (omega arith), refl)
