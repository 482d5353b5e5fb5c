use Rattle.std.proofs.Common.{refl, arith}
use Rattle.bj_grammar.proofs.TextLemmas.{none_at_end}
use Rattle.bj_grammar.proofs.text.taken.Goals as goal

pub returns-else-at-tokens : goal.returns-else-at-tokens
returns-else-at-tokens c = (none_at_end c.args.tokens.now c.args.at c.args.some.now (omega arith) c.requires, refl)
