use Rattle.std.proofs.Common.{refl, arith}
use Rattle.bj_grammar.proofs.TextLemmas.{not_at_end}
use Rattle.bj_grammar.proofs.text.word.Goals as goal

pub returns-else-at-tokens : goal.returns-else-at-tokens
returns-else-at-tokens c = (not_at_end c.args.tokens.now c.args.at c.args.wanted (omega arith) c.requires, refl)
