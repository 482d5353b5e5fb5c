use Rattle.std.proofs.Common.{refl, arith}
use Rattle.bj_expr.specs.Grammar.{ops}
use Rattle.bj_expr.proofs.CodeLemmas.{op_not_other}
use Rattle.bj_grammar.proofs.TextLemmas.{none_at_end}
use Rattle.bj_expr.proofs.sets.op_at.Goals as goal

pub returns-else-at-tokens : goal.returns-else-at-tokens
returns-else-at-tokens c = (none_at_end c.args.tokens.now c.args.at (ops c.args.rank) (omega arith) (op_not_other c.args.rank), refl)
