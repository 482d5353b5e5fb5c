use Rattle.bj_line.proofs.LineLaws.{whole_expression}
use Rattle.bj_line.proofs.line.expression_outcome.Goals as goal

pub returns-else-at-tokens : goal.returns-else-at-tokens
returns-else-at-tokens c = whole_expression c.args.tokens.now c.line_bounds.result c.in-Ok.tree c.in-Ok.at c.line_bounds.ensures c.in-Ok.ensures c.if-at-tokens.false
