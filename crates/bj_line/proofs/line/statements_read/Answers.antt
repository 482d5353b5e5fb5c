use Rattle.bj_line.proofs.LineLaws as laws
use Rattle.bj_line.proofs.line.statements_read.Goals as goal

pub returns : goal.returns
returns c = laws.whole_statements c.args.tokens.now c.args.trees c.args.at c.requires c.if-at-tokens.false
