use Rattle.std.proofs.Common.{arith}
use Rattle.bj_grammar.specs.Given.{text_of}
use Rattle.bj_grammar.proofs.LoopLemmas.{gives_same}
use Rattle.bj_stmt.proofs.StmtCode.{told, variables_zero, variables_more}
use Rattle.bj_stmt.proofs.variables.variables_below.Goals as goal

pub returns-then-bounds-eq0 : goal.returns-then-bounds-eq0
returns-then-bounds-eq0 c = told _ _ _ c.place.ensures (variables_zero c.args.tokens.now c.args.bounds.most c.args.bounds.room (text_of c.args.tokens.now) c.args.at c.if-bounds-eq0.true)

pub returns : goal.returns
returns c = gives_same _ _ _ (variables_more c.args.tokens.now c.args.bounds.most c.args.bounds.room (text_of c.args.tokens.now) c.args.at (omega arith)) c.variables_at.ensures
