use Rattle.std.proofs.Common.{rules, arith}
use Rattle.std.proofs.lemmas.Grind.{common_steps}
use Rattle.bj_grammar.specs.Given.{text_of}
use Rattle.bj_grammar.proofs.LoopLemmas.{gives_same}
use Rattle.bj_expr.proofs.DepthLemmas.{level_zero, level_more, level_fails}
use Rattle.bj_expr.proofs.reader.Reader.+level.Goals as goal

pub returns-then-rank-eq0 : goal.returns-then-rank-eq0
returns-then-rank-eq0 g t c =
    gives_same _ _ _ (level_zero c.args.tokens.now c.args.self.now.bounds c.args.rank (text_of c.args.tokens.now) c.args.start c.if-rank-eq0.true) c.unary.ensures

pub returns-in_err-left : goal.returns-in_err-left
returns-in_err-left g t c =
    let h = level_fails c.args.tokens.now c.args.self.now.bounds c.args.rank (text_of c.args.tokens.now) c.args.start (omega arith) _ c.in_err-left.ensures in
    first_of (search rules, grind (arith, common_steps))

pub returns : goal.returns
returns g t c =
    gives_same _ _ _ (level_more c.args.tokens.now c.args.self.now.bounds c.args.rank (text_of c.args.tokens.now) c.args.start c.in_ok-left.left c.in_ok-left.at (omega arith) c.in_ok-left.ensures) c.operations.ensures
