use Rattle.std.proofs.Common.{arith}
use Rattle.bj_grammar.specs.Given.{text_of}
use Rattle.bj_grammar.proofs.LoopLemmas.{gives_same}
use Rattle.bj_expr.proofs.DepthLemmas.{nested_zero, nested_more}
use Rattle.bj_expr.proofs.parts.+part_at.Goals as goal

pub returns-then-bounds-eq0 : goal.returns-then-bounds-eq0
returns-then-bounds-eq0 t c =
    nested_zero c.args.tokens.now c.args.bounds.most c.args.bounds.room c.args.part (text_of c.args.tokens.now) c.args.at c.place.result c.place.ensures c.if-bounds-eq0.true

pub returns : goal.returns
returns t c = gives_same _ _ _ (nested_more c.args.tokens.now c.args.bounds.most c.args.bounds.room c.args.part (text_of c.args.tokens.now) c.args.at (omega arith)) c.rule.ensures
