use Rattle.std.proofs.Common.{◌≡◌, [], ◌∷◌, ◌++◌, arith, ap, ◌∙◌}
use Rattle.bj_writer.specs.Pieces.{spaces}
use Rattle.bj_writer.proofs.Written.{wrote_line, one_more}
use Rattle.bj_writer.proofs.writer.Writer.line.Goals as goal

pub loop-preserved : goal.loop-preserved
loop-preserved c = (one_more _ _ _ c.loop.counter c.in_ok-push-2.ensures.ok c.loop.invariant.0, omega (arith, c.loop-test.true))

pub returns : goal.returns
returns c =
    let all : c.loop.counter ≡ c.args.columns = omega (arith, c.loop-test.false, c.loop.invariant.1) in
    wrote_line c.args.self.now c.loop.self.text c.args.columns (c.loop.invariant.0 ∙ ap (λ n. (c.args.self.now.text ++ (10 ∷ [])) ++ spaces n) all)
