use Rattle.std.proofs.Common.{◌∙◌, rules, sym, arith}
use Rattle.std.proofs.lemmas.Grind.{common_steps}
use Rattle.bj_grammar.specs.Given.{text_of}
use Rattle.bj_expr.specs.Reading.{goes_on, operation}
use Rattle.bj_expr.specs.Given.{over_nested}
use Rattle.bj_grammar.proofs.LoopLemmas.{stops, goes, fails, overs, loop_start, out_fails}
use Rattle.bj_expr.proofs.reader.Reader.operations.Goals as goal

pub loop-turn-init : goal.loop-turn-init
loop-turn-init g c = loop_start (goes_on c.args.rank) (over_nested operation c.args.tokens.now c.args.self.now.bounds c.args.rank c.args.start) c.args.self.now.bounds.most c.args.left (text_of c.args.tokens.now) c.args.at

pub returns-then-not-goes_on : goal.returns-then-not-goes_on
returns-then-not-goes_on g c = stops (goes_on c.args.rank) (over_nested operation c.args.tokens.now c.args.self.now.bounds c.args.rank c.args.start) (text_of c.args.tokens.now) _ c.args.self.now.bounds.most c.loop-turn._turn c.loop-turn.left c.loop-turn.at c.loop-turn.invariant (sym c.goes_on.ensures ∙ c.if-not-goes_on.true)

pub returns-in_err-left : goal.returns-in_err-left
returns-in_err-left g c =
    let h = fails (goes_on c.args.rank) (over_nested operation c.args.tokens.now c.args.self.now.bounds c.args.rank c.args.start) (text_of c.args.tokens.now) _ c.args.self.now.bounds.most c.loop-turn._turn c.loop-turn.left c.loop-turn.at c.loop-turn.invariant c.loop-turn-test.true (sym c.goes_on.ensures ∙ c.if-not-goes_on.false) _ c.in_err-left.ensures in
    first_of (search rules, grind (arith, common_steps))

pub loop-turn-preserved : goal.loop-turn-preserved
loop-turn-preserved g c = goes (goes_on c.args.rank) (over_nested operation c.args.tokens.now c.args.self.now.bounds c.args.rank c.args.start) (text_of c.args.tokens.now) _ c.args.self.now.bounds.most c.loop-turn._turn c.loop-turn.left c.loop-turn.at c.loop-turn.invariant c.loop-turn-test.true (sym c.goes_on.ensures ∙ c.if-not-goes_on.false) _ _ c.in_ok-left.ensures

pub returns-then-goes_on : goal.returns-then-goes_on
returns-then-goes_on g c = out_fails _ c.out_of_turns.ensures (overs (goes_on c.args.rank) (over_nested operation c.args.tokens.now c.args.self.now.bounds c.args.rank c.args.start) (text_of c.args.tokens.now) _ c.args.self.now.bounds.most c.loop-turn._turn c.loop-turn.left c.loop-turn.at c.loop-turn.invariant c.loop-turn-test.false (sym c.goes_on-2.ensures ∙ c.if-goes_on.true))

pub returns : goal.returns
returns g c = stops (goes_on c.args.rank) (over_nested operation c.args.tokens.now c.args.self.now.bounds c.args.rank c.args.start) (text_of c.args.tokens.now) _ c.args.self.now.bounds.most c.loop-turn._turn c.loop-turn.left c.loop-turn.at c.loop-turn.invariant (sym c.goes_on-2.ensures ∙ c.if-goes_on.false)
