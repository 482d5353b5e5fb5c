use Rattle.std.proofs.Common.{◌∙◌, rules, sym, arith}
use Rattle.std.proofs.lemmas.Grind.{common_steps}
use Rattle.bj_grammar.specs.Terminal.{among}
use Rattle.bj_expr.specs.Reading.{selectors, selection}
use Rattle.bj_grammar.specs.Given.{text_of}
use Rattle.bj_expr.specs.Given.{over_nested}
use Rattle.bj_grammar.proofs.LoopLemmas.{stops, goes, fails, overs, loop_start, out_fails}
use Rattle.bj_expr.proofs.reader.Reader.selections.Goals as goal

pub loop-turn-init : goal.loop-turn-init
loop-turn-init g c = loop_start (among selectors) (over_nested selection c.args.tokens.now c.args.self.now.bounds c.args.start) c.args.self.now.bounds.most c.args.target (text_of c.args.tokens.now) c.args.at

pub returns-then-not-is_selector : goal.returns-then-not-is_selector
returns-then-not-is_selector g c = stops (among selectors) (over_nested selection c.args.tokens.now c.args.self.now.bounds c.args.start) (text_of c.args.tokens.now) _ c.args.self.now.bounds.most c.loop-turn._turn c.loop-turn.target c.loop-turn.at c.loop-turn.invariant (sym c.is_selector.ensures ∙ c.if-not-is_selector.true)

pub returns-in_err-target : goal.returns-in_err-target
returns-in_err-target g c =
    let h = fails (among selectors) (over_nested selection c.args.tokens.now c.args.self.now.bounds c.args.start) (text_of c.args.tokens.now) _ c.args.self.now.bounds.most c.loop-turn._turn c.loop-turn.target c.loop-turn.at c.loop-turn.invariant c.loop-turn-test.true (sym c.is_selector.ensures ∙ c.if-not-is_selector.false) _ c.in_err-target.ensures in
    first_of (search rules, grind (arith, common_steps))

pub loop-turn-preserved : goal.loop-turn-preserved
loop-turn-preserved g c = goes (among selectors) (over_nested selection c.args.tokens.now c.args.self.now.bounds c.args.start) (text_of c.args.tokens.now) _ c.args.self.now.bounds.most c.loop-turn._turn c.loop-turn.target c.loop-turn.at c.loop-turn.invariant c.loop-turn-test.true (sym c.is_selector.ensures ∙ c.if-not-is_selector.false) _ _ c.in_ok-target.ensures

pub returns-then-is_selector : goal.returns-then-is_selector
returns-then-is_selector g c = out_fails _ c.out_of_turns.ensures (overs (among selectors) (over_nested selection c.args.tokens.now c.args.self.now.bounds c.args.start) (text_of c.args.tokens.now) _ c.args.self.now.bounds.most c.loop-turn._turn c.loop-turn.target c.loop-turn.at c.loop-turn.invariant c.loop-turn-test.false (sym c.is_selector-2.ensures ∙ c.if-is_selector.true))

pub returns : goal.returns
returns g c = stops (among selectors) (over_nested selection c.args.tokens.now c.args.self.now.bounds c.args.start) (text_of c.args.tokens.now) _ c.args.self.now.bounds.most c.loop-turn._turn c.loop-turn.target c.loop-turn.at c.loop-turn.invariant (sym c.is_selector-2.ensures ∙ c.if-is_selector.false)
