use Rattle.std.proofs.Common.{◌∙◌, rules, sym, arith}
use Rattle.std.proofs.lemmas.Grind.{common_steps}
use Rattle.bj_grammar.specs.Terminal.{among}
use Rattle.bj_expr.specs.Grammar.{step_ops}
use Rattle.bj_expr.specs.Reading.{postfix_step}
use Rattle.bj_grammar.specs.Given.{text_of}
use Rattle.bj_expr.specs.Given.{over_nested}
use Rattle.bj_grammar.proofs.LoopLemmas.{stops, goes, fails, overs, loop_start, out_fails}
use Rattle.bj_expr.proofs.reader.Reader.postfix_steps.Goals as goal

pub loop-turn-init : goal.loop-turn-init
loop-turn-init g c = loop_start (among step_ops) (over_nested postfix_step c.args.tokens.now c.args.self.now.bounds c.args.start) c.args.self.now.bounds.most c.args.operand (text_of c.args.tokens.now) c.args.at

pub returns-then-not-is_step : goal.returns-then-not-is_step
returns-then-not-is_step g c = stops (among step_ops) (over_nested postfix_step c.args.tokens.now c.args.self.now.bounds c.args.start) (text_of c.args.tokens.now) _ c.args.self.now.bounds.most c.loop-turn._turn c.loop-turn.operand c.loop-turn.at c.loop-turn.invariant (sym c.is_step.ensures ∙ c.if-not-is_step.true)

pub returns-in_err-operand : goal.returns-in_err-operand
returns-in_err-operand g c =
    let h = fails (among step_ops) (over_nested postfix_step c.args.tokens.now c.args.self.now.bounds c.args.start) (text_of c.args.tokens.now) _ c.args.self.now.bounds.most c.loop-turn._turn c.loop-turn.operand c.loop-turn.at c.loop-turn.invariant c.loop-turn-test.true (sym c.is_step.ensures ∙ c.if-not-is_step.false) _ c.in_err-operand.ensures in
    first_of (search rules, grind (arith, common_steps))

pub loop-turn-preserved : goal.loop-turn-preserved
loop-turn-preserved g c = goes (among step_ops) (over_nested postfix_step c.args.tokens.now c.args.self.now.bounds c.args.start) (text_of c.args.tokens.now) _ c.args.self.now.bounds.most c.loop-turn._turn c.loop-turn.operand c.loop-turn.at c.loop-turn.invariant c.loop-turn-test.true (sym c.is_step.ensures ∙ c.if-not-is_step.false) _ _ c.in_ok-operand.ensures

pub returns-then-is_step : goal.returns-then-is_step
returns-then-is_step g c = out_fails _ c.out_of_turns.ensures (overs (among step_ops) (over_nested postfix_step c.args.tokens.now c.args.self.now.bounds c.args.start) (text_of c.args.tokens.now) _ c.args.self.now.bounds.most c.loop-turn._turn c.loop-turn.operand c.loop-turn.at c.loop-turn.invariant c.loop-turn-test.false (sym c.is_step-2.ensures ∙ c.if-is_step.true))

pub returns : goal.returns
returns g c = stops (among step_ops) (over_nested postfix_step c.args.tokens.now c.args.self.now.bounds c.args.start) (text_of c.args.tokens.now) _ c.args.self.now.bounds.most c.loop-turn._turn c.loop-turn.operand c.loop-turn.at c.loop-turn.invariant (sym c.is_step-2.ensures ∙ c.if-is_step.false)
