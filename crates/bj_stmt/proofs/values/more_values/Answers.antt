use Rattle.std.proofs.Common.{◌∙◌, rules, sym, arith}
use Rattle.std.proofs.lemmas.Grind.{common_steps}
use Rattle.bj_grammar.specs.declared.terminal.Terminal.TheVariants as t
use Rattle.bj_expr.specs.Reading.{is}
use Rattle.bj_stmt.specs.Reading.{next_value}
use Rattle.bj_grammar.specs.Given.{text_of}
use Rattle.bj_stmt.specs.Given.{over_bounds}
use Rattle.bj_grammar.proofs.LoopLemmas.{stops, goes, fails, overs, loop_start, out_fails}
use Rattle.bj_stmt.proofs.values.more_values.Goals as goal

pub loop-turn-init : goal.loop-turn-init
loop-turn-init c = loop_start (is t.Comma) (over_bounds next_value c.args.tokens.now c.args.bounds) c.args.bounds.most c.args.found (text_of c.args.tokens.now) c.args.at

pub returns-then-not-sees : goal.returns-then-not-sees
returns-then-not-sees c = stops (is t.Comma) (over_bounds next_value c.args.tokens.now c.args.bounds) (text_of c.args.tokens.now) _ c.args.bounds.most c.loop-turn._turn c.loop-turn.found c.loop-turn.at c.loop-turn.invariant (sym c.sees.ensures ∙ c.if-not-sees.true)

pub returns-in_err-found : goal.returns-in_err-found
returns-in_err-found c =
    let h = fails (is t.Comma) (over_bounds next_value c.args.tokens.now c.args.bounds) (text_of c.args.tokens.now) _ c.args.bounds.most c.loop-turn._turn c.loop-turn.found c.loop-turn.at c.loop-turn.invariant c.loop-turn-test.true (sym c.sees.ensures ∙ c.if-not-sees.false) _ c.in_err-found.ensures in
    first_of (search rules, grind (arith, common_steps))

pub loop-turn-preserved : goal.loop-turn-preserved
loop-turn-preserved c = goes (is t.Comma) (over_bounds next_value c.args.tokens.now c.args.bounds) (text_of c.args.tokens.now) _ c.args.bounds.most c.loop-turn._turn c.loop-turn.found c.loop-turn.at c.loop-turn.invariant c.loop-turn-test.true (sym c.sees.ensures ∙ c.if-not-sees.false) _ _ c.in_ok-found.ensures

pub returns-then-sees : goal.returns-then-sees
returns-then-sees c = out_fails _ c.out_of_turns.ensures (overs (is t.Comma) (over_bounds next_value c.args.tokens.now c.args.bounds) (text_of c.args.tokens.now) _ c.args.bounds.most c.loop-turn._turn c.loop-turn.found c.loop-turn.at c.loop-turn.invariant c.loop-turn-test.false (sym c.sees-2.ensures ∙ c.if-sees.true))

pub returns : goal.returns
returns c = stops (is t.Comma) (over_bounds next_value c.args.tokens.now c.args.bounds) (text_of c.args.tokens.now) _ c.args.bounds.most c.loop-turn._turn c.loop-turn.found c.loop-turn.at c.loop-turn.invariant (sym c.sees-2.ensures ∙ c.if-sees.false)
