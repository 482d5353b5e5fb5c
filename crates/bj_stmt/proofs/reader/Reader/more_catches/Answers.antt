use Rattle.std.proofs.Common.{◌∙◌, rules, sym, arith}
use Rattle.std.proofs.lemmas.Grind.{common_steps}
use Rattle.bj_grammar.specs.declared.terminal.Terminal.TheVariants as t
use Rattle.bj_expr.specs.Reading.{is}
use Rattle.bj_stmt.specs.Reading.{next_catch}
use Rattle.bj_grammar.specs.Given.{text_of}
use Rattle.bj_stmt.specs.Given.{over_nested}
use Rattle.bj_grammar.proofs.LoopLemmas.{stops, goes, fails, overs, loop_start, out_fails}
use Rattle.bj_stmt.proofs.reader.Reader.more_catches.Goals as goal

pub loop-turn-init : goal.loop-turn-init
loop-turn-init g c = loop_start (is t.Catch) (over_nested next_catch c.args.tokens.now c.args.self.now.bounds) c.args.self.now.bounds.most c.args.found (text_of c.args.tokens.now) c.args.at

pub returns-then-not-sees : goal.returns-then-not-sees
returns-then-not-sees g c = stops (is t.Catch) (over_nested next_catch c.args.tokens.now c.args.self.now.bounds) (text_of c.args.tokens.now) _ c.args.self.now.bounds.most c.loop-turn._turn c.loop-turn.found c.loop-turn.at c.loop-turn.invariant (sym c.sees.ensures ∙ c.if-not-sees.true)

pub returns-in_err-found : goal.returns-in_err-found
returns-in_err-found g c =
    let h = fails (is t.Catch) (over_nested next_catch c.args.tokens.now c.args.self.now.bounds) (text_of c.args.tokens.now) _ c.args.self.now.bounds.most c.loop-turn._turn c.loop-turn.found c.loop-turn.at c.loop-turn.invariant c.loop-turn-test.true (sym c.sees.ensures ∙ c.if-not-sees.false) _ c.in_err-found.ensures in
    first_of (search rules, grind (arith, common_steps))

pub loop-turn-preserved : goal.loop-turn-preserved
loop-turn-preserved g c = goes (is t.Catch) (over_nested next_catch c.args.tokens.now c.args.self.now.bounds) (text_of c.args.tokens.now) _ c.args.self.now.bounds.most c.loop-turn._turn c.loop-turn.found c.loop-turn.at c.loop-turn.invariant c.loop-turn-test.true (sym c.sees.ensures ∙ c.if-not-sees.false) _ _ c.in_ok-found.ensures

pub returns-then-sees : goal.returns-then-sees
returns-then-sees g c = out_fails _ c.out_of_turns.ensures (overs (is t.Catch) (over_nested next_catch c.args.tokens.now c.args.self.now.bounds) (text_of c.args.tokens.now) _ c.args.self.now.bounds.most c.loop-turn._turn c.loop-turn.found c.loop-turn.at c.loop-turn.invariant c.loop-turn-test.false (sym c.sees-2.ensures ∙ c.if-sees.true))

pub returns : goal.returns
returns g c = stops (is t.Catch) (over_nested next_catch c.args.tokens.now c.args.self.now.bounds) (text_of c.args.tokens.now) _ c.args.self.now.bounds.most c.loop-turn._turn c.loop-turn.found c.loop-turn.at c.loop-turn.invariant (sym c.sees-2.ensures ∙ c.if-sees.false)
