use Rattle.std.proofs.Common.{◌∙◌, rules, sym, arith}
use Rattle.std.proofs.lemmas.Grind.{common_steps}
use Rattle.bj_stmt.specs.Reading.{on_line}
use Rattle.bj_grammar.specs.Given.{text_of}
use Rattle.bj_stmt.specs.Given.{line_step}
use Rattle.bj_grammar.proofs.LoopLemmas.{stops, goes, fails, overs, loop_start, out_fails}
use Rattle.bj_stmt.proofs.top.more_on_line.Goals as goal

pub loop-turn-init : goal.loop-turn-init
loop-turn-init c = loop_start on_line (line_step c.args.tokens.now c.args.bounds) c.args.bounds.most c.args.found (text_of c.args.tokens.now) c.args.at

pub returns-then-not-on_line : goal.returns-then-not-on_line
returns-then-not-on_line c = stops on_line (line_step c.args.tokens.now c.args.bounds) (text_of c.args.tokens.now) _ c.args.bounds.most c.loop-turn._turn c.loop-turn.found c.loop-turn.at c.loop-turn.invariant (sym c.on_line.ensures ∙ c.if-not-on_line.true)

pub returns-in_err-found : goal.returns-in_err-found
returns-in_err-found c =
    let h = fails on_line (line_step c.args.tokens.now c.args.bounds) (text_of c.args.tokens.now) _ c.args.bounds.most c.loop-turn._turn c.loop-turn.found c.loop-turn.at c.loop-turn.invariant c.loop-turn-test.true (sym c.on_line.ensures ∙ c.if-not-on_line.false) _ c.in_err-found.ensures in
    first_of (search rules, grind (arith, common_steps))

pub loop-turn-preserved : goal.loop-turn-preserved
loop-turn-preserved c = goes on_line (line_step c.args.tokens.now c.args.bounds) (text_of c.args.tokens.now) _ c.args.bounds.most c.loop-turn._turn c.loop-turn.found c.loop-turn.at c.loop-turn.invariant c.loop-turn-test.true (sym c.on_line.ensures ∙ c.if-not-on_line.false) _ _ c.in_ok-found.ensures

pub returns-then-on_line : goal.returns-then-on_line
returns-then-on_line c = out_fails _ c.out_of_turns.ensures (overs on_line (line_step c.args.tokens.now c.args.bounds) (text_of c.args.tokens.now) _ c.args.bounds.most c.loop-turn._turn c.loop-turn.found c.loop-turn.at c.loop-turn.invariant c.loop-turn-test.false (sym c.on_line-2.ensures ∙ c.if-on_line.true))

pub returns : goal.returns
returns c = stops on_line (line_step c.args.tokens.now c.args.bounds) (text_of c.args.tokens.now) _ c.args.bounds.most c.loop-turn._turn c.loop-turn.found c.loop-turn.at c.loop-turn.invariant (sym c.on_line-2.ensures ∙ c.if-on_line.false)
