use Rattle.std.proofs.Common.{◌∙◌, rules, sym, arith}
use Rattle.std.proofs.lemmas.Grind.{common_steps}
use Rattle.bj_stmt.specs.Reading.{next_statement, inside}
use Rattle.bj_grammar.specs.Given.{text_of}
use Rattle.bj_stmt.specs.Given.{over_nested}
use Rattle.bj_grammar.proofs.LoopLemmas.{stops, goes, fails, overs, loop_start, out_fails}
use Rattle.bj_stmt.proofs.reader.Reader.more_statements.Goals as goal

pub loop-turn-init : goal.loop-turn-init
loop-turn-init g c = loop_start inside (over_nested next_statement c.args.tokens.now c.args.self.now.bounds) c.args.self.now.bounds.most c.args.found (text_of c.args.tokens.now) c.args.at

pub returns-then-not-inside : goal.returns-then-not-inside
returns-then-not-inside g c = stops inside (over_nested next_statement c.args.tokens.now c.args.self.now.bounds) (text_of c.args.tokens.now) _ c.args.self.now.bounds.most c.loop-turn._turn c.loop-turn.found c.loop-turn.at c.loop-turn.invariant (sym c.inside.ensures ∙ c.if-not-inside.true)

pub returns-in_err-found : goal.returns-in_err-found
returns-in_err-found g c =
    let h = fails inside (over_nested next_statement c.args.tokens.now c.args.self.now.bounds) (text_of c.args.tokens.now) _ c.args.self.now.bounds.most c.loop-turn._turn c.loop-turn.found c.loop-turn.at c.loop-turn.invariant c.loop-turn-test.true (sym c.inside.ensures ∙ c.if-not-inside.false) _ c.in_err-found.ensures in
    first_of (search rules, grind (arith, common_steps))

pub loop-turn-preserved : goal.loop-turn-preserved
loop-turn-preserved g c = goes inside (over_nested next_statement c.args.tokens.now c.args.self.now.bounds) (text_of c.args.tokens.now) _ c.args.self.now.bounds.most c.loop-turn._turn c.loop-turn.found c.loop-turn.at c.loop-turn.invariant c.loop-turn-test.true (sym c.inside.ensures ∙ c.if-not-inside.false) _ _ c.in_ok-found.ensures

pub returns-then-inside : goal.returns-then-inside
returns-then-inside g c = out_fails _ c.out_of_turns.ensures (overs inside (over_nested next_statement c.args.tokens.now c.args.self.now.bounds) (text_of c.args.tokens.now) _ c.args.self.now.bounds.most c.loop-turn._turn c.loop-turn.found c.loop-turn.at c.loop-turn.invariant c.loop-turn-test.false (sym c.inside-2.ensures ∙ c.if-inside.true))

pub returns : goal.returns
returns g c = stops inside (over_nested next_statement c.args.tokens.now c.args.self.now.bounds) (text_of c.args.tokens.now) _ c.args.self.now.bounds.most c.loop-turn._turn c.loop-turn.found c.loop-turn.at c.loop-turn.invariant (sym c.inside-2.ensures ∙ c.if-inside.false)
