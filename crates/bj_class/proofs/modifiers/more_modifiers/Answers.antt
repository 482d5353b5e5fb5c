use Rattle.std.proofs.Common.{◌∙◌, rules, sym, arith}
use Rattle.std.proofs.lemmas.Grind.{common_steps}
use Rattle.bj_grammar.specs.Terminal.{among}
use Rattle.bj_grammar.specs.Given.{text_of}
use Rattle.bj_grammar.proofs.LoopLemmas.{stops, goes, fails, overs, loop_start, out_fails}
use Rattle.bj_class.specs.Grammar.{modifier_words}
use Rattle.bj_class.specs.Reading.{next_modifier}
use Rattle.bj_class.specs.Given.{over_most}
use Rattle.bj_class.proofs.modifiers.more_modifiers.Goals as goal

pub loop-turn-init : goal.loop-turn-init
loop-turn-init c = loop_start (among modifier_words) (over_most next_modifier c.args.tokens.now c.args.bounds) c.args.bounds.most c.args.found (text_of c.args.tokens.now) c.args.at

pub returns-then-not-modifies : goal.returns-then-not-modifies
returns-then-not-modifies c = stops (among modifier_words) (over_most next_modifier c.args.tokens.now c.args.bounds) (text_of c.args.tokens.now) _ c.args.bounds.most c.loop-turn._turn c.loop-turn.found c.loop-turn.at c.loop-turn.invariant (sym c.modifies.ensures ∙ c.if-not-modifies.true)

pub returns-in_err-found : goal.returns-in_err-found
returns-in_err-found c =
    let h = fails (among modifier_words) (over_most next_modifier c.args.tokens.now c.args.bounds) (text_of c.args.tokens.now) _ c.args.bounds.most c.loop-turn._turn c.loop-turn.found c.loop-turn.at c.loop-turn.invariant c.loop-turn-test.true (sym c.modifies.ensures ∙ c.if-not-modifies.false) _ c.in_err-found.ensures in
    first_of (search rules, grind (arith, common_steps))

pub loop-turn-preserved : goal.loop-turn-preserved
loop-turn-preserved c = goes (among modifier_words) (over_most next_modifier c.args.tokens.now c.args.bounds) (text_of c.args.tokens.now) _ c.args.bounds.most c.loop-turn._turn c.loop-turn.found c.loop-turn.at c.loop-turn.invariant c.loop-turn-test.true (sym c.modifies.ensures ∙ c.if-not-modifies.false) _ _ c.in_ok-found.ensures

pub returns-then-modifies : goal.returns-then-modifies
returns-then-modifies c = out_fails _ c.out_of_turns.ensures (overs (among modifier_words) (over_most next_modifier c.args.tokens.now c.args.bounds) (text_of c.args.tokens.now) _ c.args.bounds.most c.loop-turn._turn c.loop-turn.found c.loop-turn.at c.loop-turn.invariant c.loop-turn-test.false (sym c.modifies-2.ensures ∙ c.if-modifies.true))

pub returns : goal.returns
returns c = stops (among modifier_words) (over_most next_modifier c.args.tokens.now c.args.bounds) (text_of c.args.tokens.now) _ c.args.bounds.most c.loop-turn._turn c.loop-turn.found c.loop-turn.at c.loop-turn.invariant (sym c.modifies-2.ensures ∙ c.if-modifies.false)
