use Rattle.std.proofs.Common.{sym, ◌∙◌}
use Rattle.bj_grammar.specs.Given.{text_of, place_of}
use Rattle.bj_parse.proofs.AnnotationRun.{stops, too_many, goes, ended}
use Rattle.bj_parse.proofs.annotations.annotations_end.Goals as goal

pub returns-then-not-sees : goal.returns-then-not-sees
returns-then-not-sees c = sym (stops (place_of c.args.tokens.now) c.args.bounds.most (text_of c.args.tokens.now) _ c.args.bounds.most c.loop-turn._turn c.loop-turn.at c.loop-turn.invariant (sym c.sees.ensures ∙ c.if-not-sees.true))

pub returns-in_default : goal.returns-in_default
returns-in_default c = sym (ended (place_of c.args.tokens.now) c.args.bounds.most (text_of c.args.tokens.now) _ c.args.bounds.most c.loop-turn._turn c.loop-turn.at c.loop-turn.invariant c.loop-turn-test.true
    (sym c.sees.ensures ∙ c.if-not-sees.false) c.in_ok-end.end c.in_ok-end.ensures c.in_default.not-Behind)

pub loop-turn-preserved : goal.loop-turn-preserved
loop-turn-preserved c = goes (place_of c.args.tokens.now) c.args.bounds.most (text_of c.args.tokens.now) _ c.args.bounds.most c.loop-turn._turn c.loop-turn.at c.loop-turn.invariant c.loop-turn-test.true
    (sym c.sees.ensures ∙ c.if-not-sees.false) c.in-Behind.next (sym c.in-Behind.is ∙ c.in_ok-end.ensures)

pub returns-then-sees : goal.returns-then-sees
returns-then-sees c = sym (too_many (place_of c.args.tokens.now) c.args.bounds.most (text_of c.args.tokens.now) _ c.args.bounds.most c.loop-turn._turn c.loop-turn.at c.loop-turn.invariant c.loop-turn-test.false (sym c.sees-2.ensures ∙ c.if-sees.true))

pub returns : goal.returns
returns c = sym (stops (place_of c.args.tokens.now) c.args.bounds.most (text_of c.args.tokens.now) _ c.args.bounds.most c.loop-turn._turn c.loop-turn.at c.loop-turn.invariant (sym c.sees-2.ensures ∙ c.if-sees.false))
