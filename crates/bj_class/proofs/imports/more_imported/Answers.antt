use Rattle.std.proofs.Common.{List, ◌∙◌, ◌+◌, ◌-◌, rules, sym, ap, arith}
use Rattle.std.proofs.lemmas.Grind.{common_steps}
use Rattle.bj_expr_tree.specs.declared.types.NamedPlace.{NamedPlace}
use Rattle.bj_grammar.specs.Given.{text_of, place_of}
use Rattle.bj_class.specs.Reading.{more_names}
use Rattle.bj_class.specs.Given.{over_most}
use Rattle.bj_class.proofs.ClassCode.{from_start, names_end, names_past, names_all, names_go, names_fail}
use Rattle.bj_grammar.proofs.LoopLemmas.{out_fails}
use Rattle.bj_class.proofs.imports.more_imported.Goals as goal

pub loop-turn-init : goal.loop-turn-init
loop-turn-init c = from_start (λ n. over_most more_names c.args.tokens.now c.args.bounds n c.args.found (text_of c.args.tokens.now) c.args.at) c.args.bounds.most

pub returns-then-not-sees : goal.returns-then-not-sees
returns-then-not-sees c = names_end (place_of c.args.tokens.now) c.args.bounds.most (text_of c.args.tokens.now) _ c.args.bounds.most c.loop-turn._turn c.loop-turn.found c.loop-turn.at c.loop-turn.invariant (sym c.sees.ensures ∙ c.if-not-sees.true)

pub returns-then-sees : goal.returns-then-sees
returns-then-sees c = names_all (place_of c.args.tokens.now) c.args.bounds.most (text_of c.args.tokens.now) _ c.args.bounds.most c.loop-turn._turn c.loop-turn.found c.loop-turn.at c.loop-turn.invariant c.loop-turn-test.true (sym c.sees.ensures ∙ c.if-not-sees.false) c.in_ok-at.at c.in_ok-at.ensures.1 (sym c.sees-in-loop-turn.ensures ∙ c.if-sees.true) c.in_ok-end.end c.in_ok-end.ensures.1

pub returns-in_err-name : goal.returns-in_err-name
returns-in_err-name c =
    let h = names_fail (place_of c.args.tokens.now) c.args.bounds.most (text_of c.args.tokens.now) _ c.args.bounds.most c.loop-turn._turn c.loop-turn.found c.loop-turn.at c.loop-turn.invariant c.loop-turn-test.true (sym c.sees.ensures ∙ c.if-not-sees.false) c.in_ok-at.at c.in_ok-at.ensures.1 (sym c.sees-in-loop-turn.ensures ∙ c.if-sees.false) _ (c.in_err-name.ensures c.args.bounds.most) in
    first_of (search rules, grind (arith, common_steps))

pub loop-turn-preserved : goal.loop-turn-preserved
loop-turn-preserved c =
    names_go (place_of c.args.tokens.now) c.args.bounds.most (text_of c.args.tokens.now) _ c.args.bounds.most c.loop-turn._turn c.loop-turn.found c.loop-turn.at c.loop-turn.invariant c.loop-turn-test.true (sym c.sees.ensures ∙ c.if-not-sees.false) c.in_ok-at.at c.in_ok-at.ensures.1 (sym c.sees-in-loop-turn.ensures ∙ c.if-sees.false) _ _ (c.in_ok-name.ensures c.args.bounds.most)
    ∙ ap (λ (b : List NamedPlace). over_most more_names c.args.tokens.now c.args.bounds (c.args.bounds.most - (c.loop-turn._turn + 1)) b (text_of c.args.tokens.now) c.in_ok-name.next) (sym c.in_ok-push.ensures.ok)

pub returns-then-sees-2 : goal.returns-then-sees-2
returns-then-sees-2 c = out_fails _ c.out_of_turns.ensures (names_past (place_of c.args.tokens.now) c.args.bounds.most (text_of c.args.tokens.now) _ c.args.bounds.most c.loop-turn._turn c.loop-turn.found c.loop-turn.at c.loop-turn.invariant c.loop-turn-test.false (sym c.sees-2.ensures ∙ c.if-sees-2.true))

pub returns : goal.returns
returns c = names_end (place_of c.args.tokens.now) c.args.bounds.most (text_of c.args.tokens.now) _ c.args.bounds.most c.loop-turn._turn c.loop-turn.found c.loop-turn.at c.loop-turn.invariant (sym c.sees-2.ensures ∙ c.if-sees-2.false)
