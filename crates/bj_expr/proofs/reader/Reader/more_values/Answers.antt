use Rattle.std.proofs.Common.{List, [], ◌∷◌, ◌++◌, ◌∙◌, ◌+◌, ◌-◌, rules, sym, ap, arith}
use Rattle.std.proofs.lemmas.Grind.{common_steps}
use Rattle.bj_expr_tree.specs.declared.expr.ExprTree.{ExprTree}
use Rattle.bj_grammar.specs.Given.{text_of, place_of}
use Rattle.bj_expr.specs.Reading.{more_values, nested}
use Rattle.bj_expr.specs.Given.{over_nested}
use Rattle.bj_grammar.proofs.LoopLemmas.{out_fails}
use Rattle.bj_expr.proofs.CodeLemmas.{from_start, values_end, values_past, values_close, values_go, values_fail}
use Rattle.bj_expr.proofs.reader.Reader.more_values.Goals as goal

pub loop-turn-init : goal.loop-turn-init
loop-turn-init g c = from_start (λ n. over_nested more_values c.args.tokens.now c.args.self.now.bounds n c.args.found (text_of c.args.tokens.now) c.args.at) c.args.self.now.bounds.most

pub returns-then-not-sees : goal.returns-then-not-sees
returns-then-not-sees g c = values_end (place_of c.args.tokens.now) c.args.self.now.bounds (nested (place_of c.args.tokens.now) c.args.self.now.bounds.most c.args.self.now.bounds.room) (text_of c.args.tokens.now) _ c.args.self.now.bounds.most c.loop-turn._turn c.loop-turn.found c.loop-turn.at c.loop-turn.invariant (sym c.sees.ensures ∙ c.if-not-sees.true)

pub returns-then-sees : goal.returns-then-sees
returns-then-sees g c = values_close (place_of c.args.tokens.now) c.args.self.now.bounds (nested (place_of c.args.tokens.now) c.args.self.now.bounds.most c.args.self.now.bounds.room) (text_of c.args.tokens.now) _ c.args.self.now.bounds.most c.loop-turn._turn c.loop-turn.found c.loop-turn.at c.loop-turn.invariant c.loop-turn-test.true (sym c.sees.ensures ∙ c.if-not-sees.false) c.in_ok-at.at c.in_ok-at.ensures.1 (sym c.sees-in-loop-turn.ensures ∙ c.if-sees.true)

pub returns-in_err-value : goal.returns-in_err-value
returns-in_err-value g c =
    let h = values_fail (place_of c.args.tokens.now) c.args.self.now.bounds (nested (place_of c.args.tokens.now) c.args.self.now.bounds.most c.args.self.now.bounds.room) (text_of c.args.tokens.now) _ c.args.self.now.bounds.most c.loop-turn._turn c.loop-turn.found c.loop-turn.at c.loop-turn.invariant c.loop-turn-test.true (sym c.sees.ensures ∙ c.if-not-sees.false) c.in_ok-at.at c.in_ok-at.ensures.1 (sym c.sees-in-loop-turn.ensures ∙ c.if-sees.false) _ c.in_err-value.ensures in
    first_of (search rules, grind (arith, common_steps))

pub loop-turn-preserved : goal.loop-turn-preserved
loop-turn-preserved g c =
    values_go (place_of c.args.tokens.now) c.args.self.now.bounds (nested (place_of c.args.tokens.now) c.args.self.now.bounds.most c.args.self.now.bounds.room) (text_of c.args.tokens.now) _ c.args.self.now.bounds.most c.loop-turn._turn c.loop-turn.found c.loop-turn.at c.loop-turn.invariant c.loop-turn-test.true (sym c.sees.ensures ∙ c.if-not-sees.false) c.in_ok-at.at c.in_ok-at.ensures.1 (sym c.sees-in-loop-turn.ensures ∙ c.if-sees.false) _ _ c.in_ok-value.ensures
    ∙ ap (λ (b : List ExprTree). over_nested more_values c.args.tokens.now c.args.self.now.bounds (c.args.self.now.bounds.most - (c.loop-turn._turn + 1)) b (text_of c.args.tokens.now) c.in_ok-value.next) (ap (λ (x : ExprTree). c.loop-turn.found ++ x ∷ []) (sym c.into_inner.ensures) ∙ sym c.in_ok-push.ensures.ok)

pub returns-then-sees-2 : goal.returns-then-sees-2
returns-then-sees-2 g c = out_fails _ c.out_of_turns.ensures (values_past (place_of c.args.tokens.now) c.args.self.now.bounds (nested (place_of c.args.tokens.now) c.args.self.now.bounds.most c.args.self.now.bounds.room) (text_of c.args.tokens.now) _ c.args.self.now.bounds.most c.loop-turn._turn c.loop-turn.found c.loop-turn.at c.loop-turn.invariant c.loop-turn-test.false (sym c.sees-2.ensures ∙ c.if-sees-2.true))

pub returns : goal.returns
returns g c = values_end (place_of c.args.tokens.now) c.args.self.now.bounds (nested (place_of c.args.tokens.now) c.args.self.now.bounds.most c.args.self.now.bounds.room) (text_of c.args.tokens.now) _ c.args.self.now.bounds.most c.loop-turn._turn c.loop-turn.found c.loop-turn.at c.loop-turn.invariant (sym c.sees-2.ensures ∙ c.if-sees-2.false)
