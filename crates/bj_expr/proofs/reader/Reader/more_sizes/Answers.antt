use Rattle.std.proofs.Common.{◌∙◌, rules, sym, arith}
use Rattle.std.proofs.lemmas.Grind.{common_steps}
use Rattle.bj_grammar.specs.Given.{text_of, place_of}
use Rattle.bj_grammar.proofs.LoopLemmas.{gives_same, out_fails}
use Rattle.bj_expr.specs.Reading.{more_sizes, nested}
use Rattle.bj_expr.specs.Given.{over_nested}
use Rattle.bj_expr.proofs.CodeLemmas.{from_start, sizes_end, sizes_past, sizes_close, sizes_go, sizes_fail}
use Rattle.bj_expr.proofs.reader.Reader.more_sizes.Goals as goal

pub loop-turn-init : goal.loop-turn-init
loop-turn-init g c = from_start (λ n. over_nested more_sizes c.args.tokens.now c.args.self.now.bounds n c.args.found (text_of c.args.tokens.now) c.args.at) c.args.self.now.bounds.most

pub returns-then-not-sees : goal.returns-then-not-sees
returns-then-not-sees g c = sizes_end (place_of c.args.tokens.now) c.args.self.now.bounds (nested (place_of c.args.tokens.now) c.args.self.now.bounds.most c.args.self.now.bounds.room) (text_of c.args.tokens.now) _ c.args.self.now.bounds.most c.loop-turn._turn c.loop-turn.found c.loop-turn.at c.loop-turn.invariant (sym c.sees.ensures ∙ c.if-not-sees.true)

pub returns-then-sees : goal.returns-then-sees
returns-then-sees g c = gives_same _ _ _ (sizes_close (place_of c.args.tokens.now) c.args.self.now.bounds (nested (place_of c.args.tokens.now) c.args.self.now.bounds.most c.args.self.now.bounds.room) (text_of c.args.tokens.now) _ c.args.self.now.bounds.most c.loop-turn._turn c.loop-turn.found c.loop-turn.at c.loop-turn.invariant c.loop-turn-test.true (sym c.sees.ensures ∙ c.if-not-sees.false) c.in_ok-at.at c.in_ok-at.ensures.1 (sym c.sees-in-loop-turn.ensures ∙ c.if-sees.true)) c.without_size.ensures

pub returns-in_err-found : goal.returns-in_err-found
returns-in_err-found g c =
    let h = sizes_fail (place_of c.args.tokens.now) c.args.self.now.bounds (nested (place_of c.args.tokens.now) c.args.self.now.bounds.most c.args.self.now.bounds.room) (text_of c.args.tokens.now) _ c.args.self.now.bounds.most c.loop-turn._turn c.loop-turn.found c.loop-turn.at c.loop-turn.invariant c.loop-turn-test.true (sym c.sees.ensures ∙ c.if-not-sees.false) c.in_ok-at.at c.in_ok-at.ensures.1 (sym c.sees-in-loop-turn.ensures ∙ c.if-sees.false) _ c.in_err-found.ensures in
    first_of (search rules, grind (arith, common_steps))

pub loop-turn-preserved : goal.loop-turn-preserved
loop-turn-preserved g c = sizes_go (place_of c.args.tokens.now) c.args.self.now.bounds (nested (place_of c.args.tokens.now) c.args.self.now.bounds.most c.args.self.now.bounds.room) (text_of c.args.tokens.now) _ c.args.self.now.bounds.most c.loop-turn._turn c.loop-turn.found c.loop-turn.at c.loop-turn.invariant c.loop-turn-test.true (sym c.sees.ensures ∙ c.if-not-sees.false) c.in_ok-at.at c.in_ok-at.ensures.1 (sym c.sees-in-loop-turn.ensures ∙ c.if-sees.false) _ _ c.in_ok-found.ensures

pub returns-then-sees-2 : goal.returns-then-sees-2
returns-then-sees-2 g c = out_fails _ c.out_of_turns.ensures (sizes_past (place_of c.args.tokens.now) c.args.self.now.bounds (nested (place_of c.args.tokens.now) c.args.self.now.bounds.most c.args.self.now.bounds.room) (text_of c.args.tokens.now) _ c.args.self.now.bounds.most c.loop-turn._turn c.loop-turn.found c.loop-turn.at c.loop-turn.invariant c.loop-turn-test.false (sym c.sees-2.ensures ∙ c.if-sees-2.true))

pub returns : goal.returns
returns g c = sizes_end (place_of c.args.tokens.now) c.args.self.now.bounds (nested (place_of c.args.tokens.now) c.args.self.now.bounds.most c.args.self.now.bounds.room) (text_of c.args.tokens.now) _ c.args.self.now.bounds.most c.loop-turn._turn c.loop-turn.found c.loop-turn.at c.loop-turn.invariant (sym c.sees-2.ensures ∙ c.if-sees-2.false)
