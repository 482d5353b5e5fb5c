use Rattle.std.proofs.Common.{◌≡◌, ℤ, ◌+◌, ◌-◌, rules, Option, Some, IfOk, sym, ap, ◌∙◌, subst, arith}
use Rattle.std.proofs.lemmas.Int.{to_z-of_z}
use mir.Val.{SFits}
use mir.Syntax.{w32}
use Rattle.bj_core.specs.declared.tree.Expr.TheVariants as e
use Rattle.bj_core.specs.declared.types.Const.TheVariants as const
use Rattle.bj_sum.specs.declared.sum.Found.{Found}
use Rattle.bj_sum.specs.declared.token.Token.{Token}
use Rattle.bj_sum.specs.Reading.{text_of, operations_of}
use Rattle.bj_sum.proofs.Turns.{level_zero, level_none, level_some, stops, overs, right_none, too_high, joined, unary_literal, minus_zero, minus_none, minus_some, open_zero, open_none, open_some, unary_other, unary_at_end}
use Rattle.bj_sum.proofs.sum.+level.Goals as goal

pub level-returns-then-rank-eq0 : goal.level-returns-then-rank-eq0
level-returns-then-rank-eq0 t c =
    subst (λ (x : Option Found). IfOk c.unary.result (λ found. found ≡ x)) (sym (level_zero (text_of c.args.tokens.now) c.args.limit c.args.rank c.args.at c.if-rank-eq0.true)) c.unary.ensures

pub level-returns-in_default : goal.level-returns-in_default
level-returns-in_default t c = sym (level_none (text_of c.args.tokens.now) c.args.limit c.args.rank c.args.at (omega arith) (sym c.in_ok-left.ensures ∙ c.in_default.is))

pub level-returns : goal.level-returns
level-returns t c =
    subst (λ (x : Option Found). IfOk c.operations.result (λ found. found ≡ x))
    (ap (λ (k : Token). operations_of (text_of c.args.tokens.now) c.args.limit (c.args.rank - 1) k.column c.args.limit c.in-Some.left) c.peek.ensures
    ∙ sym (level_some (text_of c.args.tokens.now) c.args.limit c.args.rank c.args.at c.in-Some.left (omega arith) (sym c.in_ok-left.ensures ∙ c.in-Some.is)))
    c.operations.ensures

pub operations-returns-in_default : goal.operations-returns-in_default
operations-returns-in_default t c =
    sym (stops (text_of c.args.tokens.now) c.args.limit c.args.rank c.args.column _ c.loop-turn._turn c.loop-turn.left c.loop-turn.invariant (sym c.in_default.ensures.value))

pub operations-returns-in_default-2 : goal.operations-returns-in_default-2
operations-returns-in_default-2 t c =
    sym (right_none (text_of c.args.tokens.now) c.args.limit c.args.rank c.args.column _ c.loop-turn._turn c.loop-turn.left c.loop-turn.invariant c.in-Some.op c.loop-turn-test.true
    (sym c.in-Some.ensures.value) (sym c.in_ok-right.ensures ∙ c.in_default-2.is))

pub operations-returns-in_default-raised : goal.operations-returns-in_default-raised
operations-returns-in_default-raised t c =
    sym (too_high (text_of c.args.tokens.now) c.args.limit c.args.rank c.args.column _ c.loop-turn._turn c.loop-turn.left c.loop-turn.invariant c.in-Some.op c.in-Some-2.right
    c.in_ok-tree.tree c.larger-below.result c.loop-turn-test.true (sym c.in-Some.ensures.value) (sym c.in_ok-right.ensures ∙ c.in-Some-2.is) c.in_ok-tree.ensures c.larger-below.ensures
    (sym c.in_default-raised.ensures))

pub operations-loop-turn-preserved : goal.operations-loop-turn-preserved
operations-loop-turn-preserved t c =
    joined (text_of c.args.tokens.now) c.args.limit c.args.rank c.args.column _ c.loop-turn._turn c.loop-turn.left c.loop-turn.invariant c.in-Some.op c.in-Some-2.right
    c.in_ok-tree.tree c.larger-below.result c.in-Some-raised.joined c.loop-turn-test.true (sym c.in-Some.ensures.value) (sym c.in_ok-right.ensures ∙ c.in-Some-2.is) c.in_ok-tree.ensures
    c.larger-below.ensures (sym c.in-Some-raised.ensures)

pub operations-returns-in-Some-operator_at : goal.operations-returns-in-Some-operator_at
operations-returns-in-Some-operator_at t c =
    sym (overs (text_of c.args.tokens.now) c.args.limit c.args.rank c.args.column _ c.loop-turn._turn c.loop-turn.left c.loop-turn.invariant c.in-Some-operator_at.field-0
    c.loop-turn-test.false (sym c.in-Some-operator_at.ensures.value))

pub operations-returns-in-None : goal.operations-returns-in-None
operations-returns-in-None t c =
    sym (stops (text_of c.args.tokens.now) c.args.limit c.args.rank c.args.column _ c.loop-turn._turn c.loop-turn.left c.loop-turn.invariant (sym c.in-None.ensures.value))

pub unary-returns-then-at-tokens : goal.unary-returns-then-at-tokens
unary-returns-then-at-tokens t c = sym (unary_at_end c.args.tokens.now c.args.limit c.args.at c.if-at-tokens.true)

pub unary-returns-then-limit-eq0 : goal.unary-returns-then-limit-eq0
unary-returns-then-limit-eq0 t c = sym (minus_zero (text_of c.args.tokens.now) c.args.limit c.args.at c.peek-token.result c.peek-token.ensures c.in-Minus.is c.if-limit-eq0.true)

pub unary-returns-in_default-2 : goal.unary-returns-in_default-2
unary-returns-in_default-2 t c =
    sym (minus_none (text_of c.args.tokens.now) c.args.limit c.args.at c.peek-token.result c.peek-token.ensures c.in-Minus.is (omega arith) (sym c.in_ok-operand-in-Minus.ensures ∙ c.in_default-2.is))

pub unary-returns-then-limit-eq0-2 : goal.unary-returns-then-limit-eq0-2
unary-returns-then-limit-eq0-2 t c = sym (open_zero (text_of c.args.tokens.now) c.args.limit c.args.at c.peek-token.result c.peek-token.ensures c.in-Open.is c.if-limit-eq0-2.true)

pub unary-returns-in_default-3 : goal.unary-returns-in_default-3
unary-returns-in_default-3 t c =
    sym (open_none (text_of c.args.tokens.now) c.args.limit c.args.at c.peek-token.result c.peek-token.ensures c.in-Open.is (omega arith) (sym c.in_ok-inner-in-Open.ensures ∙ c.in_default-3.is))

pub unary-returns-in-Literal : goal.unary-returns-in-Literal
unary-returns-in-Literal t c =
    let fits : SFits w32 c.in-Literal.value = search rules in
    ap (λ (v : ℤ). Some (record { tree = e.Const c.span.result (const.Int v); height = 0; after = c.args.at + 1 })) (to_z-of_z w32 c.in-Literal.value fits)
    ∙ unary_literal (text_of c.args.tokens.now) c.args.limit c.args.at c.peek-token.result c.peek-token.ensures c.in-Literal.value c.span.result c.in-Literal.is c.span.ensures

pub unary-returns-in_ok-tree-in-Minus : goal.unary-returns-in_ok-tree-in-Minus
unary-returns-in_ok-tree-in-Minus t c = c.raised.ensures
    ∙ sym (minus_some (text_of c.args.tokens.now) c.args.limit c.args.at c.peek-token.result c.peek-token.ensures c.in-Some.operand c.in_ok-tree-in-Minus.tree c.in-Minus.is (omega arith)
    (sym c.in_ok-operand-in-Minus.ensures ∙ c.in-Some.is) c.in_ok-tree-in-Minus.ensures)

pub unary-returns-in-Some-2 : goal.unary-returns-in-Some-2
unary-returns-in-Some-2 t c = c.closed.ensures
    ∙ sym (open_some (text_of c.args.tokens.now) c.args.limit c.args.at c.peek-token.result c.peek-token.ensures c.in-Some-2.inner c.in-Open.is (omega arith)
    (sym c.in_ok-inner-in-Open.ensures ∙ c.in-Some-2.is))

pub unary-returns-in_default : goal.unary-returns-in_default
unary-returns-in_default t c =
    sym (unary_other (text_of c.args.tokens.now) c.args.limit c.args.at c.peek-token.result c.peek-token.ensures (λ v. c.in_default.not-Literal v) c.in_default.not-Open c.in_default.not-Minus)
