-- Terminals in lists.
use Rattle.std.proofs.Common.{◌≡◌, ℕ, zero, suc, ◌<◌, ◌≤◌, ◌⊎◌, inl, inr, Bool, true, false, refl, sym, ap, ◌∙◌, subst, arith, List, [], ◌∷◌}
use Rattle.std.specs.Prelude.{◌||◌}
use Rattle.std.proofs.lemmas.Bool.{cases_Bool, both_ways}
use Rattle.bj_grammar.specs.declared.terminal.Terminal.{Terminal}
use Rattle.bj_grammar.specs.declared.terminal.Terminal.TheVariants as t
use Rattle.bj_grammar.specs.Terminal.{same_terminal, among}
use Rattle.bj_expr.specs.Grammar.{ops, ranks, assigns, negations, step_ops, literal_words}
use Rattle.bj_expr.specs.Reading.{begins_plain, selectors, goes_on}
use Rattle.bj_grammar.proofs.Terminals.{is_token}
use Rattle.bj_grammar.proofs.Laws.{kind_is}

pub or_cases : (a b : Bool) → (a || b) ≡ true → (a ≡ true) ⊎ (b ≡ true)
or_cases true b e = inl refl
or_cases false b e = inr e

pub or_split : (a b : Bool) → (a || b) ≡ false → (a ≡ false) × (b ≡ false)
or_split true b e = absurd (cc)
or_split false b e = (refl, e)

pub or_join : (a b : Bool) → a ≡ false → b ≡ false → (a || b) ≡ false
or_join a b e f = ap (λ (x : Bool). x || b) e ∙ f

pub or_left : (a b : Bool) → a ≡ true → (a || b) ≡ true
or_left a b e = ap (λ (x : Bool). x || b) e

pub or_right : (a b : Bool) → b ≡ true → (a || b) ≡ true
or_right true b e = refl
or_right false b e = e

-- ---- lists

abbrev pub Each : (Terminal → Type 0) → List Terminal → Type 0
Each P [] = Unit {0}
Each P (k ∷ ks) = P k × Each P ks

pub each : (P : Terminal → Type 0) (ks : List Terminal) → Each P ks → (x : Terminal) → among ks x ≡ true → P x
each P [] h x e = absurd (cc)
each P (k ∷ ks) h x e = elim (or_cases (same_terminal x k) (among ks x) e) [ inl y ↦ subst P (sym (kind_is x k y)) h.0 | inr y ↦ each P ks h.1 x y ]

-- a terminal of which a test says otherwise
pub other : (f : Terminal → Bool) (x k : Terminal) → f k ≡ false → f x ≡ true → same_terminal x k ≡ false
other f x k none some = of (cases_Bool (same_terminal x k))
  where
    of : (same_terminal x k ≡ true) ⊎ (same_terminal x k ≡ false) → same_terminal x k ≡ false
    of (inl e) = absurd (both_ways (f k) none (sym (ap f (kind_is x k e)) ∙ some))
    of (inr e) = e

pub other_way : (f : Terminal → Bool) (x k : Terminal) → f k ≡ true → f x ≡ false → same_terminal x k ≡ false
other_way f x k some none = of (cases_Bool (same_terminal x k))
  where
    of : (same_terminal x k ≡ true) ⊎ (same_terminal x k ≡ false) → same_terminal x k ≡ false
    of (inl e) = absurd (both_ways (f x) none (ap f (kind_is x k e) ∙ some))
    of (inr e) = e

-- ---- what may stand behind

abbrev pub stops_level : ℕ → Terminal → Bool
stops_level zero x = among step_ops x || (among selectors x || among begins_plain x)
stops_level (suc h) x = goes_on h x || stops_level h x

abbrev pub stops_conditional : Terminal → Bool
stops_conditional x = same_terminal x t.Question || stops_level ranks x

abbrev pub stops_expression : Terminal → Bool
stops_expression x = among assigns x || stops_conditional x

abbrev pub begins_unary : List Terminal
begins_unary = t.Minus ∷ t.Plus ∷ t.Increment ∷ t.Decrement ∷ begins_plain

-- the tokens that end an expression in the grammar
abbrev pub closers : List Terminal
closers = t.RightParen ∷ t.RightBracket ∷ t.RightBrace ∷ t.Comma ∷ t.Colon ∷ t.Semicolon ∷ t.Other ∷ []

pub closes : (x : Terminal) → among closers x ≡ true → stops_expression x ≡ false
unfolding same_terminal
closes = each (λ x. stops_expression x ≡ false) closers (refl, (refl, (refl, (refl, (refl, (refl, (refl, tt)))))))

pub conditional_closes : (x : Terminal) → among closers x ≡ true → stops_conditional x ≡ false
unfolding same_terminal
conditional_closes = each (λ x. stops_conditional x ≡ false) closers (refl, (refl, (refl, (refl, (refl, (refl, (refl, tt)))))))

pub unary_closes : (x : Terminal) → among closers x ≡ true → stops_level 0 x ≡ false
unfolding same_terminal
unary_closes = each (λ x. stops_level 0 x ≡ false) closers (refl, (refl, (refl, (refl, (refl, (refl, (refl, tt)))))))

-- no operator begins with a token that ends an expression
goes_closes : (h : ℕ) (x : Terminal) → among closers x ≡ true → goes_on h x ≡ false
unfolding same_terminal
goes_closes zero x e = each (λ x. goes_on 0 x ≡ false) closers (refl, (refl, (refl, (refl, (refl, (refl, (refl, tt))))))) x e
goes_closes (suc zero) x e = each (λ x. goes_on 1 x ≡ false) closers (refl, (refl, (refl, (refl, (refl, (refl, (refl, tt))))))) x e
goes_closes (suc (suc zero)) x e = each (λ x. goes_on 2 x ≡ false) closers (refl, (refl, (refl, (refl, (refl, (refl, (refl, tt))))))) x e
goes_closes (suc (suc (suc zero))) x e = each (λ x. goes_on 3 x ≡ false) closers (refl, (refl, (refl, (refl, (refl, (refl, (refl, tt))))))) x e
goes_closes (suc (suc (suc (suc zero)))) x e = each (λ x. goes_on 4 x ≡ false) closers (refl, (refl, (refl, (refl, (refl, (refl, (refl, tt))))))) x e
goes_closes (suc (suc (suc (suc (suc zero))))) x e = each (λ x. goes_on 5 x ≡ false) closers (refl, (refl, (refl, (refl, (refl, (refl, (refl, tt))))))) x e
goes_closes (suc (suc (suc (suc (suc (suc zero)))))) x e = each (λ x. goes_on 6 x ≡ false) closers (refl, (refl, (refl, (refl, (refl, (refl, (refl, tt))))))) x e
goes_closes (suc (suc (suc (suc (suc (suc (suc zero))))))) x e = each (λ x. goes_on 7 x ≡ false) closers (refl, (refl, (refl, (refl, (refl, (refl, (refl, tt))))))) x e
goes_closes (suc (suc (suc (suc (suc (suc (suc (suc zero)))))))) x e = each (λ x. goes_on 8 x ≡ false) closers (refl, (refl, (refl, (refl, (refl, (refl, (refl, tt))))))) x e
goes_closes (suc (suc (suc (suc (suc (suc (suc (suc (suc zero))))))))) x e = each (λ x. goes_on 9 x ≡ false) closers (refl, (refl, (refl, (refl, (refl, (refl, (refl, tt))))))) x e
goes_closes (suc (suc (suc (suc (suc (suc (suc (suc (suc (suc h)))))))))) x e = refl

pub level_closes : (h : ℕ) (x : Terminal) → among closers x ≡ true → stops_level h x ≡ false
level_closes zero x e = unary_closes x e
level_closes (suc h) x e = or_join (goes_on h x) (stops_level h x) (goes_closes h x e) (level_closes h x e)

-- there are no operators of the ranks above the last
pub goes_no_further : (h : ℕ) → 10 ≤ h → (x : Terminal) → goes_on h x ≡ false
goes_no_further zero le x = absurd (omega arith)
goes_no_further (suc zero) le x = absurd (omega arith)
goes_no_further (suc (suc zero)) le x = absurd (omega arith)
goes_no_further (suc (suc (suc zero))) le x = absurd (omega arith)
goes_no_further (suc (suc (suc (suc zero)))) le x = absurd (omega arith)
goes_no_further (suc (suc (suc (suc (suc zero))))) le x = absurd (omega arith)
goes_no_further (suc (suc (suc (suc (suc (suc zero)))))) le x = absurd (omega arith)
goes_no_further (suc (suc (suc (suc (suc (suc (suc zero))))))) le x = absurd (omega arith)
goes_no_further (suc (suc (suc (suc (suc (suc (suc (suc zero)))))))) le x = absurd (omega arith)
goes_no_further (suc (suc (suc (suc (suc (suc (suc (suc (suc zero))))))))) le x = absurd (omega arith)
goes_no_further (suc (suc (suc (suc (suc (suc (suc (suc (suc (suc h)))))))))) le x = refl

pub question_after : stops_level ranks t.Question ≡ false
unfolding same_terminal
question_after = refl

pub assign_after : (x : Terminal) → among assigns x ≡ true → stops_conditional x ≡ false
unfolding same_terminal
assign_after = each (λ x. stops_conditional x ≡ false) assigns (refl, (refl, (refl, (refl, (refl, (refl, (refl, (refl, (refl, (refl, (refl, (refl, tt))))))))))))

pub assign_after_unary : (x : Terminal) → among assigns x ≡ true → stops_level zero x ≡ false
unfolding same_terminal
assign_after_unary = each (λ x. stops_level zero x ≡ false) assigns (refl, (refl, (refl, (refl, (refl, (refl, (refl, (refl, (refl, (refl, (refl, (refl, tt))))))))))))

-- what begins an operator may stand behind its left operand
pub op_after : (h : ℕ) (x : Terminal) → goes_on h x ≡ true → stops_level h x ≡ false
unfolding same_terminal
op_after zero x e = each (λ x. stops_level 0 x ≡ false) (ops 0) (refl, (refl, (refl, tt))) x e
op_after (suc zero) x e = each (λ x. stops_level 1 x ≡ false) (ops 1) (refl, (refl, tt)) x e
op_after (suc (suc zero)) x e = each (λ x. stops_level 2 x ≡ false) (ops 2) (refl, (refl, (refl, tt))) x e
op_after (suc (suc (suc zero))) x e = each (λ x. stops_level 3 x ≡ false) (t.InstanceOf ∷ ops 3) (refl, (refl, (refl, (refl, (refl, tt))))) x e
op_after (suc (suc (suc (suc zero)))) x e = each (λ x. stops_level 4 x ≡ false) (ops 4) (refl, (refl, tt)) x e
op_after (suc (suc (suc (suc (suc zero))))) x e = each (λ x. stops_level 5 x ≡ false) (ops 5) (refl, tt) x e
op_after (suc (suc (suc (suc (suc (suc zero)))))) x e = each (λ x. stops_level 6 x ≡ false) (ops 6) (refl, tt) x e
op_after (suc (suc (suc (suc (suc (suc (suc zero))))))) x e = each (λ x. stops_level 7 x ≡ false) (ops 7) (refl, tt) x e
op_after (suc (suc (suc (suc (suc (suc (suc (suc zero)))))))) x e = each (λ x. stops_level 8 x ≡ false) (ops 8) (refl, tt) x e
op_after (suc (suc (suc (suc (suc (suc (suc (suc (suc zero))))))))) x e = each (λ x. stops_level 9 x ≡ false) (ops 9) (refl, tt) x e
op_after (suc (suc (suc (suc (suc (suc (suc (suc (suc (suc h)))))))))) x e = absurd (cc)

-- one operator of each rank
abbrev pub op_of : ℕ → Terminal
op_of zero = t.Times
op_of (suc zero) = t.Plus
op_of (suc (suc zero)) = t.ShiftLeft
op_of (suc (suc (suc zero))) = t.Less
op_of (suc (suc (suc (suc zero)))) = t.Equal
op_of (suc (suc (suc (suc (suc zero))))) = t.And
op_of (suc (suc (suc (suc (suc (suc zero)))))) = t.Caret
op_of (suc (suc (suc (suc (suc (suc (suc zero))))))) = t.Or
op_of (suc (suc (suc (suc (suc (suc (suc (suc zero)))))))) = t.Both
op_of (suc (suc (suc (suc (suc (suc (suc (suc (suc n))))))))) = t.Either

pub op_is : (h : ℕ) → h < 10 → (among (ops h) (op_of h) ≡ true) × (is_token (op_of h) ≡ true)
unfolding same_terminal
op_is zero lt = (refl, refl)
op_is (suc zero) lt = (refl, refl)
op_is (suc (suc zero)) lt = (refl, refl)
op_is (suc (suc (suc zero))) lt = (refl, refl)
op_is (suc (suc (suc (suc zero)))) lt = (refl, refl)
op_is (suc (suc (suc (suc (suc zero))))) lt = (refl, refl)
op_is (suc (suc (suc (suc (suc (suc zero)))))) lt = (refl, refl)
op_is (suc (suc (suc (suc (suc (suc (suc zero))))))) lt = (refl, refl)
op_is (suc (suc (suc (suc (suc (suc (suc (suc zero)))))))) lt = (refl, refl)
op_is (suc (suc (suc (suc (suc (suc (suc (suc (suc zero))))))))) lt = (refl, refl)
op_is (suc (suc (suc (suc (suc (suc (suc (suc (suc (suc h)))))))))) lt = absurd (omega arith)

-- a list's terminals are tokens, since what is none is not in it
pub tokens_of : (ks : List Terminal) → among ks t.Other ≡ false → (x : Terminal) → among ks x ≡ true → is_token x ≡ true
tokens_of ks none t.Other e = absurd (both_ways (among ks t.Other) none e)
tokens_of ks none _ e = refl

pub step_after : (x : Terminal) → among step_ops x ≡ true → (among selectors x || among begins_plain x) ≡ false
unfolding same_terminal
step_after = each (λ x. (among selectors x || among begins_plain x) ≡ false) step_ops (refl, (refl, tt))

pub literal_plain : (x : Terminal) → among literal_words x ≡ true → among begins_plain x ≡ true
unfolding same_terminal
literal_plain = each (λ x. among begins_plain x ≡ true) literal_words (refl, (refl, (refl, (refl, (refl, (refl, (refl, tt)))))))

pub negation_plain : (x : Terminal) → among negations x ≡ true → among begins_plain x ≡ true
unfolding same_terminal
negation_plain = each (λ x. among begins_plain x ≡ true) negations (refl, (refl, tt))

pub plain_unary : (x : Terminal) → among begins_plain x ≡ true → among begins_unary x ≡ true
plain_unary x e =
    or_right (same_terminal x t.Minus) (among (t.Plus ∷ t.Increment ∷ t.Decrement ∷ begins_plain) x)
    (or_right (same_terminal x t.Plus) (among (t.Increment ∷ t.Decrement ∷ begins_plain) x)
    (or_right (same_terminal x t.Increment) (among (t.Decrement ∷ begins_plain) x) (or_right (same_terminal x t.Decrement) (among begins_plain x) e)))

pub step_unary : (x : Terminal) → among step_ops x ≡ true → among begins_unary x ≡ true
unfolding same_terminal
step_unary = each (λ x. among begins_unary x ≡ true) step_ops (refl, (refl, tt))
