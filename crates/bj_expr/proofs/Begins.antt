-- The first token of an expression, and what stands behind a name at its front.
use Rattle.std.proofs.Common.{◌≡◌, ℕ, zero, suc, ◌⊎◌, inl, inr, true, false, refl, sym, ap, ◌∙◌, subst, List, ◌∷◌}
use Rattle.std.proofs.lemmas.Bool.{both_ways}
use Rattle.bj_base.specs.declared.span.Span.{Span}
use Rattle.bj_expr_tree.specs.declared.expr.ExprTree.{ExprTree}
use Rattle.bj_grammar.specs.declared.terminal.Terminal.{Terminal}
use Rattle.bj_grammar.specs.declared.terminal.Terminal.TheVariants as t
use Rattle.bj_grammar.specs.Terminal.{terminal, same_terminal, among}
use Rattle.bj_grammar.specs.Reader.{Text}
use Rattle.bj_expr.specs.Grammar as g
use Rattle.bj_expr.specs.Grammar.{ops, assigns, negations, step_ops, literal_words, primitives, type_words, Dims, TypeAt, Expression, Conditional, Level, Unary, Plain, Postfix, Selected, Primary, Values, Initializers, Initializer, Args, Exprs}
use Rattle.bj_expr.specs.Reading.{is, begins_plain}
use Rattle.bj_grammar.proofs.Laws.{is_kind}
use Rattle.bj_expr.proofs.Facts.{each, literal_plain, negation_plain, plain_unary, step_unary, or_left, or_right, begins_unary}

word_plain : (x k : Terminal) → x ≡ k → among begins_plain k ≡ true → among begins_plain x ≡ true
word_plain x k e h = ap (among begins_plain) e ∙ h

plain_this : among begins_plain t.This ≡ true
unfolding same_terminal
plain_this = refl

plain_paren : among begins_plain t.LeftParen ≡ true
unfolding same_terminal
plain_paren = refl

plain_word : among begins_plain t.Word ≡ true
unfolding same_terminal
plain_word = refl

plain_super : among begins_plain t.Super ≡ true
unfolding same_terminal
plain_super = refl

plain_new : among begins_plain t.New ≡ true
unfolding same_terminal
plain_new = refl

unary_minus : among begins_unary t.Minus ≡ true
unfolding same_terminal
unary_minus = refl

unary_plus : among begins_unary t.Plus ≡ true
unfolding same_terminal
unary_plus = refl

-- the tokens with which what a variable is given begins
abbrev pub begins_initializer : List Terminal
begins_initializer = t.LeftBrace ∷ begins_unary

-- it goes on at k, and behind a bracket there an expression begins
pub record GoesOn (s : Text) (k : ℕ) : Type 0 where
  pub second : same_terminal (terminal (s k)) t.RightParen ≡ false
  pub bracket : terminal (s k) ≡ t.LeftBracket → among begins_unary (terminal (s (suc k))) ≡ true

-- a terminal of a list that has neither of the two goes on
abbrev Plainly : Terminal → Type 0
Plainly x = (same_terminal x t.RightParen ≡ false) × (same_terminal x t.LeftBracket ≡ false)

op_plainly : (h : ℕ) (x : Terminal) → among (ops h) x ≡ true → Plainly x
unfolding same_terminal
op_plainly zero x e = each Plainly (ops 0) ((refl, refl), ((refl, refl), ((refl, refl), tt))) x e
op_plainly (suc zero) x e = each Plainly (ops 1) ((refl, refl), ((refl, refl), tt)) x e
op_plainly (suc (suc zero)) x e = each Plainly (ops 2) ((refl, refl), ((refl, refl), ((refl, refl), tt))) x e
op_plainly (suc (suc (suc zero))) x e = each Plainly (ops 3) ((refl, refl), ((refl, refl), ((refl, refl), ((refl, refl), tt)))) x e
op_plainly (suc (suc (suc (suc zero)))) x e = each Plainly (ops 4) ((refl, refl), ((refl, refl), tt)) x e
op_plainly (suc (suc (suc (suc (suc zero))))) x e = each Plainly (ops 5) ((refl, refl), tt) x e
op_plainly (suc (suc (suc (suc (suc (suc zero)))))) x e = each Plainly (ops 6) ((refl, refl), tt) x e
op_plainly (suc (suc (suc (suc (suc (suc (suc zero))))))) x e = each Plainly (ops 7) ((refl, refl), tt) x e
op_plainly (suc (suc (suc (suc (suc (suc (suc (suc zero)))))))) x e = each Plainly (ops 8) ((refl, refl), tt) x e
op_plainly (suc (suc (suc (suc (suc (suc (suc (suc (suc zero))))))))) x e = each Plainly (ops 9) ((refl, refl), tt) x e
op_plainly (suc (suc (suc (suc (suc (suc (suc (suc (suc (suc h)))))))))) x e = absurd (cc)

step_plainly : (x : Terminal) → among step_ops x ≡ true → Plainly x
unfolding same_terminal
step_plainly = each Plainly step_ops ((refl, refl), ((refl, refl), tt))

assign_plainly : (x : Terminal) → among assigns x ≡ true → Plainly x
unfolding same_terminal
assign_plainly = each Plainly assigns ((refl, refl), ((refl, refl), ((refl, refl), ((refl, refl), ((refl, refl), ((refl, refl), ((refl, refl), ((refl, refl), ((refl, refl), ((refl, refl), ((refl, refl), ((refl, refl), tt))))))))))))

word_plainly : (x k : Terminal) → x ≡ k → Plainly k → Plainly x
word_plainly x k e h = subst Plainly (sym e) h

not_both : (x k : Terminal) → same_terminal x k ≡ false → x ≡ k → ⊥
not_both x k none e = both_ways (same_terminal x k) none (is_kind x k e)

goes : (s : Text) (k : ℕ) → Plainly (terminal (s k)) → GoesOn s k
goes s k h = record { second = h.0; bracket = λ e. absurd (not_both _ _ h.1 e) }

question_plainly : Plainly t.Question
unfolding same_terminal
question_plainly = (refl, refl)

instance_plainly : Plainly t.InstanceOf
unfolding same_terminal
instance_plainly = (refl, refl)

dot_plainly : Plainly t.Dot
unfolding same_terminal
dot_plainly = (refl, refl)

paren_plainly : Plainly t.LeftParen
unfolding same_terminal
paren_plainly = (refl, refl)

bracket_second : same_terminal t.LeftBracket t.RightParen ≡ false
unfolding same_terminal
bracket_second = refl

-- a name at the front is all, or it goes on behind it
abbrev pub Front : Text → ℕ → ℕ → Type 0
Front s i j = terminal (s i) ≡ t.Word → (j ≡ suc i) ⊎ GoesOn s (suc i)

-- it went on before, or it is all and goes on now
further : (s : Text) (i m : ℕ) → (m ≡ suc i) ⊎ GoesOn s (suc i) → GoesOn s m → GoesOn s (suc i)
further s i m (inl e) h = subst (λ (k : ℕ). GoesOn s k) e h
further s i m (inr g) h = g

clash : (s : Text) (i : ℕ) (k : Terminal) → terminal (s i) ≡ t.Word → terminal (s i) ≡ k → same_terminal t.Word k ≡ false → ⊥
clash s i k w e none = not_both t.Word k none (sym w ∙ e)

clash_in : (s : Text) (i : ℕ) (ks : List Terminal) → terminal (s i) ≡ t.Word → among ks (terminal (s i)) ≡ true → among ks t.Word ≡ false → ⊥
clash_in s i ks w e none = both_ways (among ks t.Word) none (sym (ap (among ks) w) ∙ e)

word_not : (same_terminal t.Word t.Minus ≡ false) × (same_terminal t.Word t.LeftParen ≡ false) × (same_terminal t.Word t.This ≡ false) × (same_terminal t.Word t.Super ≡ false) × (same_terminal t.Word t.New ≡ false)
    × (among step_ops t.Word ≡ false) × (among negations t.Word ≡ false) × (among literal_words t.Word ≡ false) × (same_terminal t.Word t.Plus ≡ false)
unfolding same_terminal
word_not = (refl, refl, refl, refl, refl, refl, refl, refl, refl)

module _ (place : ℕ → Span) where
  pub primary_begins : (s : Text) {a : ExprTree} {i j : ℕ} → Primary place s a i j → among begins_plain (terminal (s i)) ≡ true
  primary_begins s (g.literal o is at) = literal_plain _ o
  primary_begins s (g.this o is at) = word_plain _ _ o plain_this
  primary_begins s (g.paren o d o2 is at) = word_plain _ _ o plain_paren
  primary_begins s (g.name o is at) = word_plain _ _ o plain_word
  primary_begins s (g.call o o2 d o3 is at) = word_plain _ _ o plain_word
  primary_begins s (g.super_field o o2 o3 is at) = word_plain _ _ o plain_super
  primary_begins s (g.super_call o o2 o3 o4 d o5 is at) = word_plain _ _ o plain_super
  primary_begins s (g.create o o2 o3 d o4 is at) = word_plain _ _ o plain_new
  primary_begins s (g.new_array o o2 d d2 is) = word_plain _ _ o plain_new
  primary_begins s (g.new_values o o2 d d2 is) = word_plain _ _ o plain_new

  pub selected_begins : (s : Text) {a : ExprTree} {i j : ℕ} → Selected place s a i j → among begins_plain (terminal (s i)) ≡ true
  selected_begins s (g.primary d) = primary_begins s d
  selected_begins s (g.field d o o2 is at) = selected_begins s d
  selected_begins s (g.method_call d o o2 o3 x o4 is at) = selected_begins s d
  selected_begins s (g.index d o o2 x o3 is at) = selected_begins s d

  pub postfix_begins : (s : Text) {a : ExprTree} {i j : ℕ} → Postfix place s a i j → among begins_plain (terminal (s i)) ≡ true
  postfix_begins s (g.selected d) = selected_begins s d
  postfix_begins s (g.step d o is at) = postfix_begins s d

  pub plain_begins : (s : Text) {a : ExprTree} {i j : ℕ} → Plain place s a i j → among begins_plain (terminal (s i)) ≡ true
  plain_begins s (g.negation o d is) = negation_plain _ o
  plain_begins s (g.cast_primitive o d o2 o3 x is) = word_plain _ _ o plain_paren
  plain_begins s (g.cast_reference o d o2 o3 x is) = word_plain _ _ o plain_paren
  plain_begins s (g.postfix d) = postfix_begins s d

  pub unary_begins : (s : Text) {a : ExprTree} {i j : ℕ} → Unary place s a i j → among begins_unary (terminal (s i)) ≡ true
  unary_begins s (g.minus o d is) = ap (among begins_unary) o ∙ unary_minus
  unary_begins s (g.least o o2 is at) = ap (among begins_unary) o ∙ unary_minus
  unary_begins s (g.plus o d is) = ap (among begins_unary) o ∙ unary_plus
  unary_begins s (g.prefix o d is) = step_unary _ o
  unary_begins s (g.plain d) = plain_unary _ (plain_begins s d)

  pub level_begins : (s : Text) {h : ℕ} {a : ExprTree} {i j : ℕ} → Level place s h a i j → among begins_unary (terminal (s i)) ≡ true
  level_begins s (g.unary d) = unary_begins s d
  level_begins s (g.tighter d) = level_begins s d
  level_begins s (g.binary l o r is) = level_begins s l
  level_begins s (g.instance l o o2 ty is) = level_begins s l

  pub conditional_begins : (s : Text) {a : ExprTree} {i j : ℕ} → Conditional place s a i j → among begins_unary (terminal (s i)) ≡ true
  conditional_begins s (g.ranked d) = level_begins s d
  conditional_begins s (g.conditional d o x o2 y is) = level_begins s d

  pub expression_begins : (s : Text) {a : ExprTree} {i j : ℕ} → Expression place s a i j → among begins_unary (terminal (s i)) ≡ true
  expression_begins s (g.value d) = conditional_begins s d
  expression_begins s (g.assign d o x is) = unary_begins s d

  pub exprs_begins : (s : Text) {a : List ExprTree} {i j : ℕ} → Exprs place s a i j → among begins_unary (terminal (s i)) ≡ true
  exprs_begins s (g.one d is) = expression_begins s d
  exprs_begins s (g.comma d o x is) = exprs_begins s d

  pub values_begin : (s : Text) {a : List ExprTree} {i j : ℕ} → Values place s a i j → terminal (s i) ≡ t.LeftBrace
  values_begin s (g.no_values o o2 is at) = o
  values_begin s (g.only_comma o o2 o3 is at) = o
  values_begin s (g.values o d o2 at) = o
  values_begin s (g.values_comma o d o2 o3 at) = o

  pub initializer_begins : (s : Text) {a : ExprTree} {i j : ℕ} → Initializer place s a i j → among begins_initializer (terminal (s i)) ≡ true
  initializer_begins s (g.expression d) = or_right _ _ (expression_begins s d)
  initializer_begins s (g.braces d is) = or_left _ _ (is_kind _ _ (values_begin s d))

  -- ---- a name at the front

  pub primary_front : (s : Text) {a : ExprTree} {i j : ℕ} → Primary place s a i j → Front s i j
  primary_front s (g.literal o is at) w = absurd (clash_in s _ literal_words w o word_not.7)
  primary_front s (g.this o is at) w = absurd (clash s _ t.This w o word_not.2)
  primary_front s (g.paren o d o2 is at) w = absurd (clash s _ t.LeftParen w o word_not.1)
  primary_front s (g.name o is at) w = inl at
  primary_front s (g.call o o2 d o3 is at) w = inr (goes s _ (word_plainly _ _ o2 paren_plainly))
  primary_front s (g.super_field o o2 o3 is at) w = absurd (clash s _ t.Super w o word_not.3)
  primary_front s (g.super_call o o2 o3 o4 d o5 is at) w = absurd (clash s _ t.Super w o word_not.3)
  primary_front s (g.create o o2 o3 d o4 is at) w = absurd (clash s _ t.New w o word_not.4)
  primary_front s (g.new_array o o2 d d2 is) w = absurd (clash s _ t.New w o word_not.4)
  primary_front s (g.new_values o o2 d d2 is) w = absurd (clash s _ t.New w o word_not.4)

  pub selected_front : (s : Text) {a : ExprTree} {i j : ℕ} → Selected place s a i j → Front s i j
  selected_front s (g.primary d) w = primary_front s d w
  selected_front s (g.field {m} d o o2 is at) w = inr (further s _ m (selected_front s d w) (goes s m (word_plainly _ _ o dot_plainly)))
  selected_front s (g.method_call {m} d o o2 o3 x o4 is at) w = inr (further s _ m (selected_front s d w) (goes s m (word_plainly _ _ o dot_plainly)))
  selected_front s (g.index {m} d none o x o2 is at) w =
      inr (further s _ m (selected_front s d w) (record { second = ap (λ (z : Terminal). same_terminal z t.RightParen) o ∙ bracket_second; bracket = λ _. expression_begins s x }))

  pub postfix_front : (s : Text) {a : ExprTree} {i j : ℕ} → Postfix place s a i j → Front s i j
  postfix_front s (g.selected d) w = selected_front s d w
  postfix_front s (g.step {m} d o is at) w = inr (further s _ m (postfix_front s d w) (goes s m (step_plainly _ o)))

  pub plain_front : (s : Text) {a : ExprTree} {i j : ℕ} → Plain place s a i j → Front s i j
  plain_front s (g.negation o d is) w = absurd (clash_in s _ negations w o word_not.6)
  plain_front s (g.cast_primitive o d o2 o3 x is) w = absurd (clash s _ t.LeftParen w o word_not.1)
  plain_front s (g.cast_reference o d o2 o3 x is) w = absurd (clash s _ t.LeftParen w o word_not.1)
  plain_front s (g.postfix d) w = postfix_front s d w

  pub unary_front : (s : Text) {a : ExprTree} {i j : ℕ} → Unary place s a i j → Front s i j
  unary_front s (g.minus o d is) w = absurd (clash s _ t.Minus w o word_not.0)
  unary_front s (g.least o o2 is at) w = absurd (clash s _ t.Minus w o word_not.0)
  unary_front s (g.plus o d is) w = absurd (clash s _ t.Plus w o word_not.8)
  unary_front s (g.prefix o d is) w = absurd (clash_in s _ step_ops w o word_not.5)
  unary_front s (g.plain d) w = plain_front s d w

  pub level_front : (s : Text) {h : ℕ} {a : ExprTree} {i j : ℕ} → Level place s h a i j → Front s i j
  level_front s (g.unary d) w = unary_front s d w
  level_front s (g.tighter d) w = level_front s d w
  level_front s (g.binary {h} {m} l o r is) w = inr (further s _ m (level_front s l w) (goes s m (op_plainly h _ o)))
  level_front s (g.instance {m} l o o2 ty is) w = inr (further s _ m (level_front s l w) (goes s m (word_plainly _ _ o2 instance_plainly)))

  pub conditional_front : (s : Text) {a : ExprTree} {i j : ℕ} → Conditional place s a i j → Front s i j
  conditional_front s (g.ranked d) w = level_front s d w
  conditional_front s (g.conditional {m} d o x o2 y is) w = inr (further s _ m (level_front s d w) (goes s m (word_plainly _ _ o question_plainly)))

  pub expression_front : (s : Text) {a : ExprTree} {i j : ℕ} → Expression place s a i j → Front s i j
  expression_front s (g.value d) w = conditional_front s d w
  expression_front s (g.assign {m} d o x is) w = inr (further s _ m (unary_front s d w) (goes s m (assign_plainly _ o)))
