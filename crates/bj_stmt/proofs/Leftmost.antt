-- What stands behind the first token of an expression: no statement of another form begins like one.
use Rattle.std.proofs.Common.{◌≡◌, ℕ, zero, suc, ◌⊎◌, inl, inr, Bool, true, false, refl, sym, ap, ◌∙◌, subst, List, [], ◌∷◌}
use Rattle.std.specs.Prelude.{◌||◌, ◌&&◌}
use Rattle.bj_base.specs.declared.span.Span.{Span}
use Rattle.bj_expr_tree.specs.declared.expr.ExprTree.{ExprTree}
use Rattle.bj_grammar.specs.declared.terminal.Terminal.{Terminal}
use Rattle.bj_grammar.specs.declared.terminal.Terminal.TheVariants as t
use Rattle.bj_grammar.specs.Terminal.{terminal, same_terminal, among}
use Rattle.bj_grammar.specs.Reader.{Text}
use Rattle.bj_grammar.proofs.Laws.{kind_is}
use Rattle.bj_expr.specs.declared.part.Part.TheVariants as part
use Rattle.bj_expr.specs.Grammar as g
use Rattle.bj_expr.specs.Grammar.{ops, assigns, negations, step_ops, literal_words, primitives, TypeAt, Expression, Conditional, Level, Unary, Plain, Postfix, Selected, Primary}
use Rattle.bj_stmt.specs.Reading.{declares, is_labelled, is_class_lock, constructors, is_constructor_call}
use Rattle.bj_stmt.proofs.Expressions.{Given, expression_words}

-- ---- truth values and lists

pub or_cases : (a b : Bool) → (a || b) ≡ true → (a ≡ true) ⊎ (b ≡ true)
or_cases true b e = inl refl
or_cases false b e = inr e

pub or_none : (a b : Bool) → a ≡ false → b ≡ false → (a || b) ≡ false
or_none a b e h = ap (λ (x : Bool). x || b) e ∙ h

pub or_split : (a b : Bool) → (a || b) ≡ false → (a ≡ false) × (b ≡ false)
or_split true b e = absurd (cc)
or_split false b e = (refl, e)

pub and_first : (a b : Bool) → a ≡ false → (a && b) ≡ false
and_first a b e = ap (λ (x : Bool). x && b) e

pub and_second : (a b : Bool) → b ≡ false → (a && b) ≡ false
and_second true b e = e
and_second false b e = refl

abbrev pub Each : (Terminal → Type 0) → List Terminal → Type 0
Each P [] = Unit {0}
Each P (k ∷ ks) = P k × Each P ks

pub each : (P : Terminal → Type 0) (ks : List Terminal) → Each P ks → (x : Terminal) → among ks x ≡ true → P x
each P [] h x e = absurd (cc)
each P (k ∷ ks) h x e = elim (or_cases (same_terminal x k) (among ks x) e) [ inl y ↦ subst P (sym (kind_is x k y)) h.0 | inr y ↦ each P ks h.1 x y ]

-- what is a terminal is no other
pub is_not : (x y k : Terminal) → x ≡ y → same_terminal y k ≡ false → same_terminal x k ≡ false
is_not x y k e h = ap (λ (z : Terminal). same_terminal z k) e ∙ h

pub none_of : (ks : List Terminal) (x y : Terminal) → x ≡ y → among ks y ≡ false → among ks x ≡ false
none_of ks x y e h = ap (among ks) e ∙ h

-- ---- the beginning of an expression is not that of another statement

pub record Next (s : Text) (i : ℕ) : Type 0 where
  pub no_name : (same_terminal (terminal (s i)) t.Word && (same_terminal (terminal (s (suc i))) t.Word || (same_terminal (terminal (s (suc i))) t.LeftBracket && same_terminal (terminal (s (suc (suc i)))) t.RightBracket))) ≡ false
  pub no_label : is_labelled s i ≡ false
  pub no_class : is_class_lock s i ≡ false
  pub no_constructor : is_constructor_call s i ≡ false

abbrev starts : List Terminal
starts = t.Word ∷ t.This ∷ t.Super ∷ []

-- the first token is no name, `this` or `super`
next_other : (s : Text) (i : ℕ) → among starts (terminal (s i)) ≡ false → Next s i
next_other s i e =
    let w = or_split (same_terminal (terminal (s i)) t.Word) _ e in
    record { no_name = and_first _ _ w.0; no_label = and_first _ _ w.0; no_class = and_first _ _ w.0; no_constructor = and_first _ _ w.1 }

-- of a second token: it stands in no other beginning
abbrev pub Second : Terminal → Type 0
Second x = (same_terminal x t.Word ≡ false) × ((same_terminal x t.LeftBracket ≡ false) × ((same_terminal x t.Colon ≡ false) × ((same_terminal x t.LeftParen ≡ false) × (same_terminal x t.Dot ≡ false))))

pub next_second : (s : Text) (i : ℕ) → Second (terminal (s (suc i))) → Next s i
next_second s i h =
    record {
      no_name = and_second (same_terminal (terminal (s i)) t.Word) _ (or_none _ _ h.0 (and_first _ _ h.1.0));
      no_label = and_second (same_terminal (terminal (s i)) t.Word) _ h.1.1.0;
      no_class = and_second (same_terminal (terminal (s i)) t.Word) _ (and_first _ _ h.1.1.1.1);
      no_constructor = and_second (among constructors (terminal (s i))) _ h.1.1.1.0;
    }

op_second : (h : ℕ) (x : Terminal) → among (ops h) x ≡ true → Second x
unfolding same_terminal
op_second zero x e = each Second (ops 0) ((refl, (refl, (refl, (refl, refl)))), ((refl, (refl, (refl, (refl, refl)))), ((refl, (refl, (refl, (refl, refl)))), tt))) x e
op_second (suc zero) x e = each Second (ops 1) ((refl, (refl, (refl, (refl, refl)))), ((refl, (refl, (refl, (refl, refl)))), tt)) x e
op_second (suc (suc zero)) x e = each Second (ops 2) ((refl, (refl, (refl, (refl, refl)))), ((refl, (refl, (refl, (refl, refl)))), ((refl, (refl, (refl, (refl, refl)))), tt))) x e
op_second (suc (suc (suc zero))) x e = each Second (ops 3) ((refl, (refl, (refl, (refl, refl)))), ((refl, (refl, (refl, (refl, refl)))), ((refl, (refl, (refl, (refl, refl)))), ((refl, (refl, (refl, (refl, refl)))), tt)))) x e
op_second (suc (suc (suc (suc zero)))) x e = each Second (ops 4) ((refl, (refl, (refl, (refl, refl)))), ((refl, (refl, (refl, (refl, refl)))), tt)) x e
op_second (suc (suc (suc (suc (suc zero))))) x e = each Second (ops 5) ((refl, (refl, (refl, (refl, refl)))), tt) x e
op_second (suc (suc (suc (suc (suc (suc zero)))))) x e = each Second (ops 6) ((refl, (refl, (refl, (refl, refl)))), tt) x e
op_second (suc (suc (suc (suc (suc (suc (suc zero))))))) x e = each Second (ops 7) ((refl, (refl, (refl, (refl, refl)))), tt) x e
op_second (suc (suc (suc (suc (suc (suc (suc (suc zero)))))))) x e = each Second (ops 8) ((refl, (refl, (refl, (refl, refl)))), tt) x e
op_second (suc (suc (suc (suc (suc (suc (suc (suc (suc zero))))))))) x e = each Second (ops 9) ((refl, (refl, (refl, (refl, refl)))), tt) x e
op_second (suc (suc (suc (suc (suc (suc (suc (suc (suc (suc h)))))))))) x e = absurd (cc)

step_second : (x : Terminal) → among step_ops x ≡ true → Second x
unfolding same_terminal
step_second = each Second step_ops ((refl, (refl, (refl, (refl, refl)))), ((refl, (refl, (refl, (refl, refl)))), tt))

pub assign_second : (x : Terminal) → among assigns x ≡ true → Second x
unfolding same_terminal
assign_second = each Second assigns (
  (refl, (refl, (refl, (refl, refl)))),
  (
    (refl, (refl, (refl, (refl, refl)))),
    (
      (refl, (refl, (refl, (refl, refl)))),
      (
        (refl, (refl, (refl, (refl, refl)))),
        (
          (refl, (refl, (refl, (refl, refl)))),
          (
            (refl, (refl, (refl, (refl, refl)))),
            ((refl, (refl, (refl, (refl, refl)))), ((refl, (refl, (refl, (refl, refl)))), ((refl, (refl, (refl, (refl, refl)))), ((refl, (refl, (refl, (refl, refl)))), ((refl, (refl, (refl, (refl, refl)))), ((refl, (refl, (refl, (refl, refl)))), tt)))))),
          ),
        ),
      ),
    ),
  ),
)

one_second : (Second t.Question) × (Second t.InstanceOf) × (Second t.Semicolon) × (Second t.Comma) × (Second t.RightParen)
unfolding same_terminal
one_second = ((refl, (refl, (refl, (refl, refl)))), (refl, (refl, (refl, (refl, refl)))), (refl, (refl, (refl, (refl, refl)))), (refl, (refl, (refl, (refl, refl)))), (refl, (refl, (refl, (refl, refl)))))

pub semicolon_second : (x : Terminal) → x ≡ t.Semicolon → Second x
semicolon_second x e = subst Second (sym e) one_second.2

pub comma_second : (x : Terminal) → x ≡ t.Comma → Second x
comma_second x e = subst Second (sym e) one_second.3

pub paren_second : (x : Terminal) → x ≡ t.RightParen → Second x
paren_second x e = subst Second (sym e) one_second.4

-- a call of a simple name
next_call : (s : Text) (i : ℕ) → terminal (s i) ≡ t.Word → terminal (s (suc i)) ≡ t.LeftParen → Next s i
unfolding same_terminal
next_call s i w p =
    record {
      no_name = and_second (same_terminal (terminal (s i)) t.Word) _ (or_none _ _ (is_not _ t.LeftParen t.Word p refl) (and_first _ _ (is_not _ t.LeftParen t.LeftBracket p refl)));
      no_label = and_second (same_terminal (terminal (s i)) t.Word) _ (is_not _ t.LeftParen t.Colon p refl);
      no_class = and_second (same_terminal (terminal (s i)) t.Word) _ (and_first _ _ (is_not _ t.LeftParen t.Dot p refl));
      no_constructor = and_first _ _ (none_of constructors _ t.Word w refl);
    }

-- a dot and a name
next_dot : (s : Text) (i : ℕ) → terminal (s (suc i)) ≡ t.Dot → terminal (s (suc (suc i))) ≡ t.Word → Next s i
unfolding same_terminal
next_dot s i d w =
    record {
      no_name = and_second (same_terminal (terminal (s i)) t.Word) _ (or_none _ _ (is_not _ t.Dot t.Word d refl) (and_first _ _ (is_not _ t.Dot t.LeftBracket d refl)));
      no_label = and_second (same_terminal (terminal (s i)) t.Word) _ (is_not _ t.Dot t.Colon d refl);
      no_class = and_second (same_terminal (terminal (s i)) t.Word) _ (and_second (same_terminal (terminal (s (suc i))) t.Dot) _ (is_not _ t.Word t.Class w refl));
      no_constructor = and_second (among constructors (terminal (s i))) _ (is_not _ t.Dot t.LeftParen d refl);
    }

not_bracket : (x : Terminal) → among expression_words x ≡ true → same_terminal x t.RightBracket ≡ false
unfolding same_terminal
not_bracket = each (λ x. same_terminal x t.RightBracket ≡ false) expression_words (refl, (refl, (refl, (refl, (refl, (refl, (refl, (refl, (refl, (refl, (refl, (refl, (refl, (refl, (refl, (refl, (refl, (refl, tt))))))))))))))))))

-- a bracket and an expression
next_bracket : (s : Text) (i : ℕ) → terminal (s (suc i)) ≡ t.LeftBracket → among expression_words (terminal (s (suc (suc i)))) ≡ true → Next s i
unfolding same_terminal
next_bracket s i b x =
    record {
      no_name = and_second (same_terminal (terminal (s i)) t.Word) _ (or_none _ _ (is_not _ t.LeftBracket t.Word b refl) (and_second (same_terminal (terminal (s (suc i))) t.LeftBracket) _ (not_bracket _ x)));
      no_label = and_second (same_terminal (terminal (s i)) t.Word) _ (is_not _ t.LeftBracket t.Colon b refl);
      no_class = and_second (same_terminal (terminal (s i)) t.Word) _ (and_first _ _ (is_not _ t.LeftBracket t.Dot b refl));
      no_constructor = and_second (among constructors (terminal (s i))) _ (is_not _ t.LeftBracket t.LeftParen b refl);
    }

-- first tokens that are none of the three
literal_start : (x : Terminal) → among literal_words x ≡ true → among starts x ≡ false
unfolding same_terminal
literal_start = each (λ x. among starts x ≡ false) literal_words (refl, (refl, (refl, (refl, (refl, (refl, (refl, tt)))))))

step_start : (x : Terminal) → among step_ops x ≡ true → among starts x ≡ false
unfolding same_terminal
step_start = each (λ x. among starts x ≡ false) step_ops (refl, (refl, tt))

negation_start : (x : Terminal) → among negations x ≡ true → among starts x ≡ false
unfolding same_terminal
negation_start = each (λ x. among starts x ≡ false) negations (refl, (refl, tt))

one_start : (among starts t.Minus ≡ false) × (among starts t.Plus ≡ false) × (among starts t.LeftParen ≡ false) × (among starts t.New ≡ false)
unfolding same_terminal
one_start = (refl, refl, refl, refl)

-- an expression of one token, or one that goes on so
abbrev pub Leftmost : Text → ℕ → ℕ → Type 0
Leftmost s i j = (j ≡ suc i) ⊎ Next s i

-- what is put behind another expression
behind : (s : Text) (i m j : ℕ) → Leftmost s i m → (m ≡ suc i → Next s i) → Leftmost s i j
behind s i m j (inl e) f = inr (f e)
behind s i m j (inr n) f = inr n

second_at : (s : Text) (i m : ℕ) → m ≡ suc i → Second (terminal (s m)) → Next s i
second_at s i m e h = next_second s i (subst (λ (x : ℕ). Second (terminal (s x))) e h)

module _ (place : ℕ → Span) (most : ℕ) (given : Given place most) (s : Text) where
  primary_leftmost : {a : ExprTree} {i j : ℕ} → Primary place s a i j → Leftmost s i j
  primary_leftmost (g.literal o e at) = inl at
  primary_leftmost (g.this o e at) = inl at
  primary_leftmost {i = i} (g.paren o d c e at) = inr (next_other s i (none_of starts _ t.LeftParen o one_start.2))
  primary_leftmost (g.name o e at) = inl at
  primary_leftmost {i = i} (g.call o p d c e at) = inr (next_call s i o p)
  primary_leftmost {i = i} (g.super_field o p w e at) = inr (next_dot s i p w)
  primary_leftmost {i = i} (g.super_call o p w q d c e at) = inr (next_dot s i p w)
  primary_leftmost {i = i} (g.create o w p d c e at) = inr (next_other s i (none_of starts _ t.New o one_start.3))
  primary_leftmost {i = i} (g.new_array o w d b e) = inr (next_other s i (none_of starts _ t.New o one_start.3))
  primary_leftmost {i = i} (g.new_values o w d b e) = inr (next_other s i (none_of starts _ t.New o one_start.3))

  dot_at : (i m : ℕ) → m ≡ suc i → terminal (s m) ≡ t.Dot → terminal (s (suc m)) ≡ t.Word → Next s i
  dot_at i m e d w = next_dot s i (subst (λ (x : ℕ). terminal (s x) ≡ t.Dot) e d) (subst (λ (x : ℕ). terminal (s (suc x)) ≡ t.Word) e w)

  selected_leftmost : {a : ExprTree} {i j : ℕ} → Selected place s a i j → Leftmost s i j
  selected_leftmost (g.primary d) = primary_leftmost d
  selected_leftmost {i = i} {j = j} (g.field {m = m} d o w e at) = behind s i m j (selected_leftmost d) (λ h. dot_at i m h o w)
  selected_leftmost {i = i} {j = j} (g.method_call {m = m} d o w p args c e at) = behind s i m j (selected_leftmost d) (λ h. dot_at i m h o w)
  selected_leftmost {i = i} {j = j} (g.index {m = m} {n = n} d new o x c e at) =
      behind s i m j (selected_leftmost d) (λ h. next_bracket s i (subst (λ (z : ℕ). terminal (s z) ≡ t.LeftBracket) h o)
      (subst (λ (z : ℕ). among expression_words (terminal (s (suc z))) ≡ true) h (given.begins part.Expression s _ _ _ x)))

  postfix_leftmost : {a : ExprTree} {i j : ℕ} → Postfix place s a i j → Leftmost s i j
  postfix_leftmost (g.selected d) = selected_leftmost d
  postfix_leftmost {i = i} {j = j} (g.step {m = m} d o e at) = behind s i m j (postfix_leftmost d) (λ h. second_at s i m h (step_second _ o))

  plain_leftmost : {a : ExprTree} {i j : ℕ} → Plain place s a i j → Leftmost s i j
  plain_leftmost {i = i} (g.negation o d e) = inr (next_other s i (negation_start _ o))
  plain_leftmost {i = i} (g.cast_primitive o ty c p d e) = inr (next_other s i (none_of starts _ t.LeftParen o one_start.2))
  plain_leftmost {i = i} (g.cast_reference o ty c p d e) = inr (next_other s i (none_of starts _ t.LeftParen o one_start.2))
  plain_leftmost (g.postfix d) = postfix_leftmost d

  pub unary_leftmost : {a : ExprTree} {i j : ℕ} → Unary place s a i j → Leftmost s i j
  unary_leftmost {i = i} (g.minus o d e) = inr (next_other s i (none_of starts _ t.Minus o one_start.0))
  unary_leftmost {i = i} (g.least o l e at) = inr (next_other s i (none_of starts _ t.Minus o one_start.0))
  unary_leftmost {i = i} (g.plus o d e) = inr (next_other s i (none_of starts _ t.Plus o one_start.1))
  unary_leftmost {i = i} (g.prefix o d e) = inr (next_other s i (step_start _ o))
  unary_leftmost (g.plain d) = plain_leftmost d

  level_leftmost : {h : ℕ} {a : ExprTree} {i j : ℕ} → Level place s h a i j → Leftmost s i j
  level_leftmost (g.unary d) = unary_leftmost d
  level_leftmost (g.tighter d) = level_leftmost d
  level_leftmost {i = i} {j = j} (g.binary {h = h} {m = m} l o r e) = behind s i m j (level_leftmost l) (λ w. second_at s i m w (op_second h _ o))
  level_leftmost {i = i} {j = j} (g.instance {m = m} l o o2 ty e) = behind s i m j (level_leftmost l) (λ w. second_at s i m w (subst Second (sym o2) one_second.1))

  conditional_leftmost : {a : ExprTree} {i j : ℕ} → Conditional place s a i j → Leftmost s i j
  conditional_leftmost (g.ranked d) = level_leftmost d
  conditional_leftmost {i = i} {j = j} (g.conditional {m = m} d o y c z e) = behind s i m j (level_leftmost d) (λ w. second_at s i m w (subst Second (sym o) one_second.0))

  pub expression_leftmost : {a : ExprTree} {i j : ℕ} → Expression place s a i j → Leftmost s i j
  expression_leftmost (g.value d) = conditional_leftmost d
  expression_leftmost {i = i} {j = j} (g.assign {m = m} l o r e) = behind s i m j (unary_leftmost l) (λ w. second_at s i m w (assign_second _ o))

  -- what stands behind an expression of one token
  pub followed : (i j : ℕ) → Leftmost s i j → Second (terminal (s j)) → Next s i
  followed i j (inl e) h = second_at s i j e h
  followed i j (inr n) h = n

-- the first token of an expression begins no declaration
no_type_word : (x : Terminal) → among expression_words x ≡ true → (same_terminal x t.Final ≡ false) × (among primitives x ≡ false)
unfolding same_terminal
no_type_word = each (λ x. (same_terminal x t.Final ≡ false) × (among primitives x ≡ false)) expression_words
    ((refl, refl), ((refl, refl), ((refl, refl), ((refl, refl), ((refl, refl), ((refl, refl), ((refl, refl), ((refl, refl), ((refl, refl), ((refl, refl), ((refl, refl), ((refl, refl), ((refl, refl), ((refl, refl), ((refl, refl), ((refl, refl), ((refl, refl), ((refl, refl), tt))))))))))))))))))

pub no_declaration : (s : Text) (i : ℕ) → among expression_words (terminal (s i)) ≡ true → Next s i → declares s i ≡ false
no_declaration s i e n = let w = no_type_word _ e in or_none _ _ w.0 (or_none _ _ w.1 n.no_name)
