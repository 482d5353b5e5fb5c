-- The readers of conditional expressions, of assignments and of what a variable is given.
use Rattle.std.proofs.Common.{◌≡◌, ℕ, suc, inl, inr, true, false, refl, sym, ap, ◌∙◌, subst}
use Rattle.std.proofs.lemmas.Bool.{both_ways}
use Rattle.bj_base.specs.declared.span.Span.{Span}
use Rattle.bj_expr_tree.specs.declared.expr.ExprTree.{ExprTree}
use Rattle.bj_expr_tree.specs.declared.expr.ExprTree.TheVariants as tree
use Rattle.bj_expr.specs.declared.bounds.Bounds.{Bounds}
use Rattle.bj_expr.specs.declared.part.Part.{Part}
use Rattle.bj_expr.specs.declared.part.Part.TheVariants as part
use Rattle.bj_grammar.specs.declared.terminal.Terminal.{Terminal}
use Rattle.bj_grammar.specs.declared.terminal.Terminal.TheVariants as t
use Rattle.bj_grammar.specs.Terminal.{terminal, same_terminal, among}
use Rattle.bj_grammar.specs.Reader.{Text, Parser, ◌>>=◌, pure, sign}
use Rattle.bj_expr.specs.Grammar as g
use Rattle.bj_expr.specs.Grammar.{assigns, assign_op, Expression, Conditional, Level, Unary, Values, Initializer}
use Rattle.bj_expr.specs.Reading as r
use Rattle.bj_expr.specs.Reading.{is, is_unary}
use Rattle.bj_grammar.proofs.Laws.{Rel, Laws, Then, Same, Word, Operator, Either, pure_laws, is_kind, seq, alt, tok, op, start, renamed}
use Rattle.bj_expr.proofs.Facts.{or_split, other, stops_level, stops_conditional, stops_expression, begins_unary, question_after, assign_after, tokens_of}
use Rattle.bj_expr.proofs.Begins.{expression_begins, values_begin}
use Rattle.bj_expr.proofs.Tall as tall
use Rattle.bj_expr.proofs.LawLemmas.{pick_laws, limited_then, more_than, same_after, Tall, After, PartRel, AfterPart, closer, is_closer}
use Rattle.bj_expr.proofs.ValueLaws.{values_laws}
use Rattle.bj_expr.proofs.UnaryFacts.{assign_one, unary_is_unary, conditional_unary, unary_conditional}
use Rattle.bj_expr.proofs.LevelLaws.{LevelRel, level_laws}

begins_left_brace : among begins_unary t.LeftBrace ≡ false
unfolding same_terminal
begins_left_brace = refl

module _ (place : ℕ → Span) (bounds : Bounds) (n : ℕ) (small : n ≡ suc bounds.room) (nested : Part → Parser ExprTree)
    (u : (x : Part) → Laws bounds.most (nested x) (PartRel place x) (AfterPart x) (Tall n)) where
  abbrev ConditionalRel : Rel ExprTree
  ConditionalRel = λ s a i j. Conditional place s a i j

  abbrev AfterConditional : ExprTree → Terminal → Type 0
  AfterConditional = After stops_conditional

  abbrev ChosenRel : ℕ → ExprTree → Rel ExprTree
  ChosenRel i x = Either (Word t.Question (λ _. Then (λ s a i j. Expression place s a i j) (λ y. Word t.Colon (λ _. Then ConditionalRel (λ z. Same (tree.Conditional (place i) x y z)))))) (Same x)

  chosen_laws : (i : ℕ) (x : ExprTree) → Laws bounds.most (r.chosen place bounds nested i x) (ChosenRel i x) AfterConditional (Tall (suc n))
  unfolding r.chosen r.alternatives r.otherwise
  chosen_laws i x = alt (is t.Question)
      (tok t.Question refl (λ _. limited_then bounds.most bounds.room n small (λ k. nested part.Expression >>= λ y. sign t.Colon (r.otherwise place bounds nested i k y)) x (seq (u part.Expression) (λ y. tok t.Colon refl (λ _. seq (u part.Conditional) (λ z. pure_laws bounds.most (tree.Conditional (place i) x y z) AfterConditional (Tall (suc n)))
      (λ s z m b j d last. same_after (λ k. stops_conditional k ≡ false) s (tree.Conditional (place i) x y z) b m j d last) (λ s z m b j d at h. tall.tall_conditional_other n (place i) x y z b d.tree h)))
      (λ s y m b j d last. closer (terminal (s m)) t.Colon d.kind is_closer.3) (λ s y m b j d at h. tall.tall_conditional_chosen n (place i) x y d.rest.part b d.rest.rest.tree h))
      (λ at h s a m j d. tall.tall_conditional_test n (place i) x d.part d.rest.rest.part a d.rest.rest.rest.tree h)))
      (pure_laws bounds.most x AfterConditional (Tall (suc n)))
      (λ s a m j d last. is_kind _ _ d.kind)
      (λ s a m j d last. (or_split (same_terminal (terminal (s m)) t.Question) (stops_level 10 (terminal (s m))) (subst (λ (k : ℕ). stops_conditional (terminal (s k)) ≡ false) d.at last)).0)

  to_conditional : (s : Text) (a : ExprTree) (i j : ℕ) → Then (LevelRel place bounds n small nested u 10) (ChosenRel i) s a i j → Conditional place s a i j
  to_conditional s a i j d = of d.rest
    where
      of : ChosenRel i d.part s a d.at j → Conditional place s a i j
      of (inl c) = g.conditional d.first c.kind c.rest.first c.rest.rest.kind
          (subst (λ (k : ℕ). Conditional place s c.rest.rest.rest.part (suc c.rest.at) k) (sym c.rest.rest.rest.rest.at) c.rest.rest.rest.first) c.rest.rest.rest.rest.tree
      of (inr c) = g.ranked (subst (λ (k : ℕ). Level place s 10 a i k) (sym c.at) (subst (λ (x : ExprTree). Level place s 10 x i d.at) (sym c.tree) d.first))

  from_conditional : (s : Text) {a : ExprTree} {i j : ℕ} → Conditional place s a i j → Then (LevelRel place bounds n small nested u 10) (ChosenRel i) s a i j
  from_conditional s {a} {j} (g.ranked d) = record { part = a; at = j; first = d; rest = inr (record { tree = refl; at = refl }) }
  from_conditional s {j} (g.conditional {x} {m} d o y o2 z is) =
      record { part = x; at = m; first = d; rest = inl (record { kind = o; rest = record { part = _; at = _; first = y; rest = record { kind = o2; rest = record { part = _; at = j; first = z; rest = record { tree = is; at = refl } } } } }) }

  after_ranked : (s : Text) (i : ℕ) (x : ExprTree) (m : ℕ) (b : ExprTree) (j : ℕ) → ChosenRel i x s b m j → stops_conditional (terminal (s j)) ≡ false → stops_level 10 (terminal (s m)) ≡ false
  after_ranked s i x m b j (inl c) last = ap (stops_level 10) c.kind ∙ question_after
  after_ranked s i x m b j (inr c) last = (or_split (same_terminal (terminal (s m)) t.Question) (stops_level 10 (terminal (s m))) (subst (λ (k : ℕ). stops_conditional (terminal (s k)) ≡ false) c.at last)).1

  high_chosen : (s : Text) (i : ℕ) (x : ExprTree) (m : ℕ) (b : ExprTree) (j : ℕ) → ChosenRel i x s b m j → (at : Span) → Tall (suc n) at x → Tall (suc n) at b
  high_chosen s i x m b j (inl c) at h = more_than n b (tall.tall_conditional_test (suc n) (place i) x c.rest.part c.rest.rest.rest.part b c.rest.rest.rest.rest.tree h)
  high_chosen s i x m b j (inr c) at h = subst (Tall (suc n) at) (sym c.tree) h

  pub conditional_laws : Laws bounds.most (r.conditional place bounds nested) ConditionalRel AfterConditional (Tall (suc n))
  unfolding r.conditional
  conditional_laws = renamed ConditionalRel AfterConditional
      (start {D = λ i. Then (LevelRel place bounds n small nested u 10) (ChosenRel i)} (λ i. seq (level_laws place bounds n small nested u 10) (λ x. chosen_laws i x) (λ s x m b j d last. after_ranked s i x m b j d last) (λ s x m b j d at h. high_chosen s i x m b j d at h)))
      to_conditional (λ s a i j d. from_conditional s d) (λ a x e. e)

  -- ---- assignments

  abbrev ExpressionRel : Rel ExprTree
  ExpressionRel = λ s a i j. Expression place s a i j

  abbrev AfterExpression : ExprTree → Terminal → Type 0
  AfterExpression = After stops_expression

  abbrev AssignRel : ℕ → ExprTree → Rel ExprTree
  AssignRel i l = Operator (among assigns) (λ v. Then ExpressionRel (λ r. Same (tree.Assign (place i) (assign_op (terminal v)) l r)))

  pub record Assigning (i : ℕ) (l : ExprTree) (s : Text) (a : ExprTree) (m j : ℕ) : Type 0 where
    pub left : is_unary l ≡ true
    pub stands : AssignRel i l s a m j

  abbrev AssignedRel : ℕ → ExprTree → Rel ExprTree
  AssignedRel i l = Either (Assigning i l) (Same l)

  assigned_laws : (i : ℕ) (l : ExprTree) → Laws bounds.most (r.assigned place bounds nested i l) (AssignedRel i l) AfterExpression (Tall (suc n))
  unfolding r.assigned r.assignment
  assigned_laws i l = pick_laws (is_unary l)
      (λ e. renamed (AssignedRel i l) AfterExpression
      (alt (among assigns)
      (op {Q = λ v. Then ExpressionRel (λ r. Same (tree.Assign (place i) (assign_op (terminal v)) l r))} (among assigns) t.Assign refl assign_one.0 (tokens_of assigns assign_one.1)
      (λ v. limited_then bounds.most bounds.room n small (λ k. nested part.Expression >>= λ x. pure (tree.Assign (place i) (assign_op (terminal v)) k x)) l (seq (u part.Expression) (λ x. pure_laws bounds.most (tree.Assign (place i) (assign_op (terminal v)) l x) AfterExpression (Tall (suc n)))
      (λ s x m b j d last. same_after (λ k. stops_expression k ≡ false) s (tree.Assign (place i) (assign_op (terminal v)) l x) b m j d last)
      (λ s x m b j d at h. tall.tall_assign_value n (place i) (assign_op (terminal v)) l x b d.tree h))
      (λ at h s a m j d. tall.tall_assign_target n (place i) (assign_op (terminal v)) l d.part a d.rest.tree h)))
      (pure_laws bounds.most l AfterExpression (Tall (suc n)))
      (λ s a m j d last. d.kind)
      (λ s a m j d last. (or_split (among assigns (terminal (s m))) (stops_conditional (terminal (s m))) (subst (λ (k : ℕ). stops_expression (terminal (s k)) ≡ false) d.at last)).0))
      (λ s a m j d. elim d [ inl x ↦ inl (record { left = e; stands = x }) | inr y ↦ inr y ]) (λ s a m j d. elim d [ inl x ↦ inl x.stands | inr y ↦ inr y ]) (λ a x z. z))
      (λ e. renamed (AssignedRel i l) AfterExpression (pure_laws bounds.most l AfterExpression (Tall (suc n))) (λ s a m j d. inr d)
      (λ s a m j d. elim d [ inl x ↦ absurd (both_ways (is_unary l) e x.left) | inr y ↦ y ]) (λ a x z. z))

  to_expression : (s : Text) (a : ExprTree) (i j : ℕ) → Then ConditionalRel (AssignedRel i) s a i j → Expression place s a i j
  to_expression s a i j d = of d.rest
    where
      of : AssignedRel i d.part s a d.at j → Expression place s a i j
      of (inl c) = g.assign (conditional_unary place s d.first c.left) c.stands.kind
          (subst (λ (k : ℕ). Expression place s c.stands.rest.part (suc d.at) k) (sym c.stands.rest.rest.at) c.stands.rest.first) c.stands.rest.rest.tree
      of (inr c) = g.value (subst (λ (k : ℕ). Conditional place s a i k) (sym c.at) (subst (λ (x : ExprTree). Conditional place s x i d.at) (sym c.tree) d.first))

  from_expression : (s : Text) {a : ExprTree} {i j : ℕ} → Expression place s a i j → Then ConditionalRel (AssignedRel i) s a i j
  from_expression s {a} {j} (g.value d) = record { part = a; at = j; first = d; rest = inr (record { tree = refl; at = refl }) }
  from_expression s {j} (g.assign {l} {r = right} {m} d o x is) =
      record { part = l; at = m; first = unary_conditional place s d; rest = inl (record { left = unary_is_unary place s d; stands = record { kind = o; rest = record { part = right; at = j; first = x; rest = record { tree = is; at = refl } } } }) }

  after_left : (s : Text) (i : ℕ) (l : ExprTree) (m : ℕ) (b : ExprTree) (j : ℕ) → AssignedRel i l s b m j → stops_expression (terminal (s j)) ≡ false → stops_conditional (terminal (s m)) ≡ false
  after_left s i l m b j (inl c) last = assign_after _ c.stands.kind
  after_left s i l m b j (inr c) last = (or_split (among assigns (terminal (s m))) (stops_conditional (terminal (s m))) (subst (λ (k : ℕ). stops_expression (terminal (s k)) ≡ false) c.at last)).1

  high_assigned : (s : Text) (i : ℕ) (l : ExprTree) (m : ℕ) (b : ExprTree) (j : ℕ) → AssignedRel i l s b m j → (at : Span) → Tall (suc n) at l → Tall (suc n) at b
  high_assigned s i l m b j (inl c) at h = more_than n b (tall.tall_assign_target (suc n) (place i) (assign_op (terminal (s m))) l c.stands.rest.part b c.stands.rest.rest.tree h)
  high_assigned s i l m b j (inr c) at h = subst (Tall (suc n) at) (sym c.tree) h

  pub expression_laws : Laws bounds.most (r.expression place bounds nested) ExpressionRel AfterExpression (Tall (suc n))
  unfolding r.expression
  expression_laws = renamed ExpressionRel AfterExpression
      (start {D = λ i. Then ConditionalRel (AssignedRel i)} (λ i. seq conditional_laws (λ x. assigned_laws i x) (λ s x m b j d last. after_left s i x m b j d last) (λ s x m b j d at h. high_assigned s i x m b j d at h)))
      to_expression (λ s a i j d. from_expression s d) (λ a x e. e)

  -- ---- initializers

  abbrev BracesRel : ℕ → Rel ExprTree
  BracesRel i = Then (λ s a i j. Values place s a i j) (λ all. Same (tree.Braces (place i) all))

  abbrev InitializerRel : ℕ → Rel ExprTree
  InitializerRel i = Either (BracesRel i) ExpressionRel

  to_initializer : (s : Text) (a : ExprTree) (i j : ℕ) → InitializerRel i s a i j → Initializer place s a i j
  to_initializer s a i j (inl d) = g.braces (subst (λ (k : ℕ). Values place s d.part i k) (sym d.rest.at) d.first) d.rest.tree
  to_initializer s a i j (inr d) = g.expression d

  from_initializer : (s : Text) {a : ExprTree} {i j : ℕ} → Initializer place s a i j → InitializerRel i s a i j
  from_initializer s (g.expression d) = inr d
  from_initializer s {j} (g.braces {all} d is) = inl (record { part = all; at = j; first = d; rest = record { tree = is; at = refl } })

  pub initializer_laws : Laws bounds.most (r.initializer place bounds nested) (λ s a i j. Initializer place s a i j) AfterExpression (Tall (suc n))
  unfolding r.initializer
  initializer_laws = renamed (λ s a i j. Initializer place s a i j) AfterExpression
      (start {D = InitializerRel} (λ i. alt (is t.LeftBrace)
      (seq (values_laws place bounds n nested u (λ _ _. Unit {0})) (λ all. pure_laws bounds.most (tree.Braces (place i) all) AfterExpression (Tall (suc n)))
      (λ s all m b j d last. tt) (λ s all m b j d at h. tall.tall_braces_values n (place i) all b d.tree h))
      expression_laws
      (λ s a m j d last. is_kind _ _ (values_begin place s d.first))
      (λ s a m j d last. other (among begins_unary) _ t.LeftBrace begins_left_brace (expression_begins place s d))))
      to_initializer (λ s a i j d. from_initializer s d) (λ a x e. e)
