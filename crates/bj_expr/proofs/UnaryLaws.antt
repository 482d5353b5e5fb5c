-- The readers of casts and of unary expressions.
use Rattle.std.proofs.Common.{◌≡◌, ℕ, suc, ◌≤◌, ◌⊎◌, inl, inr, Bool, true, false, cond, refl, sym, ap, ◌∙◌, subst, arith}
use Rattle.std.specs.Prelude.{◌||◌, ◌&&◌}
use Rattle.std.proofs.lemmas.Bool.{and_from}
use Rattle.bj_base.specs.declared.span.Span.{Span}
use Rattle.bj_expr_tree.specs.declared.types.TypeTree.{TypeTree}
use Rattle.bj_expr_tree.specs.declared.expr.UnaryOp.TheVariants as unaries
use Rattle.bj_expr_tree.specs.declared.expr.ExprTree.{ExprTree}
use Rattle.bj_expr_tree.specs.declared.expr.ExprTree.TheVariants as tree
use Rattle.bj_expr.specs.declared.bounds.Bounds.{Bounds}
use Rattle.bj_expr.specs.declared.part.Part.{Part}
use Rattle.bj_expr.specs.declared.part.Part.TheVariants as part
use Rattle.bj_grammar.specs.declared.terminal.Terminal.{Terminal}
use Rattle.bj_grammar.specs.declared.terminal.Terminal.TheVariants as t
use Rattle.bj_grammar.specs.Terminal.{terminal, same_terminal, among}
use Rattle.bj_grammar.specs.Given.{ended}
use Rattle.bj_grammar.specs.Reader.{Text, Parser, ◌>>=◌, pure, ahead}
use Rattle.bj_expr.specs.Grammar as g
use Rattle.bj_expr.specs.Grammar.{negations, negation_op, step_ops, step_op, leasts, literal_kind, primitives, type_words, one_more, is_primitive, Dims, TypeAt, Unary, Plain, Postfix}
use Rattle.bj_expr.specs.Reading as r
use Rattle.bj_expr.specs.Reading.{is, begins_plain, is_cast, operand_part}
use Rattle.bj_grammar.proofs.Terminals.{make, made}
use Rattle.bj_grammar.proofs.Laws.{stop, reached_stop, Rel, Laws, Then, Same, Word, Operator, Either, pure_laws, ahead_laws, is_kind, kind_is, seq, alt, tok, op, start, renamed, reaches}
use Rattle.bj_expr.proofs.Facts.{or_cases, or_left, or_right, stops_level, tokens_of}
use Rattle.bj_expr.proofs.Begins.{plain_begins, unary_begins}
use Rattle.bj_expr.proofs.Tall as tall
use Rattle.bj_expr.proofs.LawLemmas.{limited_then, same_after, Tall, After, PartRel, AfterPart, is_not, not_among}
use Rattle.bj_expr.proofs.TypeLaws.{type_laws, dims_begin}
use Rattle.bj_expr.proofs.SelectionLaws.{postfix_laws}
use Rattle.bj_expr.proofs.CastLaws.{ended_other, Passes, seen, no_cast, negation_not}
use Rattle.bj_expr.proofs.UnaryFacts.{paren_other, other_ends, negation_one, step_one, least_one, unary_not_least, plain_not_sign, step_not_sign, plus_not_minus, as_plain, as_unary, from_plain_part, from_unary_part, name_postfix, name_expression, unary_conditional, named_type, reference, word_here, no_negation}

-- ---- casts

module _ (place : ℕ → Span) (bounds : Bounds) (n : ℕ) (small : n ≡ suc bounds.room) (nested : Part → Parser ExprTree)
    (u : (x : Part) → Laws bounds.most (nested x) (PartRel place x) (AfterPart x) (Tall n)) where
  abbrev After0 : ExprTree → Terminal → Type 0
  After0 = After (stops_level 0)

  abbrev OperandRel : TypeTree → Rel ExprTree
  OperandRel ty = PartRel place (operand_part ty)

  operand_by : (b : Bool) → Laws bounds.most (nested (cond b part.Unary part.Plain)) (PartRel place (cond b part.Unary part.Plain)) After0 (Tall n)
  operand_by true = u part.Unary
  operand_by false = u part.Plain

  abbrev CastRel : ℕ → Rel ExprTree
  CastRel i = Word t.LeftParen (λ _. Then (λ s a i j. TypeAt place s a i j) (λ ty. Word t.RightParen (λ _. Then (OperandRel ty) (λ x. Same (tree.Cast (place i) ty x)))))

  cast_laws : (i : ℕ) → Laws bounds.most (r.cast place bounds nested i) (CastRel i) After0 (Tall (suc n))
  unfolding r.cast
  cast_laws i = tok t.LeftParen refl (λ _. seq (type_laws place bounds.most)
      (λ ty. tok t.RightParen refl (λ _. seq (operand_by (is_primitive ty)) (λ x. pure_laws bounds.most (tree.Cast (place i) ty x) After0 (Tall (suc n)))
      (λ s x m b j d last. same_after (λ y. stops_level 0 y ≡ false) s (tree.Cast (place i) ty x) b m j d last) (λ s x m b j d at h. tall.tall_cast_operand n (place i) ty x b d.tree h)))
      (λ s ty m b j d last. is_not _ _ t.LeftBracket d.kind paren_other.0) (λ s ty m b j d at h. absurd h))

  post_laws : Laws bounds.most (r.postfix place bounds nested) (λ s a i j. Postfix place s a i j) After0 (Tall (suc n))
  post_laws = postfix_laws place bounds n small nested u

  to_cast : (i : ℕ) (s : Text) (a : ExprTree) (j : ℕ) → CastRel i s a i j → Plain place s a i j
  to_cast i s a j d = of (is_primitive d.rest.part) refl
    where
      of : (b : Bool) → is_primitive d.rest.part ≡ b → Plain place s a i j
      of true e = g.cast_primitive d.kind d.rest.first d.rest.rest.kind e
          (subst (λ (m : ℕ). Unary place s d.rest.rest.rest.part (suc d.rest.at) m) (sym d.rest.rest.rest.rest.at) (as_unary place (is_primitive d.rest.part) s d.rest.rest.rest.part (suc d.rest.at) d.rest.rest.rest.at e d.rest.rest.rest.first))
          d.rest.rest.rest.rest.tree
      of false e = g.cast_reference d.kind d.rest.first d.rest.rest.kind e
          (subst (λ (m : ℕ). Plain place s d.rest.rest.rest.part (suc d.rest.at) m) (sym d.rest.rest.rest.rest.at) (as_plain place (is_primitive d.rest.part) s d.rest.rest.rest.part (suc d.rest.at) d.rest.rest.rest.at e d.rest.rest.rest.first))
          d.rest.rest.rest.rest.tree

  make_cast : (i0 : ℕ) (s : Text) (a x : ExprTree) (ty : TypeTree) (i m j : ℕ) → terminal (s i) ≡ t.LeftParen → TypeAt place s ty (suc i) m → terminal (s m) ≡ t.RightParen
      → OperandRel ty s x (suc m) j → a ≡ tree.Cast (place i0) ty x → CastRel i0 s a i j
  make_cast i0 s a x ty i m j o d o2 v e = record { kind = o; rest = record { part = ty; at = m; first = d; rest = record { kind = o2; rest = record { part = x; at = j; first = v; rest = record { tree = e; at = refl } } } } }

  -- a cast passes the test
  cast_first : (i0 : ℕ) (s : Text) (a : ExprTree) (i j : ℕ) → CastRel i0 s a i j → is_cast s i ≡ true
  cast_first i0 s a i j d = and_from _ _ (is_kind _ _ d.kind) (of d.rest.first)
    where
      worded : (k : ℕ) → Dims s k (suc (suc i)) d.rest.at → d.rest.part ≡ named_type place s (suc i) k → same_terminal (terminal (s (suc i))) t.Word ≡ true
          → (among primitives (terminal (s (suc i))) || (same_terminal (terminal (s (suc i))) t.Word
          && ((same_terminal (terminal (s (suc (suc i)))) t.RightParen && among begins_plain (terminal (s (suc (suc (suc i))))))
          || (same_terminal (terminal (s (suc (suc i)))) t.LeftBracket && same_terminal (terminal (s (suc (suc (suc i))))) t.RightBracket)))) ≡ true
      worded k dd is w = or_right _ _ (and_from _ _ w (ended_by (dims_begin s dd)))
        where
          ended_by : (d.rest.at ≡ suc (suc i)) ⊎ ((terminal (s (suc (suc i))) ≡ t.LeftBracket) × (terminal (s (suc (suc (suc i)))) ≡ t.RightBracket))
              → ((same_terminal (terminal (s (suc (suc i)))) t.RightParen && among begins_plain (terminal (s (suc (suc (suc i))))))
              || (same_terminal (terminal (s (suc (suc i)))) t.LeftBracket && same_terminal (terminal (s (suc (suc (suc i))))) t.RightBracket)) ≡ true
          ended_by (inl e) =
              let p = as_plain place (is_primitive d.rest.part) s d.rest.rest.rest.part (suc d.rest.at) d.rest.rest.rest.at (ap is_primitive is ∙ reference place s (suc i) k (kind_is _ _ w)) d.rest.rest.rest.first in
              or_left _ _ (and_from _ _ (is_kind _ _ (subst (λ (m : ℕ). terminal (s m) ≡ t.RightParen) e d.rest.rest.kind))
              (subst (λ (m : ℕ). among begins_plain (terminal (s (suc m))) ≡ true) e (plain_begins place s p)))
          ended_by (inr h) = or_right _ _ (and_from _ _ (is_kind _ _ h.0) (is_kind _ _ h.1))

      of : TypeAt place s d.rest.part (suc i) d.rest.at
          → (among primitives (terminal (s (suc i))) || (same_terminal (terminal (s (suc i))) t.Word
          && ((same_terminal (terminal (s (suc (suc i)))) t.RightParen && among begins_plain (terminal (s (suc (suc (suc i))))))
          || (same_terminal (terminal (s (suc (suc i)))) t.LeftBracket && same_terminal (terminal (s (suc (suc (suc i))))) t.RightBracket)))) ≡ true
      of (g.named {n = k} o dd is) = elim (or_cases (same_terminal (terminal (s (suc i))) t.Word) (among primitives (terminal (s (suc i)))) o) [ inl w ↦ worded k dd is w | inr p ↦ or_left _ _ p ]

  -- what the readers of casts and of parentheses read behind `(name)` and `(name[`
  after_word : (s : Text) (i : ℕ) → terminal (s i) ≡ t.Other → stops_level 0 (terminal (s i)) ≡ false
  after_word s i o = ap (stops_level 0) o ∙ other_ends.0

  post_follows : Passes (r.postfix place bounds nested) ended (make t.Word) (make t.RightBracket) (make t.RightParen)
  post_follows = record {
    close = λ s v i k near same o o2 o3 h. reaches bounds.most (r.postfix place bounds nested) (λ s a i j. Postfix place s a i j) After0 (Tall (suc n)) post_laws s v i k _ (suc (suc (suc i))) same
        (g.selected (g.primary (g.paren o (name_expression place v (suc i) o2) o3 refl refl))) (after_word v (suc (suc (suc i))) (h.0 ∙ ended_other)) (omega arith) (omega arith);
    bracket = λ s v i k near same o o2 o3 h.
        let e1 : terminal (v (suc (suc (suc i)))) ≡ t.Word = h.0 ∙ made t.Word refl in
        let e2 : terminal (v (suc (suc (suc (suc i))))) ≡ t.RightBracket = h.1.0 ∙ made t.RightBracket refl in
        let e3 : terminal (v (suc (suc (suc (suc (suc i)))))) ≡ t.RightParen = h.1.1.0 ∙ made t.RightParen refl in
        let inner : Unary place v (tree.Index (place (suc i)) (tree.Name (place (suc i)) (v (suc i)).text) (tree.Name (place (suc (suc (suc i)))) (v (suc (suc (suc i)))).text)) (suc i) (suc (suc (suc (suc (suc i))))) =
        g.plain (g.postfix (g.selected (g.index (g.primary (g.name o2 refl refl)) refl o3 (name_expression place v (suc (suc (suc i))) e1) e2 refl refl))) in
        reaches bounds.most (r.postfix place bounds nested) (λ s a i j. Postfix place s a i j) After0 (Tall (suc n)) post_laws s v i k _ (suc (suc (suc (suc (suc (suc i)))))) same
        (g.selected (g.primary (g.paren o (g.value (unary_conditional place v inner)) e3 refl refl))) (after_word v (suc (suc (suc (suc (suc (suc i)))))) (h.1.1.1.0 ∙ ended_other)) (omega arith) (omega arith);
  }

  cast_follows : (i0 : ℕ) → Passes (r.cast place bounds nested i0) (make t.Word) (make t.RightBracket) (make t.RightParen) (make t.Word)
  cast_follows i0 = record {
    close = λ s v i k near same o o2 o3 h.
        let e1 : terminal (v (suc (suc (suc i)))) ≡ t.Word = h.0 ∙ made t.Word refl in
        let ty = named_type place v (suc i) 0 in
        let no = reference place v (suc i) 0 o2 in
        reaches bounds.most (r.cast place bounds nested i0) (CastRel i0) After0 (Tall (suc n)) (cast_laws i0) s v i k _ (suc (suc (suc (suc i)))) same
        (make_cast i0 v _ (tree.Name (place (suc (suc (suc i)))) (v (suc (suc (suc i)))).text) ty i (suc (suc i)) (suc (suc (suc (suc i)))) o (g.named (word_here place v (suc i) o2) (g.no_pair refl refl) refl) o3
        (from_plain_part place (is_primitive ty) v _ (suc (suc (suc i))) (suc (suc (suc (suc i)))) no (g.postfix (name_postfix place v (suc (suc (suc i))) e1))) refl)
        (after_word v (suc (suc (suc (suc i)))) (h.1.0 ∙ ended_other)) (omega arith) (omega arith);
    bracket = λ s v i k near same o o2 o3 h.
        let e1 : terminal (v (suc (suc (suc i)))) ≡ t.RightBracket = h.0 ∙ made t.RightBracket refl in
        let e2 : terminal (v (suc (suc (suc (suc i))))) ≡ t.RightParen = h.1.0 ∙ made t.RightParen refl in
        let e3 : terminal (v (suc (suc (suc (suc (suc i)))))) ≡ t.Word = h.1.1.0 ∙ made t.Word refl in
        let ty = named_type place v (suc i) (one_more 0) in
        let no = reference place v (suc i) (one_more 0) o2 in
        reaches bounds.most (r.cast place bounds nested i0) (CastRel i0) After0 (Tall (suc n)) (cast_laws i0) s v i k _ (suc (suc (suc (suc (suc (suc i)))))) same
        (make_cast i0 v _ (tree.Name (place (suc (suc (suc (suc (suc i)))))) (v (suc (suc (suc (suc (suc i)))))).text) ty i (suc (suc (suc (suc i)))) (suc (suc (suc (suc (suc (suc i)))))) o
        (g.named (word_here place v (suc i) o2) (g.pair (g.no_pair refl refl) o3 e1 refl refl) refl) e2
        (from_plain_part place (is_primitive ty) v _ (suc (suc (suc (suc (suc i))))) (suc (suc (suc (suc (suc (suc i)))))) no (g.postfix (name_postfix place v (suc (suc (suc (suc (suc i))))) e3))) refl)
        (after_word v (suc (suc (suc (suc (suc (suc i)))))) (h.1.1.1.0 ∙ ended_other)) (omega arith) (omega arith);
  }

  -- ---- unary expressions

  abbrev NegationRel : ℕ → Rel ExprTree
  NegationRel i = Operator (among negations) (λ v. Then (λ s a i j. Unary place s a i j) (λ x. Same (tree.Unary (place i) (negation_op (terminal v)) x)))

  abbrev PlainRel : ℕ → Rel ExprTree
  PlainRel i = Either (NegationRel i) (Either (CastRel i) (λ s a i j. Postfix place s a i j))

  to_plain : (s : Text) (a : ExprTree) (i j : ℕ) → PlainRel i s a i j → Plain place s a i j
  to_plain s a i j (inl d) = g.negation d.kind (subst (λ (m : ℕ). Unary place s d.rest.part (suc i) m) (sym d.rest.rest.at) d.rest.first) d.rest.rest.tree
  to_plain s a i j (inr (inl d)) = to_cast i s a j d
  to_plain s a i j (inr (inr d)) = g.postfix d

  from_plain : (s : Text) {a : ExprTree} {i j : ℕ} → Plain place s a i j → PlainRel i s a i j
  from_plain s {j} (g.negation {x} o d is) = inl (record { kind = o; rest = record { part = x; at = j; first = d; rest = record { tree = is; at = refl } } })
  from_plain s {a} {i} {j} (g.cast_primitive {ty} {x} {m} o d o2 e v is) = inr (inl (make_cast i s a x ty i m j o d o2 (from_unary_part place (is_primitive ty) s x (suc m) j e v) is))
  from_plain s {a} {i} {j} (g.cast_reference {ty} {x} {m} o d o2 e v is) = inr (inl (make_cast i s a x ty i m j o d o2 (from_plain_part place (is_primitive ty) s x (suc m) j e v) is))
  from_plain s (g.postfix d) = inr (inr d)

  operand : Laws bounds.most (nested part.Unary) (λ s a i j. Unary place s a i j) After0 (Tall n)
  operand = u part.Unary

  -- an operator before an operand, and what stands behind both
  prefix_laws : (f : ExprTree → ExprTree) → ((at : Span) (x c : ExprTree) → c ≡ f x → Tall n at x → Tall (suc n) at c)
      → Laws bounds.most (nested part.Unary >>= λ x. pure (f x)) (Then (λ s a i j. Unary place s a i j) (λ x. Same (f x))) After0 (Tall (suc n))
  prefix_laws f high = seq operand (λ x. pure_laws bounds.most (f x) After0 (Tall (suc n)))
      (λ s x m b j d last. same_after (λ y. stops_level 0 y ≡ false) s (f x) b m j d last) (λ s x m b j d at h. high at x b d.tree h)

  cast_stop : (i0 : ℕ) (s : Text) (i : ℕ) → i ≤ stop (r.cast place bounds nested i0 s i)
  cast_stop i0 s i = let h = (cast_laws i0).onward s i in let k = reached_stop (r.cast place bounds nested i0 s i) in omega arith

  post_stop : (s : Text) (i : ℕ) → i ≤ stop (r.postfix place bounds nested s i)
  post_stop s i = let h = post_laws.onward s i in let k = reached_stop (r.postfix place bounds nested s i) in omega arith

  cast_or_post : (i : ℕ) → Laws bounds.most (ahead is_cast (r.cast place bounds nested i) (r.postfix place bounds nested)) (Either (CastRel i) (λ s a i j. Postfix place s a i j)) After0 (Tall (suc n))
  cast_or_post i = ahead_laws bounds.most is_cast (r.cast place bounds nested i) (r.postfix place bounds nested) (CastRel i) (λ s a i j. Postfix place s a i j) After0 (Tall (suc n)) (cast_laws i) post_laws
      (λ s v m e. seen (r.cast place bounds nested i) (r.postfix place bounds nested) _ _ _ _ _ _ _ _ (cast_follows i) post_follows (cast_stop i) post_stop s v m e)
      (λ s a m j d last. cast_first i s a m j d)
      (λ s a m j d last. no_cast place s a m j d last)

  post_begins_not : (s : Text) (a : ExprTree) (m j : ℕ) → Postfix place s a m j → among negations (terminal (s m)) ≡ false
  post_begins_not s a m j d = no_negation s d

  pub plain_laws : Laws bounds.most (r.plain place bounds nested) (λ s a i j. Plain place s a i j) After0 (Tall (suc n))
  unfolding r.plain r.negation
  plain_laws = renamed (λ s a i j. Plain place s a i j) After0
      (start {D = PlainRel} (λ i. alt (among negations)
      (op {Q = λ v. Then (λ s a i j. Unary place s a i j) (λ x. Same (tree.Unary (place i) (negation_op (terminal v)) x))} (among negations) t.Not refl negation_one.0 (tokens_of negations negation_one.1) (λ v. prefix_laws (tree.Unary (place i) (negation_op (terminal v))) (λ at x c e h. tall.tall_unary_operand n (place i) (negation_op (terminal v)) x c e h)))
      (cast_or_post i)
      (λ s a m j d last. d.kind)
      (λ s a m j d last. elim d [ inl x ↦ not_among negations _ _ x.kind negation_not | inr x ↦ post_begins_not s a m j x ])))
      to_plain (λ s a i j d. from_plain s d) (λ a x e. e)

  abbrev LeastRel : ℕ → Rel ExprTree
  LeastRel i = λ s a m j. Operator (among leasts) (λ v. Same (tree.Unary (place i) unaries.Minus (tree.Literal (place m) (literal_kind (terminal v)) v.text))) s a m j

  abbrev MinusRel : ℕ → Rel ExprTree
  MinusRel i = Then (λ s a i j. Unary place s a i j) (λ x. Same (tree.Unary (place i) unaries.Minus x))

  negative_laws : (i : ℕ) → Laws bounds.most (r.negative place bounds nested i) (Either (LeastRel i) (MinusRel i)) After0 (Tall (suc n))
  unfolding r.negative r.least
  negative_laws i = alt (among leasts)
      (start {D = λ m. Operator (among leasts) (λ v. Same (tree.Unary (place i) unaries.Minus (tree.Literal (place m) (literal_kind (terminal v)) v.text)))}
      (λ m. op {Q = λ v. Same (tree.Unary (place i) unaries.Minus (tree.Literal (place m) (literal_kind (terminal v)) v.text))} (among leasts) t.LeastNumber refl least_one.0 (tokens_of leasts least_one.1)
      (λ v. let x = tree.Literal (place m) (literal_kind (terminal v)) v.text in
      limited_then bounds.most bounds.room n small (λ y. pure (tree.Unary (place i) unaries.Minus y)) x (pure_laws bounds.most (tree.Unary (place i) unaries.Minus x) After0 (Tall (suc n)))
      (λ at h s a m j d. tall.tall_unary_operand n (place i) unaries.Minus x a d.tree h))))
      (prefix_laws (tree.Unary (place i) unaries.Minus) (λ at x c e h. tall.tall_unary_operand n (place i) unaries.Minus x c e h))
      (λ s a m j d last. d.kind)
      (λ s a m j d last. unary_not_least _ (unary_begins place s d.first))

  abbrev PlusRel : ℕ → Rel ExprTree
  PlusRel i = Word t.Plus (λ _. Then (λ s a i j. Unary place s a i j) (λ x. Same (tree.Unary (place i) unaries.Plus x)))

  abbrev PrefixRel : ℕ → Rel ExprTree
  PrefixRel i = Operator (among step_ops) (λ v. Then (λ s a i j. Unary place s a i j) (λ x. Same (tree.Prefix (place i) (step_op (terminal v)) x)))

  abbrev UnaryRel : ℕ → Rel ExprTree
  UnaryRel i = Either (Word t.Minus (λ _. Either (LeastRel i) (MinusRel i))) (Either (PlusRel i) (Either (PrefixRel i) (λ s a i j. Plain place s a i j)))

  to_unary : (s : Text) (a : ExprTree) (i j : ℕ) → UnaryRel i s a i j → Unary place s a i j
  to_unary s a i j (inl d) = elim d.rest [
    | inl c ↦ g.least d.kind c.kind c.rest.tree c.rest.at
    | inr c ↦ g.minus d.kind (subst (λ (m : ℕ). Unary place s c.part (suc i) m) (sym c.rest.at) c.first) c.rest.tree
  ]
  to_unary s a i j (inr (inl d)) = g.plus d.kind (subst (λ (m : ℕ). Unary place s d.rest.part (suc i) m) (sym d.rest.rest.at) d.rest.first) d.rest.rest.tree
  to_unary s a i j (inr (inr (inl d))) = g.prefix d.kind (subst (λ (m : ℕ). Unary place s d.rest.part (suc i) m) (sym d.rest.rest.at) d.rest.first) d.rest.rest.tree
  to_unary s a i j (inr (inr (inr d))) = g.plain d

  from_unary : (s : Text) {a : ExprTree} {i j : ℕ} → Unary place s a i j → UnaryRel i s a i j
  from_unary s {j} (g.minus {x} o d is) = inl (record { kind = o; rest = inr (record { part = x; at = j; first = d; rest = record { tree = is; at = refl } }) })
  from_unary s (g.least o o2 is at) = inl (record { kind = o; rest = inl (record { kind = o2; rest = record { tree = is; at = at } }) })
  from_unary s {j} (g.plus {x} o d is) = inr (inl (record { kind = o; rest = record { part = x; at = j; first = d; rest = record { tree = is; at = refl } } }))
  from_unary s {j} (g.prefix {x} o d is) = inr (inr (inl (record { kind = o; rest = record { part = x; at = j; first = d; rest = record { tree = is; at = refl } } })))
  from_unary s (g.plain d) = inr (inr (inr d))

  positive_laws : (i : ℕ) → Laws bounds.most (r.positive place bounds nested i) (PlusRel i) After0 (Tall (suc n))
  unfolding r.positive
  positive_laws i = tok t.Plus refl (λ _. prefix_laws (tree.Unary (place i) unaries.Plus) (λ at x c e h. tall.tall_unary_operand n (place i) unaries.Plus x c e h))

  prefixed_laws : (i : ℕ) → Laws bounds.most (r.prefixed place bounds nested i) (PrefixRel i) After0 (Tall (suc n))
  unfolding r.prefixed
  prefixed_laws i = op {Q = λ v. Then (λ s a i j. Unary place s a i j) (λ x. Same (tree.Prefix (place i) (step_op (terminal v)) x))} (among step_ops) t.Increment refl step_one.0 (tokens_of step_ops step_one.1)
      (λ v. prefix_laws (tree.Prefix (place i) (step_op (terminal v))) (λ at x c e h. tall.tall_prefix_operand n (place i) (step_op (terminal v)) x c e h))

  no_plus : (i : ℕ) (s : Text) (a : ExprTree) (m j : ℕ) → Either (PrefixRel i) (λ s a i j. Plain place s a i j) s a m j → same_terminal (terminal (s m)) t.Plus ≡ false
  no_plus i s a m j (inl d) = (step_not_sign _ d.kind).0
  no_plus i s a m j (inr d) = (plain_not_sign _ (plain_begins place s d)).1

  no_minus : (i : ℕ) (s : Text) (a : ExprTree) (m j : ℕ) → Either (PlusRel i) (Either (PrefixRel i) (λ s a i j. Plain place s a i j)) s a m j → same_terminal (terminal (s m)) t.Minus ≡ false
  no_minus i s a m j (inl d) = is_not _ _ t.Minus d.kind plus_not_minus
  no_minus i s a m j (inr (inl d)) = (step_not_sign _ d.kind).1
  no_minus i s a m j (inr (inr d)) = (plain_not_sign _ (plain_begins place s d)).2

  pub unary_laws : Laws bounds.most (r.unary place bounds nested) (λ s a i j. Unary place s a i j) After0 (Tall (suc n))
  unfolding r.unary
  unary_laws = renamed (λ s a i j. Unary place s a i j) After0
      (start {D = UnaryRel} (λ i. alt (is t.Minus) (tok t.Minus refl (λ _. negative_laws i))
      (alt (is t.Plus) (positive_laws i)
      (alt (among step_ops) (prefixed_laws i) plain_laws (λ s a m j d last. d.kind) (λ s a m j d last. (plain_not_sign _ (plain_begins place s d)).0))
      (λ s a m j d last. is_kind _ _ d.kind)
      (λ s a m j d last. no_plus i s a m j d))
      (λ s a m j d last. is_kind _ _ d.kind)
      (λ s a m j d last. no_minus i s a m j d)))
      to_unary (λ s a i j d. from_unary s d) (λ a x e. e)
