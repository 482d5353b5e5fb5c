-- The readers of the sizes of a new array, and of the pairs of brackets behind them.
use Rattle.std.proofs.Common.{◌≡◌, ℕ, zero, suc, ◌+◌, ◌<◌, ◌≤◌, ◌⊎◌, inl, inr, false, refl, sym, ap, ◌∙◌, subst, arith, le_refl, List, [], ◌∷◌, ◌++◌}
use Rattle.bj_base.specs.declared.span.Span.{Span}
use Rattle.bj_expr_tree.specs.declared.expr.ExprTree.{ExprTree}
use Rattle.bj_expr.specs.declared.bounds.Bounds.{Bounds}
use Rattle.bj_expr.specs.declared.part.Part.{Part}
use Rattle.bj_expr.specs.declared.part.Part.TheVariants as part
use Rattle.bj_grammar.specs.declared.terminal.Terminal.{Terminal}
use Rattle.bj_grammar.specs.declared.terminal.Terminal.TheVariants as t
use Rattle.bj_grammar.specs.Terminal.{terminal, same_terminal, among}
use Rattle.bj_grammar.specs.Reader.{nowhere, Text, Parser, ◌>>=◌, pure, sign}
use Rattle.bj_expr.specs.Grammar as g
use Rattle.bj_expr.specs.Grammar.{Expression, Sizes, Dims}
use Rattle.bj_expr.specs.Reading as r
use Rattle.bj_expr.specs.Reading.{is}
use Rattle.bj_grammar.proofs.Laws.{Rel, Shape, Laws, Then, Same, Word, Either, done, more, same_laws, then_laws, then_shape, word_shape, either_shape, pure_laws, over_laws, is_kind, seq, alt, tok, renamed}
use Rattle.bj_expr.proofs.Facts.{other, stops_expression, begins_unary}
use Rattle.bj_expr.proofs.Begins.{expression_begins}
use Rattle.bj_expr.proofs.ExprShape.{expression_forward}
use Rattle.bj_expr.proofs.Tall as tall
use Rattle.bj_expr.proofs.Tall.{TallList}
use Rattle.bj_expr.proofs.LawLemmas.{same_after, Never, Tall, After, PartRel, AfterPart, closer, is_closer}
use Rattle.bj_expr.proofs.TypeLaws.{AfterType, Pairs, pairs_laws, to_dims, from_dims}

pub unary_right_bracket : among begins_unary t.RightBracket ≡ false
unfolding same_terminal
unary_right_bracket = refl

-- sizes, and how many pairs of brackets without one follow them
abbrev pub Sized : Type 0
Sized = List ExprTree × ℕ

-- the sizes behind some, and the pairs behind them
pub data MoreSizes (place : ℕ → Span) (s : Text) : List ExprTree → Sized → ℕ → ℕ → Type 0 where
  no_more : {b : List ExprTree} {a : Sized} {i j : ℕ} → a ≡ (b, 0) → j ≡ i → MoreSizes place s b a i j
  only_pairs : {b : List ExprTree} {a : Sized} {d i j : ℕ} → terminal (s i) ≡ t.LeftBracket → terminal (s (suc i)) ≡ t.RightBracket → Pairs 1 s d (suc (suc i)) j → a ≡ (b, d) → MoreSizes place s b a i j
  one_more_size : {b : List ExprTree} {a : Sized} {x : ExprTree} {i m j : ℕ} → terminal (s i) ≡ t.LeftBracket → Expression place s x (suc i) m → terminal (s m) ≡ t.RightBracket
      → MoreSizes place s (b ++ x ∷ []) a (suc m) j → MoreSizes place s b a i j

abbrev pub TallSizes : ℕ → Span → Sized → Type 0
TallSizes n p a = TallList n p a.0

abbrev AfterSizes : Sized → Terminal → Type 0
AfterSizes = λ _ x. AfterType x

module _ (place : ℕ → Span) (bounds : Bounds) (n : ℕ) (nested : Part → Parser ExprTree)
    (u : (x : Part) → Laws bounds.most (nested x) (PartRel place x) (AfterPart x) (Tall n)) where
  abbrev WholeRel : Rel ExprTree
  WholeRel = λ s a i j. Expression place s a i j

  whole : Laws bounds.most (nested part.Expression) WholeRel (After stops_expression) (Tall n)
  whole = u part.Expression

  abbrev MoreRel : List ExprTree → Rel Sized
  MoreRel b = λ s a i j. MoreSizes place s b a i j

  abbrev PairsRel : List ExprTree → Rel Sized
  PairsRel b = Word t.RightBracket (λ _. Then (Pairs 1) (λ d. Same (b, d)))

  abbrev SizeRel : List ExprTree → Rel Sized
  SizeRel b = Then WholeRel (λ x. Word t.RightBracket (λ _. MoreRel (b ++ x ∷ [])))

  abbrev BracketRel : List ExprTree → Rel Sized
  BracketRel b = Word t.LeftBracket (λ _. Either (PairsRel b) (SizeRel b))

  pairs_shape : Shape (Pairs 1)
  pairs_shape = (pairs_laws 0 1).shape

  more_forward : (s : Text) {b : List ExprTree} {a : Sized} {i j : ℕ} → MoreSizes place s b a i j → i ≤ j
  more_forward s (no_more e at) = omega arith
  more_forward s {i} {j} (only_pairs {d} o o2 p e) = let h = pairs_shape.forward s d (suc (suc i)) j p in omega arith
  more_forward s (one_more_size o d o2 y) = let h = expression_forward place s d in let k = more_forward s y in omega arith

  more_frame : (s v : Text) {b : List ExprTree} {a : Sized} {i j : ℕ} → ((x : ℕ) → x < j → v x ≡ s x) → MoreSizes place s b a i j → MoreSizes place v b a i j
  more_frame s v e (no_more is at) = no_more is at
  more_frame s v {i} {j} e (only_pairs {d} o o2 p is) =
      let h : suc (suc i) ≤ j = pairs_shape.forward s d (suc (suc i)) j p in
      only_pairs (ap terminal (e i (omega arith)) ∙ o) (ap terminal (e (suc i) (omega arith)) ∙ o2) (pairs_shape.frame s v d (suc (suc i)) j e p) is
  more_frame s v {i} e (one_more_size {x} {m} o d o2 y) =
      let h : suc i < m = expression_forward place s d in
      let k = more_forward s y in
      one_more_size (ap terminal (e i (omega arith)) ∙ o) (whole.shape.frame s v x (suc i) m (λ z below. e z (omega arith)) d) (ap terminal (e m (omega arith)) ∙ o2) (more_frame s v e y)

  more_shape : (b : List ExprTree) → Shape (MoreRel b)
  more_shape b = record {
    forward = λ s a i j d. more_forward s d;
    frame = λ s v a i j e d. more_frame s v e d;
    some = λ s i. record { text = s; tree = (b, 0); after = i; same = λ x h. refl; beyond = le_refl i; stands = no_more refl refl };
  }

  bracket_shape : (b : List ExprTree) → Shape (BracketRel b)
  bracket_shape b = word_shape t.LeftBracket refl (λ _. Either (PairsRel b) (SizeRel b))
      (λ _. either_shape (PairsRel b) (SizeRel b)
      (word_shape t.RightBracket refl (λ _. Then (Pairs 1) (λ d. Same (b, d))) (λ _. then_shape (Pairs 1) (λ d. Same (b, d)) pairs_shape (λ d. (pure_laws 0 (b, d) AfterSizes (TallSizes n)).shape)))
      (then_shape WholeRel (λ x. Word t.RightBracket (λ _. MoreRel (b ++ x ∷ []))) whole.shape (λ x. word_shape t.RightBracket refl (λ _. MoreRel (b ++ x ∷ [])) (λ _. more_shape (b ++ x ∷ [])))))

  to_more : (b : List ExprTree) (s : Text) (a : Sized) (i j : ℕ) → Either (BracketRel b) (Same (b, 0)) s a i j → MoreSizes place s b a i j
  to_more b s a i j (inl d) = elim d.rest [
    | inl c ↦ only_pairs d.kind c.kind (subst (λ (m : ℕ). Pairs 1 s c.rest.part (suc (suc i)) m) (sym c.rest.rest.at) c.rest.first) c.rest.rest.tree
    | inr c ↦ one_more_size d.kind c.first c.rest.kind c.rest.rest
  ]
  to_more b s a i j (inr d) = no_more d.tree d.at

  from_more : (s : Text) {b : List ExprTree} {a : Sized} {i j : ℕ} → MoreSizes place s b a i j → Either (BracketRel b) (Same (b, 0)) s a i j
  from_more s (no_more e at) = inr (record { tree = e; at = at })
  from_more s {j} (only_pairs {d} o o2 p e) = inl (record { kind = o; rest = inl (record { kind = o2; rest = record { part = d; at = j; first = p; rest = record { tree = e; at = refl } } }) })
  from_more s (one_more_size {x} {m} o d o2 y) = inl (record { kind = o; rest = inr (record { part = x; at = m; first = d; rest = record { kind = o2; rest = y } }) })

  pub more_grows : (s : Text) {b : List ExprTree} {a : Sized} {i j : ℕ} {p : Span} → MoreSizes place s b a i j → TallList n p b → TallSizes n p a
  more_grows s {p} (no_more e at) h = subst (TallSizes n p) (sym e) h
  more_grows s {p} (only_pairs o o2 q e) h = subst (TallSizes n p) (sym e) h
  more_grows s {b} (one_more_size {x} o d o2 y) h = more_grows s y (tall.tall_before n b x (b ++ x ∷ []) refl h)

  pairs_here : (k : ℕ) (b : List ExprTree) → Laws k (r.pairs bounds.most 1) (Pairs 1) (λ _ x. AfterType x) Never → Laws k (sign t.RightBracket (r.pairs bounds.most 1 >>= λ d. pure (b, d))) (PairsRel b) AfterSizes (TallSizes n)
  pairs_here k b w = tok t.RightBracket refl (λ _. seq w (λ d. pure_laws k (b, d) AfterSizes (TallSizes n))
      (λ s d m a j c last. same_after AfterType s (b, d) a m j c last) (λ s d m a j c at h. absurd h))

  no_bracket : (b : List ExprTree) (s : Text) (a : Sized) (i j : ℕ) → Same (b, 0) s a i j → AfterType (terminal (s j)) → AfterType (terminal (s i))
  no_bracket b s a i j d last = same_after AfterType s (b, 0) a i j d last

  pub more_sizes_laws : (k : ℕ) → k ≤ bounds.most → (b : List ExprTree) → Laws k (r.more_sizes place bounds nested k b) (λ s a i j. MoreSizes place s b a i j) (λ _ x. AfterType x) (TallSizes n)
  unfolding r.more_sizes
  more_sizes_laws zero le b = renamed (MoreRel b) AfterSizes
      (alt {P = BracketRel b} (is t.LeftBracket) (over_laws zero (λ _. nowhere) (BracketRel b) AfterSizes (TallSizes n) (bracket_shape b) (λ s a i j d. let h = (bracket_shape b).forward s a i j d in inr (omega arith)))
      (pure_laws zero (b, 0) AfterSizes (TallSizes n))
      (λ s a i j d last. is_kind _ _ d.kind) (λ s a i j d last. no_bracket b s a i j d last))
      (λ s a i j d. to_more b s a i j d) (λ s a i j d. from_more s d) (λ a x e. e)
  more_sizes_laws (suc k) le b = renamed (MoreRel b) AfterSizes
      (alt {P = BracketRel b} (is t.LeftBracket)
      (tok t.LeftBracket refl (λ _. alt (is t.RightBracket)
      (pairs_here (suc k) b
      (same_laws bounds.most (suc k) (r.pairs bounds.most 1) (Pairs 1) (λ _ x. AfterType x) Never (Pairs 1) (λ _ x. AfterType x) Never (pairs_laws bounds.most 1) (λ s a i j d. d) (λ s a i j d. d) (λ a x h. h) (λ a at h. h) le))
      (then_laws (suc k) k (nested part.Expression) WholeRel (After stops_expression) (Tall n) (λ x. sign t.RightBracket (r.more_sizes place bounds nested k (b ++ x ∷ [])))
      (λ x. Word t.RightBracket (λ _. MoreRel (b ++ x ∷ []))) AfterSizes (TallSizes n)
      (same_laws bounds.most (suc k) (nested part.Expression) WholeRel (After stops_expression) (Tall n) WholeRel (After stops_expression) (Tall n) whole (λ s a i j d. d) (λ s a i j d. d) (λ a x h. h) (λ a at h. h) le)
      (λ x. tok t.RightBracket refl (λ _. more_sizes_laws k (omega arith) (b ++ x ∷ [])))
      (λ s x m a j d last. closer _ t.RightBracket d.kind is_closer.1)
      (λ s x m a j d at h. more_grows s d.rest (tall.tall_end n b x (b ++ x ∷ []) refl h))
      (λ s x i m j d h. strict s i m j d h))
      (λ s a i j d last. is_kind _ _ d.kind)
      (λ s a i j d last. other (among begins_unary) _ t.RightBracket unary_right_bracket (expression_begins place s d.first))))
      (pure_laws (suc k) (b, 0) AfterSizes (TallSizes n))
      (λ s a i j d last. is_kind _ _ d.kind) (λ s a i j d last. no_bracket b s a i j d last))
      (λ s a i j d. to_more b s a i j d) (λ s a i j d. from_more s d) (λ a x e. e)
    where
      strict : (s : Text) {x : ExprTree} (i m j : ℕ) → Expression place s x i m → k + m ≤ j → suc k + i ≤ j
      strict s i m j d h = let f = expression_forward place s d in omega arith

module _ (place : ℕ → Span) where
  -- the sizes that stand there, and the pairs behind them
  pub record Both (s : Text) (a : Sized) (i j : ℕ) : Type 0 where
    pub at : ℕ
    pub sizes : Sizes place s a.0 i at
    pub pairs : Dims s a.1 at j

  pub bracketed : (s : Text) (d i j : ℕ) → terminal (s i) ≡ t.LeftBracket → terminal (s (suc i)) ≡ t.RightBracket → Pairs 1 s d (suc (suc i)) j → Dims s d i j
  bracketed s d i j o o2 p = to_dims s d i j (more (record { kind = o; rest = record { kind = o2; rest = record { tree = refl; at = refl } } }) p)

  pub both_of : (s : Text) (start : ℕ) {b : List ExprTree} {a : Sized} {i j : ℕ} → Sizes place s b start i → MoreSizes place s b a i j → Both s a start j
  both_of s start {i} y (no_more e at) = record { at = i; sizes = subst (λ (z : Sized). Sizes place s z.0 start i) (sym e) y; pairs = g.no_pair (ap (λ (z : Sized). z.1) e) at }
  both_of s start {i} {j} y (only_pairs {d} o o2 p e) = record {
    at = i;
    sizes = subst (λ (z : Sized). Sizes place s z.0 start i) (sym e) y;
    pairs = subst (λ (z : Sized). Dims s z.1 i j) (sym e) (bracketed s d i j o o2 p);
  }
  both_of s start y (one_more_size o d o2 z) = both_of s start (g.next_size y o d o2 refl refl) z

  -- the first of some sizes, and what stands behind it
  pub record FirstSize (s : Text) (a : Sized) (i j : ℕ) : Type 0 where
    pub value : ExprTree
    pub at : ℕ
    pub opened : terminal (s i) ≡ t.LeftBracket
    pub first : Expression place s value (suc i) at
    pub closed : terminal (s at) ≡ t.RightBracket
    pub rest : MoreSizes place s (value ∷ []) a (suc at) j

  pub first_size : (s : Text) {b : List ExprTree} {a : Sized} {i m j : ℕ} → Sizes place s b i m → MoreSizes place s b a m j → FirstSize s a i j
  first_size s {a} {m = end} {j} (g.size {x} {m} o d o2 e at) y = record {
    value = x;
    at = m;
    opened = o;
    first = d;
    closed = o2;
    rest = subst (λ (k : ℕ). MoreSizes place s (x ∷ []) a k j) at (subst (λ (z : List ExprTree). MoreSizes place s z a end j) e y);
  }
  first_size s {a} {m = end} {j} (g.next_size {b} {x} {n} d o y o2 e at) z =
      first_size s d (one_more_size o y o2 (subst (λ (k : ℕ). MoreSizes place s (b ++ x ∷ []) a k j) at (subst (λ (c : List ExprTree). MoreSizes place s c a end j) e z)))

  -- pairs are none, or one and those behind it
  pub pairs_after : (s : Text) {d i j : ℕ} → Pairs 0 s d i j → ((d ≡ 0) × (j ≡ i)) ⊎ ((terminal (s i) ≡ t.LeftBracket) × (terminal (s (suc i)) ≡ t.RightBracket) × Pairs 1 s d (suc (suc i)) j)
  pairs_after s (done e at) = inl (e, at)
  pairs_after s {d} {j} (more {y} {m} q p) =
      inr (q.kind, q.rest.kind, subst (λ (k : ℕ). Pairs 1 s d k j) q.rest.rest.at (subst (λ (k : ℕ). Pairs k s d m j) q.rest.rest.tree p))

  pub dims_more : (s : Text) (b : List ExprTree) {d i j : ℕ} → Dims s d i j → MoreSizes place s b (b, d) i j
  dims_more s b p = elim (pairs_after s (from_dims s p)) [ inl e ↦ no_more (ap (λ (z : ℕ). (b, z)) e.0) e.1 | inr c ↦ only_pairs c.0 c.1 c.2 refl ]
