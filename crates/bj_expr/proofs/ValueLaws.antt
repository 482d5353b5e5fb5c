-- The readers of values in braces.
use Rattle.std.proofs.Common.{◌≡◌, ℕ, zero, suc, ◌+◌, ◌<◌, ◌≤◌, inl, inr, false, refl, sym, ap, ◌∙◌, subst, arith, le_refl, List, [], ◌∷◌, ◌++◌}
use Rattle.bj_base.specs.declared.span.Span.{Span}
use Rattle.bj_expr_tree.specs.declared.expr.ExprTree.{ExprTree}
use Rattle.bj_expr.specs.declared.bounds.Bounds.{Bounds}
use Rattle.bj_expr.specs.declared.part.Part.{Part}
use Rattle.bj_expr.specs.declared.part.Part.TheVariants as part
use Rattle.bj_grammar.specs.declared.terminal.Terminal.{Terminal}
use Rattle.bj_grammar.specs.declared.terminal.Terminal.TheVariants as t
use Rattle.bj_grammar.specs.Terminal.{terminal, same_terminal, among}
use Rattle.bj_grammar.specs.Reader.{nowhere, Text, Parser}
use Rattle.bj_expr.specs.Grammar as g
use Rattle.bj_expr.specs.Grammar.{Initializer, Initializers, Values}
use Rattle.bj_expr.specs.Reading as r
use Rattle.bj_expr.specs.Reading.{is}
use Rattle.bj_grammar.proofs.Laws.{Rel, Shape, Laws, Then, Same, Word, Either, same_laws, then_laws, then_shape, word_shape, either_shape, pure_laws, over_laws, is_kind, seq, alt, tok, renamed}
use Rattle.bj_expr.proofs.Facts.{other, stops_expression}
use Rattle.bj_expr.proofs.Begins.{initializer_begins, begins_initializer}
use Rattle.bj_expr.proofs.ExprShape.{initializer_forward}
use Rattle.bj_expr.proofs.Tall as tall
use Rattle.bj_expr.proofs.Tall.{TallList}
use Rattle.bj_expr.proofs.LawLemmas.{same_after, Tall, After, PartRel, AfterPart, is_not, closer, is_closer}

begins_not : (among begins_initializer t.RightBrace ≡ false) × (among begins_initializer t.Comma ≡ false) × (same_terminal t.Comma t.RightBrace ≡ false) × (same_terminal t.RightBrace t.Comma ≡ false)
unfolding same_terminal
begins_not = (refl, refl, refl, refl)

-- the values behind some, up to the closing brace
pub data MoreValues (place : ℕ → Span) (s : Text) : List ExprTree → List ExprTree → ℕ → ℕ → Type 0 where
  no_more : {b a : List ExprTree} {i j : ℕ} → a ≡ b → j ≡ i → MoreValues place s b a i j
  last_comma : {b a : List ExprTree} {i j : ℕ} → terminal (s i) ≡ t.Comma → a ≡ b → j ≡ suc i → MoreValues place s b a i j
  one_more_value : {b a : List ExprTree} {x : ExprTree} {i m j : ℕ} → terminal (s i) ≡ t.Comma → Initializer place s x (suc i) m → MoreValues place s (b ++ x ∷ []) a m j → MoreValues place s b a i j

-- a closing brace is what may stand behind
abbrev BeforeBrace : List ExprTree → Terminal → Type 0
BeforeBrace = λ _ x. x ≡ t.RightBrace

module _ (place : ℕ → Span) (bounds : Bounds) (n : ℕ) (nested : Part → Parser ExprTree)
    (u : (x : Part) → Laws bounds.most (nested x) (PartRel place x) (AfterPart x) (Tall n)) where
  abbrev InitRel : Rel ExprTree
  InitRel = λ s a i j. Initializer place s a i j

  init_laws : Laws bounds.most (nested part.Initializer) InitRel (After stops_expression) (Tall n)
  init_laws = u part.Initializer

  abbrev MoreRel : List ExprTree → Rel (List ExprTree)
  MoreRel b = λ s a i j. MoreValues place s b a i j

  abbrev ValueRel : List ExprTree → Rel (List ExprTree)
  ValueRel b = Then InitRel (λ x. MoreRel (b ++ x ∷ []))

  abbrev CommaRel : List ExprTree → Rel (List ExprTree)
  CommaRel b = Word t.Comma (λ _. Either (Same b) (ValueRel b))

  more_forward : (s : Text) {b a : List ExprTree} {i j : ℕ} → MoreValues place s b a i j → i ≤ j
  more_forward s (no_more e at) = omega arith
  more_forward s (last_comma o e at) = omega arith
  more_forward s (one_more_value {x} {i} {m} o d y) = let h = init_laws.shape.forward s x (suc i) m d in let k = more_forward s y in omega arith

  more_frame : (s v : Text) {b a : List ExprTree} {i j : ℕ} → ((x : ℕ) → x < j → v x ≡ s x) → MoreValues place s b a i j → MoreValues place v b a i j
  more_frame s v e (no_more is at) = no_more is at
  more_frame s v {i} e (last_comma o is at) = last_comma (ap terminal (e i (omega arith)) ∙ o) is at
  more_frame s v {i} e (one_more_value {x} {m} o d y) =
      let h : suc i ≤ m = init_laws.shape.forward s x (suc i) m d in
      let k = more_forward s y in
      one_more_value (ap terminal (e i (omega arith)) ∙ o) (init_laws.shape.frame s v x (suc i) m (λ z below. e z (omega arith)) d) (more_frame s v e y)

  more_shape : (b : List ExprTree) → Shape (MoreRel b)
  more_shape b = record {
    forward = λ s a i j d. more_forward s d;
    frame = λ s v a i j e d. more_frame s v e d;
    some = λ s i. record { text = s; tree = b; after = i; same = λ x h. refl; beyond = le_refl i; stands = no_more refl refl };
  }

  comma_shape : (b : List ExprTree) → Shape (CommaRel b)
  comma_shape b = word_shape t.Comma refl (λ _. Either (Same b) (ValueRel b))
      (λ _. either_shape (Same b) (ValueRel b) (pure_laws 0 b BeforeBrace (TallList n)).shape (then_shape InitRel (λ x. MoreRel (b ++ x ∷ [])) init_laws.shape (λ x. more_shape (b ++ x ∷ []))))

  to_more : (b : List ExprTree) (s : Text) (a : List ExprTree) (i j : ℕ) → Either (CommaRel b) (Same b) s a i j → MoreValues place s b a i j
  to_more b s a i j (inl d) = elim d.rest [ inl c ↦ last_comma d.kind c.tree c.at | inr c ↦ one_more_value d.kind c.first c.rest ]
  to_more b s a i j (inr d) = no_more d.tree d.at

  from_more : (s : Text) {b a : List ExprTree} {i j : ℕ} → MoreValues place s b a i j → Either (CommaRel b) (Same b) s a i j
  from_more s (no_more e at) = inr (record { tree = e; at = at })
  from_more s (last_comma o e at) = inl (record { kind = o; rest = inl (record { tree = e; at = at }) })
  from_more s (one_more_value {x} {m} o d y) = inl (record { kind = o; rest = inr (record { part = x; at = m; first = d; rest = y }) })

  more_grows : (s : Text) {b a : List ExprTree} {i j : ℕ} {p : Span} → MoreValues place s b a i j → TallList n p b → TallList n p a
  more_grows s {p} (no_more e at) h = subst (TallList n p) (sym e) h
  more_grows s {p} (last_comma o e at) h = subst (TallList n p) (sym e) h
  more_grows s {b} (one_more_value {x} o d y) h = more_grows s y (tall.tall_before n b x (b ++ x ∷ []) refl h)

  -- what stands behind an initializer may do so
  after_value : (s : Text) {b a : List ExprTree} {i j : ℕ} → MoreValues place s b a i j → terminal (s j) ≡ t.RightBrace → stops_expression (terminal (s i)) ≡ false
  after_value s {i} (no_more e at) last = closer _ t.RightBrace (subst (λ (m : ℕ). terminal (s m) ≡ t.RightBrace) at last) is_closer.4
  after_value s (last_comma o e at) last = closer _ t.Comma o is_closer.2
  after_value s (one_more_value o d y) last = closer _ t.Comma o is_closer.2

  no_comma : (b : List ExprTree) (s : Text) (a : List ExprTree) (i j : ℕ) → Same b s a i j → terminal (s j) ≡ t.RightBrace → same_terminal (terminal (s i)) t.Comma ≡ false
  no_comma b s a i j d last = is_not _ _ t.Comma (same_after (λ x. x ≡ t.RightBrace) s b a i j d last) begins_not.3

  value_not : (s : Text) {a : ExprTree} {i j : ℕ} → Initializer place s a i j → same_terminal (terminal (s i)) t.RightBrace ≡ false
  value_not s d = other (among begins_initializer) _ t.RightBrace begins_not.0 (initializer_begins place s d)

  more_values_laws : (k : ℕ) → k ≤ bounds.most → (b : List ExprTree) → Laws k (r.more_values place bounds nested k b) (MoreRel b) BeforeBrace (TallList n)
  unfolding r.more_values
  more_values_laws zero le b = renamed (MoreRel b) BeforeBrace
      (alt {P = CommaRel b} (is t.Comma) (over_laws zero (λ _. nowhere) (CommaRel b) BeforeBrace (TallList n) (comma_shape b) (λ s a i j d. let h = (comma_shape b).forward s a i j d in inr (omega arith)))
      (pure_laws zero b BeforeBrace (TallList n))
      (λ s a i j d last. is_kind _ _ d.kind) (λ s a i j d last. no_comma b s a i j d last))
      (λ s a i j d. to_more b s a i j d) (λ s a i j d. from_more s d) (λ a x e. e)
  more_values_laws (suc k) le b = renamed (MoreRel b) BeforeBrace
      (alt {P = CommaRel b} (is t.Comma)
      (tok t.Comma refl (λ _. alt (is t.RightBrace) (pure_laws (suc k) b BeforeBrace (TallList n))
      (then_laws (suc k) k (nested part.Initializer) InitRel (After stops_expression) (Tall n) (λ x. r.more_values place bounds nested k (b ++ x ∷ [])) (λ x. MoreRel (b ++ x ∷ [])) BeforeBrace (TallList n)
      (same_laws bounds.most (suc k) (nested part.Initializer) InitRel (After stops_expression) (Tall n) InitRel (After stops_expression) (Tall n) init_laws (λ s a i j d. d) (λ s a i j d. d) (λ a x h. h) (λ a at h. h) le)
      (λ x. more_values_laws k (omega arith) (b ++ x ∷ []))
      (λ s x m a j d last. after_value s d last)
      (λ s x m a j d at h. more_grows s d (tall.tall_end n b x (b ++ x ∷ []) refl h))
      (λ s x i m j d h. strict s i m j d h))
      (λ s a i j d last. is_kind _ _ (same_after (λ x. x ≡ t.RightBrace) s b a i j d last))
      (λ s a i j d last. value_not s d.first)))
      (pure_laws (suc k) b BeforeBrace (TallList n))
      (λ s a i j d last. is_kind _ _ d.kind) (λ s a i j d last. no_comma b s a i j d last))
      (λ s a i j d. to_more b s a i j d) (λ s a i j d. from_more s d) (λ a x e. e)
    where
      strict : (s : Text) {x : ExprTree} (i m j : ℕ) → Initializer place s x i m → k + m ≤ j → suc k + i ≤ j
      strict s i m j d h = let f = initializer_forward place s d in omega arith

  -- ---- between braces

  abbrev InsideRel : Rel (List ExprTree)
  InsideRel = Either (Same []) (Either (Word t.Comma (λ _. Same [])) (Then InitRel (λ x. MoreRel (x ∷ []))))

  inside_laws : Laws bounds.most (r.inside_braces place bounds nested) InsideRel BeforeBrace (TallList n)
  unfolding r.inside_braces
  inside_laws = alt (is t.RightBrace) (pure_laws bounds.most [] BeforeBrace (TallList n))
      (alt (is t.Comma) (tok t.Comma refl (λ _. pure_laws bounds.most [] BeforeBrace (TallList n)))
      (seq init_laws (λ x. more_values_laws bounds.most (le_refl bounds.most) (x ∷ []))
      (λ s x m a j d last. after_value s d last)
      (λ s x m a j d at h. more_grows s d (tall.tall_one n x (x ∷ []) refl h)))
      (λ s a i j d last. is_kind _ _ d.kind)
      (λ s a i j d last. other (among begins_initializer) _ t.Comma begins_not.1 (initializer_begins place s d.first)))
      (λ s a i j d last. is_kind _ _ (same_after (λ x. x ≡ t.RightBrace) s [] a i j d last))
      (λ s a i j d last. elim d [ inl c ↦ is_not _ _ t.RightBrace c.kind begins_not.2 | inr c ↦ value_not s c.first ])

  abbrev BracesRel : Rel (List ExprTree)
  BracesRel = Word t.LeftBrace (λ _. Then InsideRel (λ all. Word t.RightBrace (λ _. Same all)))

  -- values that go on are initializers up to there, and a comma or none
  pub data Listed (s : Text) (a : List ExprTree) (i j : ℕ) : Type 0 where
    listed : Initializers place s a i j → Listed s a i j
    listed_comma : {m : ℕ} → Initializers place s a i m → terminal (s m) ≡ t.Comma → j ≡ suc m → Listed s a i j

  list_more : (s : Text) (start : ℕ) {b a : List ExprTree} {i j : ℕ} → Initializers place s b start i → MoreValues place s b a i j → Listed s a start j
  list_more s start {b} {a} {i} {j} d (no_more e at) = listed (subst (λ (m : ℕ). Initializers place s a start m) (sym at) (subst (λ (z : List ExprTree). Initializers place s z start i) (sym e) d))
  list_more s start {b} {a} {i} d (last_comma o e at) = listed_comma (subst (λ (z : List ExprTree). Initializers place s z start i) (sym e) d) o at
  list_more s start d (one_more_value o y z) = list_more s start (g.next d o y refl) z

  -- the first of some initializers, and those behind it
  pub record First (s : Text) (a : List ExprTree) (i j : ℕ) : Type 0 where
    pub value : ExprTree
    pub at : ℕ
    pub first : Initializer place s value i at
    pub rest : MoreValues place s (value ∷ []) a at j

  first_of : (s : Text) {b a : List ExprTree} {i m j : ℕ} → Initializers place s b i m → MoreValues place s b a m j → First s a i j
  first_of s {a} {m} {j} (g.first {x} d e) y = record { value = x; at = m; first = d; rest = subst (λ (z : List ExprTree). MoreValues place s z a m j) e y }
  first_of s {a} {m} {j} (g.next {x} d o y e) z = first_of s d (one_more_value o y (subst (λ (c : List ExprTree). MoreValues place s c a m j) e z))

  to_values : (s : Text) (a : List ExprTree) (i j : ℕ) → BracesRel s a i j → Values place s a i j
  to_values s a i j d = of d.rest.first
    where
      end : terminal (s d.rest.at) ≡ t.RightBrace
      end = d.rest.rest.kind

      is : a ≡ d.rest.part
      is = d.rest.rest.rest.tree

      of_list : Listed s d.rest.part (suc i) d.rest.at → Values place s a i j
      of_list (listed y) = g.values d.kind (subst (λ (z : List ExprTree). Initializers place s z (suc i) d.rest.at) (sym is) y) end d.rest.rest.rest.at
      of_list (listed_comma {m} y o at) = g.values_comma d.kind (subst (λ (z : List ExprTree). Initializers place s z (suc i) m) (sym is) y) o
          (subst (λ (k : ℕ). terminal (s k) ≡ t.RightBrace) at end) (d.rest.rest.rest.at ∙ ap suc at)

      of : InsideRel s d.rest.part (suc i) d.rest.at → Values place s a i j
      of (inl c) = g.no_values d.kind (subst (λ (k : ℕ). terminal (s k) ≡ t.RightBrace) c.at end) (is ∙ c.tree) (d.rest.rest.rest.at ∙ ap suc c.at)
      of (inr (inl c)) = g.only_comma d.kind c.kind (subst (λ (k : ℕ). terminal (s k) ≡ t.RightBrace) c.rest.at end) (is ∙ c.rest.tree) (d.rest.rest.rest.at ∙ ap suc c.rest.at)
      of (inr (inr c)) = of_list (list_more s (suc i) (g.first c.first refl) c.rest)

  in_braces : (s : Text) (a : List ExprTree) (i m j : ℕ) → terminal (s i) ≡ t.LeftBrace → InsideRel s a (suc i) m → terminal (s m) ≡ t.RightBrace → j ≡ suc m → BracesRel s a i j
  in_braces s a i m j o d o2 at = record { kind = o; rest = record { part = a; at = m; first = d; rest = record { kind = o2; rest = record { tree = refl; at = at } } } }

  from_values : (s : Text) {a : List ExprTree} {i j : ℕ} → Values place s a i j → BracesRel s a i j
  from_values s {a} {i} {j} (g.no_values o o2 e at) = in_braces s a i (suc i) j o (inl (record { tree = e; at = refl })) o2 at
  from_values s {a} {i} {j} (g.only_comma o o2 o3 e at) = in_braces s a i (suc (suc i)) j o (inr (inl (record { kind = o2; rest = record { tree = e; at = refl } }))) o3 at
  from_values s {a} {i} {j} (g.values {m} o d o2 at) =
      let f = first_of s d (no_more refl refl) in
      in_braces s a i m j o (inr (inr (record { part = f.value; at = f.at; first = f.first; rest = f.rest }))) o2 at
  from_values s {a} {i} {j} (g.values_comma {m} o d o2 o3 at) =
      let f = first_of s d (last_comma o2 refl refl) in
      in_braces s a i (suc m) j o (inr (inr (record { part = f.value; at = f.at; first = f.first; rest = f.rest }))) o3 at

  pub values_laws : (E : List ExprTree → Terminal → Type 0) → Laws bounds.most (r.values place bounds nested) (λ s a i j. Values place s a i j) E (TallList n)
  unfolding r.values
  values_laws E = renamed (λ s a i j. Values place s a i j) E
      (tok t.LeftBrace refl (λ _. seq inside_laws (λ all. tok t.RightBrace refl (λ _. pure_laws bounds.most all E (TallList n))) (λ s all m b j d last. d.kind)
      (λ s all m b j d at h. subst (TallList n at) (sym d.rest.tree) h)))
      to_values (λ s a i j d. from_values s d) (λ a x e. e)
