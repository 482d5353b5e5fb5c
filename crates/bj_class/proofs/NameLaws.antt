-- The readers of names and of imports.
use Rattle.std.proofs.Common.{◌≡◌, ℕ, zero, suc, ◌<◌, ◌≤◌, inl, inr, Bool, true, false, refl, sym, ap, ◌∙◌, subst, arith, le_refl, List, [], ◌∷◌, ◌++◌}
use Rattle.bj_base.specs.declared.span.Span.{Span}
use Rattle.bj_expr_tree.specs.declared.types.NamedPlace.{NamedPlace}
use Rattle.bj_tree.specs.declared.class.ImportTree.{ImportTree}
use Rattle.bj_grammar.specs.declared.terminal.Terminal.{Terminal}
use Rattle.bj_grammar.specs.declared.terminal.Terminal.TheVariants as t
use Rattle.bj_grammar.specs.Terminal.{terminal, same_terminal}
use Rattle.bj_grammar.specs.Reader.{Text, ◌>>=◌, pure, nowhere, sign}
use Rattle.bj_grammar.proofs.Terminals.{is_token}
use Rattle.bj_grammar.proofs.Laws.{Rel, Shape, Laws, Then, Same, Word, Either, Steps, done, same_laws, then_laws, then_shape, word_shape, either_shape, pure_laws, over_laws, steps_end, steps_fold, is_kind, seq, alt, tok, start, renamed, rep}
use Rattle.bj_expr.specs.Reading.{is}
use Rattle.bj_stmt.specs.Grammar.{named}
use Rattle.bj_stmt.specs.Reading.{name_at}
use Rattle.bj_stmt.proofs.Expressions.{Never}
use Rattle.bj_stmt.proofs.Leftmost.{is_not}
use Rattle.bj_stmt.proofs.Small.{Any, NameAt, name_laws, same_after}
use Rattle.bj_class.specs.Grammar as g
use Rattle.bj_class.specs.Grammar.{MaybeStatic, NamesBy, MaybeNames, MaybeAll, Import, Imports}
use Rattle.bj_class.specs.Reading as r
use Rattle.bj_class.proofs.Needed.{AfterNames}

-- the next token is not this one
abbrev pub NotNext : {A : Type 0} → Terminal → A → Terminal → Type 0
NotNext k = λ _ x. same_terminal x k ≡ false

-- ---- `static`

module _ (most : ℕ) where
  to_static : (s : Text) (a : Bool) (i j : ℕ) → Either (Word t.Static (λ _. Same true)) (Same false) s a i j → MaybeStatic s a i j
  to_static s a i j (inl d) = g.static d.kind d.rest.tree d.rest.at
  to_static s a i j (inr d) = g.not_static d.tree d.at

  from_static : (s : Text) {a : Bool} {i j : ℕ} → MaybeStatic s a i j → Either (Word t.Static (λ _. Same true)) (Same false) s a i j
  from_static s (g.not_static e at) = inr (record { tree = e; at = at })
  from_static s (g.static o e at) = inl (record { kind = o; rest = record { tree = e; at = at } })

  pub static_laws : Laws most r.maybe_static (λ s a i j. MaybeStatic s a i j) (NotNext t.Static) Never
  unfolding r.maybe_static
  static_laws = renamed (λ s a i j. MaybeStatic s a i j) (NotNext t.Static)
      (alt (is t.Static) (tok t.Static refl (λ _. pure_laws most true (NotNext t.Static) Never)) (pure_laws most false (NotNext t.Static) Never)
      (λ s a i j d last. is_kind _ _ d.kind)
      (λ s a i j d last. same_after (λ x. same_terminal x t.Static ≡ false) s false a i j d last))
      to_static (λ s a i j d. from_static s d) (λ a x e. e)

-- the names behind some, each after a dot, and whether `.*` ends them
pub data MoreNames (place : ℕ → Span) (s : Text) : List NamedPlace → List NamedPlace × Bool → ℕ → ℕ → Type 0 where
  no_more : {b : List NamedPlace} {a : List NamedPlace × Bool} {i j : ℕ} → a ≡ (b, false) → j ≡ i → MoreNames place s b a i j
  all_of : {b : List NamedPlace} {a : List NamedPlace × Bool} {i j : ℕ} → terminal (s i) ≡ t.Dot → terminal (s (suc i)) ≡ t.Times → a ≡ (b, true) → j ≡ suc (suc i) → MoreNames place s b a i j
  one_more_name : {b : List NamedPlace} {a : List NamedPlace × Bool} {i j : ℕ} → terminal (s i) ≡ t.Dot → terminal (s (suc i)) ≡ t.Word
      → MoreNames place s (b ++ named (place (suc i)) (s (suc i)) ∷ []) a (suc (suc i)) j → MoreNames place s b a i j

-- what stands between `import` and its semicolon, behind `static`
pub record Imported (place : ℕ → Span) (s : Text) (a : List NamedPlace × Bool) (i j : ℕ) : Type 0 where
  pub at : ℕ
  pub names : NamesBy t.Dot place s a.0 i at
  pub all : MaybeAll s a.1 at j

sign_facts : (same_terminal t.Word t.Times ≡ false) × (same_terminal t.Semicolon t.Dot ≡ false) × (same_terminal t.Word t.Static ≡ false)
unfolding same_terminal
sign_facts = (refl, refl, refl)

module _ (place : ℕ → Span) (most : ℕ) where
  -- ---- a name

  abbrev pub NameRel : Rel NamedPlace
  NameRel = λ s a i j. NameAt place most i s a i j

  pub a_name : (s : Text) (i : ℕ) → terminal (s i) ≡ t.Word → NameRel s (named (place i) (s i)) i (suc i)
  a_name s i o = record { kind = o; rest = record { tree = refl; at = refl } }

  pub any_name : Laws most (name_at place most) NameRel Any Never
  any_name = name_laws place most Any Never

  -- ---- names with commas between them

  abbrev NamesRel : Rel (List NamedPlace)
  NamesRel = λ s a i j. NamesBy t.Comma place s a i j

  abbrev One : Rel (List NamedPlace)
  One = Then NameRel (λ x. Same (x ∷ []))

  abbrev Comma : List NamedPlace → Rel (List NamedPlace)
  Comma b = Word t.Comma (λ _. Then NameRel (λ x. Same (b ++ x ∷ [])))

  to_names : (s : Text) (a : List NamedPlace) (i j : ℕ) → Then One (λ b v c m k. Steps Comma v b c m k) s a i j → NamesBy t.Comma place s a i j
  to_names s a i j d = steps_fold Comma NamesRel s i
      (λ b c m k h o. g.next_name h o.kind o.rest.first.kind (o.rest.rest.tree ∙ ap (λ (x : NamedPlace). b ++ x ∷ []) o.rest.first.rest.tree) (o.rest.rest.at ∙ o.rest.first.rest.at))
      d.part a d.at j (g.first_name d.first.first.kind (d.first.rest.tree ∙ ap (λ (x : NamedPlace). x ∷ []) d.first.first.rest.tree) (d.first.rest.at ∙ d.first.first.rest.at)) d.rest

  from_names : (s : Text) {a : List NamedPlace} {i j : ℕ} → NamesBy t.Comma place s a i j → Then One (λ b v c m k. Steps Comma v b c m k) s a i j
  from_names s {a} {i} {j} (g.first_name o e at) =
      record { part = a; at = j; first = record { part = named (place i) (s i); at = suc i; first = a_name s i o; rest = record { tree = e; at = at } }; rest = done refl refl }
  from_names s {a} {i} {j} (g.next_name {b} {n} d o w e at) =
      let v = from_names s d in
      record {
        part = v.part;
        at = v.at;
        first = v.first;
        rest = steps_end Comma s v.part b a v.at n j v.rest (record { kind = o; rest = record { part = named (place (suc n)) (s (suc n)); at = suc (suc n); first = a_name s (suc n) w; rest = record { tree = e; at = at } } });
      }

  pub names_laws : Laws most (r.names place most) (λ s a i j. NamesBy t.Comma place s a i j) (NotNext t.Comma) Never
  unfolding r.names r.next_name
  names_laws = renamed NamesRel (NotNext t.Comma)
      (rep {Q = Comma} {E = Any} (is t.Comma)
      (seq any_name (λ x. pure_laws most (x ∷ []) Any Never) (λ s x m b j d last. tt) (λ s x m b j d at h. h))
      (λ b. tok t.Comma refl (λ _. seq any_name (λ x. pure_laws most (b ++ x ∷ []) Any Never) (λ s x m c j d last. tt) (λ s x m c j d at h. h)))
      (λ s x a i j d. is_kind _ _ d.kind)
      (λ s x a i j d. let e = d.rest.first.rest.at in let f = d.rest.rest.at in omega arith)
      (λ a x o. tt)
      (λ s x a i j d at h. h))
      to_names (λ s a i j d. from_names s d) (λ a x e. (tt, e))

  from_maybe : (keyword : Terminal) (s : Text) {a : List NamedPlace} {i j : ℕ} → MaybeNames keyword place s a i j → Either (Word keyword (λ _. NamesRel)) (Same []) s a i j
  from_maybe keyword s (g.no_names e at) = inr (record { tree = e; at = at })
  from_maybe keyword s (g.names o d) = inl (record { kind = o; rest = d })

  pub maybe_names_laws : (keyword : Terminal) → is_token keyword ≡ true → Laws most (r.maybe_names place most keyword) (λ s a i j. MaybeNames keyword place s a i j) (AfterNames keyword) Never
  unfolding r.maybe_names
  maybe_names_laws keyword real = renamed (λ s a i j. MaybeNames keyword place s a i j) (AfterNames keyword)
      (alt (is keyword) (tok keyword real (λ _. renamed NamesRel (AfterNames keyword) names_laws (λ s a i j d. d) (λ s a i j d. d) (λ a x e. e.0)))
      (pure_laws most [] (AfterNames keyword) Never)
      (λ s a i j d last. is_kind _ _ d.kind)
      (λ s a i j d last. same_after (λ x. same_terminal x keyword ≡ false) s [] a i j d last.1))
      (λ s a i j d. elim d [ inl x ↦ g.names x.kind x.rest | inr x ↦ g.no_names x.tree x.at ])
      (λ s a i j d. from_maybe keyword s d) (λ a x e. e)

  -- ---- names by dots

  abbrev MoreRel : List NamedPlace → Rel (List NamedPlace × Bool)
  MoreRel b = λ s a i j. MoreNames place s b a i j

  abbrev DotRel : List NamedPlace → Rel (List NamedPlace × Bool)
  DotRel b = Word t.Dot (λ _. Either (Word t.Times (λ _. Same (b, true))) (Then NameRel (λ x. MoreRel (b ++ x ∷ []))))

  more_forward : (s : Text) {b : List NamedPlace} {a : List NamedPlace × Bool} {i j : ℕ} → MoreNames place s b a i j → i ≤ j
  more_forward s (no_more e at) = omega arith
  more_forward s (all_of o o2 e at) = omega arith
  more_forward s (one_more_name o w d) = let k = more_forward s d in omega arith

  more_frame : (s v : Text) {b : List NamedPlace} {a : List NamedPlace × Bool} {i j : ℕ} → ((x : ℕ) → x < j → v x ≡ s x) → MoreNames place s b a i j → MoreNames place v b a i j
  more_frame s v e (no_more is at) = no_more is at
  more_frame s v {i} e (all_of o o2 is at) = all_of (ap terminal (e i (omega arith)) ∙ o) (ap terminal (e (suc i) (omega arith)) ∙ o2) is at
  more_frame s v {b} {a} {i} {j} e (one_more_name o w d) =
      let k = more_forward s d in
      let here : v (suc i) ≡ s (suc i) = e (suc i) (omega arith) in
      one_more_name (ap terminal (e i (omega arith)) ∙ o) (ap terminal here ∙ w)
      (subst (λ (x : NamedPlace). MoreNames place v (b ++ x ∷ []) a (suc (suc i)) j) (ap (named (place (suc i))) (sym here)) (more_frame s v e d))

  more_shape : (b : List NamedPlace) → Shape (MoreRel b)
  more_shape b = record {
    forward = λ s a i j d. more_forward s d;
    frame = λ s v a i j e d. more_frame s v e d;
    some = λ s i. record { text = s; tree = (b, false); after = i; same = λ x h. refl; beyond = le_refl i; stands = no_more refl refl };
  }

  dot_shape : (b : List NamedPlace) → Shape (DotRel b)
  dot_shape b = word_shape t.Dot refl (λ _. Either (Word t.Times (λ _. Same (b, true))) (Then NameRel (λ x. MoreRel (b ++ x ∷ []))))
      (λ _. either_shape (Word t.Times (λ _. Same (b, true))) (Then NameRel (λ x. MoreRel (b ++ x ∷ [])))
      (word_shape t.Times refl (λ _. Same (b, true)) (λ _. (pure_laws 0 (b, true) (NotNext t.Dot) Never).shape))
      (then_shape NameRel (λ x. MoreRel (b ++ x ∷ [])) any_name.shape (λ x. more_shape (b ++ x ∷ []))))

  to_more : (b : List NamedPlace) (s : Text) (a : List NamedPlace × Bool) (i j : ℕ) → Either (DotRel b) (Same (b, false)) s a i j → MoreNames place s b a i j
  to_more b s a i j (inl d) =
      elim d.rest [
        | inl c ↦ all_of d.kind c.kind c.rest.tree c.rest.at
        | inr c ↦ one_more_name d.kind c.first.kind
            (subst (λ (m : ℕ). MoreNames place s (b ++ named (place (suc i)) (s (suc i)) ∷ []) a m j) c.first.rest.at (subst (λ (x : NamedPlace). MoreNames place s (b ++ x ∷ []) a c.at j) c.first.rest.tree c.rest))
      ]
  to_more b s a i j (inr d) = no_more d.tree d.at

  from_more : (s : Text) {b : List NamedPlace} {a : List NamedPlace × Bool} {i j : ℕ} → MoreNames place s b a i j → Either (DotRel b) (Same (b, false)) s a i j
  from_more s (no_more e at) = inr (record { tree = e; at = at })
  from_more s (all_of o o2 e at) = inl (record { kind = o; rest = inl (record { kind = o2; rest = record { tree = e; at = at } }) })
  from_more s {i} (one_more_name o w d) = inl (record { kind = o; rest = inr (record { part = named (place (suc i)) (s (suc i)); at = suc (suc i); first = a_name s (suc i) w; rest = d }) })

  no_dot : (b : List NamedPlace) (s : Text) (a : List NamedPlace × Bool) (i j : ℕ) → Same (b, false) s a i j → same_terminal (terminal (s j)) t.Dot ≡ false → same_terminal (terminal (s i)) t.Dot ≡ false
  no_dot b s a i j d last = same_after (λ x. same_terminal x t.Dot ≡ false) s (b, false) a i j d last

  more_names_laws : (k : ℕ) → k ≤ most → (b : List NamedPlace) → Laws k (r.more_names place most k b) (MoreRel b) (NotNext t.Dot) Never
  unfolding r.more_names
  more_names_laws zero le b = renamed (MoreRel b) (NotNext t.Dot)
      (alt {P = DotRel b} (is t.Dot) (over_laws zero (λ _. nowhere) (DotRel b) (NotNext t.Dot) Never (dot_shape b) (λ s a i j d. inr (omega arith)))
      (pure_laws zero (b, false) (NotNext t.Dot) Never)
      (λ s a i j d last. is_kind _ _ d.kind) (λ s a i j d last. no_dot b s a i j d last))
      (λ s a i j d. to_more b s a i j d) (λ s a i j d. from_more s d) (λ a x e. e)
  more_names_laws (suc k) le b = renamed (MoreRel b) (NotNext t.Dot)
      (alt {P = DotRel b} (is t.Dot)
      (tok t.Dot refl (λ _. alt (is t.Times) (tok t.Times refl (λ _. pure_laws (suc k) (b, true) (NotNext t.Dot) Never))
      (then_laws (suc k) k (name_at place most) NameRel Any Never (λ x. r.more_names place most k (b ++ x ∷ [])) (λ x. MoreRel (b ++ x ∷ [])) (NotNext t.Dot) Never
      (same_laws most (suc k) (name_at place most) NameRel Any Never NameRel Any Never any_name (λ s a i j d. d) (λ s a i j d. d) (λ a x h. h) (λ a at h. h) le)
      (λ x. more_names_laws k (omega arith) (b ++ x ∷ []))
      (λ s x m a j d last. tt)
      (λ s x m a j d at h. h)
      (λ s x i m j d h. let e = d.rest.at in omega arith))
      (λ s a i j d last. is_kind _ _ d.kind)
      (λ s a i j d last. is_not _ _ t.Times d.first.kind sign_facts.0)))
      (pure_laws (suc k) (b, false) (NotNext t.Dot) Never)
      (λ s a i j d last. is_kind _ _ d.kind) (λ s a i j d last. no_dot b s a i j d last))
      (λ s a i j d. to_more b s a i j d) (λ s a i j d. from_more s d) (λ a x e. e)

  -- names that go on are names up to there, and `.*` or nothing
  to_imported : (s : Text) (start : ℕ) {b : List NamedPlace} {a : List NamedPlace × Bool} {i j : ℕ} → NamesBy t.Dot place s b start i → MoreNames place s b a i j → Imported place s a start j
  to_imported s start {b} {a} {i} d (no_more e at) = record { at = i; names = subst (λ (x : List NamedPlace × Bool). NamesBy t.Dot place s x.0 start i) (sym e) d; all = g.not_all (ap (λ (x : List NamedPlace × Bool). x.1) e) at }
  to_imported s start {b} {a} {i} d (all_of o o2 e at) = record { at = i; names = subst (λ (x : List NamedPlace × Bool). NamesBy t.Dot place s x.0 start i) (sym e) d; all = g.all o o2 (ap (λ (x : List NamedPlace × Bool). x.1) e) at }
  to_imported s start d (one_more_name o w c) = to_imported s start (g.next_name d o w refl refl) c

  abbrev ImportedRel : Rel (List NamedPlace × Bool)
  ImportedRel = Then NameRel (λ x. MoreRel (x ∷ []))

  from_imported : (s : Text) {b : List NamedPlace} {a : List NamedPlace × Bool} {i m j : ℕ} → NamesBy t.Dot place s b i m → MoreNames place s b a m j → ImportedRel s a i j
  from_imported s {a} {i} {m} {j} (g.first_name o e at) y = record {
    part = named (place i) (s i);
    at = suc i;
    first = a_name s i o;
    rest = subst (λ (n : ℕ). MoreNames place s (named (place i) (s i) ∷ []) a n j) at (subst (λ (c : List NamedPlace). MoreNames place s c a m j) e y);
  }
  from_imported s {a} {m} {j} (g.next_name {b} {n} d o w e at) y = from_imported s d (one_more_name o w
      (subst (λ (z : ℕ). MoreNames place s (b ++ named (place (suc n)) (s (suc n)) ∷ []) a z j) at (subst (λ (c : List NamedPlace). MoreNames place s c a m j) e y)))

  ended : (s : Text) (a : List NamedPlace × Bool) (i j : ℕ) → MaybeAll s a.1 i j → MoreNames place s a.0 a i j
  ended s a i j (g.not_all e at) = no_more (ap (λ (d : Bool). (a.0, d)) e) at
  ended s a i j (g.all o o2 e at) = all_of o o2 (ap (λ (d : Bool). (a.0, d)) e) at

  pub imported_laws : Laws most (r.imported place most) (λ s a i j. Imported place s a i j) (NotNext t.Dot) Never
  unfolding r.imported
  imported_laws = renamed (λ s a i j. Imported place s a i j) (NotNext t.Dot)
      (seq any_name (λ x. more_names_laws most (le_refl most) (x ∷ [])) (λ s x m a j d last. tt) (λ s x m a j d at h. h))
      (λ s a i j d. to_imported s i (g.first_name d.first.kind (ap (λ (x : NamedPlace). x ∷ []) d.first.rest.tree) d.first.rest.at) d.rest)
      (λ s a i j d. from_imported s d.names (ended s a d.at j d.all)) (λ a x e. e)

  -- ---- imports

  names_word : (k : Terminal) (s : Text) {a : List NamedPlace} {i j : ℕ} → NamesBy k place s a i j → terminal (s i) ≡ t.Word
  names_word k s (g.first_name o e at) = o
  names_word k s (g.next_name d o w e at) = names_word k s d

  abbrev import_tree : ℕ → Bool → List NamedPlace × Bool → ImportTree
  import_tree i f d = record { at = place i; is_static = f; names = d.0; is_on_demand = d.1 }

  abbrev ImportBy : ℕ → Rel ImportTree
  ImportBy i = Word t.Import (λ _. Then (λ s a i j. MaybeStatic s a i j) (λ f. Then (λ s a i j. Imported place s a i j) (λ d. Word t.Semicolon (λ _. Same (import_tree i f d)))))

  to_import : (s : Text) (a : ImportTree) (i j : ℕ) → ImportBy i s a i j → Import place s a i j
  to_import s a i j d = let c = d.rest.rest in g.import d.kind d.rest.first c.first.names c.first.all c.rest.kind c.rest.rest.tree c.rest.rest.at

  from_import : (s : Text) {a : ImportTree} {i j : ℕ} → Import place s a i j → ImportBy i s a i j
  from_import s (g.import {f = f} {ns = ns} {d = d} {k = k} {n = n} {o = o} w y ns_at ends c e at) = record {
    kind = w;
    rest = record {
      part = f;
      at = k;
      first = y;
      rest = record { part = (ns, d); at = o; first = record { at = n; names = ns_at; all = ends }; rest = record { kind = c; rest = record { tree = e; at = at } } };
    };
  }

  behind_import : (i : ℕ) → Laws most (r.maybe_static >>= λ f. r.imported place most >>= λ d. sign t.Semicolon (pure (import_tree i f d)))
      (Then (λ s a i j. MaybeStatic s a i j) (λ f. Then (λ s a i j. Imported place s a i j) (λ d. Word t.Semicolon (λ _. Same (import_tree i f d))))) Any Never
  behind_import i = seq (static_laws most) (λ f. seq imported_laws (λ d. tok t.Semicolon refl (λ _. pure_laws most (import_tree i f d) Any Never))
      (λ s d m b j c last. is_not _ _ t.Dot c.kind sign_facts.1) (λ s d m b j c at h. h))
      (λ s f m b j c last. is_not _ _ t.Static (names_word t.Dot s c.first.names) sign_facts.2) (λ s f m b j c at h. h)

  pub import_laws : Laws most (r.import_at place most) (λ s a i j. Import place s a i j) Any Never
  unfolding r.import_at
  import_laws = renamed (λ s a i j. Import place s a i j) Any (start {D = ImportBy} (λ i. tok t.Import refl (λ _. behind_import i))) to_import (λ s a i j d. from_import s d) (λ a x e. e)

  pub import_begins : (s : Text) (a : ImportTree) (i j : ℕ) → Import place s a i j → (terminal (s i) ≡ t.Import) × (i < j)
  import_begins s a i j d =
      let w = from_import s d in
      let h = (behind_import i).shape.forward s a (suc i) j w.rest in
      (w.kind, omega arith)

  -- ---- imports one after another

  abbrev NextImport : List ImportTree → Rel (List ImportTree)
  NextImport b = Then (λ s a i j. Import place s a i j) (λ c. Same (b ++ c ∷ []))

  abbrev ImportsRel : Rel (List ImportTree)
  ImportsRel = λ s a i j. Imports place s a i j

  to_imports : (s : Text) (a : List ImportTree) (i j : ℕ) → Then (Same []) (λ b v c m k. Steps NextImport v b c m k) s a i j → Imports place s a i j
  to_imports s a i j d = steps_fold NextImport ImportsRel s i
      (λ b c m k h o. g.next_import h (subst (λ (z : ℕ). Import place s o.part m z) (sym o.rest.at) o.first) o.rest.tree)
      d.part a d.at j (g.no_imports d.first.tree d.first.at) d.rest

  from_imports : (s : Text) {a : List ImportTree} {i j : ℕ} → Imports place s a i j → Then (Same []) (λ b v c m k. Steps NextImport v b c m k) s a i j
  from_imports s {a} {i} {j} (g.no_imports e at) = record { part = a; at = j; first = record { tree = e; at = at }; rest = done refl refl }
  from_imports s {a} {i} {j} (g.next_import {b} {c} {n} d o e) =
      let v = from_imports s d in
      record { part = v.part; at = v.at; first = v.first; rest = steps_end NextImport s v.part b a v.at n j v.rest (record { part = c; at = j; first = o; rest = record { tree = e; at = refl } }) }

  pub imports_laws : Laws most (r.imports place most) (λ s a i j. Imports place s a i j) (NotNext t.Import) Never
  unfolding r.imports r.next_import
  imports_laws = renamed ImportsRel (NotNext t.Import)
      (rep {Q = NextImport} {E = Any} (is t.Import)
      (pure_laws most [] Any Never)
      (λ b. seq import_laws (λ c. pure_laws most (b ++ c ∷ []) Any Never) (λ s x m c j d last. tt) (λ s x m c j d at h. h))
      (λ s x a i j d. is_kind _ _ (import_begins s d.part i d.at d.first).0)
      (λ s x a i j d. let h = (import_begins s d.part i d.at d.first).1 in let e = d.rest.at in omega arith)
      (λ a x o. tt)
      (λ s x a i j d at h. h))
      to_imports (λ s a i j d. from_imports s d) (λ a x e. (tt, e))

  -- imports, from none on
  pub import_steps : (s : Text) (a : List ImportTree) (i j : ℕ) → Imports place s a i j → Steps NextImport s [] a i j
  import_steps s a i j d =
      let v = from_imports s d in
      subst (λ (k : ℕ). Steps NextImport s [] a k j) v.first.at (subst (λ (b : List ImportTree). Steps NextImport s b a v.at j) v.first.tree v.rest)
