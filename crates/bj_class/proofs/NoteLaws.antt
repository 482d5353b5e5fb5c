-- The readers of annotations and of modifiers.
use Rattle.std.proofs.Common.{◌≡◌, ℕ, suc, ◌<◌, inl, inr, true, false, refl, sym, ap, ◌∙◌, subst, arith, List, [], ◌∷◌, ◌++◌, Option, Some, None}
use Rattle.bj_base.specs.declared.span.Span.{Span}
use Rattle.bj_expr_tree.specs.declared.types.NamedPlace.{NamedPlace}
use Rattle.bj_tree.specs.declared.class.Modifier.{Modifier}
use Rattle.bj_tree.specs.declared.class.AnnotationTree.{AnnotationTree}
use Rattle.bj_grammar.specs.declared.terminal.Terminal.{Terminal}
use Rattle.bj_grammar.specs.declared.terminal.Terminal.TheVariants as t
use Rattle.bj_grammar.specs.Terminal.{terminal, same_terminal, among}
use Rattle.bj_grammar.specs.Reader.{Text, ◌>>=◌, pure}
use Rattle.bj_grammar.proofs.Terminals.{is_token}
use Rattle.bj_grammar.proofs.Laws.{Rel, Laws, Then, Same, Word, Operator, Either, Steps, done, pure_laws, steps_end, steps_fold, is_kind, kind_is, seq, alt, tok, op, start, renamed, rep}
use Rattle.bj_expr.specs.Reading.{is}
use Rattle.bj_stmt.specs.Grammar.{named}
use Rattle.bj_stmt.specs.Reading.{name_at}
use Rattle.bj_stmt.proofs.Expressions.{Never}
use Rattle.bj_stmt.proofs.Leftmost.{each, is_not, or_split}
use Rattle.bj_stmt.proofs.Small.{Any, same_after}
use Rattle.bj_class.specs.Grammar as g
use Rattle.bj_class.specs.Grammar.{expected, modifier_words, modifier, Annotation, Annotations, ModifierList}
use Rattle.bj_class.specs.Reading as r
use Rattle.bj_class.proofs.Needed.{AfterAnnotations, AfterModifiers}
use Rattle.bj_class.proofs.NameLaws.{NotNext, NameRel, a_name, any_name}
use Rattle.bj_class.proofs.SpelledLaws.{Spelled, spelled_laws}

note_facts : same_terminal t.At t.LeftParen ≡ false
unfolding same_terminal
note_facts = refl

module _ (place : ℕ → Span) (most : ℕ) where
  -- ---- annotations

  -- the class for `expected` in parentheses
  abbrev ClassIn : Rel NamedPlace
  ClassIn = Word t.LeftParen (λ _. Spelled expected (Word t.Assign (λ _. Then (NameRel place most) (λ c. Word t.Dot (λ _. Word t.Class (λ _. Word t.RightParen (λ _. Same c)))))))

  expecting_laws : Laws most (r.expecting place most) ClassIn Any Never
  unfolding r.expecting
  expecting_laws = tok t.LeftParen refl (λ _. spelled_laws expected (tok t.Assign refl (λ _. seq (any_name place most)
      (λ c. tok t.Dot refl (λ _. tok t.Class refl (λ _. tok t.RightParen refl (λ _. pure_laws most c Any Never)))) (λ s c m b j d last. tt) (λ s c m b j d at h. h))))

  abbrev MaybeClass : Rel (Option NamedPlace)
  MaybeClass = Either (Then ClassIn (λ c. Same (Some c))) (Same None)

  maybe_expecting_laws : Laws most (r.maybe_expecting place most) MaybeClass (NotNext t.LeftParen) Never
  unfolding r.maybe_expecting
  maybe_expecting_laws = alt (is t.LeftParen) (seq expecting_laws (λ c. pure_laws most (Some c) (NotNext t.LeftParen) Never) (λ s c m b j d last. tt) (λ s c m b j d at h. h))
      (pure_laws most None (NotNext t.LeftParen) Never)
      (λ s a i j d last. is_kind _ _ d.first.kind)
      (λ s a i j d last. same_after (λ x. same_terminal x t.LeftParen ≡ false) s None a i j d last)

  abbrev note : ℕ → NamedPlace → Option NamedPlace → AnnotationTree
  note i x c = record { at = place i; name = x; expected = c }

  abbrev NoteBy : ℕ → Rel AnnotationTree
  NoteBy i = Word t.At (λ _. Then (NameRel place most) (λ x. Then MaybeClass (λ c. Same (note i x c))))

  to_note : (s : Text) (a : AnnotationTree) (i j : ℕ) → NoteBy i s a i j → Annotation place s a i j
  to_note s a i j d = of d.rest.rest.first
    where
      x : NamedPlace
      x = named (place (suc i)) (s (suc i))

      is_note : (c : Option NamedPlace) → d.rest.rest.part ≡ c → a ≡ note i x c
      is_note c e = d.rest.rest.rest.tree ∙ (ap (λ (y : NamedPlace). note i y d.rest.rest.part) d.rest.first.rest.tree ∙ ap (note i (named (place (suc i)) (s (suc i)))) e)

      of : MaybeClass s d.rest.rest.part d.rest.at d.rest.rest.at → Annotation place s a i j
      of (inl c) =
          let w = c.first.rest.rest.rest in
          g.expecting d.kind d.rest.first.kind d.rest.first.rest.at c.first.kind c.first.rest.kind c.first.rest.text c.first.rest.rest.kind w.first.kind
          (subst (λ (m : ℕ). terminal (s m) ≡ t.Dot) w.first.rest.at w.rest.kind)
          (subst (λ (m : ℕ). terminal (s (suc m)) ≡ t.Class) w.first.rest.at w.rest.rest.kind)
          (subst (λ (m : ℕ). terminal (s (suc (suc m))) ≡ t.RightParen) w.first.rest.at w.rest.rest.rest.kind)
          (is_note _ (c.rest.tree ∙ ap Some (w.rest.rest.rest.rest.tree ∙ w.first.rest.tree)))
          (d.rest.rest.rest.at ∙ (c.rest.at ∙ (w.rest.rest.rest.rest.at ∙ ap (λ (m : ℕ). suc (suc (suc m))) w.first.rest.at)))
      of (inr c) = g.marker d.kind d.rest.first.kind (is_note None c.tree) (d.rest.rest.rest.at ∙ (c.at ∙ d.rest.first.rest.at))

  from_note : (s : Text) {a : AnnotationTree} {i j : ℕ} → Annotation place s a i j → NoteBy i s a i j
  from_note s {i} (g.marker o w e at) = record {
    kind = o;
    rest = record {
      part = named (place (suc i)) (s (suc i));
      at = suc (suc i);
      first = a_name place most s (suc i) w;
      rest = record { part = None; at = suc (suc i); first = inr (record { tree = refl; at = refl }); rest = record { tree = e; at = at } };
    };
  }
  from_note s {i} (g.expecting {n = n} o w begin p x is eq c dot class close e at) =
      let y = named (place (suc (suc (suc n)))) (s (suc (suc (suc n)))) in
      let last = suc (suc (suc (suc (suc (suc (suc n)))))) in
      record {
        kind = o;
        rest = record {
          part = named (place (suc i)) (s (suc i));
          at = n;
          first = record { kind = w; rest = record { tree = refl; at = begin } };
          rest = record {
            part = Some y;
            at = last;
            first = inl (record {
              part = y;
              at = last;
              first = record {
                kind = p;
                rest = record {
                  kind = x;
                  text = is;
                  rest = record {
                    kind = eq;
                    rest = record {
                      part = y;
                      at = suc (suc (suc (suc n)));
                      first = a_name place most s (suc (suc (suc n))) c;
                      rest = record { kind = dot; rest = record { kind = class; rest = record { kind = close; rest = record { tree = refl; at = refl } } } };
                    };
                  };
                };
              };
              rest = record { tree = refl; at = refl };
            });
            rest = record { tree = e; at = at };
          };
        };
      }

  behind_at : (i : ℕ) → Laws most (name_at place most >>= λ x. r.maybe_expecting place most >>= λ c. pure (note i x c))
      (Then (NameRel place most) (λ x. Then MaybeClass (λ c. Same (note i x c)))) (NotNext t.LeftParen) Never
  behind_at i = seq (any_name place most) (λ x. seq maybe_expecting_laws (λ c. pure_laws most (note i x c) (NotNext t.LeftParen) Never)
      (λ s c m b j d last. same_after (λ y. same_terminal y t.LeftParen ≡ false) s (note i x c) b m j d last) (λ s c m b j d at h. h))
      (λ s x m b j d last. tt) (λ s x m b j d at h. h)

  pub annotation_laws : Laws most (r.annotation place most) (λ s a i j. Annotation place s a i j) (NotNext t.LeftParen) Never
  unfolding r.annotation
  annotation_laws = renamed (λ s a i j. Annotation place s a i j) (NotNext t.LeftParen) (start {D = NoteBy} (λ i. tok t.At refl (λ _. behind_at i))) to_note (λ s a i j d. from_note s d) (λ a x e. e)

  pub annotation_begins : (s : Text) (a : AnnotationTree) (i j : ℕ) → Annotation place s a i j → (terminal (s i) ≡ t.At) × (i < j)
  annotation_begins s a i j d =
      let w = from_note s d in
      let h = (behind_at i).shape.forward s a (suc i) j w.rest in
      (w.kind, omega arith)

  -- ---- annotations one after another

  abbrev NextNote : List AnnotationTree → Rel (List AnnotationTree)
  NextNote b = Then (λ s a i j. Annotation place s a i j) (λ c. Same (b ++ c ∷ []))

  abbrev NotesRel : Rel (List AnnotationTree)
  NotesRel = λ s a i j. Annotations place s a i j

  to_notes : (s : Text) (a : List AnnotationTree) (i j : ℕ) → Then (Same []) (λ b v c m k. Steps NextNote v b c m k) s a i j → Annotations place s a i j
  to_notes s a i j d = steps_fold NextNote NotesRel s i
      (λ b c m k h o. g.next_annotation h (subst (λ (z : ℕ). Annotation place s o.part m z) (sym o.rest.at) o.first) o.rest.tree)
      d.part a d.at j (g.no_annotations d.first.tree d.first.at) d.rest

  from_notes : (s : Text) {a : List AnnotationTree} {i j : ℕ} → Annotations place s a i j → Then (Same []) (λ b v c m k. Steps NextNote v b c m k) s a i j
  from_notes s {a} {i} {j} (g.no_annotations e at) = record { part = a; at = j; first = record { tree = e; at = at }; rest = done refl refl }
  from_notes s {a} {i} {j} (g.next_annotation {b} {c} {n} d o e) =
      let v = from_notes s d in
      record { part = v.part; at = v.at; first = v.first; rest = steps_end NextNote s v.part b a v.at n j v.rest (record { part = c; at = j; first = o; rest = record { tree = e; at = refl } }) }

  pub annotations_laws : Laws most (r.annotations place most) (λ s a i j. Annotations place s a i j) AfterAnnotations Never
  unfolding r.annotations r.next_annotation
  annotations_laws = renamed NotesRel AfterAnnotations
      (rep {Q = NextNote} {E = NotNext t.LeftParen} (is t.At)
      (pure_laws most [] (NotNext t.LeftParen) Never)
      (λ b. seq annotation_laws (λ c. pure_laws most (b ++ c ∷ []) (NotNext t.LeftParen) Never)
      (λ s x m c j d last. same_after (λ y. same_terminal y t.LeftParen ≡ false) s (b ++ x ∷ []) c m j d last) (λ s x m c j d at h. h))
      (λ s x a i j d. is_kind _ _ (annotation_begins s d.part i d.at d.first).0)
      (λ s x a i j d. let h = (annotation_begins s d.part i d.at d.first).1 in let e = d.rest.at in omega arith)
      (λ a x o. is_not x t.At t.LeftParen (kind_is x t.At o) note_facts)
      (λ s x a i j d at h. h))
      to_notes (λ s a i j d. from_notes s d)
      (λ a x e. let w = or_split (same_terminal x t.At) _ e in ((or_split (same_terminal x t.LeftParen) _ w.1).0, w.0))

  -- what holds of `@` and of what stands behind annotations holds of the first token
  pub annotations_first : (P : Terminal → Type 0) (s : Text) → ((x : Terminal) → x ≡ t.At → P x) → {a : List AnnotationTree} {i j : ℕ} → Annotations place s a i j → P (terminal (s j)) → P (terminal (s i))
  annotations_first P s at (g.no_annotations e same) last = subst (λ (m : ℕ). P (terminal (s m))) same last
  annotations_first P s at {j = j} (g.next_annotation {c = c} {n = n} d o e) last = annotations_first P s at d (at _ (annotation_begins s c n j o).0)

  -- ---- modifiers

  abbrev ModifierBy : List Modifier → ℕ → Rel (List Modifier)
  ModifierBy b i = Operator (among modifier_words) (λ v. Same (b ++ modifier (place i) v ∷ []))

  abbrev NextModifier : List Modifier → Rel (List Modifier)
  NextModifier b = λ s a i j. ModifierBy b i s a i j

  abbrev ModifiersRel : Rel (List Modifier)
  ModifiersRel = λ s a i j. ModifierList place s a i j

  to_modifiers : (s : Text) (a : List Modifier) (i j : ℕ) → Then (Same []) (λ b v c m k. Steps NextModifier v b c m k) s a i j → ModifierList place s a i j
  to_modifiers s a i j d = steps_fold NextModifier ModifiersRel s i (λ b c m k h o. g.next_modifier h o.kind o.rest.tree o.rest.at) d.part a d.at j (g.no_modifiers d.first.tree d.first.at) d.rest

  from_modifiers : (s : Text) {a : List Modifier} {i j : ℕ} → ModifierList place s a i j → Then (Same []) (λ b v c m k. Steps NextModifier v b c m k) s a i j
  from_modifiers s {a} {i} {j} (g.no_modifiers e at) = record { part = a; at = j; first = record { tree = e; at = at }; rest = done refl refl }
  from_modifiers s {a} {i} {j} (g.next_modifier {b} {n} d o e at) =
      let v = from_modifiers s d in
      record { part = v.part; at = v.at; first = v.first; rest = steps_end NextModifier s v.part b a v.at n j v.rest (record { kind = o; rest = record { tree = e; at = at } }) }

  modifier_tokens : (x : Terminal) → among modifier_words x ≡ true → is_token x ≡ true
  modifier_tokens = each (λ x. is_token x ≡ true) modifier_words (refl, (refl, (refl, (refl, (refl, (refl, (refl, (refl, tt))))))))

  public_is_one : among modifier_words t.Public ≡ true
  unfolding same_terminal
  public_is_one = refl

  next_modifier_laws : (b : List Modifier) → Laws most (r.next_modifier place most b) (NextModifier b) Any Never
  unfolding r.next_modifier
  next_modifier_laws b = start {D = ModifierBy b}
      (λ i. op {Q = λ v. Same (b ++ modifier (place i) v ∷ [])} (among modifier_words) t.Public refl public_is_one modifier_tokens (λ v. pure_laws most (b ++ modifier (place i) v ∷ []) Any Never))

  pub modifiers_laws : Laws most (r.modifiers place most) (λ s a i j. ModifierList place s a i j) AfterModifiers Never
  unfolding r.modifiers
  modifiers_laws = renamed ModifiersRel AfterModifiers
      (rep {Q = NextModifier} {E = Any} (among modifier_words)
      (pure_laws most [] Any Never)
      next_modifier_laws
      (λ s x a i j d. d.kind)
      (λ s x a i j d. let e = d.rest.at in omega arith)
      (λ a x o. tt)
      (λ s x a i j d at h. h))
      to_modifiers (λ s a i j d. from_modifiers s d) (λ a x e. (tt, e))

  -- what holds of each modifier and of what stands behind modifiers holds of the first token
  pub modifiers_first : (P : Terminal → Type 0) (s : Text) → ((x : Terminal) → among modifier_words x ≡ true → P x) → {a : List Modifier} {i j : ℕ} → ModifierList place s a i j → P (terminal (s j)) → P (terminal (s i))
  modifiers_first P s all (g.no_modifiers e at) last = subst (λ (m : ℕ). P (terminal (s m))) at last
  modifiers_first P s all (g.next_modifier d o e at) last = modifiers_first P s all d (all _ o)
