-- The reader of what stands before the members of a class or an interface.
use Rattle.std.proofs.Common.{◌≡◌, ℕ, suc, ◌<◌, inl, inr, true, false, refl, ap, ◌∙◌, subst, arith, List, ◌∷◌, Option, Some, None}
use Rattle.bj_base.specs.declared.span.Span.{Span}
use Rattle.bj_expr_tree.specs.declared.types.NamedPlace.{NamedPlace}
use Rattle.bj_tree.specs.declared.class.Modifier.{Modifier}
use Rattle.bj_tree.specs.declared.class.AnnotationTree.{AnnotationTree}
use Rattle.bj_tree.specs.declared.class.ClassKind.TheVariants as forms
use Rattle.bj_grammar.specs.declared.terminal.Terminal.{Terminal}
use Rattle.bj_grammar.specs.declared.terminal.Terminal.TheVariants as t
use Rattle.bj_grammar.specs.Terminal.{terminal, same_terminal, among}
use Rattle.bj_grammar.specs.Reader.{Text, choose}
use Rattle.bj_grammar.proofs.Laws.{Rel, Laws, Then, Same, Word, Either, pure_laws, is_kind, seq, alt, tok, start, renamed}
use Rattle.bj_expr.specs.Reading.{is}
use Rattle.bj_stmt.specs.Grammar.{named}
use Rattle.bj_stmt.proofs.Expressions.{Never}
use Rattle.bj_stmt.proofs.Leftmost.{each, is_not, none_of}
use Rattle.bj_stmt.proofs.Small.{Any, same_after}
use Rattle.bj_class.specs.declared.head.ClassHead.{ClassHead}
use Rattle.bj_class.specs.Grammar as g
use Rattle.bj_class.specs.Grammar.{modifier_words, Annotations, ModifierList, MaybeNames, MaybeSuper, Head}
use Rattle.bj_class.specs.Reading as r
use Rattle.bj_class.proofs.Needed.{AfterNames, annotation_words, Heads}
use Rattle.bj_class.proofs.NameLaws.{NotNext, NameRel, a_name, any_name, maybe_names_laws}
use Rattle.bj_class.proofs.NoteLaws.{annotations_laws, annotations_first, modifiers_laws, modifiers_first}

-- no modifier begins an annotation or its elements
no_note : (x : Terminal) → among modifier_words x ≡ true → among annotation_words x ≡ false
unfolding same_terminal
no_note = each (λ x. among annotation_words x ≡ false) modifier_words (refl, (refl, (refl, (refl, (refl, (refl, (refl, (refl, tt))))))))

brace_facts : (same_terminal t.LeftBrace t.Comma ≡ false) × (same_terminal t.LeftBrace t.Implements ≡ false) × (same_terminal t.LeftBrace t.Extends ≡ false) × (same_terminal t.Implements t.Extends ≡ false)
unfolding same_terminal
brace_facts = (refl, refl, refl, refl)

kind_facts : (among annotation_words t.Class ≡ false) × (among annotation_words t.Interface ≡ false) × (among modifier_words t.Class ≡ false) × (among modifier_words t.Interface ≡ false) × (same_terminal t.Class t.Interface ≡ false)
unfolding same_terminal
kind_facts = (refl, refl, refl, refl, refl)

-- the tokens that begin a head
abbrev pub head_words : List Terminal
head_words = t.Class ∷ t.Interface ∷ t.At ∷ modifier_words

abbrev begins_head : Terminal → Type 0
begins_head x = among head_words x ≡ true

word_facts : (begins_head t.Class) × (begins_head t.Interface) × (begins_head t.At)
unfolding same_terminal
word_facts = (refl, refl, refl)

modifier_begins : (x : Terminal) → among modifier_words x ≡ true → begins_head x
unfolding same_terminal
modifier_begins = each begins_head modifier_words (refl, (refl, (refl, (refl, (refl, (refl, (refl, (refl, tt))))))))

not_import : (x : Terminal) → among head_words x ≡ true → same_terminal x t.Import ≡ false
unfolding same_terminal
not_import = each (λ x. same_terminal x t.Import ≡ false) head_words (refl, (refl, (refl, (refl, (refl, (refl, (refl, (refl, (refl, (refl, (refl, tt)))))))))))

module _ (place : ℕ → Span) (most : ℕ) where
  -- ---- `extends` with a name

  abbrev Super : Rel (Option NamedPlace)
  Super = Word t.Extends (λ _. Then (NameRel place most) (λ x. Same (Some x)))

  to_super : (s : Text) (a : Option NamedPlace) (i j : ℕ) → Either Super (Same None) s a i j → MaybeSuper place s a i j
  to_super s a i j (inl d) = g.super d.kind d.rest.first.kind (d.rest.rest.tree ∙ ap Some d.rest.first.rest.tree) (d.rest.rest.at ∙ d.rest.first.rest.at)
  to_super s a i j (inr d) = g.no_super d.tree d.at

  from_super : (s : Text) {a : Option NamedPlace} {i j : ℕ} → MaybeSuper place s a i j → Either Super (Same None) s a i j
  from_super s (g.no_super e at) = inr (record { tree = e; at = at })
  from_super s {i = i} (g.super o w e at) =
      inl (record { kind = o; rest = record { part = named (place (suc i)) (s (suc i)); at = suc (suc i); first = a_name place most s (suc i) w; rest = record { tree = e; at = at } } })

  pub maybe_super_laws : Laws most (r.maybe_super place most) (λ s a i j. MaybeSuper place s a i j) (NotNext t.Extends) Never
  unfolding r.maybe_super
  maybe_super_laws = renamed (λ s a i j. MaybeSuper place s a i j) (NotNext t.Extends)
      (alt (is t.Extends) (tok t.Extends refl (λ _. seq (any_name place most) (λ x. pure_laws most (Some x) (NotNext t.Extends) Never) (λ s x m b j d last. tt) (λ s x m b j d at h. h)))
      (pure_laws most None (NotNext t.Extends) Never)
      (λ s a i j d last. is_kind _ _ d.kind)
      (λ s a i j d last. same_after (λ x. same_terminal x t.Extends ≡ false) s None a i j d last))
      to_super (λ s a i j d. from_super s d) (λ a x e. e)

  -- ---- behind the modifiers

  -- an opening brace may follow names behind a keyword
  brace_after : {A : Type 0} (keyword : Terminal) → same_terminal t.LeftBrace keyword ≡ false → (a : A) (x : Terminal) → x ≡ t.LeftBrace → AfterNames keyword a x
  brace_after keyword e a x o = (is_not x t.LeftBrace t.Comma o brace_facts.0, is_not x t.LeftBrace keyword o e)

  -- names behind `implements`, before a brace, begin with no `extends`
  names_no_extends : (s : Text) {a : List NamedPlace} {i j : ℕ} → MaybeNames t.Implements place s a i j → terminal (s j) ≡ t.LeftBrace → same_terminal (terminal (s i)) t.Extends ≡ false
  names_no_extends s {i = i} (g.no_names e at) o = is_not (terminal (s i)) t.LeftBrace t.Extends (subst (λ (m : ℕ). terminal (s m) ≡ t.LeftBrace) at o) brace_facts.2
  names_no_extends s {i = i} (g.names w d) o = is_not (terminal (s i)) t.Implements t.Extends w brace_facts.3

  abbrev class_of : ℕ → List AnnotationTree → List Modifier → NamedPlace → Option NamedPlace → List NamedPlace → ClassHead
  class_of i notes ms v x ns = record { at = place i; annotations = notes; modifiers = ms; kind = forms.Class; name = v; superclass = x; superinterfaces = ns }

  abbrev interface_of : ℕ → List AnnotationTree → List Modifier → NamedPlace → List NamedPlace → ClassHead
  interface_of i notes ms v ns = record { at = place i; annotations = notes; modifiers = ms; kind = forms.Interface; name = v; superclass = None; superinterfaces = ns }

  abbrev ClassRest : ℕ → List AnnotationTree → List Modifier → Rel ClassHead
  ClassRest i notes ms = Word t.Class (λ _. Then (NameRel place most) (λ v. Then (λ s a i j. MaybeSuper place s a i j) (λ x. Then (λ s a i j. MaybeNames t.Implements place s a i j)
      (λ ns. Word t.LeftBrace (λ _. Same (class_of i notes ms v x ns))))))

  abbrev InterfaceRest : ℕ → List AnnotationTree → List Modifier → Rel ClassHead
  InterfaceRest i notes ms = Word t.Interface (λ _. Then (NameRel place most) (λ v. Then (λ s a i j. MaybeNames t.Extends place s a i j) (λ ns. Word t.LeftBrace (λ _. Same (interface_of i notes ms v ns)))))

  class_rest_laws : (i : ℕ) (notes : List AnnotationTree) (ms : List Modifier) → Laws most (r.class_rest place most i notes ms) (ClassRest i notes ms) Any Never
  unfolding r.class_rest
  class_rest_laws i notes ms = tok t.Class refl (λ _. seq (any_name place most)
      (λ v. seq maybe_super_laws (λ x. seq (maybe_names_laws place most t.Implements refl) (λ ns. tok t.LeftBrace refl (λ _. pure_laws most (class_of i notes ms v x ns) Any Never))
      (λ s ns m b j d last. brace_after t.Implements brace_facts.1 ns _ d.kind) (λ s ns m b j d at h. h))
      (λ s x m b j d last. names_no_extends s d.first d.rest.kind) (λ s x m b j d at h. h))
      (λ s v m b j d last. tt) (λ s v m b j d at h. h))

  interface_rest_laws : (i : ℕ) (notes : List AnnotationTree) (ms : List Modifier) → Laws most (r.interface_rest place most i notes ms) (InterfaceRest i notes ms) Any Never
  unfolding r.interface_rest
  interface_rest_laws i notes ms = tok t.Interface refl (λ _. seq (any_name place most)
      (λ v. seq (maybe_names_laws place most t.Extends refl) (λ ns. tok t.LeftBrace refl (λ _. pure_laws most (interface_of i notes ms v ns) Any Never))
      (λ s ns m b j d last. brace_after t.Extends brace_facts.2 ns _ d.kind) (λ s ns m b j d at h. h))
      (λ s v m b j d last. tt) (λ s v m b j d at h. h))

  abbrev Rest : ℕ → List AnnotationTree → List Modifier → Rel ClassHead
  Rest i notes ms = Either (InterfaceRest i notes ms) (ClassRest i notes ms)

  rest_laws : (i : ℕ) (notes : List AnnotationTree) (ms : List Modifier) → Laws most (choose (is t.Interface) (r.interface_rest place most i notes ms) (r.class_rest place most i notes ms)) (Rest i notes ms) Any Never
  rest_laws i notes ms = alt (is t.Interface) (interface_rest_laws i notes ms) (class_rest_laws i notes ms) (λ s a m j d last. is_kind _ _ d.kind) (λ s a m j d last. is_not _ t.Class t.Interface d.kind kind_facts.4)

  -- ---- the whole

  abbrev Modified : ℕ → List AnnotationTree → Rel ClassHead
  Modified i notes = Then (λ s a i j. ModifierList place s a i j) (Rest i notes)

  abbrev HeadBy : ℕ → Rel ClassHead
  HeadBy i = Then (λ s a i j. Annotations place s a i j) (Modified i)

  rest_no_modifier : (i : ℕ) (notes : List AnnotationTree) (ms : List Modifier) (s : Text) (a : ClassHead) (m j : ℕ) → Rest i notes ms s a m j → among modifier_words (terminal (s m)) ≡ false
  rest_no_modifier i notes ms s a m j (inl d) = none_of modifier_words _ t.Interface d.kind kind_facts.3
  rest_no_modifier i notes ms s a m j (inr d) = none_of modifier_words _ t.Class d.kind kind_facts.2

  rest_no_note : (i : ℕ) (notes : List AnnotationTree) (ms : List Modifier) (s : Text) (a : ClassHead) (m j : ℕ) → Rest i notes ms s a m j → among annotation_words (terminal (s m)) ≡ false
  rest_no_note i notes ms s a m j (inl d) = none_of annotation_words _ t.Interface d.kind kind_facts.1
  rest_no_note i notes ms s a m j (inr d) = none_of annotation_words _ t.Class d.kind kind_facts.0

  to_head : (s : Text) (a : ClassHead) (i j : ℕ) → HeadBy i s a i j → Head place s a i j
  to_head s a i j d = of d.rest.rest
    where
      of : Rest i d.part d.rest.part s a d.rest.at j → Head place s a i j
      of (inl c) =
          let w = c.rest in
          g.interface_head d.first d.rest.first c.kind w.first.kind (subst (λ (m : ℕ). MaybeNames t.Extends place s w.rest.part m w.rest.at) w.first.rest.at w.rest.first) w.rest.rest.kind
          (w.rest.rest.rest.tree ∙ ap (λ (v : NamedPlace). interface_of i d.part d.rest.part v w.rest.part) w.first.rest.tree) w.rest.rest.rest.at
      of (inr c) =
          let w = c.rest in
          let x = w.rest.rest in
          g.class_head d.first d.rest.first c.kind w.first.kind (subst (λ (m : ℕ). MaybeSuper place s w.rest.part m w.rest.at) w.first.rest.at w.rest.first) x.first x.rest.kind
          (x.rest.rest.tree ∙ ap (λ (v : NamedPlace). class_of i d.part d.rest.part v w.rest.part x.part) w.first.rest.tree) x.rest.rest.at

  from_head : (s : Text) {a : ClassHead} {i j : ℕ} → Head place s a i j → HeadBy i s a i j
  from_head s (g.class_head {notes = notes} {ms = ms} {x = x} {ns = ns} {k = k} {n = n} {o = o} {q = q} d y c w extends implements brace e at) = record {
    part = notes;
    at = k;
    first = d;
    rest = record {
      part = ms;
      at = n;
      first = y;
      rest = inr (record {
        kind = c;
        rest = record {
          part = named (place (suc n)) (s (suc n));
          at = suc (suc n);
          first = a_name place most s (suc n) w;
          rest = record { part = x; at = o; first = extends; rest = record { part = ns; at = q; first = implements; rest = record { kind = brace; rest = record { tree = e; at = at } } } };
        };
      });
    };
  }
  from_head s (g.interface_head {notes = notes} {ms = ms} {ns = ns} {k = k} {n = n} {q = q} d y c w extends brace e at) = record {
    part = notes;
    at = k;
    first = d;
    rest = record {
      part = ms;
      at = n;
      first = y;
      rest = inl (record {
        kind = c;
        rest = record {
          part = named (place (suc n)) (s (suc n));
          at = suc (suc n);
          first = a_name place most s (suc n) w;
          rest = record { part = ns; at = q; first = extends; rest = record { kind = brace; rest = record { tree = e; at = at } } };
        };
      });
    };
  }

  pub head_laws : Laws most (r.head place most) (λ s a i j. Head place s a i j) Any Never
  unfolding r.head
  head_laws = renamed (λ s a i j. Head place s a i j) Any
      (start {D = HeadBy} (λ i. seq (annotations_laws place most) (λ notes. seq (modifiers_laws place most) (λ ms. rest_laws i notes ms)
      (λ s ms m b j d last. rest_no_modifier i notes ms s b m j d) (λ s ms m b j d at h. h))
      (λ s notes m b j d last. modifiers_first place most (λ x. among annotation_words x ≡ false) s no_note d.first (rest_no_note i notes d.part s b d.at j d.rest)) (λ s notes m b j d at h. h)))
      to_head (λ s a i j d. from_head s d) (λ a x e. e)

  -- ---- where a head begins and ends

  rest_begins : (i : ℕ) (notes : List AnnotationTree) (ms : List Modifier) (s : Text) (a : ClassHead) (m j : ℕ) → Rest i notes ms s a m j → among head_words (terminal (s m)) ≡ true
  rest_begins i notes ms s a m j (inl d) = ap (among head_words) d.kind ∙ word_facts.1
  rest_begins i notes ms s a m j (inr d) = ap (among head_words) d.kind ∙ word_facts.0

  pub head_begins : (s : Text) (a : ClassHead) (i j : ℕ) → Head place s a i j → among head_words (terminal (s i)) ≡ true
  head_begins s a i j d =
      let w = from_head s d in
      annotations_first place most begins_head s (λ x e. ap (among head_words) e ∙ word_facts.2) w.first
      (modifiers_first place most begins_head s modifier_begins w.rest.first (rest_begins i w.part w.rest.part s a w.rest.at j w.rest.rest))

  -- imports may stand before a head
  pub head_no_import : (s : Text) (a : ClassHead) (i j : ℕ) → Head place s a i j → same_terminal (terminal (s i)) t.Import ≡ false
  head_no_import s a i j d = not_import _ (head_begins s a i j d)

  class_ends : (i : ℕ) (notes : List AnnotationTree) (ms : List Modifier) (s : Text) (a : ClassHead) (m j : ℕ) → ClassRest i notes ms s a m j → m < j
  class_ends i notes ms s a m j d =
      let x = d.rest.rest in
      let h = maybe_super_laws.shape.forward s x.part d.rest.at x.at x.first in
      let k = (maybe_names_laws place most t.Implements refl).shape.forward s x.rest.part x.at x.rest.at x.rest.first in
      let name_end = d.rest.first.rest.at in
      let end = x.rest.rest.rest.at in
      omega arith

  interface_ends : (i : ℕ) (notes : List AnnotationTree) (ms : List Modifier) (s : Text) (a : ClassHead) (m j : ℕ) → InterfaceRest i notes ms s a m j → m < j
  interface_ends i notes ms s a m j d =
      let x = d.rest.rest in
      let h = (maybe_names_laws place most t.Extends refl).shape.forward s x.part d.rest.at x.at x.first in
      let name_end = d.rest.first.rest.at in
      let end = x.rest.rest.at in
      omega arith

  pub head_forward : (s : Text) (a : ClassHead) (i j : ℕ) → Head place s a i j → i < j
  head_forward s a i j d =
      let w = from_head s d in
      let h = (annotations_laws place most).shape.forward s w.part i w.at w.first in
      let k = (modifiers_laws place most).shape.forward s w.rest.part w.at w.rest.at w.rest.first in
      let l : w.rest.at < j = elim w.rest.rest [ inl c ↦ interface_ends i w.part w.rest.part s a w.rest.at j c | inr c ↦ class_ends i w.part w.rest.part s a w.rest.at j c ] in
      omega arith

  pub heads : Heads place most
  heads = record {
    names_laws = λ keyword real. maybe_names_laws place most keyword real;
    annotations_laws = annotations_laws place most;
    modifiers_laws = modifiers_laws place most;
  }
