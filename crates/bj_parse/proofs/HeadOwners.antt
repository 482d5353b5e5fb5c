-- What the modifiers before a class or an interface may belong to.
use Rattle.std.proofs.Common.{◌≡◌, ℕ, suc, ◌<◌, ◌≤◌, ◌⊎◌, inl, inr, Bool, false, cond, refl, sym, ap, ◌∙◌, subst, arith, List, [], ◌∷◌, Option, Some, None}
use Rattle.std.proofs.lemmas.Bool.{cases_lt, lt-ltb, le-ltb}
use Rattle.bj_base.specs.declared.span.Span.{Span}
use Rattle.bj_token.specs.declared.token.Token.{Token}
use Rattle.bj_tree.specs.declared.class.Modifier.{Modifier}
use Rattle.bj_tree.specs.declared.class.AnnotationTree.{AnnotationTree}
use Rattle.bj_tree.specs.declared.class.ClassKind.TheVariants as forms
use Rattle.bj_rules.specs.declared.place.Place.{Place}
use Rattle.bj_rules.specs.declared.place.Place.TheVariants as places
use Rattle.bj_grammar.specs.declared.terminal.Terminal.{Terminal}
use Rattle.bj_grammar.specs.declared.terminal.Terminal.TheVariants as t
use Rattle.bj_grammar.specs.Terminal.{terminal, same_terminal, among}
use Rattle.bj_grammar.specs.Reader.{Text}
use Rattle.bj_grammar.proofs.Laws.{Completes, is_kind}
use Rattle.bj_stmt.specs.Grammar.{named}
use Rattle.bj_stmt.proofs.Ahead.{goes_on}
use Rattle.bj_stmt.proofs.Leftmost.{is_not, none_of}
use Rattle.bj_class.specs.declared.head.ClassHead.{ClassHead}
use Rattle.bj_class.specs.Grammar as g
use Rattle.bj_class.specs.Grammar.{Annotations, ModifierList, Head, modifier_words}
use Rattle.bj_class.proofs.Needed.{annotation_words}
use Rattle.bj_class.proofs.NoteLaws.{annotations_laws, modifiers_laws}
use Rattle.bj_parse.specs.Early.{head_places}
use Rattle.bj_parse.specs.Marks.{MayHave, head_place}
use Rattle.bj_parse.proofs.Owners.{IsAmong}

kind_facts : (among annotation_words t.Class ≡ false) × (among annotation_words t.Interface ≡ false) × (among modifier_words t.Class ≡ false) × (among modifier_words t.Interface ≡ false) × (same_terminal t.Class t.Interface ≡ false)
unfolding same_terminal
kind_facts = (refl, refl, refl, refl, refl)

-- what the keyword says of the modifiers before it
abbrev Says : Terminal → Place → Type 0
Says x owner = ((x ≡ t.Class) × (owner ≡ places.Class)) ⊎ ((x ≡ t.Interface) × (owner ≡ places.Interface))

-- where the keyword of a head stands
record Keyword (place : ℕ → Span) (s : Text) (n : ℕ) (owner : Place) : Type 0 where
  notes : List AnnotationTree
  ms : List Modifier
  from : ℕ
  at : ℕ
  annotated : Annotations place s notes n from
  modified : ModifierList place s ms from at
  says : Says (terminal (s at)) owner

keyword_at : (place : ℕ → Span) (s : Text) {a : ClassHead} {n j : ℕ} (owner : Place) → Head place s a n j → head_place a ≡ Some owner → Keyword place s n owner
keyword_at place s owner (g.class_head {notes = notes} {ms = ms} {k = k} {n = o} d y c w extends implements brace e end) is =
    let has : Some places.Class ≡ Some owner = ap head_place (sym e) ∙ is in
    record { notes = notes; ms = ms; from = k; at = o; annotated = d; modified = y; says = inl (c, cc) }
keyword_at place s owner (g.interface_head {notes = notes} {ms = ms} {k = k} {n = o} d y c w extends brace e end) is =
    let has : Some places.Interface ≡ Some owner = ap head_place (sym e) ∙ is in
    record { notes = notes; ms = ms; from = k; at = o; annotated = d; modified = y; says = inr (c, cc) }

no_modifier : (x : Terminal) (owner : Place) → Says x owner → among modifier_words x ≡ false
no_modifier x owner (inl w) = none_of modifier_words x t.Class w.0 kind_facts.2
no_modifier x owner (inr w) = none_of modifier_words x t.Interface w.0 kind_facts.3

no_note : (x : Terminal) (owner : Place) → Says x owner → among annotation_words x ≡ false
no_note x owner (inl w) = none_of annotation_words x t.Class w.0 kind_facts.0
no_note x owner (inr w) = none_of annotation_words x t.Interface w.0 kind_facts.1

module _ (place : ℕ → Span) (most : ℕ) (s : Text) (q k : ℕ) where
  abbrev either_place : List Place
  either_place = places.Class ∷ places.Interface ∷ []

  abbrev by_keyword : Bool → List Place
  by_keyword b = cond b (places.Interface ∷ []) (places.Class ∷ [])

  -- the modifiers end before the keyword, if it is known
  unknown_places : k ≤ q → head_places s q k ≡ either_place
  unfolding head_places
  unknown_places le = ap (λ (b : Bool). cond b (by_keyword (same_terminal (terminal (s q)) t.Interface)) either_place) (le-ltb q k le)

  known_places : q < k → head_places s q k ≡ by_keyword (same_terminal (terminal (s q)) t.Interface)
  unfolding head_places
  known_places h = ap (λ (b : Bool). cond b (by_keyword (same_terminal (terminal (s q)) t.Interface)) either_place) (lt-ltb q k h)

  -- the keyword says which place it is
  says_place : q < k → (owner : Place) → Says (terminal (s q)) owner → head_places s q k ≡ owner ∷ []
  says_place h owner (inl w) =
      known_places h ∙ (ap by_keyword (is_not (terminal (s q)) t.Class t.Interface w.0 kind_facts.4) ∙ ap (λ (x : Place). x ∷ []) (sym w.1))
  says_place h owner (inr w) = known_places h ∙ (ap by_keyword (is_kind _ _ w.0) ∙ ap (λ (x : Place). x ∷ []) (sym w.1))

module _ (place : ℕ → Span) (most : ℕ) (s : Text) (n i q k : ℕ) (notes : List AnnotationTree) (ms : List Modifier) (annotated : Annotations place s notes n i) (modified : ModifierList place s ms i q)
    (same_marks : (t : Text) → ((x : ℕ) → x < k → t x ≡ s x) → q < k → (others : List AnnotationTree) (more : List Modifier) (j p : ℕ) → Annotations place t others n j → ModifierList place t more j p
    → among modifier_words (terminal (t p)) ≡ false → among annotation_words (terminal (t p)) ≡ false → p ≡ q) where
  -- a keyword of a text that goes on from the tokens before k is that of this one
  same_keyword : (u : Text) → ((x : ℕ) → x < k → u x ≡ s x) → q < k → (owner : Place) → Keyword place u n owner → Says (terminal (s q)) owner
  same_keyword u same below owner w =
      let at : w.at ≡ q = same_marks u same below w.notes w.ms w.from w.at w.annotated w.modified (no_modifier _ owner w.says) (no_note _ owner w.says) in
      subst (λ (v : Token). Says (terminal v) owner) (same q below) (subst (λ (m : ℕ). Says (terminal (u m)) owner) at w.says)

  of_either : (x : Terminal) (owner : Place) → Says x owner → IsAmong owner (places.Class ∷ places.Interface ∷ [])
  of_either x owner (inl w) = inl w.1
  of_either x owner (inr w) = inr (inl w.1)

  pub complete : (owner : Place) → MayHave (λ s h i j. Head place s h i j) head_place place s n k owner → IsAmong owner (head_places s q k)
  complete owner may =
      let w = keyword_at place may.text owner may.stands may.has in
      elim (cases_lt q k) [
        | inl h ↦ subst (IsAmong owner) (sym (says_place place most s q k h owner (same_keyword may.text may.same h owner w))) (inl refl)
        | inr h ↦ subst (IsAmong owner) (sym (unknown_places place most s q k h)) (of_either _ owner w.says)
      ]

  -- the annotations and modifiers stand in a text that goes on from them
  low : i ≤ q
  low = (modifiers_laws place most).shape.forward s ms i q modified

  kept_notes : (u : Text) → ((x : ℕ) → x < q → u x ≡ s x) → Annotations place u notes n i
  kept_notes u same = let le = low in (annotations_laws place most).shape.frame s u notes n i (λ x h. same x (omega arith)) annotated

  kept_modifiers : (u : Text) → ((x : ℕ) → x < q → u x ≡ s x) → ModifierList place u ms i q
  kept_modifiers u same = (modifiers_laws place most).shape.frame s u ms i q same modified

  begun : k ≤ q → (owner : Place) → (owner ≡ places.Class) ⊎ ((owner ≡ places.Interface) ⊎ ⊥) → MayHave (λ s h i j. Head place s h i j) head_place place s n k owner
  begun le owner (inl is) =
      let c = goes_on s q (t.Class ∷ t.Word ∷ t.LeftBrace ∷ []) (refl, (refl, (refl, tt))) in
      record {
        text = c.0;
        tree = record { at = place n; annotations = notes; modifiers = ms; kind = forms.Class; name = named (place (suc q)) (c.0 (suc q)); superclass = None; superinterfaces = [] };
        after = suc (suc (suc q));
        same = λ x h. c.1 x (omega arith);
        stands = g.class_head (kept_notes c.0 c.1) (kept_modifiers c.0 c.1) c.2.1.kind c.2.1.rest.kind (g.no_super refl refl) (g.no_names refl refl) c.2.1.rest.rest.kind refl refl;
        has = ap Some (sym is);
      }
  begun le owner (inr (inl is)) =
      let c = goes_on s q (t.Interface ∷ t.Word ∷ t.LeftBrace ∷ []) (refl, (refl, (refl, tt))) in
      record {
        text = c.0;
        tree = record { at = place n; annotations = notes; modifiers = ms; kind = forms.Interface; name = named (place (suc q)) (c.0 (suc q)); superclass = None; superinterfaces = [] };
        after = suc (suc (suc q));
        same = λ x h. c.1 x (omega arith);
        stands = g.interface_head (kept_notes c.0 c.1) (kept_modifiers c.0 c.1) c.2.1.kind c.2.1.rest.kind (g.no_names refl refl) c.2.1.rest.rest.kind refl refl;
        has = ap Some (sym is);
      }
  begun le owner (inr (inr none)) = absurd none

  -- what stands there with an owner of its own
  only_one : (owner other : Place) → IsAmong owner (other ∷ []) → other ≡ owner
  only_one owner other (inl is) = sym is
  only_one owner other (inr none) = absurd none

  pub sound : Completes (λ s h i j. Head place s h i j) s n k → (owner : Place) → IsAmong owner (head_places s q k) → MayHave (λ s h i j. Head place s h i j) head_place place s n k owner
  sound c owner one = elim (cases_lt q k) [ inl h ↦ goes c.text c.tree c.after c.same c.stands h | inr h ↦ begun h owner (subst (IsAmong owner) (unknown_places place most s q k h) one) ]
    where
      goes : (u : Text) (a : ClassHead) (j : ℕ) → ((x : ℕ) → x < k → u x ≡ s x) → Head place u a n j → q < k → MayHave (λ s h i j. Head place s h i j) head_place place s n k owner
      goes u a j same d below = of (head_place a) refl
        where
          of : (x : Option Place) → head_place a ≡ x → MayHave (λ s h i j. Head place s h i j) head_place place s n k owner
          of (Some other) has =
              let says = same_keyword u same below other (keyword_at place u other d has) in
              let is : other ≡ owner = only_one owner other (subst (IsAmong owner) (says_place place most s q k below other says) one) in
              record { text = u; tree = a; after = j; same = same; stands = d; has = has ∙ ap Some is }
          of None has = absurd (cc)
