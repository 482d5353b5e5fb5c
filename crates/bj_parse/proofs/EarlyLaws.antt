-- The judgement on the annotations and modifiers of a part that goes wrong agrees with what is said of them, for any kind of part.
use Rattle.std.proofs.Common.{◌≡◌, ℕ, suc, ◌<◌, ◌≤◌, ◌⊎◌, inl, inr, true, false, List, [], ◌∷◌, ◌++◌, length, Option, Some, None, refl, sym, ap, ◌∙◌, subst, arith, append_assoc, append-nil}
use Rattle.std.specs.Prelude.{if◌then◌else◌, is_none}
use Rattle.std.proofs.lemmas.Bool.{cases_lt}
use Rattle.bj_base.specs.declared.span.Span.{Span}
use Rattle.bj_token.specs.declared.token.Token.{Token}
use Rattle.bj_tree.specs.declared.class.AnnotationTree.{AnnotationTree}
use Rattle.bj_tree.specs.declared.class.Modifier.{Modifier}
use Rattle.bj_rules.specs.declared.misfit.Misfit.{Misfit}
use Rattle.bj_rules.specs.declared.place.Place.{Place}
use Rattle.bj_rules.specs.Misfits.{first}
use Rattle.bj_rules.specs.Modifiers.{modifier_misfit}
use Rattle.bj_rules.specs.Rules.{annotation_misfit, annotations_misfit}
use Rattle.bj_grammar.specs.declared.terminal.Terminal.{Terminal}
use Rattle.bj_grammar.specs.declared.terminal.Terminal.TheVariants as t
use Rattle.bj_grammar.specs.Terminal.{terminal, same_terminal, among}
use Rattle.bj_grammar.specs.Reader.{Text, Answer, Found, Wrong, Over, Parser}
use Rattle.bj_grammar.specs.Given.{text_of, place_of}
use Rattle.bj_grammar.proofs.Laws.{Rel, Completes, Laws, Outcome, halted, stop}
use Rattle.bj_stmt.proofs.Leftmost.{each}
use Rattle.bj_stmt.proofs.Small.{Any}
use Rattle.bj_class.specs.Grammar as g
use Rattle.bj_class.specs.Grammar.{modifier, modifier_words, Annotation, Annotations, ModifierList}
use Rattle.bj_class.specs.Reading as r
use Rattle.bj_class.proofs.NoteLaws.{annotations_laws, modifiers_laws, modifiers_first}
use Rattle.bj_parse.specs.declared.annotations.AnnotationsEnd.{AnnotationsEnd}
use Rattle.bj_parse.specs.declared.annotations.AnnotationsEnd.TheVariants as ends
use Rattle.bj_parse.specs.Early.{unfit_behind, first_unfit, annotations_end, behind_annotations, modifiers_unfit, unfit_mark}
use Rattle.bj_parse.specs.Marks.{MayHave, MayFit, NoneBegins, UnfitMark, of_annotation, of_modifier}
use Rattle.bj_parse.proofs.Owners.{IsAmong, OwnerLaws}

-- how many steps a loop may take
abbrev pub most_of : List Token → ℕ
most_of tokens = suc (length tokens)

-- What is asked of the readers of annotations and modifiers.
pub record Marks (tokens : List Token) : Type 0 where
  -- what is read of modifiers goes on behind those that stand before one
  pub modifiers_behind : (i p : ℕ) (before : List Modifier) → ModifierList (place_of tokens) (text_of tokens) before i p → among modifier_words (terminal (text_of tokens p)) ≡ true
      → (rest : List Modifier) × (q : ℕ) × (p < q) × (r.modifiers (place_of tokens) (most_of tokens) (text_of tokens) i ≡ Found (before ++ modifier (place_of tokens p) (text_of tokens p) ∷ rest) q)
      × (among modifier_words (terminal (text_of tokens q)) ≡ false)
  -- annotations that stand and fit are passed
  pub annotations_behind : (notes : List AnnotationTree) (i n : ℕ) → Annotations (place_of tokens) (text_of tokens) notes n i → annotations_misfit notes ≡ None
      → same_terminal (terminal (text_of tokens i)) t.At ≡ false → same_terminal (terminal (text_of tokens i)) t.LeftParen ≡ false
      → annotations_end (place_of tokens) (most_of tokens) (most_of tokens) (text_of tokens) n ≡ ends.Behind i
  -- what is passed stands and fits
  pub found_behind : (n i : ℕ) → annotations_end (place_of tokens) (most_of tokens) (most_of tokens) (text_of tokens) n ≡ ends.Behind i
      → (notes : List AnnotationTree) × Annotations (place_of tokens) (text_of tokens) notes n i × (annotations_misfit notes ≡ None) × (same_terminal (terminal (text_of tokens i)) t.At ≡ false)
  -- the annotation that is told stands behind others that fit
  pub found_unfit : (n : ℕ) (x : Misfit) → annotations_end (place_of tokens) (most_of tokens) (most_of tokens) (text_of tokens) n ≡ ends.Unfit x
      → (notes : List AnnotationTree) × (note : AnnotationTree) × (i : ℕ) × (j : ℕ) × Annotations (place_of tokens) (text_of tokens) notes n i × (annotations_misfit notes ≡ None)
      × Annotation (place_of tokens) (text_of tokens) note i j × (terminal (text_of tokens (suc (suc i))) ≡ t.LeftParen → suc (suc i) < j) × (annotation_misfit note ≡ Some x)
  -- the first annotation that does not fit is told
  pub unfit_end : (notes : List AnnotationTree) (note : AnnotationTree) (n i j : ℕ) (x : Misfit) → Annotations (place_of tokens) (text_of tokens) notes n i → annotations_misfit notes ≡ None
      → Annotation (place_of tokens) (text_of tokens) note i j → (terminal (text_of tokens (suc (suc i))) ≡ t.LeftParen → suc (suc i) < j) → annotation_misfit note ≡ Some x
      → annotations_end (place_of tokens) (most_of tokens) (most_of tokens) (text_of tokens) n ≡ ends.Unfit x

-- ---- a modifier that may belong to any of some places

module _ (before : List Modifier) (one : Modifier) where
  -- it fits at one of them
  abbrev Fits : List Place → Type 0
  Fits owners = (owner : Place) × IsAmong owner owners × (modifier_misfit owner before one ≡ None)

  -- this is its misfit at one of them
  abbrev Tells : List Place → Misfit → Type 0
  Tells owners x = (owner : Place) × IsAmong owner owners × (modifier_misfit owner before one ≡ Some x)

  unfit_none : (told : Option Misfit) (owners : List Place) → unfit_behind before one told owners ≡ None → ((told ≡ None) × (owners ≡ [])) ⊎ Fits owners
  unfit_none told [] e = inl (e, refl)
  unfit_none told (owner ∷ rest) e = at (modifier_misfit owner before one) refl e (λ m h. unfit_none m rest h)
    where
      at : (m : Option Misfit) → modifier_misfit owner before one ≡ m → (if is_none m then None else unfit_behind before one m rest) ≡ None
          → ((m : Option Misfit) → unfit_behind before one m rest ≡ None → ((m ≡ None) × (rest ≡ [])) ⊎ Fits rest) → ((told ≡ None) × ((owner ∷ rest) ≡ [])) ⊎ Fits (owner ∷ rest)
      at None is e again = inr (owner, inl refl, is)
      at (Some x) is e again = elim (again (Some x) e) [ inl h ↦ (let no_misfit : Some x ≡ None = h.0 in absurd (cc)) | inr w ↦ inr (w.0, inr w.1, w.2) ]

  unfit_some : (told : Option Misfit) (owners : List Place) (x : Misfit) → unfit_behind before one told owners ≡ Some x → (told ≡ Some x) ⊎ Tells owners x
  unfit_some told [] x e = inl e
  unfit_some told (owner ∷ rest) x e = at (modifier_misfit owner before one) refl e (λ m h. unfit_some m rest x h)
    where
      at : (m : Option Misfit) → modifier_misfit owner before one ≡ m → (if is_none m then None else unfit_behind before one m rest) ≡ Some x
          → ((m : Option Misfit) → unfit_behind before one m rest ≡ Some x → (m ≡ Some x) ⊎ Tells rest x) → (told ≡ Some x) ⊎ Tells (owner ∷ rest) x
      at None is e again = absurd (cc)
      at (Some y) is e again = elim (again (Some y) e) [ inl h ↦ inr (owner, inl refl, is ∙ h) | inr w ↦ inr (w.0, inr w.1, w.2) ]

  -- it fits at none of the places of which a misfit is told
  unfit_each : (told : Option Misfit) (owners : List Place) (x : Misfit) → unfit_behind before one told owners ≡ Some x → Fits owners → ⊥
  unfit_each told [] x e w = absurd w.1
  unfit_each told (owner ∷ rest) x e w = at (modifier_misfit owner before one) refl e (λ m h v. unfit_each m rest x h v) w
    where
      of : (y : Misfit) → modifier_misfit owner before one ≡ Some y → unfit_behind before one (Some y) rest ≡ Some x → (Fits rest → ⊥) → (o : Place) → modifier_misfit o before one ≡ None
          → (o ≡ owner) ⊎ IsAmong o rest → ⊥
      of y is e again o fits (inl same) = let none : Some y ≡ None = sym is ∙ (ap (λ (z : Place). modifier_misfit z before one) (sym same) ∙ fits) in absurd (cc)
      of y is e again o fits (inr h) = again (o, h, fits)

      at : (m : Option Misfit) → modifier_misfit owner before one ≡ m → (if is_none m then None else unfit_behind before one m rest) ≡ Some x
          → ((m : Option Misfit) → unfit_behind before one m rest ≡ Some x → Fits rest → ⊥) → Fits (owner ∷ rest) → ⊥
      at None is e again w = absurd (cc)
      at (Some y) is e again w = of y is e (again (Some y) e) w.0 w.2 w.1

pub none_or_some : (o : Option Misfit) → (o ≡ None) ⊎ ((x : Misfit) × (o ≡ Some x))
none_or_some None = inl refl
none_or_some (Some x) = inr (x, refl)

-- what fits at none of the places, of which there are some, is told
unfit_told : (before : List Modifier) (one : Modifier) (owners : List Place) (owner : Place) → IsAmong owner owners → (Fits before one owners → ⊥)
    → (x : Misfit) × (unfit_behind before one None owners ≡ Some x)
unfit_told before one owners owner is no_fit = elim (none_or_some (unfit_behind before one None owners)) [
  | inl e ↦ absurd (elim (unfit_none before one None owners e) [ inl h ↦ subst (λ (os : List Place). IsAmong owner os) h.1 is | inr w ↦ no_fit w ])
  | inr w ↦ w
]

-- ---- modifiers, each of which may belong to any of some places

first_one : (o : Option Misfit) → first (o ∷ []) ≡ o
first_one None = refl
first_one (Some x) = refl

-- the first modifier that does not fit
record FirstOf (owners : List Place) (behind ms : List Modifier) (x : Misfit) : Type 0 where
  before : List Modifier
  one : Modifier
  rest : List Modifier
  parts : ms ≡ before ++ one ∷ rest
  told : unfit_behind (behind ++ before) one None owners ≡ Some x
  fit : (b : List Modifier) (m : Modifier) (c : List Modifier) → before ≡ b ++ m ∷ c → unfit_behind (behind ++ b) m None owners ≡ None

none_in : {A : Type 0} (b : List A) (m : A) (c : List A) → [] ≡ b ++ m ∷ c → ⊥
none_in [] m c e = absurd (cc)
none_in (y ∷ ys) m c e = absurd (cc)

first_is : (owners : List Place) (behind ms : List Modifier) (x : Misfit) → first_unfit owners behind ms ≡ Some x → FirstOf owners behind ms x
first_is owners behind [] x e = absurd (cc)
first_is owners behind (m ∷ ms) x e = at (unfit_behind behind m None owners) refl e (λ h. first_is owners (behind ++ m ∷ []) ms x h)
  where
    fit_at : (w : FirstOf owners (behind ++ m ∷ []) ms x) → unfit_behind behind m None owners ≡ None → (b : List Modifier) (l : Modifier) (c : List Modifier) → (m ∷ w.before) ≡ b ++ l ∷ c
        → unfit_behind (behind ++ b) l None owners ≡ None
    fit_at w is [] l c e =
        let same : m ≡ l = cc in
        ap (λ (b : List Modifier). unfit_behind b l None owners) (append-nil behind) ∙ (ap (λ (z : Modifier). unfit_behind behind z None owners) (sym same) ∙ is)
    fit_at w is (y ∷ ys) l c e =
        let same : m ≡ y = cc in
        let others : w.before ≡ ys ++ l ∷ c = cc in
        let moved : behind ++ y ∷ ys ≡ (behind ++ m ∷ []) ++ ys = ap (λ (z : Modifier). behind ++ z ∷ ys) (sym same) ∙ sym (append_assoc behind (m ∷ []) ys) in
        ap (λ (b : List Modifier). unfit_behind b l None owners) moved ∙ w.fit ys l c others

    at : (o : Option Misfit) → unfit_behind behind m None owners ≡ o → first (o ∷ first_unfit owners (behind ++ m ∷ []) ms ∷ []) ≡ Some x
        → (first_unfit owners (behind ++ m ∷ []) ms ≡ Some x → FirstOf owners (behind ++ m ∷ []) ms x) → FirstOf owners behind (m ∷ ms) x
    at None is e again =
        let w = again (sym (first_one (first_unfit owners (behind ++ m ∷ []) ms)) ∙ e) in
        record {
          before = m ∷ w.before;
          one = w.one;
          rest = w.rest;
          parts = ap (λ (l : List Modifier). m ∷ l) w.parts;
          told = ap (λ (b : List Modifier). unfit_behind b w.one None owners) (sym (append_assoc behind (m ∷ []) w.before)) ∙ w.told;
          fit = fit_at w is;
        }
    at (Some y) is e again = record {
      before = [];
      one = m;
      rest = ms;
      parts = refl;
      told = ap (λ (b : List Modifier). unfit_behind b m None owners) (append-nil behind) ∙ (is ∙ e);
      fit = λ b l c h. absurd (none_in b l c h);
    }

first_met : (owners : List Place) (behind before : List Modifier) (one : Modifier) (rest : List Modifier) (y : Misfit) → unfit_behind (behind ++ before) one None owners ≡ Some y
    → (z : Misfit) × (first_unfit owners behind (before ++ one ∷ rest) ≡ Some z)
first_met owners behind [] one rest y e =
    let here : unfit_behind behind one None owners ≡ Some y = ap (λ (b : List Modifier). unfit_behind b one None owners) (sym (append-nil behind)) ∙ e in
    (y, ap (λ (o : Option Misfit). first (o ∷ first_unfit owners (behind ++ one ∷ []) rest ∷ [])) here)
first_met owners behind (m ∷ ms) one rest y e = at (unfit_behind behind m None owners) refl
    (first_met owners (behind ++ m ∷ []) ms one rest y (ap (λ (b : List Modifier). unfit_behind b one None owners) (append_assoc behind (m ∷ []) ms) ∙ e))
  where
    at : (o : Option Misfit) → unfit_behind behind m None owners ≡ o → (z : Misfit) × (first_unfit owners (behind ++ m ∷ []) (ms ++ one ∷ rest) ≡ Some z)
        → (z : Misfit) × (first (unfit_behind behind m None owners ∷ first_unfit owners (behind ++ m ∷ []) (ms ++ one ∷ rest) ∷ []) ≡ Some z)
    at None is w =
        (w.0, ap (λ (o : Option Misfit). first (o ∷ first_unfit owners (behind ++ m ∷ []) (ms ++ one ∷ rest) ∷ [])) is ∙ (first_one (first_unfit owners (behind ++ m ∷ []) (ms ++ one ∷ rest)) ∙ w.1))
    at (Some z) is w = (z, ap (λ (o : Option Misfit). first (o ∷ first_unfit owners (behind ++ m ∷ []) (ms ++ one ∷ rest) ∷ [])) is)

-- ---- where a modifier among others stands

last_or_before : {A : Type 0} (b : List A) (one : A) (c d : List A) (m : A) → (b ++ one ∷ c) ≡ d ++ m ∷ [] → ((d ≡ b) × (m ≡ one)) ⊎ ((e : List A) × (d ≡ b ++ one ∷ e))
last_or_before [] one c [] m e = let same : m ≡ one = cc in inl (refl, same)
last_or_before [] one c (y ∷ ys) m e = let same : y ≡ one = cc in inr (ys, ap (λ (z : _). z ∷ ys) same)
last_or_before (x ∷ xs) one c [] m e = let rest : [] ≡ xs ++ one ∷ c = cc in absurd (none_in xs one c rest)
last_or_before (x ∷ xs) one c (y ∷ ys) m e =
    let same : y ≡ x = cc in
    let rest : xs ++ one ∷ c ≡ ys ++ m ∷ [] = cc in
    elim (last_or_before xs one c ys m rest) [
      | inl h ↦ inl (ap (λ (z : _). z ∷ ys) same ∙ ap (λ (l : List _). x ∷ l) h.0, h.1)
      | inr w ↦ inr (w.0, ap (λ (z : _). z ∷ ys) same ∙ ap (λ (l : List _). x ∷ l) w.1)
    ]

-- the modifier stands at a place behind those before it
record ModifierAt (place : ℕ → Span) (s : Text) (before : List Modifier) (one : Modifier) (i q : ℕ) : Type 0 where
  at : ℕ
  stand : ModifierList place s before i at
  word : among modifier_words (terminal (s at)) ≡ true
  same : one ≡ modifier (place at) (s at)
  inside : at < q

modifier_at : (place : ℕ → Span) (s : Text) {ms : List Modifier} {i q : ℕ} → ModifierList place s ms i q → (before : List Modifier) (one : Modifier) (rest : List Modifier) → ms ≡ before ++ one ∷ rest
    → ModifierAt place s before one i q
modifier_at place s (g.no_modifiers e at) before one rest is = absurd (none_in before one rest (sym e ∙ is))
modifier_at place s {i = i} {q = q} (g.next_modifier {b = d} {n = n} l o e at) before one rest is =
    of (λ es h. modifier_at place s l before one es h) (last_or_before before one rest d (modifier (place n) (s n)) (sym is ∙ e))
  where
    of : ((es : List Modifier) → d ≡ before ++ one ∷ es → ModifierAt place s before one i n)
        → ((d ≡ before) × (modifier (place n) (s n) ≡ one)) ⊎ ((es : List Modifier) × (d ≡ before ++ one ∷ es)) → ModifierAt place s before one i q
    of again (inl h) = record { at = n; stand = subst (λ (ms : List Modifier). ModifierList place s ms i n) h.0 l; word = o; same = sym h.1; inside = omega arith }
    of again (inr w) = let v = again w.0 w.1 in let k : v.at < n = v.inside in record { at = v.at; stand = v.stand; word = v.word; same = v.same; inside = omega arith }

-- ---- a part that goes wrong

no_note : (x : Terminal) → among modifier_words x ≡ true → (same_terminal x t.At ≡ false) × (same_terminal x t.LeftParen ≡ false)
unfolding same_terminal
no_note = each (λ x. (same_terminal x t.At ≡ false) × (same_terminal x t.LeftParen ≡ false)) modifier_words
    ((refl, refl), ((refl, refl), ((refl, refl), ((refl, refl), ((refl, refl), ((refl, refl), ((refl, refl), ((refl, refl), tt))))))))

module _ {A : Type 0} (D : Rel A) (placed : A → Option Place) (tokens : List Token) (marks : Marks tokens) (n k : ℕ) (owners : ℕ → List Place)
    (laws : OwnerLaws D placed (place_of tokens) (most_of tokens) (text_of tokens) n k owners)
    (item : Parser A) (T : Span → A → Type 0) (item_laws : Laws (most_of tokens) item D Any T) (wrong : item (text_of tokens) n ≡ Wrong k)
    -- with the annotations and modifiers that stand a part begins
    (fresh : (i q : ℕ) (ms : List Modifier) → annotations_end (place_of tokens) (most_of tokens) (most_of tokens) (text_of tokens) n ≡ ends.Behind i
    → r.modifiers (place_of tokens) (most_of tokens) (text_of tokens) i ≡ Found ms q → n < q
    → (u : Text) × (a : A) × (j : ℕ) × ((x : ℕ) → x < q → u x ≡ text_of tokens x) × D u a n j) where
  -- no part begins with the tokens up to k: it would be read there
  none_begins : NoneBegins D placed (place_of tokens) (text_of tokens) n (suc k)
  none_begins u a j same d = of (item_laws.complete u n a j d tt)
    where
      stopped : stop (item (text_of tokens) n) ≡ k
      stopped = ap stop wrong

      read : item u n ≡ Wrong k
      read = item_laws.local (text_of tokens) u n (λ x h. let at = stopped in same x (omega arith)) ∙ wrong

      of : Outcome (most_of tokens) T (item u n) a n j → ⊥
      of (inl e) = let both : Wrong k ≡ Found a j = sym read ∙ e in absurd (cc)
      of (inr w) = let both : Wrong k ≡ Over w.place w.node = sym read ∙ w.is in absurd (cc)

  -- the tokens before k begin one
  begun : Completes D (text_of tokens) n k
  begun = item_laws.viable (text_of tokens) n k (ap halted wrong)

  -- modifiers begin behind the annotations
  notes_forward : {notes : List AnnotationTree} {i : ℕ} → Annotations (place_of tokens) (text_of tokens) notes n i → n ≤ i
  notes_forward {notes} {i} d = (annotations_laws (place_of tokens) (most_of tokens)).shape.forward (text_of tokens) notes n i d

  modifiers_forward : {ms : List Modifier} {i q : ℕ} → ModifierList (place_of tokens) (text_of tokens) ms i q → i ≤ q
  modifiers_forward {ms} {i} {q} d = (modifiers_laws (place_of tokens) (most_of tokens)).shape.forward (text_of tokens) ms i q d

  -- they end before k or at k
  modifiers_end : (i q : ℕ) (ms : List Modifier) → annotations_end (place_of tokens) (most_of tokens) (most_of tokens) (text_of tokens) n ≡ ends.Behind i
      → r.modifiers (place_of tokens) (most_of tokens) (text_of tokens) i ≡ Found ms q → n < q → q ≤ k
  modifiers_end i q ms behind found low = of (cases_lt k q)
    where
      of : (k < q) ⊎ (q ≤ k) → q ≤ k
      of (inl h) = let w = fresh i q ms behind found low in absurd (none_begins w.0 w.1 w.2 (λ x l. w.3 x (omega arith)) w.4)
      of (inr h) = h

  modifier_is : (i q : ℕ) (ms : List Modifier) (x : Misfit) → annotations_end (place_of tokens) (most_of tokens) (most_of tokens) (text_of tokens) n ≡ ends.Behind i
      → r.modifiers (place_of tokens) (most_of tokens) (text_of tokens) i ≡ Found ms q → first_unfit (owners q) [] ms ≡ Some x → UnfitMark D placed (place_of tokens) (text_of tokens) n x
  modifier_is i q ms x behind found told =
      let notes = marks.found_behind n i behind in
      let list : ModifierList (place_of tokens) (text_of tokens) ms i q = (modifiers_laws (place_of tokens) (most_of tokens)).sound (text_of tokens) i ms q found in
      let one = first_is (owners q) [] ms x told in
      let stand = modifier_at (place_of tokens) (text_of tokens) list one.before one.one one.rest one.parts in
      let low : n ≤ i = notes_forward notes.1 in
      let front : i ≤ stand.at = modifiers_forward stand.stand in
      let inside : stand.at < q = stand.inside in
      let end : q ≤ k = modifiers_end i q ms behind found (omega arith) in
      of notes.1 notes.2 one stand (omega arith) (λ owner is. laws.sound i q ms behind found (omega arith) begun owner is)
      (λ owner may. laws.complete i q ms behind found owner may)
    where
      of : {notes : List AnnotationTree} → Annotations (place_of tokens) (text_of tokens) notes n i → annotations_misfit notes ≡ None → (one : FirstOf (owners q) [] ms x)
          → (stand : ModifierAt (place_of tokens) (text_of tokens) one.before one.one i q) → stand.at < k
          → ((owner : Place) → IsAmong owner (owners q) → MayHave D placed (place_of tokens) (text_of tokens) n k owner)
          → ((owner : Place) → MayHave D placed (place_of tokens) (text_of tokens) n k owner → IsAmong owner (owners q)) → UnfitMark D placed (place_of tokens) (text_of tokens) n x
      of d fit one stand low sound complete = elim (unfit_some one.before one.one None (owners q) x one.told) [
        | inl h ↦ absurd (cc)
        | inr w ↦ of_modifier d fit stand.stand stand.word low none_begins (λ b m c e. fits_at w b m (one.fit b m c e)) (sound w.0 w.1)
            (ap (λ (z : Modifier). modifier_misfit w.0 one.before z) (sym stand.same) ∙ w.2) (λ h. no_fit h)
      ]
        where
          fits_at : Tells one.before one.one (owners q) x → (b : List Modifier) (m : Modifier) → unfit_behind b m None (owners q) ≡ None → MayFit D placed (place_of tokens) (text_of tokens) n k b m
          fits_at w b m e = elim (unfit_none b m None (owners q) e) [
            | inl h ↦ absurd (subst (λ (os : List Place). IsAmong w.0 os) h.1 w.1)
            | inr v ↦ record { owner = v.0; may = sound v.0 v.1; fits = v.2 }
          ]

          no_fit : MayFit D placed (place_of tokens) (text_of tokens) n k one.before (modifier (place_of tokens stand.at) (text_of tokens stand.at)) → ⊥
          no_fit h = unfit_each one.before one.one None (owners q) x one.told
              (h.owner, complete h.owner h.may, ap (λ (z : Modifier). modifier_misfit h.owner one.before z) stand.same ∙ h.fits)

  annotation_is : (x : Misfit) → annotations_end (place_of tokens) (most_of tokens) (most_of tokens) (text_of tokens) n ≡ ends.Unfit x → UnfitMark D placed (place_of tokens) (text_of tokens) n x
  annotation_is x e = let w = marks.found_unfit n x e in of_annotation w.4 w.5 w.6 w.7 w.8

  pub early_is : (x : Misfit) → unfit_mark (place_of tokens) (most_of tokens) owners (text_of tokens) n ≡ Some x → UnfitMark D placed (place_of tokens) (text_of tokens) n x
  unfolding unfit_mark
  early_is x e = at (annotations_end (place_of tokens) (most_of tokens) (most_of tokens) (text_of tokens) n) refl e
    where
      behind : (i : ℕ) (o : Answer (List Modifier)) → annotations_end (place_of tokens) (most_of tokens) (most_of tokens) (text_of tokens) n ≡ ends.Behind i
          → r.modifiers (place_of tokens) (most_of tokens) (text_of tokens) i ≡ o → modifiers_unfit owners o ≡ Some x
          → UnfitMark D placed (place_of tokens) (text_of tokens) n x
      behind i (Found ms q) is found told = modifier_is i q ms x is found told
      behind i (Wrong o) is found told = absurd (cc)
      behind i (Over o node) is found told = absurd (cc)

      at : (o : AnnotationsEnd) → annotations_end (place_of tokens) (most_of tokens) (most_of tokens) (text_of tokens) n ≡ o
          → behind_annotations (place_of tokens) (most_of tokens) owners (text_of tokens) o ≡ Some x → UnfitMark D placed (place_of tokens) (text_of tokens) n x
      at (ends.Unfit y) is told = let same : y ≡ x = cc in annotation_is x (is ∙ ap ends.Unfit same)
      at (ends.Behind i) is told = behind i (r.modifiers (place_of tokens) (most_of tokens) (text_of tokens) i) is refl told
      at ends.Within is told = absurd (cc)

  -- the first token that goes on in no part is that where it is read to go wrong
  same_stop : (m : ℕ) (owner : Place) → NoneBegins D placed (place_of tokens) (text_of tokens) n (suc m) → MayHave D placed (place_of tokens) (text_of tokens) n m owner → m ≡ k
  same_stop m owner none may = of (cases_lt m k) (cases_lt k m)
    where
      of : (m < k) ⊎ (k ≤ m) → (k < m) ⊎ (m ≤ k) → m ≡ k
      of (inl h) c = absurd (none begun.text begun.tree begun.after (λ x l. begun.same x (omega arith)) begun.stands)
      of (inr h) (inl l) = absurd (none_begins may.text may.tree may.after (λ x p. may.same x (omega arith)) may.stands)
      of (inr h) (inr l) = omega arith

  told_behind : (i q : ℕ) (ms : List Modifier) (y : Misfit) → annotations_end (place_of tokens) (most_of tokens) (most_of tokens) (text_of tokens) n ≡ ends.Behind i
      → r.modifiers (place_of tokens) (most_of tokens) (text_of tokens) i ≡ Found ms q → first_unfit (owners q) [] ms ≡ Some y → unfit_mark (place_of tokens) (most_of tokens) owners (text_of tokens) n ≡ Some y
  unfolding unfit_mark
  told_behind i q ms y behind found told =
      let at_modifiers : behind_annotations (place_of tokens) (most_of tokens) owners (text_of tokens) (annotations_end (place_of tokens) (most_of tokens) (most_of tokens) (text_of tokens) n)
      ≡ modifiers_unfit owners (r.modifiers (place_of tokens) (most_of tokens) (text_of tokens) i)
      = ap (behind_annotations (place_of tokens) (most_of tokens) owners (text_of tokens)) behind in
      at_modifiers ∙ (ap (modifiers_unfit owners) found ∙ told)

  modifier_met : {notes : List AnnotationTree} {before : List Modifier} {owner : Place} {i p : ℕ} → Annotations (place_of tokens) (text_of tokens) notes n i → annotations_misfit notes ≡ None
      → ModifierList (place_of tokens) (text_of tokens) before i p → among modifier_words (terminal (text_of tokens p)) ≡ true → MayHave D placed (place_of tokens) (text_of tokens) n k owner
      → (MayFit D placed (place_of tokens) (text_of tokens) n k before (modifier (place_of tokens p) (text_of tokens p)) → ⊥)
      → (y : Misfit) × (unfit_mark (place_of tokens) (most_of tokens) owners (text_of tokens) n ≡ Some y)
  modifier_met {notes} {before} {owner} {i} {p} d fit ms word may no_fit =
      let one = modifier (place_of tokens p) (text_of tokens p) in
      let first_word = modifiers_first (place_of tokens) (most_of tokens) (λ y. (same_terminal y t.At ≡ false) × (same_terminal y t.LeftParen ≡ false)) (text_of tokens) no_note ms
      (no_note (terminal (text_of tokens p)) word) in
      let behind = marks.annotations_behind notes i n d fit first_word.0 first_word.1 in
      let w = marks.modifiers_behind i p before ms word in
      let low : n ≤ i = notes_forward d in
      let front : i ≤ p = modifiers_forward ms in
      let inside : p < w.1 = w.2 in
      let told = unfit_told before one (owners w.1) owner (laws.complete i w.1 (before ++ one ∷ w.0) behind w.3 owner may)
      (λ v. no_fit (record { owner = v.0; may = laws.sound i w.1 (before ++ one ∷ w.0) behind w.3 (omega arith) begun v.0 v.1; fits = v.2 })) in
      let met = first_met (owners w.1) [] before one w.0 told.0 told.1 in
      (met.0, told_behind i w.1 (before ++ one ∷ w.0) met.0 behind w.3 met.1)

  annotation_met : (x : Misfit) → annotations_end (place_of tokens) (most_of tokens) (most_of tokens) (text_of tokens) n ≡ ends.Unfit x
      → unfit_mark (place_of tokens) (most_of tokens) owners (text_of tokens) n ≡ Some x
  unfolding unfit_mark
  annotation_met x e = ap (behind_annotations (place_of tokens) (most_of tokens) owners (text_of tokens)) e

  pub early_met : (x : Misfit) → UnfitMark D placed (place_of tokens) (text_of tokens) n x → (y : Misfit) × (unfit_mark (place_of tokens) (most_of tokens) owners (text_of tokens) n ≡ Some y)
  early_met x (of_annotation {notes = notes} {note = note} {i = i} {j = j} d fit one whole misfit) = (x, annotation_met x (marks.unfit_end notes note n i j x d fit one whole misfit))
  early_met x (of_modifier {before = before} {owner = owner} {p = p} {k = m} d fit ms word low none each_fits may misfit no_fit) =
      let at = same_stop m owner none may in
      modifier_met d fit ms word (subst (λ (z : ℕ). MayHave D placed (place_of tokens) (text_of tokens) n z owner) at may)
      (λ h. no_fit (subst (λ (z : ℕ). MayFit D placed (place_of tokens) (text_of tokens) n z before (modifier (place_of tokens p) (text_of tokens p))) (sym at) h))
