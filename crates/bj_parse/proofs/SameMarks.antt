-- Annotations and modifiers are read in one way only.
use Rattle.std.proofs.Common.{◌≡◌, ℕ, zero, suc, ◌+◌, ◌<◌, ◌≤◌, ◌⊎◌, inl, inr, Bool, true, false, cond, refl, sym, ap, ◌∙◌, subst, arith, le_refl, List, [], ◌∷◌, ◌++◌, length, Option, Some, None}
use Rattle.std.proofs.lemmas.Bool.{cases_Bool, cases_lt}
use Rattle.std.specs.Cmp.Derive.{both_true}
use Rattle.std.proofs.lemmas.Slice.Eq.{bytes_eq-Decides}
use Rattle.std.proofs.lemmas.List.{append_assoc, append-nil}
use Rattle.bj_base.specs.declared.span.Span.{Span}
use Rattle.bj_token.specs.declared.token.Token.{Token}
use Rattle.bj_expr_tree.specs.declared.types.NamedPlace.{NamedPlace}
use Rattle.bj_tree.specs.declared.class.Modifier.{Modifier}
use Rattle.bj_tree.specs.declared.class.AnnotationTree.{AnnotationTree}
use Rattle.bj_rules.specs.declared.misfit.Misfit.{Misfit}
use Rattle.bj_rules.specs.Misfits.{first}
use Rattle.bj_rules.specs.Rules.{annotation_misfit, annotations_misfit}
use Rattle.bj_grammar.specs.declared.terminal.Terminal.{Terminal}
use Rattle.bj_grammar.specs.declared.terminal.Terminal.TheVariants as t
use Rattle.bj_grammar.specs.Terminal.{terminal, same_terminal, among}
use Rattle.bj_grammar.specs.Reader.{Text, Answer, Found, Wrong, Over, Parser, and_then, ◌>>=◌, pure, over, nowhere, sign, word, loop}
use Rattle.bj_grammar.specs.Given.{text_of, place_of}
use Rattle.bj_grammar.proofs.Laws.{stop, kind_is, is_kind, and_then_found}
use Rattle.bj_grammar.proofs.TextLemmas.{end_other, none_at_end}
use Rattle.bj_stmt.specs.Grammar.{named}
use Rattle.bj_class.specs.Grammar as g
use Rattle.bj_stmt.specs.Reading.{name_at}
use Rattle.bj_stmt.proofs.Ahead.{forth}
use Rattle.bj_stmt.proofs.Leftmost.{each, is_not, or_split}
use Rattle.bj_class.specs.Grammar.{expected, Annotation, Annotations, ModifierList, modifier, modifier_words}
use Rattle.bj_class.specs.Reading as r
use Rattle.bj_class.proofs.Needed.{annotation_words}
use Rattle.bj_class.proofs.NoteLaws.{annotation_laws, annotation_begins, modifiers_laws, modifiers_first}
use Rattle.bj_parse.specs.declared.annotations.AnnotationsEnd.{AnnotationsEnd}
use Rattle.bj_parse.specs.declared.annotations.AnnotationsEnd.TheVariants as ends
use Rattle.bj_parse.specs.Early.{annotations_end, annotation_end, behind_one, judged}
use Rattle.bj_parse.proofs.Ends.{over_in}

-- ---- one annotation

-- a token of the terminal is read
word_reads : {A : Type 0} (k : Terminal) (q : List ℕ → Parser A) (s : Text) (i : ℕ) → terminal (s i) ≡ k → word k q s i ≡ q (s i).text s (suc i)
word_reads k q s i e = ap (λ (b : Bool). cond b (q (s i).text s (suc i)) (Wrong i)) (is_kind _ _ e)

spelled_reads : {A : Type 0} (units : List ℕ) (q : Parser A) (s : Text) (i : ℕ) → terminal (s i) ≡ t.Word → (s i).text ≡ units → r.spelled units q s i ≡ q s (suc i)
spelled_reads units q s i o e = ap (λ (b : Bool). cond b (q s (suc i)) (Wrong i)) (both_true (is_kind _ _ o) ((bytes_eq-Decides (s i).text units).1 e))

module _ (place : ℕ → Span) (most : ℕ) where
  name_reads : (s : Text) (i : ℕ) → terminal (s i) ≡ t.Word → name_at place most s i ≡ Found (named (place i) (s i)) (suc i)
  unfolding name_at
  name_reads s i w = word_reads t.Word (λ v. pure (record { at = place i; name = v })) s i w

  abbrev closing : NamedPlace → Parser NamedPlace
  closing c = sign t.Dot (sign t.Class (sign t.RightParen (pure c)))

  closing_reads : (c : NamedPlace) (s : Text) (i : ℕ) → terminal (s i) ≡ t.Dot → terminal (s (suc i)) ≡ t.Class → terminal (s (suc (suc i))) ≡ t.RightParen → closing c s i ≡ Found c (suc (suc (suc i)))
  closing_reads c s i dot class close =
      word_reads t.Dot (λ _. sign t.Class (sign t.RightParen (pure c))) s i dot
      ∙ (word_reads t.Class (λ _. sign t.RightParen (pure c)) s (suc i) class
      ∙ word_reads t.RightParen (λ _. pure c) s (suc (suc i)) close)

  expecting_reads : (s : Text) (n : ℕ) → terminal (s n) ≡ t.LeftParen → terminal (s (suc n)) ≡ t.Word → (s (suc n)).text ≡ expected
      → terminal (s (suc (suc n))) ≡ t.Assign → terminal (s (suc (suc (suc n)))) ≡ t.Word → terminal (s (suc (suc (suc (suc n))))) ≡ t.Dot → terminal (s (suc (suc (suc (suc (suc n)))))) ≡ t.Class
      → terminal (s (suc (suc (suc (suc (suc (suc n))))))) ≡ t.RightParen
      → r.expecting place most s n ≡ Found (named (place (suc (suc (suc n)))) (s (suc (suc (suc n))))) (suc (suc (suc (suc (suc (suc (suc n)))))))
  unfolding r.expecting
  expecting_reads s n p x is eq c dot class close =
      word_reads t.LeftParen (λ _. r.spelled expected (sign t.Assign (name_at place most >>= closing))) s n p
      ∙ (spelled_reads expected (sign t.Assign (name_at place most >>= closing)) s (suc n) x is
      ∙ (word_reads t.Assign (λ _. name_at place most >>= closing) s (suc (suc n)) eq
      ∙ (ap (λ (y : Answer NamedPlace). and_then y (λ d m. closing d s m)) (name_reads s (suc (suc (suc n))) c)
      ∙ closing_reads (named (place (suc (suc (suc n)))) (s (suc (suc (suc n))))) s (suc (suc (suc (suc n)))) dot class close)))

  -- behind a name, by the next token
  no_class_reads : (s : Text) (n : ℕ) → same_terminal (terminal (s n)) t.LeftParen ≡ false → r.maybe_expecting place most s n ≡ Found None n
  unfolding r.maybe_expecting
  no_class_reads s n e = ap (λ (b : Bool). cond b ((r.expecting place most >>= λ c. pure (Some c)) s n) (Found None n)) e

  class_reads : (s : Text) (n : ℕ) → terminal (s n) ≡ t.LeftParen → r.maybe_expecting place most s n ≡ and_then (r.expecting place most s n) (λ c j. Found (Some c) j)
  unfolding r.maybe_expecting
  class_reads s n e = ap (λ (b : Bool). cond b ((r.expecting place most >>= λ c. pure (Some c)) s n) (Found None n)) (is_kind _ _ e)

  abbrev note : ℕ → NamedPlace → Option NamedPlace → AnnotationTree
  note i x c = record { at = place i; name = x; expected = c }

  abbrev with_class : Text → ℕ → Answer (Option NamedPlace) → Answer AnnotationTree
  with_class s i y = and_then y (λ c j. Found (note i (named (place (suc i)) (s (suc i))) c) j)

  named_reads : (s : Text) (i : ℕ) → terminal (s i) ≡ t.At → terminal (s (suc i)) ≡ t.Word → r.annotation place most s i ≡ with_class s i (r.maybe_expecting place most s (suc (suc i)))
  unfolding r.annotation
  named_reads s i o w =
      word_reads t.At (λ _. name_at place most >>= λ x. r.maybe_expecting place most >>= λ c. pure (note i x c)) s i o
      ∙ ap (λ (y : Answer NamedPlace). and_then y (λ x m. and_then (r.maybe_expecting place most s m) (λ c j. Found (note i x c) j))) (name_reads s (suc i) w)

  -- an annotation that stands with the parentheses behind its name is read
  pub note_read : (s : Text) (c : AnnotationTree) (i j : ℕ) → Annotation place s c i j → (terminal (s (suc (suc i))) ≡ t.LeftParen → suc (suc i) < j) → r.annotation place most s i ≡ Found c j
  note_read s c i j (g.marker o w e at) whole =
      named_reads s i o w ∙ (ap (with_class s i) (no_class_reads s (suc (suc i)) (no_paren (cases_Bool (same_terminal (terminal (s (suc (suc i)))) t.LeftParen))))
      ∙ (ap (λ (x : AnnotationTree). Found x (suc (suc i))) (sym e) ∙ ap (λ (m : ℕ). Found c m) (sym at)))
    where
      no_paren : (same_terminal (terminal (s (suc (suc i)))) t.LeftParen ≡ true) ⊎ (same_terminal (terminal (s (suc (suc i)))) t.LeftParen ≡ false)
          → same_terminal (terminal (s (suc (suc i)))) t.LeftParen ≡ false
      no_paren (inl p) = let h = whole (kind_is _ _ p) in absurd (omega arith)
      no_paren (inr p) = p
  note_read s c i j (g.expecting {n = n} o w begin p x is eq y dot class close e at) whole =
      named_reads s i o w
      ∙ (ap (λ (m : ℕ). with_class s i (r.maybe_expecting place most s m)) (sym begin)
      ∙ (ap (with_class s i) (class_reads s n p ∙ ap (λ (z : Answer NamedPlace). and_then z (λ c j. Found (Some c) j)) (expecting_reads s n p x is eq y dot class close))
      ∙ (ap (λ (x : AnnotationTree). Found x (suc (suc (suc (suc (suc (suc (suc n)))))))) (sym e) ∙ ap (λ (m : ℕ). Found c m) (sym at))))

  -- what is read with a parenthesis behind the name has a class
  note_class : (s : Text) (i : ℕ) (c : AnnotationTree) (j : ℕ) → terminal (s i) ≡ t.At → terminal (s (suc i)) ≡ t.Word → terminal (s (suc (suc i))) ≡ t.LeftParen
      → r.annotation place most s i ≡ Found c j → c.expected ≡ None → ⊥
  note_class s i c j o w p e none = of (r.expecting place most s (suc (suc i))) (ap (with_class s i) (sym (class_reads s (suc (suc i)) p)) ∙ (sym (named_reads s i o w) ∙ e))
    where
      of : (y : Answer NamedPlace) → with_class s i (and_then y (λ c j. Found (Some c) j)) ≡ Found c j → ⊥
      of (Found x m) h = absurd (cc)
      of (Wrong m) h = absurd (cc)
      of (Over m at) h = absurd (cc)

  -- what is read stands with its parentheses
  note_whole : (s : Text) (i : ℕ) (c : AnnotationTree) (j : ℕ) → r.annotation place most s i ≡ Found c j → terminal (s (suc (suc i))) ≡ t.LeftParen → suc (suc i) < j
  note_whole s i c j e p = of ((annotation_laws place most).sound s i c j e)
    where
      of : Annotation place s c i j → suc (suc i) < j
      of (g.marker o w is at) = absurd (note_class s i c j o w p e (ap (λ (x : AnnotationTree). x.expected) is))
      of (g.expecting {n = n} o w begin q x is eq y dot class close is_note at) = omega arith

-- ---- annotations one after another

at_facts : same_terminal t.At t.LeftParen ≡ false
unfolding same_terminal
at_facts = refl

other_facts : (among modifier_words t.Other ≡ false) × (same_terminal t.Other t.At ≡ false)
unfolding same_terminal
other_facts = (refl, refl)

modifier_facts : (x : Terminal) → among modifier_words x ≡ true → (same_terminal x t.At ≡ false) × (same_terminal x t.LeftParen ≡ false)
unfolding same_terminal
modifier_facts = each (λ x. (same_terminal x t.At ≡ false) × (same_terminal x t.LeftParen ≡ false)) modifier_words
    ((refl, refl), ((refl, refl), ((refl, refl), ((refl, refl), ((refl, refl), ((refl, refl), ((refl, refl), ((refl, refl), tt))))))))

never_both : (b : Bool) → b ≡ true → b ≡ false → ⊥
never_both true e h = absurd (cc)
never_both false e h = absurd (cc)

-- the same from the first on
data Forward (place : ℕ → Span) (s : Text) : List AnnotationTree → ℕ → ℕ → Type 0 where
  no_more : {a : List AnnotationTree} {i j : ℕ} → a ≡ [] → j ≡ i → Forward place s a i j
  one_more : {a : List AnnotationTree} {b : List AnnotationTree} {c : AnnotationTree} {i n j : ℕ} → Annotation place s c i n → Forward place s b n j → a ≡ c ∷ b → Forward place s a i j

module _ (place : ℕ → Span) (s : Text) where
  forward_end : {a : List AnnotationTree} (c : AnnotationTree) {i n : ℕ} (j : ℕ) → Forward place s a i n → Annotation place s c n j → Forward place s (a ++ c ∷ []) i j
  forward_end c j (no_more e at) o = one_more (subst (λ (m : ℕ). Annotation place s c m j) at o) (no_more refl refl) (ap (λ (x : List AnnotationTree). x ++ c ∷ []) e)
  forward_end c j (one_more p rest e) o = one_more p (forward_end c j rest o) (ap (λ (x : List AnnotationTree). x ++ c ∷ []) e)

  forward : {a : List AnnotationTree} {i j : ℕ} → Annotations place s a i j → Forward place s a i j
  forward (g.no_annotations e at) = no_more e at
  forward {i = i} {j = j} (g.next_annotation {c = c} d o e) = subst (λ (x : List AnnotationTree). Forward place s x i j) (sym e) (forward_end c j (forward d) o)

first_none : (x y : Option Misfit) → first (x ∷ y ∷ []) ≡ None → (x ≡ None) × (y ≡ None)
first_none None None e = (refl, refl)
first_none None (Some z) e = absurd (cc)
first_none (Some z) y e = absurd (cc)

fit_end : (a : List AnnotationTree) (c : AnnotationTree) → annotations_misfit a ≡ None → annotation_misfit c ≡ None → annotations_misfit (a ++ c ∷ []) ≡ None
fit_end [] c e h = ap (λ (x : Option Misfit). first (x ∷ None ∷ [])) h
fit_end (b ∷ a) c e h =
    let w = first_none _ _ e in
    ap (λ (x : Option Misfit). first (x ∷ annotations_misfit (a ++ c ∷ []) ∷ [])) w.0 ∙ ap (λ (x : Option Misfit). first (x ∷ [])) (fit_end a c w.1 h)

module _ (place : ℕ → Span) (most : ℕ) where
  -- what may stand behind an annotation shows that it stands with its parentheses
  note_stands : (s : Text) {c : AnnotationTree} {i j : ℕ} → Annotation place s c i j → same_terminal (terminal (s j)) t.LeftParen ≡ false → terminal (s (suc (suc i))) ≡ t.LeftParen → suc (suc i) < j
  note_stands s {i = i} (g.marker o w is at) last p =
      absurd (never_both (same_terminal (terminal (s (suc (suc i)))) t.LeftParen) (is_kind _ _ p) (subst (λ (m : ℕ). same_terminal (terminal (s m)) t.LeftParen ≡ false) at last))
  note_stands s (g.expecting o w begin q x is eq y dot class close is_note at) last p = omega arith

  forward_first : (s : Text) {a : List AnnotationTree} {i j : ℕ} → Forward place s a i j → same_terminal (terminal (s j)) t.LeftParen ≡ false → same_terminal (terminal (s i)) t.LeftParen ≡ false
  forward_first s (no_more e at) last = subst (λ (m : ℕ). same_terminal (terminal (s m)) t.LeftParen ≡ false) at last
  forward_first s {i = i} (one_more {c = c} {n = n} o rest e) last = is_not _ t.At t.LeftParen (annotation_begins place most s c i n o).0 at_facts

  -- ---- how the end of annotations is looked for

  end_at : (m : ℕ) (s : Text) (i : ℕ) → same_terminal (terminal (s i)) t.At ≡ false → annotations_end place most m s i ≡ ends.Behind i
  unfolding annotations_end
  end_at zero s i e = ap (λ (b : Bool). cond b ends.Within (ends.Behind i)) e
  end_at (suc m) s i e = ap (λ (b : Bool). cond b (behind_one (annotation_end (r.annotation place most s i)) (λ j. annotations_end place most m s j)) (ends.Behind i)) e

  end_turn : (m : ℕ) (s : Text) (i : ℕ) (c : AnnotationTree) (j : ℕ) → terminal (s i) ≡ t.At → r.annotation place most s i ≡ Found c j
      → annotations_end place most (suc m) s i ≡ behind_one (judged (annotation_misfit c) j) (λ j. annotations_end place most m s j)
  unfolding annotations_end
  end_turn m s i c j e read =
      ap (λ (b : Bool). cond b (behind_one (annotation_end (r.annotation place most s i)) (λ j. annotations_end place most m s j)) (ends.Behind i)) (is_kind _ _ e)
      ∙ ap (λ (x : Answer AnnotationTree). behind_one (annotation_end x) (λ j. annotations_end place most m s j)) read

  -- annotations that fit are passed, and turns are left for those that may stand behind
  walk : (s : Text) (len : ℕ) → ((x : ℕ) → len ≤ x → same_terminal (terminal (s x)) t.At ≡ false) → (m : ℕ) {notes : List AnnotationTree} {n i : ℕ} → Forward place s notes n i
      → annotations_misfit notes ≡ None
      → same_terminal (terminal (s i)) t.LeftParen ≡ false → len ≤ n + m → (l : ℕ) × (len ≤ i + l) × (annotations_end place most m s n ≡ annotations_end place most l s i)
  walk s len past m (no_more e at) fit last enough = (m, (omega arith), ap (λ (x : ℕ). annotations_end place most m s x) (sym at))
  walk s len past zero {n = n} (one_more {c = c} {n = x} o rest e) fit last enough =
      absurd (never_both (same_terminal (terminal (s n)) t.At) (is_kind _ _ (annotation_begins place most s c n x o).0) (past n (omega arith)))
  walk s len past (suc m) {n = n} {i = i} (one_more {b = b} {c = c} {n = x} o rest e) fit last enough =
      let begins = annotation_begins place most s c n x o in
      let later : n < x = begins.1 in
      let w = first_none (annotation_misfit c) (annotations_misfit b) (ap annotations_misfit (sym e) ∙ fit) in
      let again = walk s len past m rest w.1 last (omega arith) in (
        again.0,
        again.1,
        end_turn m s n c x begins.0 (note_read place most s c n x o (note_stands s o (forward_first s rest last)))
            ∙ (ap (λ (y : Option Misfit). behind_one (judged y x) (λ j. annotations_end place most m s j)) w.0 ∙ again.2),
      )

  -- what looking for the end comes to
  data Turns (s : Text) : AnnotationsEnd → ℕ → Type 0 where
    ended : {e : AnnotationsEnd} {x : ℕ} → same_terminal (terminal (s x)) t.At ≡ false → e ≡ ends.Behind x → Turns s e x
    turn : {e : AnnotationsEnd} {c : AnnotationTree} {x j : ℕ} → same_terminal (terminal (s x)) t.At ≡ true → r.annotation place most s x ≡ Found c j → annotation_misfit c ≡ None
        → Turns s e j → Turns s e x
    stopped : {e : AnnotationsEnd} {c : AnnotationTree} {z : Misfit} {x j : ℕ} → r.annotation place most s x ≡ Found c j → annotation_misfit c ≡ Some z → e ≡ ends.Unfit z → Turns s e x
    within : {e : AnnotationsEnd} {x : ℕ} → e ≡ ends.Within → Turns s e x

  by_misfit : (s : Text) (x : ℕ) (f : ℕ → AnnotationsEnd) → ((j : ℕ) → Turns s (f j) j) → same_terminal (terminal (s x)) t.At ≡ true → (c : AnnotationTree) (j : ℕ) → r.annotation place most s x ≡ Found c j
      → (y : Option Misfit) → annotation_misfit c ≡ y → Turns s (behind_one (judged y j) f) x
  by_misfit s x f again is_at c j read None is = turn is_at read is (again j)
  by_misfit s x f again is_at c j read (Some z) is = stopped read is refl

  by_answer : (s : Text) (x : ℕ) (f : ℕ → AnnotationsEnd) → ((j : ℕ) → Turns s (f j) j) → same_terminal (terminal (s x)) t.At ≡ true → (y : Answer AnnotationTree) → r.annotation place most s x ≡ y
      → Turns s (behind_one (annotation_end y) f) x
  by_answer s x f again is_at (Found c j) read = by_misfit s x f again is_at c j read (annotation_misfit c) refl
  by_answer s x f again is_at (Wrong k) read = within refl
  by_answer s x f again is_at (Over k at) read = within refl

  by_at : (s : Text) (x : ℕ) (e : AnnotationsEnd) (b : Bool) → same_terminal (terminal (s x)) t.At ≡ b → (b ≡ true → Turns s e x) → Turns s (cond b e (ends.Behind x)) x
  by_at s x e true is h = h refl
  by_at s x e false is h = ended is refl

  turns : (s : Text) (m x : ℕ) → Turns s (annotations_end place most m s x) x
  unfolding annotations_end
  turns s zero x = by_at s x ends.Within (same_terminal (terminal (s x)) t.At) refl (λ is. within refl)
  turns s (suc m) x = by_at s x (behind_one (annotation_end (r.annotation place most s x)) (λ j. annotations_end place most m s j)) (same_terminal (terminal (s x)) t.At) refl
      (λ is. by_answer s x (λ j. annotations_end place most m s j) (λ j. turns s m j) is (r.annotation place most s x) refl)

  turns_onward : (s : Text) {e : AnnotationsEnd} {x : ℕ} (i : ℕ) → Turns s e x → e ≡ ends.Behind i → x ≤ i
  turns_onward s {x = x} i (ended none is) end = let at : ends.Behind x ≡ ends.Behind i = sym is ∙ end in let same : x ≡ i = cc in omega arith
  turns_onward s {x = x} i (turn {j = j} is_at read fit rest) end =
      let h = turns_onward s i rest end in
      let first_end : x ≤ j = subst (λ (m : ℕ). x ≤ m) (ap stop read) (forth (annotation_laws place most) s x) in
      omega arith
  turns_onward s i (stopped {z = z} read is end) e = let no : ends.Unfit z ≡ ends.Behind i = sym end ∙ e in absurd (cc)
  turns_onward s i (within is) e = let no : ends.Within ≡ ends.Behind i = sym is ∙ e in absurd (cc)

  -- annotations end in one place in all texts that are the same so far
  notes_end : (s u : Text) {e : AnnotationsEnd} {x : ℕ} (i k : ℕ) → Turns s e x → e ≡ ends.Behind i → i < k → ((y : ℕ) → y < k → u y ≡ s y) → {others : List AnnotationTree} {j : ℕ}
      → Forward place u others x j
      → same_terminal (terminal (u j)) t.At ≡ false → same_terminal (terminal (u j)) t.LeftParen ≡ false → j ≡ i
  notes_end s u {x = x} i k (ended none is) end below same d no_at no_paren = of d
    where
      here : x ≡ i
      here = let at : ends.Behind x ≡ ends.Behind i = sym is ∙ end in cc

      of : {others : List AnnotationTree} {j : ℕ} → Forward place u others x j → j ≡ i
      of (no_more e at) = at ∙ here
      of (one_more {c = c} {n = n} o rest e) =
          let is_end = here in
          absurd (never_both (same_terminal (terminal (u x)) t.At) (is_kind _ _ (annotation_begins place most u c x n o).0) (ap (λ (v : Token). same_terminal (terminal v) t.At) (same x (omega arith)) ∙ none))
  notes_end s u {x = x} i k (turn {c = c} {j = y} is_at read fit rest) end below same d no_at no_paren = of (λ b f. notes_end s u i k rest end below same f no_at no_paren) d no_at no_paren
    where
      onward : x ≤ y
      onward = subst (λ (m : ℕ). x ≤ m) (ap stop read) (forth (annotation_laws place most) s x)

      ends_before : y ≤ i
      ends_before = turns_onward s i rest end

      same_read : r.annotation place most u x ≡ Found c y
      same_read = (annotation_laws place most).local s u x (λ m h. let last : m ≤ y = subst (λ (n : ℕ). m ≤ n) (ap stop read) h in let so_far = ends_before in same m (omega arith)) ∙ read

      at_in : same_terminal (terminal (u x)) t.At ≡ true
      at_in = let a = onward in let b = ends_before in ap (λ (v : Token). same_terminal (terminal v) t.At) (same x (omega arith)) ∙ is_at

      of : {others : List AnnotationTree} {j : ℕ} → ((b : List AnnotationTree) → Forward place u b y j → j ≡ i) → Forward place u others x j
          → same_terminal (terminal (u j)) t.At ≡ false → same_terminal (terminal (u j)) t.LeftParen ≡ false → j ≡ i
      of {j = j} again (no_more e at) no_at no_paren = absurd (never_both (same_terminal (terminal (u x)) t.At) at_in (subst (λ (m : ℕ). same_terminal (terminal (u m)) t.At ≡ false) at no_at))
      of {j = j} again (one_more {b = b} {c = d} {n = z} o later e) no_at no_paren =
          let one_read : r.annotation place most u x ≡ Found d z = note_read place most u d x z o (note_stands u o (forward_first u later no_paren)) in
          let one_end : z ≡ y = ap stop (sym one_read ∙ same_read) in
          again b (subst (λ (m : ℕ). Forward place u b m j) one_end later)
  notes_end s u i k (stopped {z = z} read is end) e below same d no_at no_paren = let no : ends.Unfit z ≡ ends.Behind i = sym end ∙ e in absurd (cc)
  notes_end s u i k (within is) e below same d no_at no_paren = let no : ends.Within ≡ ends.Behind i = sym is ∙ e in absurd (cc)

-- ---- modifiers

-- what a loop finds ends at a token with which it does not go on
loop_case : {A : Type 0} (test : Terminal → Bool) (s : Text) (a b : A) (i j : ℕ) (goes : Answer A) (x : Bool) → test (terminal (s i)) ≡ x → (goes ≡ Found b j → test (terminal (s j)) ≡ false)
    → cond x goes (Found a i) ≡ Found b j → test (terminal (s j)) ≡ false
loop_case test s a b i j goes true is f e = f e
loop_case test s a b i j goes false is f e = let at : i ≡ j = cc in subst (λ (m : ℕ). test (terminal (s m)) ≡ false) at is

loop_ends : {A : Type 0} (test : Terminal → Bool) (step : A → Parser A) (m : ℕ) (a b : A) (s : Text) (i j : ℕ) → loop m test step a s i ≡ Found b j → test (terminal (s j)) ≡ false
unfolding loop
loop_ends test step zero a b s i j e = loop_case test s a b i j (over (λ _. nowhere) s i) (test (terminal (s i))) refl (λ h. absurd (cc)) e
loop_ends test step (suc m) a b s i j e = loop_case test s a b i j ((step a >>= loop m test step) s i) (test (terminal (s i))) refl
    (λ h. let w = and_then_found (step a s i) (λ c k. loop m test step c s k) b j h in loop_ends test step m w.0 b s w.1 j w.3) e

module _ (place : ℕ → Span) (most : ℕ) where
  modifiers_end : (s : Text) (i : ℕ) (ms : List Modifier) (q : ℕ) → r.modifiers place most s i ≡ Found ms q → among modifier_words (terminal (s q)) ≡ false
  unfolding r.modifiers
  modifiers_end s i ms q e = loop_ends (among modifier_words) (r.next_modifier place most) most [] ms s i q e

  modifiers_forward : (s : Text) {ms : List Modifier} {i q : ℕ} → ModifierList place s ms i q → i ≤ q
  modifiers_forward s {ms = ms} {i = i} {q = q} d = (modifiers_laws place most).shape.forward s ms i q d

  -- each token of modifiers is one
  each_modifier : (s : Text) {ms : List Modifier} {i q : ℕ} → ModifierList place s ms i q → (x : ℕ) → i ≤ x → x < q → among modifier_words (terminal (s x)) ≡ true
  each_modifier s (g.no_modifiers e at) x low high = absurd (omega arith)
  each_modifier s {i = i} (g.next_modifier {n = n} d o e at) x low high =
      elim (cases_lt x n) [ inl h ↦ each_modifier s d x low h | inr h ↦ (let same : n ≡ x = omega arith in subst (λ (m : ℕ). among modifier_words (terminal (s m)) ≡ true) same o) ]

  -- the end of the modifiers from some on
  last_modifier : (s : Text) (len : ℕ) → ((x : ℕ) → len ≤ x → among modifier_words (terminal (s x)) ≡ false) → (m : ℕ) (a : List Modifier) (i x : ℕ) → ModifierList place s a i x → len ≤ x + m
      → (rest : List Modifier) × (q : ℕ) × (x ≤ q) × ModifierList place s (a ++ rest) i q × (among modifier_words (terminal (s q)) ≡ false)
  last_modifier s len past zero a i x d enough = ([], x, le_refl x, subst (λ (y : List Modifier). ModifierList place s y i x) (sym (append-nil a)) d, past x (omega arith))
  last_modifier s len past (suc m) a i x d enough = of (cases_Bool (among modifier_words (terminal (s x)))) (λ o. last_modifier s len past m (a ++ modifier (place x) (s x) ∷ []) i (suc x) (g.next_modifier d o refl refl) (omega arith))
    where
      Ends : List Modifier → ℕ → Type 0
      Ends b y = (rest : List Modifier) × (q : ℕ) × (y ≤ q) × ModifierList place s (b ++ rest) i q × (among modifier_words (terminal (s q)) ≡ false)

      of : (among modifier_words (terminal (s x)) ≡ true) ⊎ (among modifier_words (terminal (s x)) ≡ false)
          → (among modifier_words (terminal (s x)) ≡ true → Ends (a ++ modifier (place x) (s x) ∷ []) (suc x)) → Ends a x
      of (inl o) again =
          let w = again o in
          (modifier (place x) (s x) ∷ w.0, w.1, (let h = w.2 in omega arith), subst (λ (y : List Modifier). ModifierList place s y i w.1) (append_assoc a (modifier (place x) (s x) ∷ []) w.0) w.3, w.4)
      of (inr o) again = ([], x, le_refl x, subst (λ (y : List Modifier). ModifierList place s y i x) (sym (append-nil a)) d, o)

module _ (tokens : List Token) where
  abbrev P : ℕ → Span
  P = place_of tokens

  abbrev S : Text
  S = text_of tokens

  abbrev most : ℕ
  most = suc (length tokens)

  pub annotation_read : (c : AnnotationTree) (i j : ℕ) → Annotation P S c i j → (terminal (S (suc (suc i))) ≡ t.LeftParen → suc (suc i) < j) → r.annotation P most S i ≡ Found c j
  annotation_read c i j d whole = note_read P most S c i j d whole

  past_at : (x : ℕ) → length tokens ≤ x → same_terminal (terminal (S x)) t.At ≡ false
  past_at x le = is_not _ t.Other t.At (end_other tokens x le) other_facts.1

  past_modifiers : (x : ℕ) → length tokens ≤ x → among modifier_words (terminal (S x)) ≡ false
  past_modifiers x le = none_at_end tokens x modifier_words le other_facts.0

  -- an annotation that does not fit is met where turns are left
  last_one : (m i j : ℕ) (c : AnnotationTree) (x : Misfit) → Annotation P S c i j → (terminal (S (suc (suc i))) ≡ t.LeftParen → suc (suc i) < j) → annotation_misfit c ≡ Some x → length tokens ≤ i + m
      → annotations_end P most m S i ≡ ends.Unfit x
  last_one zero i j c x d whole is enough = absurd (never_both _ (is_kind _ _ (annotation_begins P most S c i j d).0) (past_at i (omega arith)))
  last_one (suc m) i j c x d whole is enough =
      end_turn P most m S i c j (annotation_begins P most S c i j d).0 (note_read P most S c i j d whole) ∙ ap (λ (y : Option Misfit). behind_one (judged y j) (λ o. annotations_end P most m S o)) is

  behind_from : (n i : ℕ) (before : List AnnotationTree) {e : AnnotationsEnd} {x : ℕ} → Turns P most S e x → e ≡ ends.Behind i → Annotations P S before n x → annotations_misfit before ≡ None
      → (notes : List AnnotationTree) × Annotations P S notes n i × (annotations_misfit notes ≡ None) × (same_terminal (terminal (S i)) t.At ≡ false)
  behind_from n i before {x = x} (ended none is) e d fit =
      let end : ends.Behind x ≡ ends.Behind i = sym is ∙ e in
      let at : x ≡ i = cc in
      (before, subst (λ (m : ℕ). Annotations P S before n m) at d, fit, subst (λ (m : ℕ). same_terminal (terminal (S m)) t.At ≡ false) at none)
  behind_from n i before {x = x} (turn {c = c} {j = j} is_at read is rest) e d fit =
      behind_from n i (before ++ c ∷ []) rest e (g.next_annotation d ((annotation_laws P most).sound S x c j read) refl) (fit_end before c fit is)
  behind_from n i before (stopped {z = z} read is end) e d fit = let no : ends.Unfit z ≡ ends.Behind i = sym end ∙ e in absurd (cc)
  behind_from n i before (within is) e d fit = let no : ends.Within ≡ ends.Behind i = sym is ∙ e in absurd (cc)

  unfit_from : (n : ℕ) (y : Misfit) (before : List AnnotationTree) {e : AnnotationsEnd} {x : ℕ} → Turns P most S e x → e ≡ ends.Unfit y → Annotations P S before n x → annotations_misfit before ≡ None
      → (notes : List AnnotationTree) × (note : AnnotationTree) × (i : ℕ) × (j : ℕ) × Annotations P S notes n i × (annotations_misfit notes ≡ None)
      × Annotation P S note i j × (terminal (S (suc (suc i))) ≡ t.LeftParen → suc (suc i) < j) × (annotation_misfit note ≡ Some y)
  unfit_from n y before {x = x} (ended none is) e d fit = let no : ends.Behind x ≡ ends.Unfit y = sym is ∙ e in absurd (cc)
  unfit_from n y before {x = x} (turn {c = c} {j = j} is_at read is rest) e d fit =
      unfit_from n y (before ++ c ∷ []) rest e (g.next_annotation d ((annotation_laws P most).sound S x c j read) refl) (fit_end before c fit is)
  unfit_from n y before {x = x} (stopped {c = c} {z = z} {j = j} read is end) e d fit =
      let same : ends.Unfit z ≡ ends.Unfit y = sym end ∙ e in
      let told : z ≡ y = cc in
      (before, c, x, j, d, fit, (annotation_laws P most).sound S x c j read, note_whole P most S x c j read, is ∙ ap Some told)
  unfit_from n y before (within is) e d fit = let no : ends.Within ≡ ends.Unfit y = sym is ∙ e in absurd (cc)

  note_split : (x : Terminal) → among annotation_words x ≡ false → (same_terminal x t.At ≡ false) × (same_terminal x t.LeftParen ≡ false)
  note_split x e = let w = or_split (same_terminal x t.At) _ e in (w.0, (or_split (same_terminal x t.LeftParen) _ w.1).0)

  -- the token behind annotations is a modifier or stands behind the modifiers
  after_notes : (u : Text) {more : List Modifier} {j p : ℕ} → ModifierList P u more j p → (same_terminal (terminal (u p)) t.At ≡ false) × (same_terminal (terminal (u p)) t.LeftParen ≡ false)
      → (same_terminal (terminal (u j)) t.At ≡ false) × (same_terminal (terminal (u j)) t.LeftParen ≡ false)
  after_notes u d last = modifiers_first P most (λ x. (same_terminal x t.At ≡ false) × (same_terminal x t.LeftParen ≡ false)) u modifier_facts d last

  pub annotations_behind : (notes : List AnnotationTree) (i n : ℕ) → Annotations P S notes n i → annotations_misfit notes ≡ None → same_terminal (terminal (S i)) t.At ≡ false
      → same_terminal (terminal (S i)) t.LeftParen ≡ false
      → annotations_end P most most S n ≡ ends.Behind i
  annotations_behind notes i n d fit no_at no_paren =
      let w = walk P most S (length tokens) past_at most (forward P S d) fit no_paren (omega arith) in
      w.2 ∙ end_at P most w.0 S i no_at

  pub modifiers_behind : (i p : ℕ) (before : List Modifier) → ModifierList P S before i p → among modifier_words (terminal (S p)) ≡ true
      → (rest : List Modifier) × (q : ℕ) × (p < q) × (r.modifiers P most S i ≡ Found (before ++ modifier (P p) (S p) ∷ rest) q) × (among modifier_words (terminal (S q)) ≡ false)
  modifiers_behind i p before d is_one =
      let w = last_modifier P most S (length tokens) past_modifiers most (before ++ modifier (P p) (S p) ∷ []) i (suc p) (g.next_modifier d is_one refl refl) (omega arith) in
      let stands : ModifierList P S (before ++ modifier (P p) (S p) ∷ w.0) i w.1 = subst (λ (y : List Modifier). ModifierList P S y i w.1) (append_assoc before (modifier (P p) (S p) ∷ []) w.0) w.3 in
      let low : i ≤ p = modifiers_forward P most S d in
      let high : p < w.1 = w.2 in
      let before_end : p < length tokens = elim (cases_lt p (length tokens)) [ inl h ↦ h | inr h ↦ absurd (never_both _ is_one (past_modifiers p h)) ] in (
        w.0,
        w.1,
        high,
        elim ((modifiers_laws P most).complete S i (before ++ modifier (P p) (S p) ∷ w.0) w.1 stands w.4) [
          | inl h ↦ h
          | inr h ↦ elim h.why [ inl x ↦ absurd x | inr x ↦ absurd (let end : h.place ≤ length tokens = over_in (modifiers_laws P most) tokens i (omega arith) h.place h.node h.is in omega arith) ]
        ],
        w.4,
      )

  pub same_marks : (n i q k : ℕ) (ms : List Modifier) → annotations_end P most most S n ≡ ends.Behind i → r.modifiers P most S i ≡ Found ms q → (t : Text) → ((x : ℕ) → x < k → t x ≡ S x) → q < k
      → (others : List AnnotationTree) (more : List Modifier) (j p : ℕ) → Annotations P t others n j → ModifierList P t more j p
      → among modifier_words (terminal (t p)) ≡ false → among annotation_words (terminal (t p)) ≡ false → p ≡ q
  same_marks n i q k ms behind read u same below others more j p noted modified no_modifier no_note =
      let found : ModifierList P S ms i q = (modifiers_laws P most).sound S i ms q read in
      let ended : among modifier_words (terminal (S q)) ≡ false = modifiers_end P most S i ms q read in
      let low : i ≤ q = modifiers_forward P most S found in
      let w = note_split (terminal (u p)) no_note in
      let next = after_notes u modified w in
      let same_end : j ≡ i = notes_end P most S u i k (turns P most S most n) behind (omega arith) same (forward P u noted) next.0 next.1 in
      let from : ModifierList P u more i p = subst (λ (m : ℕ). ModifierList P u more m p) same_end modified in
      let low_too : i ≤ p = modifiers_forward P most u from in
      elim (cases_lt p q) [
        | inl h ↦ absurd (never_both _ (each_modifier P most S found p low_too h) (ap (λ (v : Token). among modifier_words (terminal v)) (sym (same p (omega arith))) ∙ no_modifier))
        | inr h ↦ elim (cases_lt q p) [
          | inl l ↦ absurd (never_both _ (each_modifier P most u from q low l) (ap (λ (v : Token). among modifier_words (terminal v)) (same q below) ∙ ended))
          | inr l ↦ omega arith
        ]
      ]

  pub found_behind : (n i : ℕ) → annotations_end P most most S n ≡ ends.Behind i
      → (notes : List AnnotationTree) × Annotations P S notes n i × (annotations_misfit notes ≡ None) × (same_terminal (terminal (S i)) t.At ≡ false)
  found_behind n i e = behind_from n i [] (turns P most S most n) e (g.no_annotations refl refl) refl

  pub found_unfit : (n : ℕ) (x : Misfit) → annotations_end P most most S n ≡ ends.Unfit x
      → (notes : List AnnotationTree) × (note : AnnotationTree) × (i : ℕ) × (j : ℕ) × Annotations P S notes n i × (annotations_misfit notes ≡ None)
      × Annotation P S note i j × (terminal (S (suc (suc i))) ≡ t.LeftParen → suc (suc i) < j) × (annotation_misfit note ≡ Some x)
  found_unfit n x e = unfit_from n x [] (turns P most S most n) e (g.no_annotations refl refl) refl

  pub unfit_end : (n : ℕ) (x : Misfit) (notes : List AnnotationTree) (note : AnnotationTree) (i j : ℕ) → Annotations P S notes n i → annotations_misfit notes ≡ None
      → Annotation P S note i j → (terminal (S (suc (suc i))) ≡ t.LeftParen → suc (suc i) < j) → annotation_misfit note ≡ Some x → annotations_end P most most S n ≡ ends.Unfit x
  unfit_end n x notes one i j d fit stands whole unfit =
      let at = (annotation_begins P most S one i j stands).0 in
      let w = walk P most S (length tokens) past_at most (forward P S d) fit (is_not _ t.At t.LeftParen at at_facts) (omega arith) in
      w.2 ∙ last_one w.0 i j one x stands whole unfit w.1
