-- What the modifiers of a member may belong to, as the tokens before the one with which it goes wrong tell: the places of the members that begin so.
use Rattle.std.proofs.Common.{◌≡◌, ℕ, suc, ◌<◌, ◌≤◌, ◌⊎◌, inl, inr, Bool, true, false, cond, refl, sym, ap, ◌∙◌, subst, arith, List, [], ◌∷◌, Some}
use Rattle.std.specs.Prelude.{◌&&◌, not, nat_lt}
use Rattle.std.proofs.lemmas.Bool.{and_cases, and_parts, and_from, true≢false, ltb-true, ltb-false, not-true, not-false, cases_lt}
use Rattle.bj_base.specs.declared.span.Span.{Span}
use Rattle.bj_token.specs.declared.token.Token.{Token}
use Rattle.bj_expr_tree.specs.declared.types.TypeTree.{TypeTree}
use Rattle.bj_tree.specs.declared.class.AnnotationTree.{AnnotationTree}
use Rattle.bj_tree.specs.declared.class.ClassKind.{ClassKind}
use Rattle.bj_tree.specs.declared.class.Modifier.{Modifier}
use Rattle.bj_rules.specs.declared.place.Place.{Place}
use Rattle.bj_rules.specs.declared.place.Place.TheVariants as places
use Rattle.bj_rules.specs.Rules.{field_place, method_place}
use Rattle.bj_grammar.specs.declared.terminal.Terminal.{Terminal}
use Rattle.bj_grammar.specs.declared.terminal.Terminal.TheVariants as t
use Rattle.bj_grammar.specs.Terminal.{terminal, same_terminal, among}
use Rattle.bj_grammar.specs.Reader.{Text, Answer, Found, Wrong, Over}
use Rattle.bj_grammar.proofs.Laws.{Completes, Outcome, halted, stop, is_kind, kind_is}
use Rattle.bj_expr.specs.Grammar as ge
use Rattle.bj_expr.specs.Grammar.{Dims, TypeAt}
use Rattle.bj_expr.specs.Reading.{type_at}
use Rattle.bj_stmt.proofs.Expressions.{Given, Never}
use Rattle.bj_stmt.proofs.Leftmost.{Each, each, is_not}
use Rattle.bj_stmt.proofs.Ahead.{goes_on}
use Rattle.bj_class.specs.Grammar as g
use Rattle.bj_class.specs.Grammar.{modifier_words, Annotations, ModifierList, Member}
use Rattle.bj_class.specs.Reading.{is_called, is_static_block}
use Rattle.bj_class.proofs.Needed.{annotation_words}
use Rattle.bj_class.proofs.MemberTokens.{word_is_type, type_no_void, core_no_modifier, modifiers_no_note, type_not_called}
use Rattle.bj_class.proofs.NoteLaws.{annotation_begins}
use Rattle.bj_class.proofs.MemberAhead.{two_depends}
use Rattle.bj_parse.specs.Early.{any_member, field_or_method, typed_places, named_places, member_places}
use Rattle.bj_parse.specs.Marks.{MayHave, member_place}
use Rattle.bj_parse.proofs.Owners.{IsAmong}
use Rattle.bj_parse.proofs.MadeMembers.{Has, a_field, a_method, any_made, kept_annotations, kept_modifiers}
use Rattle.bj_parse.proofs.MadeMembers.{Behind, nothing_given, constructed, called, uncalled, Marked, type_first, core_word, marked, has_owner}

-- ---- lists of places by tests

among_if : (x : Place) (b : Bool) (as_so otherwise : List Place) → (b ≡ true → IsAmong x as_so) → (b ≡ false → IsAmong x otherwise) → IsAmong x (cond b as_so otherwise)
among_if x true as_so otherwise f h = f refl
among_if x false as_so otherwise f h = h refl

-- two places of the same list
both_if : {R : Type 0} (x y : Place) (b : Bool) (as_so otherwise : List Place) → (b ≡ true → IsAmong x as_so → IsAmong y as_so → R) → (b ≡ false → IsAmong x otherwise → IsAmong y otherwise → R)
    → IsAmong x (cond b as_so otherwise) → IsAmong y (cond b as_so otherwise) → R
both_if x y true as_so otherwise f h = f refl
both_if x y false as_so otherwise f h = h refl

only : (x y z : Place) → IsAmong x (z ∷ []) → IsAmong y (z ∷ []) → y ≡ x
only x y z (inl e) (inl h) = h ∙ sym e
only x y z (inl e) (inr h) = absurd h
only x y z (inr e) h = absurd e

-- ---- the first token of marks

abbrev pub Mark : Terminal → Type 0
Mark x = (same_terminal x t.Semicolon ≡ false) × (same_terminal x t.LeftBrace ≡ false)

note_mark : Mark t.At
unfolding same_terminal
note_mark = (refl, refl)

modifier_marks : Each Mark modifier_words
unfolding same_terminal
modifier_marks = ((refl, refl), ((refl, refl), ((refl, refl), ((refl, refl), ((refl, refl), ((refl, refl), ((refl, refl), ((refl, refl), tt))))))))

module _ (place : ℕ → Span) (most : ℕ) (s : Text) where
  annotations_mark : {a : List AnnotationTree} {i j : ℕ} → Annotations place s a i j → (j ≡ i) ⊎ Mark (terminal (s i))
  annotations_mark (g.no_annotations e at) = inl at
  annotations_mark {i = i} {j = j} (g.next_annotation {c = c} {n = n} d o e) = of (annotations_mark d)
    where
      of : (n ≡ i) ⊎ Mark (terminal (s i)) → (j ≡ i) ⊎ Mark (terminal (s i))
      of (inl h) = inr (subst (λ (z : ℕ). Mark (terminal (s z))) h (subst Mark (sym (annotation_begins place most s c n j o).0) note_mark))
      of (inr h) = inr h

  modifiers_mark : {a : List Modifier} {i j : ℕ} → ModifierList place s a i j → (j ≡ i) ⊎ Mark (terminal (s i))
  modifiers_mark (g.no_modifiers e at) = inl at
  modifiers_mark {i = i} {j = j} (g.next_modifier {n = n} d o e at) = of (modifiers_mark d)
    where
      of : (n ≡ i) ⊎ Mark (terminal (s i)) → (j ≡ i) ⊎ Mark (terminal (s i))
      of (inl h) = inr (subst (λ (z : ℕ). Mark (terminal (s z))) h (each Mark modifier_words modifier_marks (terminal (s n)) o))
      of (inr h) = inr h

  -- where some marks stand, the first token is one
  pub marks_mark : {a : List AnnotationTree} {b : List Modifier} {n i q : ℕ} → Annotations place s a n i → ModifierList place s b i q → n < q → Mark (terminal (s n))
  marks_mark {n = n} {i = i} {q = q} d e h = of (annotations_mark d) (modifiers_mark e)
    where
      of : (i ≡ n) ⊎ Mark (terminal (s n)) → (q ≡ i) ⊎ Mark (terminal (s i)) → Mark (terminal (s n))
      of (inr x) y = x
      of (inl x) (inl y) = absurd (omega arith)
      of (inl x) (inr y) = subst (λ (z : ℕ). Mark (terminal (s z))) x y

-- ---- within a type

-- among pairs of brackets stands no name
no_bracket : (same_terminal t.Word t.LeftBracket ≡ false) × (same_terminal t.Word t.RightBracket ≡ false)
unfolding same_terminal
no_bracket = (refl, refl)

bracket_no_word : (x k : Terminal) → x ≡ t.Word → x ≡ k → same_terminal t.Word k ≡ false → ⊥
bracket_no_word x k w e h = true≢false (sym (is_kind x k e) ∙ is_not x t.Word k w h)

dims_no_word : (u : Text) (a i j x : ℕ) → Dims u a i j → i ≤ x → x < j → terminal (u x) ≡ t.Word → ⊥
dims_no_word u a i j x (ge.no_pair e at) low high w = omega arith
dims_no_word u a i j x (ge.pair {b = b} {m = m} d o c e at) low high w = of (λ h. dims_no_word u b i m x d low h w) (cases_lt x m) (cases_lt m x)
  where
    of : (x < m → ⊥) → (x < m) ⊎ (m ≤ x) → (m < x) ⊎ (x ≤ m) → ⊥
    of again (inl h) k = again h
    of again (inr h) (inl k) = let is : x ≡ suc m = omega arith in bracket_no_word (terminal (u x)) t.RightBracket w (subst (λ (z : ℕ). terminal (u z) ≡ t.RightBracket) (sym is) c) no_bracket.1
    of again (inr h) (inr k) = let is : x ≡ m = omega arith in bracket_no_word (terminal (u x)) t.LeftBracket w (subst (λ (z : ℕ). terminal (u z) ≡ t.LeftBracket) (sym is) o) no_bracket.0

type_no_word : (place : ℕ → Span) (u : Text) (a : TypeTree) (i j x : ℕ) → TypeAt place u a i j → i < x → x < j → terminal (u x) ≡ t.Word → ⊥
type_no_word place u a i j x (ge.named {n = n} o d e) low high w = dims_no_word u n (suc i) j x d low high w

-- ---- a text in which the marks end at q, and go on with what is the same before k

-- a type and a name stand there, and what follows them tells the place
record Typed (place : ℕ → Span) (kind : ClassKind) (u : Text) (q : ℕ) (x : Place) : Type 0 where
  ty : TypeTree
  o : ℕ
  stands : TypeAt place u ty q o
  name : terminal (u o) ≡ t.Word
  which : ((same_terminal (terminal (u (suc o))) t.LeftParen ≡ true) × (x ≡ method_place kind)) ⊎ ((same_terminal (terminal (u (suc o))) t.LeftParen ≡ false) × (x ≡ field_place kind))

any_place : {place : ℕ → Span} {kind : ClassKind} {u : Text} {q : ℕ} {x : Place} → Behind place kind u q x → IsAmong x (any_member kind)
any_place (nothing_given o e) = inr (inl e)
any_place (constructed w c e) = inr (inr (inl e))
any_place (called d w c e) = inr (inl e)
any_place (uncalled d w c e) = inl e

-- either, where it is not told which
either_place : {place : ℕ → Span} {kind : ClassKind} {u : Text} {q : ℕ} {x : Place} → Typed place kind u q x → IsAmong x (field_or_method kind)
either_place v = elim (v.which) [ inl h ↦ inr (inl h.1) | inr h ↦ inl h.1 ]

-- no limit is passed
abbrev pub Within : {A : Type 0} → Answer A → Type 0
Within r = (k : ℕ) (at : Span) → r ≡ Over k at → ⊥

module _ (place : ℕ → Span) (most : ℕ) (given : Given place most) (kind : ClassKind) (s : Text) (q k : ℕ) (u : Text) (same : (x : ℕ) → x < k → u x ≡ s x) (below : q < k) where
  -- what is read before k in s is read in u
  read_there : {ty : TypeTree} {j : ℕ} (r : Answer TypeTree) → type_at place most s q ≡ r → stop r < k → TypeAt place u ty q j → terminal (u j) ≡ t.Word → Outcome most Never r ty q j
  read_there {ty} {j} r e h d w =
      subst (λ (x : Answer TypeTree). Outcome most Never x ty q j) alike (given.type_laws.complete u q ty j d (is_not (terminal (u j)) t.Word t.LeftBracket w no_bracket.0))
    where
      at : stop (type_at place most s q) ≡ stop r
      at = ap stop e

      alike : type_at place most u q ≡ r
      alike = given.type_laws.local s u q (λ x l. same x (omega (arith, at, h, l))) ∙ e

  found_there : {ty other : TypeTree} {o j : ℕ} → type_at place most s q ≡ Found ty o → o < k → TypeAt place u other q j → terminal (u j) ≡ t.Word → j ≡ o
  found_there {ty} {other} {o} {j} e h d w = of (read_there (Found ty o) e h d w)
    where
      of : Outcome most Never (Found ty o) other q j → j ≡ o
      of (inl x) = ap stop (sym x)
      of (inr x) = let clash : Found ty o ≡ Over x.place x.node = x.is in absurd (cc)

  -- a type that ends well before k is found, unless there is a limit
  known_end : {ty : TypeTree} {j : ℕ} (r : Answer TypeTree) → type_at place most s q ≡ r → Within r → TypeAt place u ty q j → terminal (u j) ≡ t.Word → suc j < k
      → (other : TypeTree) × (r ≡ Found other j)
  known_end {ty} {j} (Found other o) e limit d w h = of (cases_lt o k)
    where
      of : (o < k) ⊎ (k ≤ o) → (some : TypeTree) × (Found other o ≡ Found some j)
      of (inl l) = (other, ap (Found other) (sym (found_there e l d w)))
      of (inr l) = absurd (type_no_word place s other q o j (given.type_laws.sound s q other o e) (given.type_forward u ty q j d) (omega arith) (ap terminal (sym (same j (omega arith))) ∙ w))
  known_end {ty} {j} (Wrong o) e limit d w h = of (cases_lt o k)
    where
      never : Outcome most Never (Wrong o) ty q j → ⊥
      never (inl x) = absurd (cc)
      never (inr x) = let is = x.is in absurd (cc)

      stuck : k ≤ o → Completes (λ s a i j. TypeAt place s a i j) s q o → ⊥
      stuck l c =
          let far : o ≤ c.after = c.beyond in
          type_no_word place c.text c.tree q c.after j c.stands (given.type_forward u ty q j d) (omega arith) (ap terminal (c.same j (omega arith) ∙ sym (same j (omega arith))) ∙ w)

      of : (o < k) ⊎ (k ≤ o) → (some : TypeTree) × (Wrong o ≡ Found some j)
      of (inl l) = absurd (never (read_there (Wrong o) e l d w))
      of (inr l) = absurd (stuck l (given.type_laws.viable s q o (ap halted e)))
  known_end (Over o at) e limit d w h = absurd (limit o at refl)

  first_same : u q ≡ s q
  first_same = same q below

  kind_same : (x : Terminal) → terminal (u q) ≡ x → same_terminal (terminal (s q)) x ≡ true
  kind_same x e = is_kind (terminal (s q)) x (ap terminal (sym first_same) ∙ e)

  -- the token behind a name is known
  second_known : (same_terminal (terminal (s q)) t.Word && not (nat_lt (suc q) k)) ≡ false → same_terminal (terminal (s q)) t.Word ≡ true → suc q < k
  second_known e w = elim (and_cases (same_terminal (terminal (s q)) t.Word) (not (nat_lt (suc q) k)) e) [ inl h ↦ absurd (true≢false (sym w ∙ h)) | inr h ↦ ltb-true (suc q) k (not-false _ h) ]

  called_same : (same_terminal (terminal (s q)) t.Word && not (nat_lt (suc q) k)) ≡ false → is_called u q ≡ is_called s q
  called_same e = two_depends t.Word t.LeftParen s u q first_same (λ w. same (suc q) (second_known e w))

  typed_of : {x : Place} → Behind place kind u q x → same_terminal (terminal (s q)) t.Void ≡ false → (same_terminal (terminal (s q)) t.Word && not (nat_lt (suc q) k)) ≡ false → is_called s q ≡ false
      → Typed place kind u q x
  typed_of (nothing_given o e) void known none = absurd (true≢false (sym (kind_same t.Void o) ∙ void))
  typed_of (constructed w c e) void known none = absurd (true≢false (sym (and_from (same_terminal (terminal (u q)) t.Word) _ (is_kind _ _ w) (is_kind _ _ c)) ∙ (called_same known ∙ none)))
  typed_of (called d w c e) void known none = record { ty = _; o = _; stands = d; name = w; which = inl (c, e) }
  typed_of (uncalled d w c e) void known none = record { ty = _; o = _; stands = d; name = w; which = inr (c, e) }

  -- ---- the place is in the list

  of_void : {x : Place} → same_terminal (terminal (s q)) t.Void ≡ true → Behind place kind u q x → IsAmong x (method_place kind ∷ [])
  of_void is (nothing_given o e) = inl e
  of_void is (constructed w c e) = absurd (true≢false (sym is ∙ type_no_void (terminal (s q)) (word_is_type (terminal (s q)) (kind_is _ _ (kind_same t.Word w)))))
  of_void is (called d w c e) = absurd (true≢false (sym is ∙ type_no_void (terminal (s q)) (subst (λ (v : Token). among ge.type_words (terminal v) ≡ true) first_same (type_first place u d))))
  of_void is (uncalled d w c e) = absurd (true≢false (sym is ∙ type_no_void (terminal (s q)) (subst (λ (v : Token). among ge.type_words (terminal v) ≡ true) first_same (type_first place u d))))

  of_called : {x : Place} → same_terminal (terminal (s q)) t.Void ≡ false → (same_terminal (terminal (s q)) t.Word && not (nat_lt (suc q) k)) ≡ false → is_called s q ≡ true → Behind place kind u q x
      → IsAmong x (places.Constructor ∷ [])
  of_called void known is (nothing_given o e) = absurd (true≢false (sym (kind_same t.Void o) ∙ void))
  of_called void known is (constructed w c e) = inl e
  of_called void known is (called d w c e) = absurd (true≢false (sym (called_same known ∙ is) ∙ type_not_called place u d w))
  of_called void known is (uncalled d w c e) = absurd (true≢false (sym (called_same known ∙ is) ∙ type_not_called place u d w))

  of_typed : {x : Place} (r : Answer TypeTree) → type_at place most s q ≡ r → Typed place kind u q x → IsAmong x (typed_places kind s k r)
  of_typed (Wrong o) e v = either_place v
  of_typed (Over o at) e v = either_place v
  of_typed {x} (Found ty o) e v =
      among_if x (nat_lt (suc o) k) _ _
      (λ lt. let l : suc o < k = ltb-true _ _ lt in let at = found_there e (omega arith) v.stands v.name in decided (same (suc o) l) at)
      (λ ge. either_place v)
    where
      decided : u (suc o) ≡ s (suc o) → v.o ≡ o → IsAmong x (cond (same_terminal (terminal (s (suc o))) t.LeftParen) (method_place kind ∷ []) (field_place kind ∷ []))
      decided alike at = among_if x (same_terminal (terminal (s (suc o))) t.LeftParen) _ _
          (λ is. elim (v.which) [ inl h ↦ inl h.1 | inr h ↦ absurd (true≢false (sym is ∙ (sym paren ∙ h.0))) ])
          (λ is. elim (v.which) [ inl h ↦ absurd (true≢false (sym h.0 ∙ (paren ∙ is))) | inr h ↦ inl h.1 ])
        where
          paren : same_terminal (terminal (u (suc v.o))) t.LeftParen ≡ same_terminal (terminal (s (suc o))) t.LeftParen
          paren = ap (λ (z : ℕ). same_terminal (terminal (u (suc z))) t.LeftParen) at ∙ ap (λ (w : Token). same_terminal (terminal w) t.LeftParen) alike

  of_named : {x : Place} → same_terminal (terminal (s q)) t.Void ≡ false → Behind place kind u q x → IsAmong x (named_places place most kind s q k)
  of_named {x} void b = among_if x (same_terminal (terminal (s q)) t.Word && not (nat_lt (suc q) k)) _ _
      (λ word. any_place b)
      (λ known. among_if x (is_called s q) _ _ (λ is. of_called void known is b) (λ none. of_typed (type_at place most s q) refl (typed_of b void known none)))

  of_behind : {x : Place} → Behind place kind u q x → IsAmong x (member_places place most kind s q k)
  unfolding member_places
  of_behind {x} b = among_if x (nat_lt q k) _ _
      (λ lt. among_if x (same_terminal (terminal (s q)) t.Void) _ _ (λ void. of_void void b) (λ void. of_named void b))
      (λ ge. any_place b)

-- ---- a place of the list is that of a member

-- Behind the marks the reader of types passes no limit. Where it does, both a field and a method are in the list, though the tokens may tell which of the two it is.
abbrev pub Unlimited : (ℕ → Span) → ℕ → Text → ℕ → ℕ → Type 0
Unlimited place most s q k = q < k → same_terminal (terminal (s q)) t.Void ≡ false → is_called s q ≡ false → Within (type_at place most s q)

-- given a member of a place, which goes on in another text u from the tokens before k
module _ (place : ℕ → Span) (most : ℕ) (given : Given place most) (kind : ClassKind) (s : Text) (q k : ℕ) (u : Text) (same : (x : ℕ) → x < k → u x ≡ s x) (below : q < k)
    (n i : ℕ) (notes : List AnnotationTree) (ms : List Modifier) (annotated : Annotations place s notes n i) (modified : ModifierList place s ms i q)
    (own : Place) (have : Has place most given kind s n k own) (behind : Behind place kind u q own) (owner : Place) where
  by_only : (z : Place) → IsAmong owner (z ∷ []) → IsAmong own (z ∷ []) → Has place most given kind s n k owner
  by_only z e h = subst (Has place most given kind s n k) (only owner own z e h) have

  annotations_there : Annotations place u notes n i
  annotations_there = kept_annotations place most given kind s n k s (λ x l. refl) annotated modified u (λ x l. same x (omega arith))

  modifiers_there : ModifierList place u ms i q
  modifiers_there = kept_modifiers place most given kind s n k s (λ x l. refl) annotated modified u (λ x l. same x (omega arith))

  -- where it is not told what follows a name, it may be a parenthesis or not
  unknown : (v : Typed place kind u q own) → k ≤ suc v.o → IsAmong owner (field_or_method kind) → Has place most given kind s n k owner
  unknown v le (inl e) = subst (Has place most given kind s n k) (sym e) (a_field place most given kind s n k u same annotations_there modifiers_there v.stands v.name le)
  unknown v le (inr (inl e)) = subst (Has place most given kind s n k) (sym e) (a_method place most given kind s n k u same annotations_there modifiers_there v.stands v.name le)
  unknown v le (inr (inr e)) = absurd e

  typed_sound : (r : Answer TypeTree) → type_at place most s q ≡ r → Within r → Typed place kind u q own
      → IsAmong owner (typed_places kind s k r) → IsAmong own (typed_places kind s k r) → Has place most given kind s n k owner
  typed_sound (Found ty o) e limit v x y =
      both_if owner own (nat_lt (suc o) k) _ _
      (λ lt. both_if owner own (same_terminal (terminal (s (suc o))) t.LeftParen) _ _ (λ is. by_only (method_place kind)) (λ is. by_only (field_place kind)))
      (λ ge a b. unknown v (late (cases_lt (suc v.o) k) (ltb-false _ _ ge)) a) x y
    where
      late : (suc v.o < k) ⊎ (k ≤ suc v.o) → k ≤ suc o → k ≤ suc v.o
      late (inr h) ge = h
      late (inl h) ge =
          let w = known_end place most given kind s q k u same below (Found ty o) e limit v.stands v.name h in
          let at : o ≡ v.o = ap stop w.1 in
          absurd (omega arith)
  typed_sound (Wrong o) e limit v a b = unknown v (late (cases_lt (suc v.o) k)) a
    where
      late : (suc v.o < k) ⊎ (k ≤ suc v.o) → k ≤ suc v.o
      late (inr h) = h
      late (inl h) = let w = known_end place most given kind s q k u same below (Wrong o) e limit v.stands v.name h in absurd (not_found w.1)
        where
          not_found : {ty : TypeTree} {j : ℕ} → Wrong o ≡ Found ty j → ⊥
          not_found e = absurd (cc)
  typed_sound (Over o at) e limit v a b = absurd (limit o at refl)

  named_sound : same_terminal (terminal (s q)) t.Void ≡ false → (is_called s q ≡ false → Within (type_at place most s q))
      → IsAmong owner (named_places place most kind s q k) → IsAmong own (named_places place most kind s q k) → Has place most given kind s n k owner
  named_sound void limit =
      both_if owner own (same_terminal (terminal (s q)) t.Word && not (nat_lt (suc q) k)) _ _
      (λ word a b. one_word (and_parts _ _ word) a)
      (λ known. both_if owner own (is_called s q) _ _ (λ is. by_only places.Constructor)
      (λ none. typed_sound (type_at place most s q) refl (limit none) (typed_of place most given kind s q k u same below behind void known none)))
    where
      one_word : (same_terminal (terminal (s q)) t.Word ≡ true) × (not (nat_lt (suc q) k) ≡ true) → IsAmong owner (any_member kind) → Has place most given kind s n k owner
      one_word w a = any_made place most given kind s n k s (λ x l. refl) annotated modified (kind_is _ _ w.0) (ltb-false _ _ (not-true _ w.1)) owner a

  behind_sound : (same_terminal (terminal (s q)) t.Void ≡ false → is_called s q ≡ false → Within (type_at place most s q))
      → IsAmong owner (member_places place most kind s q k) → IsAmong own (member_places place most kind s q k) → Has place most given kind s n k owner
  unfolding member_places
  behind_sound limit =
      both_if owner own (nat_lt q k) _ _
      (λ lt. both_if owner own (same_terminal (terminal (s q)) t.Void) _ _ (λ void. by_only (method_place kind)) (λ void. named_sound void (limit void)))
      (λ ge a b. let l : k ≤ q = ltb-false _ _ ge in absurd (omega (arith, below, l)))

module _ (place : ℕ → Span) (most : ℕ) (given : Given place most) (kind : ClassKind) (s : Text) (n i q k : ℕ) (notes : List AnnotationTree) (ms : List Modifier)
    (annotated : Annotations place s notes n i) (modified : ModifierList place s ms i q)
    (same_marks : (t : Text) → ((x : ℕ) → x < k → t x ≡ s x) → q < k → (others : List AnnotationTree) (more : List Modifier) (j p : ℕ) → Annotations place t others n j → ModifierList place t more j p
    → among modifier_words (terminal (t p)) ≡ false → among annotation_words (terminal (t p)) ≡ false → p ≡ q) where
  -- where q is not before k, nothing is told
  none_told : {x : Place} → k ≤ q → IsAmong x (any_member kind) → IsAmong x (member_places place most kind s q k)
  unfolding member_places
  none_told {x} ge h = among_if x (nat_lt q k) _ _ (λ lt. let l : q < k = ltb-true _ _ lt in absurd (omega arith)) (λ _. h)

  any_told : {x : Place} → k ≤ q → IsAmong x (member_places place most kind s q k) → IsAmong x (any_member kind)
  unfolding member_places
  any_told {x} ge h = both_if x x (nat_lt q k) _ _ (λ lt a b. let l : q < k = ltb-true _ _ lt in absurd (omega arith)) (λ _ a b. a) h h

  -- what stands behind the marks of a member that goes on from the tokens before k
  behind_at : {x : Place} (u : Text) → ((y : ℕ) → y < k → u y ≡ s y) → q < k → Marked place kind u n x → Behind place kind u q x
  behind_at {x} u same below v =
      let at = same_marks u same below v.notes v.ms v.i v.p v.annotated v.modified (core_no_modifier (terminal (u v.p)) (core_word v.behind))
      (modifiers_no_note place u (g.no_modifiers refl refl) (core_word v.behind)) in
      subst (λ (z : ℕ). Behind place kind u z x) at v.behind

  pub complete : (owner : Place) → MayHave (λ s a i j. Member place s a i j) (member_place kind) place s n k owner → IsAmong owner (member_places place most kind s q k)
  complete owner m = of (marked place most given kind m.text m.stands m.has) (cases_lt q k)
    where
      of : Marked place kind m.text n owner → (q < k) ⊎ (k ≤ q) → IsAmong owner (member_places place most kind s q k)
      of v (inl below) = of_behind place most given kind s q k m.text m.same below (behind_at m.text m.same below v)
      of v (inr ge) = none_told ge (any_place v.behind)

  pub sound : Unlimited place most s q k → n < q → (is_static_block s n && nat_lt (suc n) k) ≡ false → Completes (λ s a i j. Member place s a i j) s n k
      → (owner : Place) → IsAmong owner (member_places place most kind s q k) → MayHave (λ s a i j. Member place s a i j) (member_place kind) place s n k owner
  sound limit begins no_block c owner h = of (cases_lt q k)
    where
      -- a name behind the marks
      named : k ≤ q → IsAmong owner (any_member kind) → Has place most given kind s n k owner
      named ge a =
          let u = goes_on s q (t.Word ∷ []) (refl, tt) in
          any_made place most given kind s n k u.0 (λ x l. u.1 x (omega (arith, l, ge)))
          (kept_annotations place most given kind s n k s (λ x l. refl) annotated modified u.0 u.1) (kept_modifiers place most given kind s n k s (λ x l. refl) annotated modified u.0 u.1)
          u.2.1.kind (omega (arith, ge)) owner a

      mark : Mark (terminal (s n))
      mark = marks_mark place most s annotated modified begins

      block_there : q < k → is_static_block c.text n ≡ false
      block_there below =
          two_depends t.Static t.LeftBrace s c.text n (c.same n (omega (arith, begins, below))) (λ w. c.same (suc n) (omega (arith, begins, below)))
          ∙ elim (and_cases (is_static_block s n) (nat_lt (suc n) k) no_block) [
            | inl e ↦ e
            | inr e ↦ (let l : k ≤ suc n = ltb-false _ _ e in absurd (omega (arith, begins, below, l)))
          ]

      owned : q < k → (x : Place) × (member_place kind c.tree ≡ Some x)
      owned below =
          let here : c.text n ≡ s n = c.same n (omega (arith, begins, below)) in
          has_owner place most given kind c.text c.stands
          (ap (λ (v : Token). same_terminal (terminal v) t.Semicolon) here ∙ mark.0) (ap (λ (v : Token). same_terminal (terminal v) t.LeftBrace) here ∙ mark.1) (block_there below)

      from : q < k → (x : Place) × (member_place kind c.tree ≡ Some x) → Has place most given kind s n k owner
      from below own =
          let b = behind_at c.text c.same below (marked place most given kind c.text c.stands own.1) in
          behind_sound place most given kind s q k c.text c.same below n i notes ms annotated modified own.0
          (record { text = c.text; tree = c.tree; after = c.after; same = c.same; stands = c.stands; has = own.1 }) b owner (limit below) h
          (of_behind place most given kind s q k c.text c.same below b)

      of : (q < k) ⊎ (k ≤ q) → Has place most given kind s n k owner
      of (inl below) = from below (owned below)
      of (inr ge) = named ge (any_told ge h)
