-- What a mark that does not fit tells of the first token of a part, and of a part that stands whole.
use Rattle.std.proofs.Common.{◌≡◌, ℕ, ◌⊎◌, inl, inr, Bool, true, false, List, [], ◌∷◌, Option, Some, None, refl, sym, ap, ◌∙◌, subst}
use Rattle.std.proofs.lemmas.Bool.{both_ways}
use Rattle.bj_base.specs.declared.span.Span.{Span}
use Rattle.bj_token.specs.declared.token.Token.{Token}
use Rattle.bj_expr_tree.specs.declared.types.TypeTree.{TypeTree}
use Rattle.bj_tree.specs.declared.class.AnnotationTree.{AnnotationTree}
use Rattle.bj_tree.specs.declared.class.ClassKind.{ClassKind}
use Rattle.bj_tree.specs.declared.class.Modifier.{Modifier}
use Rattle.bj_tree.specs.declared.class.ClassKind.TheVariants as forms
use Rattle.bj_tree.specs.declared.stmt.StmtTree.{StmtTree}
use Rattle.bj_tree.specs.declared.member.FieldTree.{FieldTree}
use Rattle.bj_tree.specs.declared.member.MethodTree.{MethodTree}
use Rattle.bj_tree.specs.declared.member.ConstructorTree.{ConstructorTree}
use Rattle.bj_tree.specs.declared.member.MemberTree.{MemberTree}
use Rattle.bj_tree.specs.declared.member.MemberTree.TheVariants as m
use Rattle.bj_rules.specs.declared.misfit.Misfit.{Misfit}
use Rattle.bj_rules.specs.declared.place.Place.{Place}
use Rattle.bj_rules.specs.declared.place.Place.TheVariants as places
use Rattle.bj_rules.specs.Misfits.{first}
use Rattle.bj_rules.specs.Rules.{annotations_misfit, mark_misfit, head_misfit, member_misfit, class_place, field_place, method_place}
use Rattle.bj_rules.specs.Modifiers.{modifiers_misfit}
use Rattle.bj_grammar.specs.declared.terminal.Terminal.{Terminal}
use Rattle.bj_grammar.specs.declared.terminal.Terminal.TheVariants as t
use Rattle.bj_grammar.specs.Terminal.{terminal, same_terminal, among}
use Rattle.bj_grammar.specs.Reader.{Text}
use Rattle.bj_grammar.specs.Given.{text_of, place_of}
use Rattle.bj_grammar.proofs.Laws.{Rel, is_kind}
use Rattle.bj_expr.specs.Grammar as ge
use Rattle.bj_expr.specs.Grammar.{TypeAt}
use Rattle.bj_stmt.specs.Grammar as gs
use Rattle.bj_stmt.specs.Grammar.{Block}
use Rattle.bj_stmt.specs.Reading.{inside}
use Rattle.bj_stmt.proofs.Leftmost.{each, is_not}
use Rattle.bj_class.specs.declared.head.ClassHead.{ClassHead}
use Rattle.bj_class.specs.Grammar as g
use Rattle.bj_class.specs.Grammar.{modifier_words, Annotations, ModifierList, MaybeStatic, ResultAt, Head, Member}
use Rattle.bj_class.proofs.MemberTokens.{core_words, type_is_core, void_is_core, word_is_type}
use Rattle.bj_class.proofs.NoteLaws.{annotation_begins, annotations_first, modifiers_first}
use Rattle.bj_parse.specs.declared.annotations.AnnotationsEnd.TheVariants as ends
use Rattle.bj_parse.specs.Marks.{UnfitMark, of_annotation, of_modifier, head_place, member_place}
use Rattle.bj_parse.proofs.EarlyNeeded.{HeadRel, MemberRel, UnfitOfHead, UnfitOfMember}
use Rattle.bj_parse.proofs.EarlyLaws.{Marks, most_of, none_or_some}

-- ---- the first token

-- what annotations and modifiers begin with
abbrev MarkWord : Terminal → Type 0
MarkWord x = (x ≡ t.At) ⊎ (among modifier_words x ≡ true)

pub begins : {A : Type 0} (D : Rel A) (placed : A → Option Place) (place : ℕ → Span) (s : Text) (n : ℕ) (x : Misfit) → UnfitMark D placed place s n x
    → (terminal (s n) ≡ t.At) ⊎ (among modifier_words (terminal (s n)) ≡ true)
begins D placed place s n x (of_annotation {note = note} {i = i} {j = j} d fit one whole misfit) =
    annotations_first place 0 MarkWord s (λ y e. inl e) d (inl (annotation_begins place 0 s note i j one).0)
begins D placed place s n x (of_modifier d fit ms word low none each_fits may misfit no_fit) =
    annotations_first place 0 MarkWord s (λ y e. inl e) d (modifiers_first place 0 MarkWord s (λ y e. inr e) ms (inr word))

-- neither is an import, nor does it end the members
abbrev NoOther : Terminal → Type 0
NoOther x = (same_terminal x t.Import ≡ false) × (inside x ≡ true)

at_other : NoOther t.At
unfolding same_terminal
at_other = (refl, refl)

modifier_other : (x : Terminal) → among modifier_words x ≡ true → NoOther x
unfolding same_terminal
modifier_other = each NoOther modifier_words ((refl, refl), ((refl, refl), ((refl, refl), ((refl, refl), ((refl, refl), ((refl, refl), ((refl, refl), ((refl, refl), tt))))))))

mark_other : (x : Terminal) → (x ≡ t.At) ⊎ (among modifier_words x ≡ true) → NoOther x
mark_other x (inl e) = subst NoOther (sym e) at_other
mark_other x (inr e) = modifier_other x e

pub head_begins : (tokens : List Token) (n : ℕ) (x : Misfit) → UnfitOfHead tokens n x → same_terminal (terminal (text_of tokens n)) t.Import ≡ false
head_begins tokens n x u = (mark_other (terminal (text_of tokens n)) (begins (HeadRel (place_of tokens)) head_place (place_of tokens) (text_of tokens) n x u)).0

pub member_begins : (tokens : List Token) (kind : ClassKind) (n : ℕ) (x : Misfit) → UnfitOfMember tokens kind n x → inside (terminal (text_of tokens n)) ≡ true
member_begins tokens kind n x u = (mark_other (terminal (text_of tokens n)) (begins (MemberRel (place_of tokens)) (member_place kind) (place_of tokens) (text_of tokens) n x u)).1

-- ---- a whole part

-- a misfit of annotations is the first of a part's
mark_met : (notes : List AnnotationTree) (owner : Place) (ms : List Modifier) (rest : List (Option Misfit)) (y : Misfit) → annotations_misfit notes ≡ Some y → first (mark_misfit notes owner ms ∷ rest) ≡ Some y
mark_met notes owner ms rest y e = ap (λ (o : Option Misfit). first (first (o ∷ modifiers_misfit owner ms ∷ []) ∷ rest)) e

head_met : (notes : List AnnotationTree) (ms : List Modifier) (kind : ClassKind) (y : Misfit) → annotations_misfit notes ≡ Some y → head_misfit notes ms kind ≡ Some y
unfolding head_misfit
head_met notes ms kind y e = ap (λ (o : Option Misfit). first (o ∷ modifiers_misfit (class_place kind) ms ∷ [])) e

field_met : (kind : ClassKind) (class : List ℕ) (a : FieldTree) (y : Misfit) → annotations_misfit a.annotations ≡ Some y → member_misfit kind class (m.Field a) ≡ Some y
unfolding member_misfit
field_met kind class a y e = mark_met a.annotations (field_place kind) a.modifiers _ y e

method_met : (kind : ClassKind) (class : List ℕ) (a : MethodTree) (y : Misfit) → annotations_misfit a.annotations ≡ Some y → member_misfit kind class (m.Method a) ≡ Some y
unfolding member_misfit
method_met kind class a y e = mark_met a.annotations (method_place kind) a.modifiers _ y e

constructor_met : (kind : ClassKind) (class : List ℕ) (a : ConstructorTree) (y : Misfit) → annotations_misfit a.annotations ≡ Some y → member_misfit kind class (m.Constructor a) ≡ Some y
unfolding member_misfit
constructor_met kind class a y e = mark_met a.annotations places.Constructor a.modifiers _ y e

-- no annotation begins with what stands behind annotations
abbrev NoNote : Terminal → Type 0
NoNote x = (same_terminal x t.At ≡ false) × (same_terminal x t.LeftParen ≡ false)

modifier_no_note : (x : Terminal) → among modifier_words x ≡ true → NoNote x
unfolding same_terminal
modifier_no_note = each NoNote modifier_words ((refl, refl), ((refl, refl), ((refl, refl), ((refl, refl), ((refl, refl), ((refl, refl), ((refl, refl), ((refl, refl), tt))))))))

core_no_note : (x : Terminal) → among core_words x ≡ true → NoNote x
unfolding same_terminal
core_no_note = each NoNote core_words ((refl, refl), ((refl, refl), ((refl, refl), ((refl, refl), ((refl, refl), ((refl, refl), tt))))))

kind_no_note : NoNote t.Class × NoNote t.Interface
unfolding same_terminal
kind_no_note = ((refl, refl), (refl, refl))

-- `@` is none of the tokens that a member without annotations begins with
at_facts : (same_terminal t.At t.Semicolon ≡ false) × (same_terminal t.At t.LeftBrace ≡ false) × (same_terminal t.At t.Static ≡ false)
unfolding same_terminal
at_facts = (refl, refl, refl)

is_other : {x : Terminal} (k : Terminal) → same_terminal t.At k ≡ false → x ≡ t.At → x ≡ k → ⊥
is_other {x} k other at is = both_ways (same_terminal x k) (is_not x t.At k at other) (is_kind x k is)

module _ (tokens : List Token) (marks : Marks tokens) where
  -- An annotation that does not fit is among those of a part from there on, before modifiers or another token.
  notes_met : {A : Type 0} (D : Rel A) (placed : A → Option Place) (n : ℕ) (x : Misfit) → UnfitMark D placed (place_of tokens) (text_of tokens) n x → (a : A) (j : ℕ) → D (text_of tokens) a n j
      → (notes : List AnnotationTree) (ms : List Modifier) (i q : ℕ) → Annotations (place_of tokens) (text_of tokens) notes n i → ModifierList (place_of tokens) (text_of tokens) ms i q
      → NoNote (terminal (text_of tokens q)) → (y : Misfit) × (annotations_misfit notes ≡ Some y)
  notes_met D placed n x (of_annotation {notes = front} {note = note} {i = p} {j = o} e fit one whole misfit) a j part notes ms i q d list last = of (none_or_some (annotations_misfit notes))
    where
      of : (annotations_misfit notes ≡ None) ⊎ ((y : Misfit) × (annotations_misfit notes ≡ Some y)) → (y : Misfit) × (annotations_misfit notes ≡ Some y)
      of (inl none) =
          let behind = modifiers_first (place_of tokens) (most_of tokens) NoNote (text_of tokens) modifier_no_note list last in
          let both : ends.Behind i ≡ ends.Unfit x = sym (marks.annotations_behind notes i n d none behind.0 behind.1) ∙ marks.unfit_end front note n p o x e fit one whole misfit in
          absurd (cc)
      of (inr w) = w
  notes_met D placed n x (of_modifier e fit before word low none each_fits may misfit no_fit) a j part notes ms i q d list last = absurd (none (text_of tokens) a j (λ z l. refl) part)

  -- a whole part begins with an annotation if a mark does not fit
  note_first : {A : Type 0} (D : Rel A) (placed : A → Option Place) (n : ℕ) (x : Misfit) → UnfitMark D placed (place_of tokens) (text_of tokens) n x → (a : A) (j : ℕ) → D (text_of tokens) a n j
      → terminal (text_of tokens n) ≡ t.At
  note_first D placed n x (of_annotation {note = note} {i = p} {j = o} d fit one whole misfit) a j part =
      annotations_first (place_of tokens) (most_of tokens) (λ y. y ≡ t.At) (text_of tokens) (λ y e. e) d (annotation_begins (place_of tokens) (most_of tokens) (text_of tokens) note p o one).0
  note_first D placed n x (of_modifier d fit before word low none each_fits may misfit no_fit) a j part = absurd (none (text_of tokens) a j (λ z l. refl) part)

  pub head_whole : (n j : ℕ) (h : ClassHead) (x : Misfit) → UnfitOfHead tokens n x → Head (place_of tokens) (text_of tokens) h n j
      → (y : Misfit) × (head_misfit h.annotations h.modifiers h.kind ≡ Some y)
  head_whole n j h x u (g.class_head {notes = notes} {ms = ms} {k = k} {n = q} d list class name above others brace is end) =
      let whole = g.class_head d list class name above others brace is end in
      let w = notes_met (HeadRel (place_of tokens)) head_place n x u h j whole notes ms k q d list (subst NoNote (sym class) kind_no_note.0) in
      (w.0, ap (λ (a : ClassHead). head_misfit a.annotations a.modifiers a.kind) is ∙ head_met notes ms forms.Class w.0 w.1)
  head_whole n j h x u (g.interface_head {notes = notes} {ms = ms} {k = k} {n = q} d list class name others brace is end) =
      let whole = g.interface_head d list class name others brace is end in
      let w = notes_met (HeadRel (place_of tokens)) head_place n x u h j whole notes ms k q d list (subst NoNote (sym class) kind_no_note.1) in
      (w.0, ap (λ (a : ClassHead). head_misfit a.annotations a.modifiers a.kind) is ∙ head_met notes ms forms.Interface w.0 w.1)

  -- a type, or `void`, begins with no annotation
  type_no_note : {a : TypeTree} {i j : ℕ} → TypeAt (place_of tokens) (text_of tokens) a i j → NoNote (terminal (text_of tokens i))
  type_no_note {i = i} (ge.named o d e) = core_no_note (terminal (text_of tokens i)) (type_is_core (terminal (text_of tokens i)) o)

  result_no_note : {a : Option TypeTree} {i j : ℕ} → ResultAt (place_of tokens) (text_of tokens) a i j → NoNote (terminal (text_of tokens i))
  result_no_note {i = i} (g.void o e at) = core_no_note (terminal (text_of tokens i)) (void_is_core (terminal (text_of tokens i)) o)
  result_no_note (g.gives d e) = type_no_note d

  word_no_note : (x : Terminal) → x ≡ t.Word → NoNote x
  word_no_note x e = core_no_note x (type_is_core x (word_is_type x e))

  -- a block, with `static` before it or without, begins with no annotation
  block_no_note : {f : Bool} {b : StmtTree} {i k j : ℕ} → MaybeStatic (text_of tokens) f i k → Block (place_of tokens) (text_of tokens) b k j → terminal (text_of tokens i) ≡ t.At → ⊥
  block_no_note (g.not_static e at) (gs.braces o d c is end) first_word =
      is_other t.LeftBrace at_facts.1 (subst (λ (z : ℕ). terminal (text_of tokens z) ≡ t.At) (sym at) first_word) o
  block_no_note (g.static o e at) d first_word = is_other t.Static at_facts.2 first_word o

  pub member_whole : (kind : ClassKind) (class : List ℕ) (n j : ℕ) (a : MemberTree) (x : Misfit) → UnfitOfMember tokens kind n x → Member (place_of tokens) (text_of tokens) a n j
      → (y : Misfit) × (member_misfit kind class a ≡ Some y)
  member_whole kind class n j a x u (g.fields {notes = notes} {ms = ms} {k = k} {n = q} d list type vs end is at) =
      let whole = g.fields d list type vs end is at in
      let w = notes_met (MemberRel (place_of tokens)) (member_place kind) n x u a j whole notes ms k q d list (type_no_note type) in
      (w.0, ap (member_misfit kind class) is ∙ field_met kind class _ w.0 w.1)
  member_whole kind class n j a x u (g.method {notes = notes} {ms = ms} {k = k} {n = q} d list result name parameters throws rest is) =
      let whole = g.method d list result name parameters throws rest is in
      let w = notes_met (MemberRel (place_of tokens)) (member_place kind) n x u a j whole notes ms k q d list (result_no_note result) in
      (w.0, ap (member_misfit kind class) is ∙ method_met kind class _ w.0 w.1)
  member_whole kind class n j a x u (g.constructor {notes = notes} {ms = ms} {k = k} {n = q} d list name parameters throws rest is) =
      let whole = g.constructor d list name parameters throws rest is in
      let w = notes_met (MemberRel (place_of tokens)) (member_place kind) n x u a j whole notes ms k q d list (word_no_note (terminal (text_of tokens q)) name) in
      (w.0, ap (member_misfit kind class) is ∙ constructor_met kind class _ w.0 w.1)
  member_whole kind class n j a x u (g.initializer f b is) =
      let whole = g.initializer f b is in
      absurd (block_no_note f b (note_first (MemberRel (place_of tokens)) (member_place kind) n x u a j whole))
  member_whole kind class n j a x u (g.empty o is at) =
      let whole = g.empty o is at in
      absurd (is_other t.Semicolon at_facts.0 (note_first (MemberRel (place_of tokens)) (member_place kind) n x u a j whole) o)
