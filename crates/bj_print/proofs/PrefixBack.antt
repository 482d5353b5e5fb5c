-- Printed annotations and modifiers are read again [JLS 9.7, 8.1.1].
use Rattle.std.proofs.Common.{◌≡◌, ℕ, suc, true, List, [], ◌∷◌, ◌++◌, map, Some, None, refl, sym, ap, ◌∙◌, subst}
use Rattle.std.specs.Prelude.{codes}
use Rattle.bj_base.specs.declared.span.Span.{Span}
use Rattle.bj_token.specs.declared.token.TokenKind.TheVariants as kinds
use Rattle.bj_token.specs.declared.token.Token.{Token}
use Rattle.bj_expr_tree.specs.declared.types.NamedPlace.{NamedPlace}
use Rattle.bj_tree.specs.declared.class.Modifier.{Modifier}
use Rattle.bj_tree.specs.declared.class.AnnotationTree.{AnnotationTree}
use Rattle.bj_grammar.specs.declared.terminal.Terminal.{Terminal}
use Rattle.bj_grammar.specs.Terminal.{terminal, terminal_by, among}
use Rattle.bj_grammar.specs.Reader.{Text}
use Rattle.bj_stmt.specs.Grammar.{named}
use Rattle.bj_class.specs.Grammar as g
use Rattle.bj_class.specs.Grammar.{Annotation, Annotations, modifier_words, modifier_kind, modifier, ModifierList}
use Rattle.bj_writer.specs.Pieces.{tokens_of}
use Rattle.bj_layout.specs.Exprs.{each_behind}
use Rattle.bj_layout.specs.Classes.{annotation_pieces, modifier_word, modifier_pieces, prefix_pieces}
use Rattle.bj_print.specs.Same.{nowhere, unplaced_name, unplaced_annotation, unplaced_modifier}
use Rattle.bj_print.proofs.Holds.{Back, text_is}
use Rattle.bj_expr.proofs.Facts.{each}
use Rattle.bj_print.proofs.PrintedOperators.{among_again}
use Rattle.bj_print.proofs.ExprTokens.{worded, keyed, signed}
use Rattle.bj_print.proofs.Again.{Reads, Then, reads_mark, reads_last, reads_as, reads_parts}
use Rattle.bj_print.proofs.RowBack.{SameBy, SameAll, FoundOne, FoundRow, empty_row, longer_row}
use Rattle.bj_print.proofs.NamesBack.{same_name_text}

-- ---- annotations

abbrev marker_of : Span → NamedPlace → AnnotationTree
marker_of at name = record { at = at; name = name; expected = None }

abbrev expecting_of : Span → NamedPlace → NamedPlace → AnnotationTree
expecting_of at name class = record { at = at; name = name; expected = Some class }

same_expecting : (at at2 : Span) (name name2 class class2 : NamedPlace) → SameBy unplaced_name name2 name → SameBy unplaced_name class2 class
    → SameBy unplaced_annotation (expecting_of at2 name2 class2) (expecting_of at name class)
same_expecting at at2 name name2 class class2 e f = ap (λ (z : NamedPlace). expecting_of nowhere z (unplaced_name class2)) e ∙ ap (λ (z : NamedPlace). expecting_of nowhere (unplaced_name name) z) f

module _ (columns : ℕ) (place : ℕ → Span) (s : Text) (other : ℕ → Span) (t : Text) where
  annotation_again : {a : AnnotationTree} {i j : ℕ} → Annotation place s a i j → FoundOne t unplaced_annotation (annotation_pieces columns) (Annotation other t) a
  annotation_again {i = i} (g.marker o o2 is at) = subst (FoundOne t unplaced_annotation (annotation_pieces columns) (Annotation other t)) (sym is)
      (reads_as (reads_mark (signed (codes "@")) (reads_last (worded (s (suc i)).text))) (λ k j f. record {
        tree = marker_of (other k) (named (other (suc k)) (t (suc k)));
        stands = g.marker f.is f.rest.is refl f.rest.rest;
        same = ap (marker_of nowhere) (same_name_text (place (suc i)) (other (suc k)) (s (suc i)) (t (suc k)) f.rest.token);
      }))
  annotation_again {i = i} (g.expecting {n = n} o o2 here o3 o4 o5 o6 o7 o8 o9 o10 is at) = subst (FoundOne t unplaced_annotation (annotation_pieces columns) (Annotation other t)) (sym is)
      (reads_as (reads_mark (signed (codes "@")) (reads_mark (worded (s (suc i)).text) (reads_mark (signed (codes "(")) (reads_mark (worded (codes "expected")) (reads_mark (signed (codes "="))
      (reads_mark (worded (s (suc (suc (suc n)))).text) (reads_mark (signed (codes ".")) (reads_mark (keyed (codes "class")) (reads_last (signed (codes ")"))))))))))) (λ k j f.
      let m = suc (suc k) in
      let in_parens = f.rest.rest in
      let value = in_parens.rest.rest.rest in
      record {
        tree = expecting_of (other k) (named (other (suc k)) (t (suc k))) (named (other (suc (suc (suc m)))) (t (suc (suc (suc m)))));
        stands = g.expecting f.is f.rest.is refl
            in_parens.is in_parens.rest.is (text_is (t (suc m)) kinds.Word (codes "expected") in_parens.rest.token)
            in_parens.rest.rest.is value.is
            value.rest.is value.rest.rest.is
            value.rest.rest.rest.is refl value.rest.rest.rest.rest;
        same = same_expecting (place i) (other k) (named (place (suc i)) (s (suc i))) (named (other (suc k)) (t (suc k)))
            (named (place (suc (suc (suc n)))) (s (suc (suc (suc n))))) (named (other (suc (suc (suc m)))) (t (suc (suc (suc m)))))
            (same_name_text (place (suc i)) (other (suc k)) (s (suc i)) (t (suc k)) f.rest.token)
            (same_name_text (place (suc (suc (suc n)))) (other (suc (suc (suc m)))) (s (suc (suc (suc n)))) (t (suc (suc (suc m)))) value.token);
      }))

  pub annotations_again : {a : List AnnotationTree} {i j : ℕ} → Annotations place s a i j → FoundRow t unplaced_annotation (annotation_pieces columns) (Annotations other t) a
  annotations_again (g.no_annotations is at) = empty_row t unplaced_annotation (annotation_pieces columns) (Annotation other t) (Annotations other t) (λ k j f. g.no_annotations refl f) is
  annotations_again (g.next_annotation d e is) = longer_row t unplaced_annotation (annotation_pieces columns) (Annotation other t) (Annotations other t)
      (λ xs y k m j same l d. g.next_annotation l d refl) (annotations_again d) (annotation_again e) is

-- ---- modifiers

-- a word that is a modifier, and which one
record ModifierAt (place : ℕ → Span) (s : Text) (a : Modifier) (i j : ℕ) : Type 0 where
  pub word : among modifier_words (terminal (s i)) ≡ true
  pub is : a ≡ modifier (place i) (s i)
  pub end : j ≡ suc i

-- what a modifier is printed as is the modifier
abbrev IsPrinted : Terminal → Type 0
IsPrinted v = terminal_by kinds.Keyword (modifier_word (modifier_kind v)) ≡ v

modifier_printed : (v : Terminal) → among modifier_words v ≡ true → terminal_by kinds.Keyword (modifier_word (modifier_kind v)) ≡ v
modifier_printed = each IsPrinted modifier_words (refl, (refl, (refl, (refl, (refl, (refl, (refl, (refl, tt))))))))

same_modifier : (at at2 : Span) (x y : Token) → terminal y ≡ terminal x → SameBy unplaced_modifier (modifier at2 y) (modifier at x)
same_modifier at at2 x y e = ap (λ (v : Terminal). let m : Modifier = record { at = nowhere; kind = modifier_kind v } in m) e

module _ (place : ℕ → Span) (s : Text) (other : ℕ → Span) (t : Text) where
  modifier_found : (at : Span) (x : Token) → among modifier_words (terminal x) ≡ true → FoundOne t unplaced_modifier modifier_pieces (ModifierAt other t) (modifier at x)
  modifier_found at x o = reads_as (reads_last (keyed (modifier_word (modifier_kind (terminal x))))) (λ k j f.
      let w : terminal (t k) ≡ terminal x = f.is ∙ modifier_printed (terminal x) o in
      record {
        tree = modifier (other k) (t k);
        stands = record { word = among_again modifier_words (terminal x) (terminal (t k)) w o; is = refl; end = f.rest };
        same = same_modifier at (other k) x (t k) w;
      })

  pub modifiers_again : {a : List Modifier} {i j : ℕ} → ModifierList place s a i j → FoundRow t unplaced_modifier modifier_pieces (ModifierList other t) a
  modifiers_again (g.no_modifiers is at) = empty_row t unplaced_modifier modifier_pieces (ModifierAt other t) (ModifierList other t) (λ k j f. g.no_modifiers refl f) is
  modifiers_again (g.next_modifier {n = n} d o is at) = longer_row t unplaced_modifier modifier_pieces (ModifierAt other t) (ModifierList other t)
      (λ xs y k m j same l d. g.next_modifier l d.word (ap (λ (z : Modifier). xs ++ z ∷ []) d.is) d.end) (modifiers_again d) (modifier_found (place n) (s n) o) is

-- ---- both, before a declaration

pub prefix_again : (columns : ℕ) (place : ℕ → Span) (s : Text) (other : ℕ → Span) (t : Text) {notes : List AnnotationTree} {ms : List Modifier} {i k j : ℕ} → Annotations place s notes i k → ModifierList place s ms k j
    → Reads t (tokens_of (prefix_pieces columns notes ms)) (Then (Back (Annotations other t) (SameAll unplaced_annotation) notes) (Back (ModifierList other t) (SameAll unplaced_modifier) ms))
prefix_again columns place s other t {notes} d1 d2 = reads_parts (each_behind [] (map (annotation_pieces columns) notes)) _ (annotations_again columns place s other t d1) (modifiers_again place s other t d2)
