-- The tokens of a printed file are those of the text that it was read from.
use Rattle.std.proofs.Common.{◌≡◌, ◌≢◌, ℕ, suc, Bool, true, if◌then◌else◌, List, [], ◌∷◌, map, refl, sym, subst}
use Rattle.std.specs.Prelude.{codes}
use Rattle.bj_base.specs.declared.span.Span.{Span}
use Rattle.bj_token.specs.declared.token.TokenKind.TheVariants as kinds
use Rattle.bj_lex.specs.Grammar.{Spelled}
use Rattle.bj_expr_tree.specs.declared.types.NamedPlace.{NamedPlace}
use Rattle.bj_tree.specs.declared.class.Modifier.{Modifier}
use Rattle.bj_tree.specs.declared.class.AnnotationTree.{AnnotationTree}
use Rattle.bj_tree.specs.declared.class.ImportTree.{ImportTree}
use Rattle.bj_grammar.specs.declared.terminal.Terminal.{Terminal}
use Rattle.bj_grammar.specs.declared.terminal.Terminal.TheVariants as t
use Rattle.bj_grammar.specs.Terminal.{terminal, among, keyword_spelling}
use Rattle.bj_grammar.proofs.Terminals.{kind_for}
use Rattle.bj_grammar.specs.Reader.{Text}
use Rattle.bj_expr.proofs.Facts.{Each, each}
use Rattle.bj_class.specs.Grammar as g
use Rattle.bj_class.specs.Grammar.{MaybeStatic, NamesBy, MaybeNames, MaybeAll, Import, Imports, Annotation, Annotations, ModifierList, MaybeSuper, Head, Parameter, Parameters, Formals, ResultAt, MaybeBody, Member, Members, File, modifier_words, modifier_kind, class_tree}
use Rattle.bj_writer.specs.Pieces.{Piece, Space, Line}
use Rattle.bj_layout.specs.Exprs.{keyword, sign, comma, each_behind}
use Rattle.bj_layout.specs.Classes.{name_piece, with_points, maybe_names, import_pieces, imports_pieces, annotation_pieces, modifier_word, modifier_pieces, prefix_pieces}
use Rattle.bj_print.proofs.Drawn.{Drawn, AllDrawn, both, all_behind, all_none, all_next, Rows, rows_drawn, rows_one, rows_next}
use Rattle.bj_print.proofs.DrawnTokens as drawn
use Rattle.bj_print.proofs.Holds.{spelling_of}

module _ (P : Spelled → Type 0) (place : ℕ → Span) (s : Text) (given : (x : ℕ) → terminal (s x) ≢ t.Other → P (spelling_of (s x))) where
  -- ---- tokens

  -- ---- names

  -- names with a sign between them, which is printed so
  pub names_drawn : (k : Terminal) (between : List Piece) → ((x : ℕ) → terminal (s x) ≡ k → Drawn P between) → (a : List NamedPlace) (i j : ℕ) → NamesBy k place s a i j → Rows P name_piece between a
  names_drawn k between d a u v (g.first_name {i = i} n is end) = rows_one P name_piece between a _ is (drawn.word_drawn P s given i n, tt)
  names_drawn k between d a u v (g.next_name {b = b} {i = i} {n = n} ds o m is end) = rows_next P name_piece between a b _ is (d n o) (names_drawn k between d b i n ds) (drawn.word_drawn P s given (suc n) m, tt)

  listed : (before : List ℕ) (a : List NamedPlace) → P (kinds.Keyword, before) → Rows P name_piece comma a → Drawn P (maybe_names before a)
  listed before [] p d = tt
  listed before (x ∷ xs) p d = (p, rows_drawn P name_piece comma (x ∷ xs) d)

  pub maybe_names_drawn : (k : Terminal) → kind_for k ≡ kinds.Keyword → k ≢ t.Other → (a : List NamedPlace) (i j : ℕ) → MaybeNames k place s a i j → Drawn P (maybe_names (keyword_spelling k) a)
  maybe_names_drawn k kind some a u v (g.no_names is end) = subst (λ (xs : List NamedPlace). Drawn P (maybe_names (keyword_spelling k) xs)) (sym is) tt
  maybe_names_drawn k kind some a u v (g.names {i = i} {j = j} w d) = listed (keyword_spelling k) a (drawn.keyword_drawn P s given i k w kind some) (names_drawn t.Comma comma (drawn.comma_drawn P s given) a (suc i) j d)

  -- ---- imports

  pub static_drawn : (p : List Piece) (a : Bool) (i j : ℕ) → MaybeStatic s a i j → ((x : ℕ) → P (kinds.Keyword, codes "static") → Drawn P p) → Drawn P (if a then p else [])
  static_drawn p a u v (g.not_static is end) d = subst (λ (b : Bool). Drawn P (if b then p else [])) (sym is) tt
  static_drawn p a u v (g.static {i = i} k is end) d = subst (λ (b : Bool). Drawn P (if b then p else [])) (sym is) (d i (drawn.keyword_drawn P s given i t.Static k refl (λ e. cc)))

  all_drawn : (a : Bool) (i j : ℕ) → MaybeAll s a i j → Drawn P (if a then sign (codes ".") ∷ sign (codes "*") ∷ [] else [])
  all_drawn a u v (g.not_all is end) = subst (λ (b : Bool). Drawn P (if b then sign (codes ".") ∷ sign (codes "*") ∷ [] else [])) (sym is) tt
  all_drawn a u v (g.all {i = i} o x is end) = subst (λ (b : Bool). Drawn P (if b then sign (codes ".") ∷ sign (codes "*") ∷ [] else [])) (sym is) (drawn.sign_drawn P s given i t.Dot o refl (λ e. cc), (drawn.sign_drawn P s given (suc i) t.Times x refl (λ e. cc), tt))

  point : (x : ℕ) → terminal (s x) ≡ t.Dot → Drawn P (sign (codes ".") ∷ [])
  point x is = (drawn.sign_drawn P s given x t.Dot is refl (λ e. cc), tt)

  import_drawn : (a : ImportTree) (i j : ℕ) → Import place s a i j → Drawn P (import_pieces a)
  import_drawn a u v (g.import {f = f} {ns = ns} {d = d} {i = i} {k = k} {n = n} {o = o} w df dn dd e is end) =
      subst (λ (y : ImportTree). Drawn P (import_pieces y)) (sym is) (
        drawn.keyword_drawn P s given i t.Import w refl (λ e. cc),
        both P (if f then keyword (codes "static") ∷ Space ∷ [] else []) _ (static_drawn _ f (suc i) k df (λ x p. (p, tt)))
            (both P (with_points ns) _ (rows_drawn P name_piece (sign (codes ".") ∷ []) ns (names_drawn t.Dot _ point ns k n dn)) (both P (if d then sign (codes ".") ∷ sign (codes "*") ∷ [] else []) _ (all_drawn d n o dd) (drawn.sign_drawn P s given o t.Semicolon e refl (λ e. cc), tt))),
      )

  pub imports_each : (a : List ImportTree) (i j : ℕ) → Imports place s a i j → AllDrawn P (map import_pieces a)
  imports_each a u v (g.no_imports is end) = all_none P import_pieces a is
  imports_each a u v (g.next_import {b = b} {c = x} {i = i} {n = n} {j = j} ds d is) = all_next P import_pieces a b x is (imports_each b i n ds) (import_drawn x n j d)

  pub imports_drawn : (a : List ImportTree) → AllDrawn P (map import_pieces a) → Drawn P (imports_pieces a)
  imports_drawn [] d = tt
  imports_drawn (x ∷ xs) d = both P (each_behind [] (map import_pieces (x ∷ xs))) (Line 0 ∷ []) (all_behind P [] (map import_pieces (x ∷ xs)) tt d) tt

  -- ---- annotations and modifiers

  annotation_drawn : (columns : ℕ) (a : AnnotationTree) (i j : ℕ) → Annotation place s a i j → Drawn P (annotation_pieces columns a)
  annotation_drawn columns a u v (g.marker {i = i} at n is end) = subst (λ (y : AnnotationTree). Drawn P (annotation_pieces columns y)) (sym is) (drawn.sign_drawn P s given i t.At at refl (λ e. cc), (drawn.word_drawn P s given (suc i) n, tt))
  annotation_drawn columns a u v (g.expecting {i = i} {n = n} at m place l w is_expected e class o k r is end) =
      subst (λ (y : AnnotationTree). Drawn P (annotation_pieces columns y)) (sym is) (
        drawn.sign_drawn P s given i t.At at refl (λ e. cc),
        (
          drawn.word_drawn P s given (suc i) m,
          (
            drawn.sign_drawn P s given n t.LeftParen l refl (λ e. cc),
            (
              subst (λ (x : List ℕ). P (kinds.Word, x)) is_expected (drawn.word_drawn P s given (suc n) w),
              (
                drawn.sign_drawn P s given (suc (suc n)) t.Assign e refl (λ e. cc),
                (
                  drawn.word_drawn P s given (suc (suc (suc n))) class,
                  (
                    drawn.sign_drawn P s given (suc (suc (suc (suc n)))) t.Dot o refl (λ e. cc),
                    (drawn.keyword_drawn P s given (suc (suc (suc (suc (suc n))))) t.Class k refl (λ e. cc), (drawn.sign_drawn P s given (suc (suc (suc (suc (suc (suc n)))))) t.RightParen r refl (λ e. cc), tt)),
                  ),
                ),
              ),
            ),
          ),
        ),
      )

  annotations_each : (columns : ℕ) (a : List AnnotationTree) (i j : ℕ) → Annotations place s a i j → AllDrawn P (map (annotation_pieces columns) a)
  annotations_each columns a u v (g.no_annotations is end) = all_none P (annotation_pieces columns) a is
  annotations_each columns a u v (g.next_annotation {b = b} {c = x} {i = i} {n = n} {j = j} ds d is) =
      all_next P (annotation_pieces columns) a b x is (annotations_each columns b i n ds) (annotation_drawn columns x n j d)

  abbrev IsModifier : Terminal → Type 0
  IsModifier k = (kind_for k ≡ kinds.Keyword) × (k ≢ t.Other) × (modifier_word (modifier_kind k) ≡ keyword_spelling k)

  modifiers_printed : Each IsModifier modifier_words
  modifiers_printed = ((refl, λ e. cc, refl), ((refl, λ e. cc, refl), ((refl, λ e. cc, refl), ((refl, λ e. cc, refl), ((refl, λ e. cc, refl), ((refl, λ e. cc, refl), ((refl, λ e. cc, refl), ((refl, λ e. cc, refl), tt))))))))

  modifier_drawn : (x : ℕ) → among modifier_words (terminal (s x)) ≡ true → Drawn P (modifier_pieces (g.modifier (place x) (s x)))
  modifier_drawn x is =
      let h = each IsModifier modifier_words modifiers_printed (terminal (s x)) is in
      (subst (λ (w : List ℕ). P (kinds.Keyword, w)) (sym h.2) (drawn.keyword_drawn P s given x (terminal (s x)) refl h.0 h.1), tt)

  modifiers_each : (a : List Modifier) (i j : ℕ) → ModifierList place s a i j → AllDrawn P (map modifier_pieces a)
  modifiers_each a u v (g.no_modifiers is end) = all_none P modifier_pieces a is
  modifiers_each a u v (g.next_modifier {b = b} {i = i} {n = n} ds k is end) = all_next P modifier_pieces a b _ is (modifiers_each b i n ds) (modifier_drawn n k)

  pub prefix_drawn : (columns : ℕ) (notes : List AnnotationTree) (ms : List Modifier) (i k n : ℕ) → Annotations place s notes i k → ModifierList place s ms k n → Drawn P (prefix_pieces columns notes ms)
  prefix_drawn columns notes ms i k n d e =
      both P (each_behind [] (map (annotation_pieces columns) notes)) (each_behind [] (map modifier_pieces ms)) (all_behind P [] (map (annotation_pieces columns) notes) tt (annotations_each columns notes i k d)) (all_behind P [] (map modifier_pieces ms) tt (modifiers_each ms k n e))
