-- Printed imports are read again [JLS 7.5].
use Rattle.std.proofs.Common.{◌≡◌, ℕ, Bool, if◌then◌else◌, List, [], ◌∷◌, map, refl, sym, ap, ◌∙◌, subst}
use Rattle.std.specs.Prelude.{codes}
use Rattle.std.proofs.lemmas.List.{append-nil}
use Rattle.bj_base.specs.declared.span.Span.{Span}
use Rattle.bj_expr_tree.specs.declared.types.NamedPlace.{NamedPlace}
use Rattle.bj_tree.specs.declared.class.ImportTree.{ImportTree}
use Rattle.bj_grammar.specs.Reader.{Text}
use Rattle.bj_class.specs.Grammar as g
use Rattle.bj_class.specs.Grammar.{Import, Imports}
use Rattle.bj_writer.specs.Pieces.{Piece, Space, Line, tokens_of}
use Rattle.bj_layout.specs.Exprs.{keyword, sign}
use Rattle.bj_layout.specs.Classes.{with_points, import_pieces, imports_pieces, each}
use Rattle.bj_print.specs.Same.{nowhere, unplaced_name, unplaced_import}
use Rattle.bj_print.proofs.Holds.{Back, tokens_append}
use Rattle.bj_print.proofs.Again.{Reads, reads_mark, reads_last, reads_as, respelled, reads_parts}
use Rattle.bj_print.proofs.RowBack.{SameBy, SameAll, row_tokens, FoundOne, FoundRow, empty_row, longer_row}
use Rattle.bj_print.proofs.NamesBack.{points_again, static_again, all_again}

-- ---- one

abbrev import_of : Span → Bool → List NamedPlace → Bool → ImportTree
import_of at is_static names is_on_demand = record { at = at; is_static = is_static; names = names; is_on_demand = is_on_demand }

abbrev static_word : List Piece
static_word = keyword (codes "static") ∷ Space ∷ []

abbrev all_mark : List Piece
all_mark = sign (codes ".") ∷ sign (codes "*") ∷ []

same_import : (at at2 : Span) (f : Bool) (ns ns2 : List NamedPlace) (d : Bool) → SameAll unplaced_name ns2 ns → SameBy unplaced_import (import_of at2 f ns2 d) (import_of at f ns d)
same_import at at2 f ns ns2 d e = ap (λ (w : List NamedPlace). import_of nowhere f w d) e

module _ (place : ℕ → Span) (s : Text) (other : ℕ → Span) (t : Text) where
  import_again : {a : ImportTree} {i j : ℕ} → Import place s a i j → FoundOne t unplaced_import import_pieces (Import other t) a
  import_again {i = i} (g.import {f = f} {ns = ns} {d = d} o d1 d2 d3 o2 is at) = subst (FoundOne t unplaced_import import_pieces (Import other t)) (sym is)
      (reads_as
      (reads_mark _ (reads_parts (if f then static_word else []) _ (static_again t static_word refl d1) (reads_parts (with_points ns) _ (points_again place s other t d2) (reads_parts (if d then all_mark else []) _ (all_again t d3) (reads_last _)))))
      (λ k j h. let names = h.rest.second in record {
        tree = import_of (other k) f names.first.tree d;
        stands = g.import h.is h.rest.first names.first.stands names.second.first
            names.second.second.is refl names.second.second.rest;
        same = same_import (place i) (other k) f ns names.first.tree d names.first.same;
      }))

  -- ---- all of them

  import_row : {a : List ImportTree} {i j : ℕ} → Imports place s a i j → FoundRow t unplaced_import import_pieces (Imports other t) a
  import_row (g.no_imports is at) = empty_row t unplaced_import import_pieces (Import other t) (Imports other t) (λ k j f. g.no_imports refl f) is
  import_row (g.next_import d e is) = longer_row t unplaced_import import_pieces (Import other t) (Imports other t) (λ xs y k m j same l d. g.next_import l d refl) (import_row d) (import_again e) is

-- the empty line behind them is no token
imports_tokens : (a : List ImportTree) → tokens_of (imports_pieces a) ≡ row_tokens import_pieces a
imports_tokens [] = refl
imports_tokens (x ∷ xs) = tokens_append (each (map import_pieces (x ∷ xs))) (Line 0 ∷ []) ∙ append-nil (row_tokens import_pieces (x ∷ xs))

pub imports_again : (place : ℕ → Span) (s : Text) (other : ℕ → Span) (t : Text) {a : List ImportTree} {i j : ℕ} → Imports place s a i j → Reads t (tokens_of (imports_pieces a)) (Back (Imports other t) (SameAll unplaced_import) a)
imports_again place s other t {a} d = respelled (imports_tokens a) (import_row place s other t d)
