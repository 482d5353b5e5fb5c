-- Printed files with their classes are read again [JLS 7.3, 8.1, 9.1].
use Rattle.std.proofs.Common.{◌≡◌, ℕ, suc, List, [], ◌∷◌, ◌++◌, map, append_assoc, Option, None, refl, sym, ap, ◌∙◌, subst}
use Rattle.std.specs.Prelude.{codes, option_map}
use Rattle.bj_base.specs.declared.span.Span.{Span}
use Rattle.bj_lex.specs.Grammar.{Spelled}
use Rattle.bj_expr_tree.specs.declared.types.NamedPlace.{NamedPlace}
use Rattle.bj_tree.specs.declared.class.Modifier.{Modifier}
use Rattle.bj_tree.specs.declared.class.AnnotationTree.{AnnotationTree}
use Rattle.bj_tree.specs.declared.class.ImportTree.{ImportTree}
use Rattle.bj_tree.specs.declared.class.ClassKind.{ClassKind}
use Rattle.bj_tree.specs.declared.class.ClassKind.TheVariants as forms
use Rattle.bj_tree.specs.declared.class.ClassTree.{ClassTree}
use Rattle.bj_tree.specs.declared.member.MemberTree.{MemberTree}
use Rattle.bj_grammar.specs.Reader.{Text}
use Rattle.bj_stmt.specs.Grammar.{named}
use Rattle.bj_class.specs.declared.head.ClassHead.{ClassHead}
use Rattle.bj_class.specs.Grammar as g
use Rattle.bj_class.specs.Grammar.{Head, File, class_tree}
use Rattle.bj_writer.specs.Pieces.{tokens_of}
use Rattle.bj_layout.specs.Classes.{annotation_pieces, modifier_pieces, class_word, super_word, maybe_super, maybe_names, imports_pieces, member_pieces, class_pieces}
use Rattle.bj_print.specs.Same.{nowhere, unplaced_name, unplaced_modifier, unplaced_annotation, unplaced_import, unplaced_member, SameClass}
use Rattle.bj_print.proofs.Holds.{Back, Prints, tokens_append}
use Rattle.bj_print.proofs.ExprLaws.{ExprLaws}
use Rattle.bj_print.proofs.StmtLaws.{StmtLaws}
use Rattle.bj_print.proofs.ExprTokens.{worded, keyed, signed}
use Rattle.bj_print.proofs.Again.{Reads, reads_mark, reads_last, reads_then, reads_as, respelled}
use Rattle.bj_print.proofs.RowBack.{SameBy, SameAll, row_tokens}
use Rattle.bj_print.proofs.NamesBack.{same_name_text, maybe_names_again, super_again}
use Rattle.bj_print.proofs.ImportBack.{imports_again}
use Rattle.bj_print.proofs.PrefixBack.{annotations_again, modifiers_again}
use Rattle.bj_print.proofs.MemberBack.{members_again, members_tokens}

-- ---- heads

abbrev head_of : Span → List AnnotationTree → List Modifier → ClassKind → NamedPlace → Option NamedPlace → List NamedPlace → ClassHead
head_of at notes ms kind name x ns = record { at = at; annotations = notes; modifiers = ms; kind = kind; name = name; superclass = x; superinterfaces = ns }

abbrev unplaced_head : ClassHead → ClassHead
unplaced_head h = head_of nowhere (map unplaced_annotation h.annotations) (map unplaced_modifier h.modifiers) h.kind (unplaced_name h.name) (option_map unplaced_name h.superclass) (map unplaced_name h.superinterfaces)

-- with the brace behind it
abbrev head_tokens : ClassHead → List Spelled
head_tokens h = row_tokens (annotation_pieces 0) h.annotations ++ (row_tokens modifier_pieces h.modifiers
    ++ (keyed (class_word h.kind) ∷ worded h.name.name ∷ (tokens_of (maybe_super h.superclass) ++ (tokens_of (maybe_names (super_word h.kind) h.superinterfaces) ++ signed (codes "{") ∷ []))))

same_head : {notes notes2 : List AnnotationTree} {ms ms2 : List Modifier} {kind : ClassKind} {name name2 : NamedPlace} {x x2 : Option NamedPlace} {ns ns2 : List NamedPlace}
    → notes ≡ notes2 → ms ≡ ms2 → name ≡ name2 → x ≡ x2 → ns ≡ ns2 → head_of nowhere notes ms kind name x ns ≡ head_of nowhere notes2 ms2 kind name2 x2 ns2
same_head {notes2 = notes2} {ms = ms} {ms2 = ms2} {kind = kind} {name = name} {name2 = name2} {x = x} {x2 = x2} {ns = ns} h0 h1 h2 h3 h4 =
    ap (λ (z : List AnnotationTree). head_of nowhere z ms kind name x ns) h0 ∙ ap (λ (z : List Modifier). head_of nowhere notes2 z kind name x ns) h1
    ∙ ap (λ (z : NamedPlace). head_of nowhere notes2 ms2 kind z x ns) h2 ∙ ap (λ (z : Option NamedPlace). head_of nowhere notes2 ms2 kind name2 z ns) h3
    ∙ ap (λ (z : List NamedPlace). head_of nowhere notes2 ms2 kind name2 x2 z) h4

module _ (place : ℕ → Span) (s : Text) (other : ℕ → Span) (t : Text) where
  abbrev FoundHead : ClassHead → Type 0
  FoundHead h = Reads t (head_tokens h) (Back (Head other t) (SameBy unplaced_head) h)

  head_again : {a : ClassHead} {i j : ℕ} → Head place s a i j → FoundHead a
  head_again (g.class_head {n = n} d1 d2 o o2 d3 d4 o3 is at) = subst FoundHead (sym is) (reads_as
      (reads_then (annotations_again 0 place s other t d1) (reads_then (modifiers_again place s other t d2) (reads_mark (keyed (codes "class")) (reads_mark (worded (s (suc n)).text)
      (reads_then (super_again other t d3) (reads_then (maybe_names_again place s other t (codes "implements") refl d4) (reads_last (signed (codes "{")))))))))
      (λ k j h. let word = h.second.middle in let key = h.second.second in let behind = key.rest.rest in let names = behind.second in record {
        tree = head_of (other k) h.first.tree h.second.first.tree forms.Class (named (other (suc word)) (t (suc word))) behind.first.tree names.first.tree;
        stands = g.class_head h.first.stands h.second.first.stands key.is key.rest.is
            behind.first.stands names.first.stands names.second.is refl names.second.rest;
        same = same_head h.first.same h.second.first.same (same_name_text (place (suc n)) (other (suc word)) (s (suc n)) (t (suc word)) key.rest.token) behind.first.same names.first.same;
      }))
  head_again (g.interface_head {n = n} d1 d2 o o2 d3 o3 is at) = subst FoundHead (sym is) (reads_as
      (reads_then (annotations_again 0 place s other t d1) (reads_then (modifiers_again place s other t d2) (reads_mark (keyed (codes "interface")) (reads_mark (worded (s (suc n)).text)
      (reads_then (maybe_names_again place s other t (codes "extends") refl d3) (reads_last (signed (codes "{"))))))))
      (λ k j h. let word = h.second.middle in let key = h.second.second in let names = key.rest.rest in record {
        tree = head_of (other k) h.first.tree h.second.first.tree forms.Interface (named (other (suc word)) (t (suc word))) None names.first.tree;
        stands = g.interface_head h.first.stands h.second.first.stands key.is key.rest.is
            names.first.stands names.second.is refl names.second.rest;
        same = same_head h.first.same h.second.first.same (same_name_text (place (suc n)) (other (suc word)) (s (suc n)) (t (suc word)) key.rest.token) refl names.first.same;
      }))

-- ---- files

class_tokens : (file : List ℕ) (is : List ImportTree) (h : ClassHead) (ms : List MemberTree) (end : Span) → tokens_of (class_pieces (class_tree file is h ms end))
    ≡ tokens_of (imports_pieces is) ++ (head_tokens h ++ (row_tokens member_pieces ms ++ signed (codes "}") ∷ []))
class_tokens file is h ms end = simp (tokens_append, append_assoc, members_tokens)

same_file : (file : List ℕ) (is is2 : List ImportTree) (h h2 : ClassHead) (ms ms2 : List MemberTree) (end end2 : Span) → SameAll unplaced_import is2 is → SameBy unplaced_head h2 h → SameAll unplaced_member ms2 ms
    → SameClass (class_tree file is2 h2 ms2 end2) (class_tree file is h ms end)
same_file file is is2 h h2 ms ms2 end end2 same_imports same_heads same_members = ap (λ (z : List ImportTree). class_tree file z (unplaced_head h2) (map unplaced_member ms2) nowhere) same_imports
    ∙ ap (λ (z : ClassHead). class_tree file (map unplaced_import is) z (map unplaced_member ms2) nowhere) same_heads ∙ ap (λ (z : List MemberTree). class_tree file (map unplaced_import is) (unplaced_head h) z nowhere) same_members

module _ (place : ℕ → Span) (s : Text) (other : ℕ → Span) (t : Text) (exprs : ExprLaws place s other t) (stmts : StmtLaws place s other t) (file : List ℕ) where
  abbrev FoundFile : ClassTree → Type 0
  FoundFile a = Reads t (tokens_of (class_pieces a)) (Back (File file other t) SameClass a)

  file_again : {a : ClassTree} {i j : ℕ} → File file place s a i j → FoundFile a
  file_again (g.in_file {is = is} {h = head} {ms = ms} {o = o} d1 d2 d3 w same at) = subst FoundFile (sym same) (respelled (class_tokens file is head ms (place o)) (reads_as
      (reads_then (imports_again place s other t d1) (reads_then (head_again place s other t d2) (reads_then (members_again place s other t exprs stmts d3) (reads_last (signed (codes "}"))))))
      (λ k j h. let members = h.second.second in record {
        tree = class_tree file h.first.tree h.second.first.tree members.first.tree (other members.middle);
        stands = g.in_file h.first.stands h.second.first.stands members.first.stands members.second.is refl members.second.rest;
        same = same_file file is h.first.tree head h.second.first.tree ms members.first.tree (place o) (other members.middle) h.first.same h.second.first.same members.first.same;
      })))

-- a printed file is found again in a text that holds its tokens
pub class_prints : (place : ℕ → Span) (s : Text) (other : ℕ → Span) (t : Text) → ExprLaws place s other t → StmtLaws place s other t → (file : List ℕ) → Prints t (File file place s) (File file other t) SameClass class_pieces
class_prints place s other t exprs stmts file a i j d = (file_again place s other t exprs stmts file d).read
