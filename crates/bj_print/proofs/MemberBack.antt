-- Printed members are read again [JLS 8.1.6, 9.1.4].
use Rattle.std.proofs.Common.{◌≡◌, ℕ, Bool, true, false, if◌then◌else◌, List, [], ◌∷◌, ◌++◌, map, Option, None, refl, sym, ap, ◌∙◌, subst}
use Rattle.std.specs.Prelude.{codes}
use Rattle.bj_base.specs.declared.span.Span.{Span}
use Rattle.bj_lex.specs.Grammar.{Spelled}
use Rattle.bj_expr_tree.specs.declared.types.NamedPlace.{NamedPlace}
use Rattle.bj_expr_tree.specs.declared.types.TypeTree.{TypeTree}
use Rattle.bj_tree.specs.declared.stmt.VariableTree.{VariableTree}
use Rattle.bj_tree.specs.declared.stmt.StmtTree.{StmtTree}
use Rattle.bj_tree.specs.declared.class.Modifier.{Modifier}
use Rattle.bj_tree.specs.declared.class.AnnotationTree.{AnnotationTree}
use Rattle.bj_tree.specs.declared.member.ParameterTree.{ParameterTree}
use Rattle.bj_tree.specs.declared.member.MemberTree.{MemberTree}
use Rattle.bj_tree.specs.declared.member.MemberTree.TheVariants as trees
use Rattle.bj_grammar.specs.Reader.{Text}
use Rattle.bj_stmt.specs.Grammar.{named, Variables}
use Rattle.bj_class.specs.Grammar as g
use Rattle.bj_class.specs.Grammar.{Member, Members}
use Rattle.bj_writer.specs.Pieces.{Piece, Line, tokens_of}
use Rattle.bj_layout.specs.Exprs.{comma, keyword, with_commas, type_pieces}
use Rattle.bj_layout.specs.Stmts.{variable_pieces}
use Rattle.bj_layout.specs.Classes.{prefix_pieces, each, result_pieces, formals, maybe_names, is_field, member_pieces, members_behind, members_pieces}
use Rattle.bj_print.specs.Same.{nowhere, unplaced_member}
use Rattle.bj_print.proofs.Holds.{Back, tokens_append}
use Rattle.bj_print.proofs.ExprLaws.{ExprLaws}
use Rattle.bj_print.proofs.StmtLaws.{StmtLaws, SameVariables}
use Rattle.bj_print.proofs.ExprTokens.{signed}
use Rattle.bj_print.proofs.Again.{Reads, reads_mark, reads_last, reads_as, reads_parts}
use Rattle.bj_print.proofs.RowBack.{row_tokens, parted_tokens, FoundOne, FoundRow, empty_row, longer_row}
use Rattle.bj_print.proofs.NamesBack.{same_name_text, maybe_names_again, static_again}
use Rattle.bj_print.proofs.PrefixBack.{prefix_again}
use Rattle.bj_print.proofs.SmallBack.{type_found}
use Rattle.bj_print.proofs.ParameterBack.{formals_again, result_again}
use Rattle.bj_print.proofs.BodyBack.{block_again, constructor_again, maybe_body_again}

-- ---- members by their parts

abbrev field_of : Span → List AnnotationTree → List Modifier → TypeTree → List VariableTree → MemberTree
field_of at notes ms ty vs = trees.Field (record { at = at; annotations = notes; modifiers = ms; of = ty; variables = vs })

abbrev method_of : Span → List AnnotationTree → List Modifier → Option TypeTree → NamedPlace → List ParameterTree → List NamedPlace → Option StmtTree → MemberTree
method_of at notes ms r name ps ts b =
    trees.Method (record { at = at; annotations = notes; modifiers = ms; default = None; result = r; name = name; parameters = ps; throws = ts; body = b })

abbrev constructor_of : Span → List AnnotationTree → List Modifier → NamedPlace → List ParameterTree → List NamedPlace → StmtTree → MemberTree
constructor_of at notes ms name ps ts b = trees.Constructor (record { at = at; annotations = notes; modifiers = ms; name = name; parameters = ps; throws = ts; body = b })

abbrev initializer_of : Span → Bool → StmtTree → MemberTree
initializer_of at f b = trees.Initializer (record { at = at; is_static = f; body = b })

abbrev static_line : List Piece
static_line = keyword (codes "static") ∷ Line 4 ∷ []

-- ---- members with the same parts

same_field : {notes notes2 : List AnnotationTree} {ms ms2 : List Modifier} {ty ty2 : TypeTree} {vs vs2 : List VariableTree} → notes ≡ notes2 → ms ≡ ms2 → ty ≡ ty2 → vs ≡ vs2
    → field_of nowhere notes ms ty vs ≡ field_of nowhere notes2 ms2 ty2 vs2
same_field {notes2 = notes2} {ms = ms} {ms2 = ms2} {ty = ty} {ty2 = ty2} {vs = vs} h0 h1 h2 h3 = ap (λ (z : List AnnotationTree). field_of nowhere z ms ty vs) h0 ∙ ap (λ (z : List Modifier). field_of nowhere notes2 z ty vs) h1
    ∙ ap (λ (z : TypeTree). field_of nowhere notes2 ms2 z vs) h2 ∙ ap (λ (z : List VariableTree). field_of nowhere notes2 ms2 ty2 z) h3

same_method : {notes notes2 : List AnnotationTree} {ms ms2 : List Modifier} {r r2 : Option TypeTree} {name name2 : NamedPlace} {ps ps2 : List ParameterTree} {ts ts2 : List NamedPlace} {b b2 : Option StmtTree}
    → notes ≡ notes2 → ms ≡ ms2 → r ≡ r2 → name ≡ name2 → ps ≡ ps2 → ts ≡ ts2 → b ≡ b2 → method_of nowhere notes ms r name ps ts b ≡ method_of nowhere notes2 ms2 r2 name2 ps2 ts2 b2
same_method {notes2 = notes2} {ms = ms} {ms2 = ms2} {r = r} {r2 = r2} {name = name} {name2 = name2} {ps = ps} {ps2 = ps2} {ts = ts} {ts2 = ts2} {b = b} h0 h1 h2 h3 h4 h5 h6 =
    ap (λ (z : List AnnotationTree). method_of nowhere z ms r name ps ts b) h0 ∙ ap (λ (z : List Modifier). method_of nowhere notes2 z r name ps ts b) h1
    ∙ ap (λ (z : Option TypeTree). method_of nowhere notes2 ms2 z name ps ts b) h2 ∙ ap (λ (z : NamedPlace). method_of nowhere notes2 ms2 r2 z ps ts b) h3
    ∙ ap (λ (z : List ParameterTree). method_of nowhere notes2 ms2 r2 name2 z ts b) h4 ∙ ap (λ (z : List NamedPlace). method_of nowhere notes2 ms2 r2 name2 ps2 z b) h5
    ∙ ap (λ (z : Option StmtTree). method_of nowhere notes2 ms2 r2 name2 ps2 ts2 z) h6

same_constructor : {notes notes2 : List AnnotationTree} {ms ms2 : List Modifier} {name name2 : NamedPlace} {ps ps2 : List ParameterTree} {ts ts2 : List NamedPlace} {b b2 : StmtTree}
    → notes ≡ notes2 → ms ≡ ms2 → name ≡ name2 → ps ≡ ps2 → ts ≡ ts2 → b ≡ b2 → constructor_of nowhere notes ms name ps ts b ≡ constructor_of nowhere notes2 ms2 name2 ps2 ts2 b2
same_constructor {notes2 = notes2} {ms = ms} {ms2 = ms2} {name = name} {name2 = name2} {ps = ps} {ps2 = ps2} {ts = ts} {ts2 = ts2} {b = b} h0 h1 h2 h3 h4 h5 =
    ap (λ (z : List AnnotationTree). constructor_of nowhere z ms name ps ts b) h0 ∙ ap (λ (z : List Modifier). constructor_of nowhere notes2 z name ps ts b) h1
    ∙ ap (λ (z : NamedPlace). constructor_of nowhere notes2 ms2 z ps ts b) h2 ∙ ap (λ (z : List ParameterTree). constructor_of nowhere notes2 ms2 name2 z ts b) h3
    ∙ ap (λ (z : List NamedPlace). constructor_of nowhere notes2 ms2 name2 ps2 z b) h4 ∙ ap (λ (z : StmtTree). constructor_of nowhere notes2 ms2 name2 ps2 ts2 z) h5

-- ---- one member

module _ (place : ℕ → Span) (s : Text) (other : ℕ → Span) (t : Text) (exprs : ExprLaws place s other t) (stmts : StmtLaws place s other t) where
  abbrev FoundMember : MemberTree → Type 0
  FoundMember a = FoundOne t unplaced_member member_pieces (Member other t) a

  variables_found : {a : List VariableTree} {i j : ℕ} → Variables place s a i j → Reads t (parted_tokens comma variable_pieces a) (Back (Variables other t) SameVariables a)
  variables_found {a} {i} {j} d = record { read = stmts.variables a i j d }

  member_again : {a : MemberTree} {i j : ℕ} → Member place s a i j → FoundMember a
  member_again {i = i} (g.fields {notes = notes} {ms = ms} {ty = ty} {vs = vs} d1 d2 d3 d4 o is at) = subst FoundMember (sym is) (reads_as
      (reads_parts (prefix_pieces 4 notes ms) _ (prefix_again 4 place s other t d1 d2) (reads_parts (type_pieces ty) _ (type_found place s other t exprs d3) (reads_parts (with_commas (map variable_pieces vs)) _ (variables_found d4) (reads_last _))))
      (λ k j h. let of = h.second in let vars = of.second in record {
        tree = field_of (other k) h.first.first.tree h.first.second.tree of.first.tree vars.first.tree;
        stands = g.fields h.first.first.stands h.first.second.stands of.first.stands vars.first.stands vars.second.is refl vars.second.rest;
        same = same_field h.first.first.same h.first.second.same of.first.same vars.first.same;
      }))
  member_again {i = i} (g.method {notes = notes} {ms = ms} {r = r} {ps = ps} {ts = ts} {b = b} {o = o} d1 d2 d3 w d4 d5 d6 is) = subst FoundMember (sym is)
      (reads_as
      (reads_parts (prefix_pieces 4 notes ms) _ (prefix_again 4 place s other t d1 d2) (reads_parts (result_pieces r) _ (result_again place s other t exprs d3) (reads_mark _
      (reads_parts (formals ps) _ (formals_again place s other t exprs d4) (reads_parts (maybe_names (codes "throws") ts) _ (maybe_names_again place s other t (codes "throws") refl d5) (maybe_body_again place s other t stmts d6))))))
      (λ k j h. let result = h.second in let name = result.middle in let behind = result.second.rest in record {
        tree = method_of (other k) h.first.first.tree h.first.second.tree result.first.tree (named (other name) (t name)) behind.first.tree behind.second.first.tree behind.second.second.tree;
        stands = g.method h.first.first.stands h.first.second.stands result.first.stands result.second.is
            behind.first.stands behind.second.first.stands behind.second.second.stands refl;
        same = same_method h.first.first.same h.first.second.same result.first.same (same_name_text (place o) (other name) (s o) (t name) result.second.token)
            behind.first.same behind.second.first.same behind.second.second.same;
      }))
  member_again {i = i} (g.constructor {notes = notes} {ms = ms} {ps = ps} {ts = ts} {b = b} {n = n} d1 d2 w d3 d4 d5 is) = subst FoundMember (sym is)
      (reads_as
      (reads_parts (prefix_pieces 4 notes ms) _ (prefix_again 4 place s other t d1 d2) (reads_mark _
      (reads_parts (formals ps) _ (formals_again place s other t exprs d3) (reads_parts (maybe_names (codes "throws") ts) _ (maybe_names_again place s other t (codes "throws") refl d4) (constructor_again place s other t stmts d5)))))
      (λ k j h. let name = h.middle in let behind = h.second.rest in record {
        tree = constructor_of (other k) h.first.first.tree h.first.second.tree (named (other name) (t name)) behind.first.tree behind.second.first.tree behind.second.second.tree;
        stands = g.constructor h.first.first.stands h.first.second.stands h.second.is
            behind.first.stands behind.second.first.stands behind.second.second.stands refl;
        same = same_constructor h.first.first.same h.first.second.same (same_name_text (place n) (other name) (s n) (t name) h.second.token)
            behind.first.same behind.second.first.same behind.second.second.same;
      }))
  member_again {i = i} (g.initializer {f = f} {b = b} d1 d2 is) = subst FoundMember (sym is) (reads_as
      (reads_parts (if f then static_line else []) _ (static_again t static_line refl d1) (block_again place s other t stmts d2)) (λ k j h. record {
        tree = initializer_of (other k) f h.second.tree;
        stands = g.initializer h.first h.second.stands refl;
        same = ap (initializer_of nowhere f) h.second.same;
      }))
  member_again {i = i} (g.empty o is at) = subst FoundMember (sym is) (reads_as (reads_last (signed (codes ";"))) (λ k j h. record {
    tree = trees.Empty (other k);
    stands = g.empty h.is refl h.rest;
    same = refl;
  }))

  -- ---- all of them

  pub members_again : {a : List MemberTree} {i j : ℕ} → Members place s a i j → FoundRow t unplaced_member member_pieces (Members other t) a
  members_again (g.no_members is at) = empty_row t unplaced_member member_pieces (Member other t) (Members other t) (λ k j f. g.no_members refl f) is
  members_again (g.next_member d e is) = longer_row t unplaced_member member_pieces (Member other t) (Members other t) (λ xs y k m j same l d. g.next_member l d refl) (members_again d) (member_again e) is

-- ---- the lines between them are no tokens

gap_tokens : (b c : Bool) (rest : List Piece) → tokens_of ((if b then (if c then [] else Line 0 ∷ []) else Line 0 ∷ []) ++ rest) ≡ tokens_of rest
gap_tokens true true rest = refl
gap_tokens true false rest = refl
gap_tokens false c rest = refl

behind_tokens : (is_behind_field : Bool) (xs : List MemberTree) → tokens_of (members_behind is_behind_field xs) ≡ row_tokens member_pieces xs
behind_tokens b [] = refl
behind_tokens b (x ∷ xs) = gap_tokens b (is_field x) (Line 4 ∷ (member_pieces x ++ members_behind (is_field x) xs)) ∙ (tokens_append (member_pieces x) (members_behind (is_field x) xs)
    ∙ (ap (λ (w : List Spelled). tokens_of (member_pieces x) ++ w) (behind_tokens (is_field x) xs) ∙ sym (tokens_append (member_pieces x) (each (map member_pieces xs)))))

pub members_tokens : (xs : List MemberTree) → tokens_of (members_pieces xs) ≡ row_tokens member_pieces xs
members_tokens [] = refl
members_tokens (x ∷ xs) = tokens_append (member_pieces x) (members_behind (is_field x) xs)
    ∙ (ap (λ (w : List Spelled). tokens_of (member_pieces x) ++ w) (behind_tokens (is_field x) xs) ∙ sym (tokens_append (member_pieces x) (each (map member_pieces xs))))
