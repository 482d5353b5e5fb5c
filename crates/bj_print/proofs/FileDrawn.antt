-- The tokens of printed members and of a printed file are those of the text that they were read from.
use Rattle.std.proofs.Common.{◌≡◌, ◌≢◌, ℕ, suc, Bool, true, false, if◌then◌else◌, List, [], ◌∷◌, map, Option, refl, sym, ap, ◌∙◌, subst, le_refl}
use Rattle.std.specs.Prelude.{codes}
use Rattle.bj_base.specs.declared.span.Span.{Span}
use Rattle.bj_token.specs.declared.token.TokenKind.TheVariants as kinds
use Rattle.bj_lex.specs.Grammar.{Spelled}
use Rattle.bj_expr_tree.specs.declared.types.NamedPlace.{NamedPlace}
use Rattle.bj_expr_tree.specs.declared.types.TypeTree.{TypeTree}
use Rattle.bj_tree.specs.declared.stmt.StmtTree.{StmtTree}
use Rattle.bj_tree.specs.declared.class.ImportTree.{ImportTree}
use Rattle.bj_tree.specs.declared.class.ClassTree.{ClassTree}
use Rattle.bj_tree.specs.declared.member.ParameterTree.{ParameterTree}
use Rattle.bj_tree.specs.declared.member.MemberTree.{MemberTree}
use Rattle.bj_grammar.specs.declared.terminal.Terminal.TheVariants as t
use Rattle.bj_grammar.specs.Terminal.{terminal}
use Rattle.bj_grammar.specs.Reader.{Text}
use Rattle.bj_stmt.specs.Grammar as st
use Rattle.bj_stmt.specs.Grammar.{Block, ConstructorBody}
use Rattle.bj_class.specs.Grammar as g
use Rattle.bj_class.specs.Grammar.{MaybeStatic, NamesBy, MaybeNames, MaybeAll, Import, Imports, Annotation, Annotations, ModifierList, MaybeSuper, Head, Parameter, Parameters, Formals, ResultAt, MaybeBody, Member, Members, File, modifier_words, modifier_kind, class_tree}
use Rattle.bj_class.specs.declared.head.ClassHead.{ClassHead}
use Rattle.bj_writer.specs.Pieces.{Line}
use Rattle.bj_layout.specs.Exprs.{sign, comma, with_commas, type_pieces, each_behind}
use Rattle.bj_layout.specs.Stmts.{maybe_final, variable_pieces, stmt_pieces, semicolon}
use Rattle.bj_layout.specs.Classes as c
use Rattle.bj_layout.specs.Classes.{name_piece, name_list, with_points, maybe_names, import_pieces, imports_pieces, annotation_pieces, expected_pieces, modifier_word, modifier_pieces, prefix_pieces, parameter_pieces, formals, statement_line, lines_in_braces, body_pieces, maybe_body, result_pieces, member_pieces, members_behind, members_pieces, is_field, maybe_super, head_pieces, class_pieces}
use Rattle.bj_print.proofs.Drawn.{Drawn, AllDrawn, both, all_behind, all_none, all_next, Rows, rows_drawn, rows_one, rows_next}
use Rattle.bj_print.proofs.DrawnTokens as drawn
use Rattle.bj_print.proofs.StmtDrawn as stmts
use Rattle.bj_print.proofs.ClassDrawn as cd
use Rattle.bj_print.proofs.BodyBack.{body_of_block}
use Rattle.bj_print.proofs.Holds.{spelling_of}

module _ (P : Spelled → Type 0) (place : ℕ → Span) (s : Text) (given : (x : ℕ) → terminal (s x) ≢ t.Other → P (spelling_of (s x))) where
  -- ---- what stands before the members

  super_drawn : (a : Option NamedPlace) (i j : ℕ) → MaybeSuper place s a i j → Drawn P (maybe_super a)
  super_drawn a u v (g.no_super is end) = subst (λ (x : Option NamedPlace). Drawn P (maybe_super x)) (sym is) tt
  super_drawn a u v (g.super {i = i} k n is end) = subst (λ (x : Option NamedPlace). Drawn P (maybe_super x)) (sym is) (drawn.keyword_drawn P s given i t.Extends k refl (λ e. cc), (drawn.word_drawn P s given (suc i) n, tt))

  -- a head, and the brace behind it
  pub head_drawn : (file : List ℕ) (is : List ImportTree) (ms : List MemberTree) (end : Span) (h : ClassHead) (i j : ℕ) → Head place s h i j → Drawn P (head_pieces (class_tree file is h ms end)) × P (kinds.Sign, codes "{")
  head_drawn file is ms end h u v (g.class_head {notes = notes} {ms = mods} {x = x} {ns = ns} {i = i} {k = k} {n = n} {o = o} {q = q} da dm c w dx dn b same stop) = (
    subst (λ (y : ClassHead). Drawn P (head_pieces (class_tree file is y ms end))) (sym same)
        (both P (prefix_pieces 0 notes mods) _ (cd.prefix_drawn P place s given 0 notes mods i k n da dm) (
          drawn.keyword_drawn P s given n t.Class c refl (λ e. cc),
          (
            drawn.word_drawn P s given (suc n) w,
            both P (maybe_super x) _ (super_drawn x (suc (suc n)) o dx) (both P (maybe_names (codes "implements") ns) (Line 0 ∷ []) (cd.maybe_names_drawn P place s given t.Implements refl (λ e. cc) ns o q dn) tt),
          ),
        )),
    drawn.sign_drawn P s given q t.LeftBrace b refl (λ e. cc),
  )
  head_drawn file is ms end h u v (g.interface_head {notes = notes} {ms = mods} {ns = ns} {i = i} {k = k} {n = n} {q = q} da dm c w dn b same stop) = (
    subst (λ (y : ClassHead). Drawn P (head_pieces (class_tree file is y ms end))) (sym same)
        (both P (prefix_pieces 0 notes mods) _ (cd.prefix_drawn P place s given 0 notes mods i k n da dm) (
          drawn.keyword_drawn P s given n t.Interface c refl (λ e. cc),
          (
            drawn.word_drawn P s given (suc n) w,
            both P (maybe_names (codes "extends") ns) (Line 0 ∷ []) (cd.maybe_names_drawn P place s given t.Extends refl (λ e. cc) ns (suc (suc n)) q dn) tt,
          ),
        )),
    drawn.sign_drawn P s given q t.LeftBrace b refl (λ e. cc),
  )

  -- ---- members

  parameter_drawn : (a : ParameterTree) (i j : ℕ) → Parameter place s a i j → Drawn P (parameter_pieces a)
  parameter_drawn a u v (g.parameter {f = f} {ty = of} {d = d} {i = i} {k = k} {n = n} {j = j} df dt w dd is) =
      subst (λ (y : ParameterTree). Drawn P (parameter_pieces y)) (sym is) (both P (maybe_final f) _ (stmts.final_drawn P place s given f i k df) (both P (type_pieces of) _ (drawn.type_drawn P s given place of k n dt) (drawn.word_drawn P s given n w, drawn.pairs_drawn P s given d (suc n) j dd d (le_refl d))))

  parameters_drawn : (a : List ParameterTree) (i j : ℕ) → Parameters place s a i j → Rows P parameter_pieces comma a
  parameters_drawn a u v (g.first_parameter {x = x} {i = i} {j = j} d is) = rows_one P parameter_pieces comma a x is (parameter_drawn x i j d)
  parameters_drawn a u v (g.next_parameter {b = b} {x = x} {i = i} {n = n} {j = j} ds c d is) =
      rows_next P parameter_pieces comma a b x is (drawn.comma_drawn P s given n c) (parameters_drawn b i n ds) (parameter_drawn x (suc n) j d)

  formals_drawn : (a : List ParameterTree) (i j : ℕ) → Formals place s a i j → Drawn P (formals a)
  formals_drawn a u v (g.no_formals {i = i} l r is end) = subst (λ (xs : List ParameterTree). Drawn P (formals xs)) (sym is) (drawn.sign_drawn P s given i t.LeftParen l refl (λ e. cc), (drawn.sign_drawn P s given (suc i) t.RightParen r refl (λ e. cc), tt))
  formals_drawn a u v (g.formals {i = i} {n = n} l d r end) = (
    drawn.sign_drawn P s given i t.LeftParen l refl (λ e. cc),
    both P (with_commas (map parameter_pieces a)) (sign (codes ")") ∷ [])
        (rows_drawn P parameter_pieces comma a (parameters_drawn a (suc i) n d)) (drawn.sign_drawn P s given n t.RightParen r refl (λ e. cc), tt),
  )

  result_drawn : (a : Option TypeTree) (i j : ℕ) → ResultAt place s a i j → Drawn P (result_pieces a)
  result_drawn a u v (g.void {i = i} k is end) = subst (λ (x : Option TypeTree). Drawn P (result_pieces x)) (sym is) (drawn.keyword_drawn P s given i t.Void k refl (λ e. cc), tt)
  result_drawn a u v (g.gives {ty = of} {i = i} {j = j} d is) = subst (λ (x : Option TypeTree). Drawn P (result_pieces x)) (sym is) (drawn.type_drawn P s given place of i j d)

  -- ---- bodies

  lines_drawn : (xs : List StmtTree) → AllDrawn P (map stmt_pieces xs) → AllDrawn P (map statement_line xs)
  lines_drawn [] d = tt
  lines_drawn (x ∷ xs) d = (d.0, lines_drawn xs d.1)

  in_lines : (xs : List StmtTree) (x y : ℕ) → terminal (s x) ≡ t.LeftBrace → AllDrawn P (map stmt_pieces xs) → terminal (s y) ≡ t.RightBrace → Drawn P (lines_in_braces xs)
  in_lines xs x y l d r = (drawn.sign_drawn P s given x t.LeftBrace l refl (λ e. cc), both P (each_behind [] (map statement_line xs)) (Line 4 ∷ sign (codes "}") ∷ []) (all_behind P [] (map statement_line xs) tt (lines_drawn xs d)) (drawn.sign_drawn P s given y t.RightBrace r refl (λ e. cc), tt))

  block_drawn : (a : StmtTree) (i j : ℕ) → Block place s a i j → Drawn P (body_pieces a)
  block_drawn a u v (st.braces {b = b} {i = i} {m = m} l d r is end) =
      subst (Drawn P) (sym (ap body_pieces is ∙ body_of_block (place i) b (place m))) (in_lines b i m l (stmts.block_statements P place s given b (suc i) m d) r)

  constructor_drawn : (a : StmtTree) (i j : ℕ) → ConstructorBody place s a i j → Drawn P (body_pieces a)
  constructor_drawn a u v (st.plain_body {i = i} {j = j} d) = block_drawn a i j d
  constructor_drawn a u v (st.calling_body {c = c} {b = b} {i = i} {k = k} {m = m} l dc d r is end) =
      subst (Drawn P) (sym (ap body_pieces is ∙ body_of_block (place i) (c ∷ b) (place m))) (in_lines (c ∷ b) i m l (stmts.call_drawn P place s given c (suc i) k dc, stmts.block_statements P place s given b k m d) r)

  maybe_body_drawn : (a : Option StmtTree) (i j : ℕ) → MaybeBody place s a i j → Drawn P (maybe_body a)
  maybe_body_drawn a u v (g.no_body {i = i} k is end) = subst (λ (x : Option StmtTree). Drawn P (maybe_body x)) (sym is) (drawn.sign_drawn P s given i t.Semicolon k refl (λ e. cc), tt)
  maybe_body_drawn a u v (g.body {b = b} {i = i} {j = j} d is) = subst (λ (x : Option StmtTree). Drawn P (maybe_body x)) (sym is) (block_drawn b i j d)

  abbrev M : MemberTree → Type 0
  M a = Drawn P (member_pieces a)

  member_drawn : (a : MemberTree) (i j : ℕ) → Member place s a i j → M a
  member_drawn a u v (g.fields {notes = notes} {ms = mods} {ty = of} {vs = vs} {i = i} {k = k} {n = n} {o = o} {q = q} da dm dt dv e is end) =
      subst M (sym is) (both P (prefix_pieces 4 notes mods) _ (cd.prefix_drawn P place s given 4 notes mods i k n da dm) (both P (type_pieces of) _ (drawn.type_drawn P s given place of n o dt)
      (both P (with_commas (map variable_pieces vs)) (semicolon ∷ []) (rows_drawn P variable_pieces comma vs (stmts.variables_drawn P place s given vs o q dv)) (drawn.sign_drawn P s given q t.Semicolon e refl (λ e. cc), tt))))
  member_drawn a u v (g.method {notes = notes} {ms = mods} {r = r} {ps = ps} {ts = ts} {b = b} {i = i} {k = k} {n = n} {o = o} {q = q} {p = p} {j = j} da dm dr w dp dt db is) =
      subst M (sym is) (both P (prefix_pieces 4 notes mods) _ (cd.prefix_drawn P place s given 4 notes mods i k n da dm) (both P (result_pieces r) _ (result_drawn r n o dr) (
        drawn.word_drawn P s given o w,
        both P (formals ps) _ (formals_drawn ps (suc o) q dp) (both P (maybe_names (codes "throws") ts) _ (cd.maybe_names_drawn P place s given t.Throws refl (λ e. cc) ts q p dt) (maybe_body_drawn b p j db)),
      )))
  member_drawn a u v (g.constructor {notes = notes} {ms = mods} {ps = ps} {ts = ts} {b = b} {i = i} {k = k} {n = n} {q = q} {p = p} {j = j} da dm w dp dt db is) =
      subst M (sym is) (both P (prefix_pieces 4 notes mods) _ (cd.prefix_drawn P place s given 4 notes mods i k n da dm) (
        drawn.word_drawn P s given n w,
        both P (formals ps) _ (formals_drawn ps (suc n) q dp) (both P (maybe_names (codes "throws") ts) (Line 4 ∷ body_pieces b) (cd.maybe_names_drawn P place s given t.Throws refl (λ e. cc) ts q p dt) (constructor_drawn b p j db)),
      ))
  member_drawn a u v (g.initializer {f = f} {b = b} {i = i} {k = k} {j = j} ds db is) =
      subst M (sym is) (both P (c.maybe_static f) (body_pieces b) (cd.static_drawn P place s given _ f i k ds (λ x p. (p, tt))) (block_drawn b k j db))
  member_drawn a u v (g.empty {i = i} e is end) = subst M (sym is) (drawn.sign_drawn P s given i t.Semicolon e refl (λ e. cc), tt)

  members_each : (a : List MemberTree) (i j : ℕ) → Members place s a i j → AllDrawn P (map member_pieces a)
  members_each a u v (g.no_members is end) = all_none P member_pieces a is
  members_each a u v (g.next_member {b = b} {c = x} {i = i} {n = n} {j = j} ds d is) = all_next P member_pieces a b x is (members_each b i n ds) (member_drawn x n j d)

  empty_line : (f g : Bool) → Drawn P (if f then (if g then [] else Line 0 ∷ []) else Line 0 ∷ [])
  empty_line true true = tt
  empty_line true false = tt
  empty_line false g = tt

  behind_drawn : (f : Bool) (a : List MemberTree) → AllDrawn P (map member_pieces a) → Drawn P (members_behind f a)
  behind_drawn f [] d = tt
  behind_drawn f (x ∷ xs) d = both P (if f then (if is_field x then [] else Line 0 ∷ []) else Line 0 ∷ []) _ (empty_line f (is_field x)) (both P (member_pieces x) _ d.0 (behind_drawn (is_field x) xs d.1))

  members_drawn : (a : List MemberTree) → AllDrawn P (map member_pieces a) → Drawn P (members_pieces a)
  members_drawn [] d = tt
  members_drawn (x ∷ xs) d = both P (member_pieces x) _ d.0 (behind_drawn (is_field x) xs d.1)

  -- ---- files

  pub file_drawn : (file : List ℕ) (a : ClassTree) (i j : ℕ) → File file place s a i j → Drawn P (class_pieces a)
  file_drawn file a u v (g.in_file {is = is} {h = h} {ms = ms} {i = i} {k = k} {n = n} {o = o} di dh dm r same end) =
      let head = head_drawn file is ms (place o) h k n dh in
      subst (λ (y : ClassTree). Drawn P (class_pieces y)) (sym same) (both P (imports_pieces is) _ (cd.imports_drawn P place s given is (cd.imports_each P place s given is i k di))
      (both P (head_pieces (class_tree file is h ms (place o))) _ head.0 (head.1, both P (members_pieces ms) (Line 0 ∷ sign (codes "}") ∷ Line 0 ∷ []) (members_drawn ms (members_each ms n o dm)) (drawn.sign_drawn P s given o t.RightBrace r refl (λ e. cc), tt))))
