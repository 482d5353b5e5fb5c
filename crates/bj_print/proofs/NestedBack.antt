-- Statements that hold other statements are found again where their parts are.
use Rattle.std.proofs.Common.{◌≡◌, ◌≢◌, ℕ, suc, Bool, false, List, [], ◌∷◌, map, Option, refl, ap, ◌∙◌}
use Rattle.std.proofs.lemmas.List.{append-nil}
use Rattle.std.specs.Prelude.{codes}
use Rattle.bj_base.specs.declared.span.Span.{Span}
use Rattle.bj_token.specs.declared.token.Token.{Token}
use Rattle.bj_token.specs.declared.token.TokenKind.TheVariants as kinds
use Rattle.bj_expr_tree.specs.declared.types.TypeTree.{TypeTree}
use Rattle.bj_expr_tree.specs.declared.expr.ExprTree.{ExprTree}
use Rattle.bj_tree.specs.declared.stmt.StmtTree.{StmtTree}
use Rattle.bj_tree.specs.declared.stmt.StmtTree.TheVariants as stmt
use Rattle.bj_grammar.specs.Reader.{Text}
use Rattle.bj_expr.specs.Grammar.{Expression}
use Rattle.bj_stmt.specs.Grammar as g
use Rattle.bj_stmt.specs.Grammar.{named, dangles, ForInit, MaybeExpressions, Statement, Block, Members, Catches, Catch}
use Rattle.bj_writer.specs.Pieces.{Piece, tokens_of}
use Rattle.bj_layout.specs.Exprs.{sign, with_commas, separated, spaced, type_pieces, expr_pieces}
use Rattle.bj_layout.specs.Stmts.{maybe_final, maybe_expr, for_update, stmt_pieces}
use Rattle.bj_print.proofs.Holds.{text_is}
use Rattle.bj_print.proofs.StmtPieces as pieces
use Rattle.bj_print.proofs.StmtPieces.{line_pieces, bare_list}
use Rattle.bj_print.proofs.StmtSame as same
use Rattle.bj_print.proofs.StmtDangles.{same_dangles}
use Rattle.bj_print.proofs.Again.{reads_mark, reads_last, reads_parts, reads_as, respelled, reprinted}
use Rattle.bj_print.proofs.Found.{Found, FoundAll, FoundType}
use Rattle.bj_print.proofs.NamesBack.{same_name_text}
use Rattle.bj_print.proofs.SmallBack.{final_found, FoundExpression, FoundBares}
use Rattle.bj_print.proofs.StmtBack.{FoundStmt, FoundStmts, in_a_line, not_empty}

-- the updates of a `for` have a space before them
update_tokens : (ps : List (List Piece)) → tokens_of (for_update ps) ≡ tokens_of (with_commas ps)
update_tokens [] = refl
update_tokens (p ∷ ps) = refl

-- the grammar has one type in a catch
abbrev caught : TypeTree → List Piece
caught ty = separated (spaced (sign (codes "|"))) (map type_pieces (ty ∷ []))

module _ (other : ℕ → Span) (t : Text) where
  -- ---- `if`, `while` and `do`

  pub if_case : (at : Span) (x : ExprTree) (b : StmtTree) → Found t (Expression other t) x → FoundStmt t (Statement other t) b → FoundStmt t (Statement other t) (stmt.If at x b)
  if_case at x b rx rb = reprinted (pieces.if_pieces at x b) (reads_as (reads_mark _ (reads_mark _ (reads_parts (expr_pieces x) _ rx (reads_mark _ rb)))) (λ k j f.
      let p = f.rest.rest in
      let q = p.second.rest in record {
        tree = stmt.If (other k) p.first.tree q.tree;
        stands = g.choice f.is f.rest.is p.first.stands p.second.is q.stands refl;
        same = same.same_if (other k) at p.first.tree x q.tree b p.first.same q.same;
      }))

  pub if_else_case : (at : Span) (x : ExprTree) (b c : StmtTree) → dangles b ≡ false → Found t (Expression other t) x → FoundStmt t (Statement other t) b → FoundStmt t (Statement other t) c
      → FoundStmt t (Statement other t) (stmt.IfElse at x b c)
  if_else_case at x b c near rx rb rc = reprinted (pieces.if_else_pieces at x b c)
      (reads_as (reads_mark _ (reads_mark _ (reads_parts (expr_pieces x) _ rx (reads_mark _ (reads_parts (stmt_pieces b) _ rb (reads_mark _ rc)))))) (λ k j f.
      let p = f.rest.rest in
      let q = p.second.rest in
      let r = q.second.rest in record {
        tree = stmt.IfElse (other k) p.first.tree q.first.tree r.tree;
        stands = g.choice_else f.is f.rest.is p.first.stands p.second.is q.first.stands (same_dangles q.first.tree b q.first.same ∙ near) q.second.is r.stands refl;
        same = same.same_if_else (other k) at p.first.tree x q.first.tree b r.tree c p.first.same q.first.same r.same;
      }))

  pub while_case : (at : Span) (x : ExprTree) (b : StmtTree) → Found t (Expression other t) x → FoundStmt t (Statement other t) b → FoundStmt t (Statement other t) (stmt.While at x b)
  while_case at x b rx rb = reprinted (pieces.while_pieces at x b) (reads_as (reads_mark _ (reads_mark _ (reads_parts (expr_pieces x) _ rx (reads_mark _ rb)))) (λ k j f.
      let p = f.rest.rest in
      let q = p.second.rest in record {
        tree = stmt.While (other k) p.first.tree q.tree;
        stands = g.while f.is f.rest.is p.first.stands p.second.is q.stands refl;
        same = same.same_while (other k) at p.first.tree x q.tree b p.first.same q.same;
      }))

  pub do_case : (at : Span) (b : StmtTree) (x : ExprTree) → FoundStmt t (Statement other t) b → Found t (Expression other t) x → FoundStmt t (Statement other t) (stmt.Do at b x)
  do_case at b x rb rx = reprinted (pieces.do_pieces at b x)
      (reads_as (reads_mark _ (reads_parts (stmt_pieces b) _ rb (reads_mark _ (reads_mark _ (reads_parts (expr_pieces x) _ rx (reads_mark _ (reads_last _))))))) (λ k j f.
      let p = f.rest in
      let q = p.second.rest.rest in record {
        tree = stmt.Do (other k) p.first.tree q.first.tree;
        stands = g.do_while f.is p.first.stands p.second.is p.second.rest.is q.first.stands q.second.is q.second.rest.is refl q.second.rest.rest;
        same = same.same_do (other k) at p.first.tree b q.first.tree x p.first.same q.first.same;
      }))

  -- ---- `for`

  pub for_case : (at : Span) (inits : List StmtTree) (x : Option ExprTree) (us : List ExprTree) (b : StmtTree) → FoundBares t (ForInit other t) inits → FoundExpression other t x
      → FoundAll t (MaybeExpressions other t) us → FoundStmt t (Statement other t) b → FoundStmt t (Statement other t) (stmt.For at inits x us b)
  for_case at inits x us b ri rx ru rb = reprinted (pieces.for_pieces at inits x us b)
      (reads_as (reads_mark _ (reads_mark _ (reads_parts (bare_list inits) _ ri (reads_mark _ (reads_parts (maybe_expr x) _ rx (reads_mark _
      (reads_parts (for_update (map expr_pieces us)) _ (respelled (update_tokens (map expr_pieces us)) ru) (reads_mark _ rb)))))))) (λ k j f.
      let o = f.rest.rest in
      let p = o.second.rest in
      let q = p.second.rest in
      let r = q.second.rest in record {
        tree = stmt.For (other k) o.first.tree p.first.tree q.first.tree r.tree;
        stands = g.for f.is f.rest.is o.first.stands o.second.is p.first.stands p.second.is q.first.stands q.second.is r.stands refl;
        same = same.same_for (other k) at o.first.tree inits p.first.tree x q.first.tree us r.tree b o.first.same p.first.same q.first.same r.same;
      }))

  pub for_each_case : (at at_name : Span) (f : Bool) (ty : TypeTree) (name : Token) (x : ExprTree) (b : StmtTree) → FoundType other t ty
      → Found t (Expression other t) x → FoundStmt t (Statement other t) b → FoundStmt t (Statement other t) (stmt.ForEach at f ty (named at_name name) x b)
  for_each_case at at_name f ty name x b rt rx rb = reprinted (pieces.for_each_pieces at f ty (named at_name name) x b)
      (reads_as (reads_mark _ (reads_mark _ (reads_parts (maybe_final f) _ (final_found t f) (reads_parts (type_pieces ty) _ rt (reads_mark _ (reads_mark _ (reads_parts (expr_pieces x) _ rx (reads_mark _ rb)))))))) (λ k j h.
      let o = h.rest.rest in
      let p = o.second in
      let q = p.second.rest.rest in
      let r = q.second.rest in
      let new_name = named (other p.middle) (t p.middle) in record {
        tree = stmt.ForEach (other k) f p.first.tree new_name q.first.tree r.tree;
        stands = g.for_each h.is h.rest.is o.first p.first.stands p.second.is p.second.rest.is q.first.stands q.second.is r.stands refl;
        same = same.same_for_each (other k) at f f p.first.tree ty new_name (named at_name name) q.first.tree x r.tree b refl p.first.same
            (same_name_text at_name (other p.middle) name (t p.middle) p.second.token) q.first.same r.same;
      }))

  -- ---- `switch`, labels and locks

  pub switch_case : (at : Span) (x : ExprTree) (ms : List StmtTree) → Found t (Expression other t) x → FoundStmts t (Members other t) ms → FoundStmt t (Statement other t) (stmt.Switch at x ms)
  switch_case at x ms rx rm = reprinted (pieces.switch_pieces at x ms)
      (reads_as (reads_mark _ (reads_mark _ (reads_parts (expr_pieces x) _ rx (reads_mark _ (reads_mark _ (reads_parts (line_pieces ms) _ (in_a_line ms rm) (reads_last _))))))) (λ k j f.
      let p = f.rest.rest in
      let q = p.second.rest.rest in record {
        tree = stmt.Switch (other k) p.first.tree q.first.tree;
        stands = g.switch f.is f.rest.is p.first.stands p.second.is p.second.rest.is q.first.stands q.second.is refl q.second.rest;
        same = same.same_switch (other k) at p.first.tree x q.first.tree ms p.first.same q.first.same;
      }))

  pub labelled_case : (at : Span) (label : List ℕ) (b : StmtTree) → FoundStmt t (Statement other t) b → FoundStmt t (Statement other t) (stmt.Labelled at label b)
  labelled_case at label b rb = reprinted (pieces.labelled_pieces at label b) (reads_as (reads_mark _ (reads_mark _ rb)) (λ k j f. let q = f.rest.rest in record {
    tree = stmt.Labelled (other k) (t k).text q.tree;
    stands = g.labelled f.is f.rest.is q.stands refl;
    same = same.same_labelled (other k) at (t k).text label q.tree b (text_is (t k) kinds.Word label f.token) q.same;
  }))

  pub synchronized_case : (at : Span) (x : ExprTree) (b : StmtTree) → Found t (Expression other t) x → FoundStmt t (Block other t) b → FoundStmt t (Statement other t) (stmt.Synchronized at x b)
  synchronized_case at x b rx rb = reprinted (pieces.synchronized_pieces at x b) (reads_as (reads_mark _ (reads_mark _ (reads_parts (expr_pieces x) _ rx (reads_mark _ rb)))) (λ k j f.
      let p = f.rest.rest in
      let q = p.second.rest in record {
        tree = stmt.Synchronized (other k) p.first.tree q.tree;
        stands = g.synchronized f.is f.rest.is p.first.stands p.second.is q.stands refl;
        same = same.same_synchronized (other k) at p.first.tree x q.tree b p.first.same q.same;
      }))

  pub synchronized_class_case : (at at_name : Span) (name : Token) (b : StmtTree) → FoundStmt t (Block other t) b → FoundStmt t (Statement other t) (stmt.SynchronizedClass at (named at_name name) b)
  synchronized_class_case at at_name name b rb = reprinted (pieces.synchronized_class_pieces at (named at_name name) b)
      (reads_as (reads_mark _ (reads_mark _ (reads_mark _ (reads_mark _ (reads_mark _ (reads_mark _ rb)))))) (λ k j f.
      let word_at = suc (suc k) in
      let p = f.rest.rest in
      let q = p.rest.rest.rest.rest in
      let new_name = named (other word_at) (t word_at) in record {
        tree = stmt.SynchronizedClass (other k) new_name q.tree;
        stands = g.synchronized_class f.is f.rest.is p.is p.rest.is p.rest.rest.is p.rest.rest.rest.is q.stands refl;
        same = same.same_synchronized_class (other k) at new_name (named at_name name) q.tree b (same_name_text at_name (other word_at) name (t word_at) p.token) q.same;
      }))

  -- ---- `try`

  pub try_case : (at : Span) (b : StmtTree) (cs : List StmtTree) → cs ≢ [] → FoundStmt t (Block other t) b → FoundStmts t (Catches other t) cs → FoundStmt t (Statement other t) (stmt.Try at b cs)
  try_case at b cs some rb rc = reprinted (pieces.try_pieces at b cs) (reads_as (reads_mark _ (reads_parts (stmt_pieces b) _ rb (in_a_line cs rc))) (λ k j f.
      let p = f.rest.first in
      let q = f.rest.second in record {
        tree = stmt.Try (other k) p.tree q.tree;
        stands = g.try f.is p.stands q.stands (not_empty q.tree cs q.same some) refl;
        same = same.same_try (other k) at p.tree b q.tree cs p.same q.same;
      }))

  pub try_finally_case : (at : Span) (b : StmtTree) (cs : List StmtTree) (f : StmtTree) → FoundStmt t (Block other t) b → FoundStmts t (Catches other t) cs → FoundStmt t (Block other t) f
      → FoundStmt t (Statement other t) (stmt.TryFinally at b cs f)
  try_finally_case at b cs f rb rc rf = reprinted (pieces.try_finally_pieces at b cs f)
      (reads_as (reads_mark _ (reads_parts (stmt_pieces b) _ rb (reads_parts (line_pieces cs) _ (in_a_line cs rc) (reads_mark _ rf)))) (λ k j h.
      let p = h.rest.first in
      let q = h.rest.second in
      let r = q.second.rest in record {
        tree = stmt.TryFinally (other k) p.tree q.first.tree r.tree;
        stands = g.try_finally h.is p.stands q.first.stands q.second.is r.stands refl;
        same = same.same_try_finally (other k) at p.tree b q.first.tree cs r.tree f p.same q.first.same r.same;
      }))

  pub catch_case : (at at_name : Span) (f : Bool) (ty : TypeTree) (name : Token) (b : StmtTree) → FoundType other t ty → FoundStmt t (Block other t) b
      → FoundStmt t (Catch other t) (stmt.Catch at f (ty ∷ []) (named at_name name) b)
  catch_case at at_name f ty name b rt rb = reprinted (pieces.catch_pieces at f (ty ∷ []) (named at_name name) b)
      (reads_as (reads_mark _ (reads_mark _ (reads_parts (maybe_final f) _ (final_found t f) (reads_parts (caught ty) _ (reprinted (append-nil (type_pieces ty)) rt) (reads_mark _ (reads_mark _ rb)))))) (λ k j h.
      let o = h.rest.rest in
      let p = o.second in
      let r = p.second.rest.rest in
      let new_name = named (other p.middle) (t p.middle) in record {
        tree = stmt.Catch (other k) f (p.first.tree ∷ []) new_name r.tree;
        stands = g.catch h.is h.rest.is o.first p.first.stands p.second.is p.second.rest.is r.stands refl;
        same = same.same_catch (other k) at f f (p.first.tree ∷ []) (ty ∷ []) new_name (named at_name name) r.tree b refl (ap (λ (z : TypeTree). z ∷ []) p.first.same)
            (same_name_text at_name (other p.middle) name (t p.middle) p.second.token) r.same;
      }))
