-- Statements with no other statements in them, blocks and lists of statements are found again where their parts are.
use Rattle.std.proofs.Common.{◌≡◌, ◌≢◌, ℕ, suc, inl, inr, true, false, List, [], ◌∷◌, ◌++◌, map, Option, refl, sym, ap, ◌∙◌, subst, append_assoc}
use Rattle.std.specs.Prelude.{codes}
use Rattle.bj_base.specs.declared.span.Span.{Span}
use Rattle.bj_lex.specs.Grammar.{Spelled}
use Rattle.bj_expr_tree.specs.declared.types.NamedPlace.{NamedPlace}
use Rattle.bj_expr_tree.specs.declared.expr.ExprTree.{ExprTree}
use Rattle.bj_tree.specs.declared.stmt.StmtTree.{StmtTree}
use Rattle.bj_tree.specs.declared.stmt.StmtTree.TheVariants as stmt
use Rattle.bj_grammar.specs.declared.terminal.Terminal.{Terminal}
use Rattle.bj_grammar.specs.declared.terminal.Terminal.TheVariants as terms
use Rattle.bj_grammar.specs.Terminal.{terminal, same_terminal, among}
use Rattle.bj_grammar.specs.Reader.{Text}
use Rattle.bj_expr.specs.Grammar.{Expression}
use Rattle.bj_stmt.specs.Grammar as g
use Rattle.bj_stmt.specs.Grammar.{jump, jumps, MaybeExpressions, Statement, Block, BlockStatements, Label, ConstructorCall, ConstructorBody}
use Rattle.bj_writer.specs.Pieces.{Piece, Space, tokens_of}
use Rattle.bj_print.specs.Same.{unplaced_stmt}
use Rattle.bj_layout.specs.Exprs.{sign, expr_pieces}
use Rattle.bj_layout.specs.Stmts.{maybe_expr, maybe_label, semicolon, stmt_parts, stmt_pieces}
use Rattle.bj_print.proofs.Holds.{tokens_append}
use Rattle.bj_print.proofs.ExprLaws.{list_pieces}
use Rattle.bj_print.proofs.StmtLaws.{SameStmts}
use Rattle.bj_print.proofs.StmtPieces as pieces
use Rattle.bj_print.proofs.StmtPieces.{line_pieces, bare_pieces}
use Rattle.bj_print.proofs.StmtSame as same
use Rattle.bj_print.proofs.StmtFacts.{is_jump}
use Rattle.bj_print.proofs.Again.{Reads, reads_mark, reads_last, reads_parts, reads_as, respelled, reprinted}
use Rattle.bj_print.proofs.Found.{Found, FoundAll}
use Rattle.bj_print.proofs.RowBack.{row_tokens, FoundOne, FoundRow}
use Rattle.bj_print.proofs.SmallBack.{FoundExpression, FoundName, FoundBare}

-- a list that is the same as one with members has members
pub not_empty : (c b : List StmtTree) → SameStmts c b → b ≢ [] → c ≢ []
not_empty c [] h some = absurd (some refl)
not_empty [] (x ∷ b) h some = absurd (cc)
not_empty (y ∷ c) (x ∷ b) h some = λ e. absurd (cc)

break_jumps : among jumps terms.Break ≡ true
unfolding same_terminal
break_jumps = refl

continue_jumps : among jumps terms.Continue ≡ true
unfolding same_terminal
continue_jumps = refl

abbrev pub FoundStmt : Text → (StmtTree → ℕ → ℕ → Type 0) → StmtTree → Type 0
FoundStmt t D a = FoundOne t unplaced_stmt stmt_pieces D a

abbrev pub FoundStmts : Text → (List StmtTree → ℕ → ℕ → Type 0) → List StmtTree → Type 0
FoundStmts t L a = FoundRow t unplaced_stmt stmt_pieces L a

-- spaces between statements make no other tokens
pub in_a_line : {t : Text} {F : ℕ → ℕ → Type 0} (a : List StmtTree) → Reads t (row_tokens stmt_pieces a) F → Reads t (tokens_of (line_pieces a)) F
in_a_line a f = respelled (line_tokens a) f
  where
    line_tokens : (xs : List StmtTree) → tokens_of (line_pieces xs) ≡ row_tokens stmt_pieces xs
    line_tokens [] = refl
    line_tokens (x ∷ xs) = tokens_append (stmt_pieces x) (line_pieces xs)
        ∙ (ap (λ (w : List Spelled). tokens_of (stmt_pieces x) ++ w) (line_tokens xs) ∙ sym (tokens_append (stmt_pieces x) _))

-- a statement that ends with a semicolon of its own
pub with_semicolon : {t : Text} {D E : StmtTree → ℕ → ℕ → Type 0} {a : StmtTree} → ((x : StmtTree) (k m j : ℕ) → D x k m → terminal (t m) ≡ terms.Semicolon → j ≡ suc m → E x k j)
    → (stmt_parts a).end ≡ semicolon ∷ [] → FoundBare t D a → FoundStmt t E a
with_semicolon {a = a} grow own r = reprinted (ap (λ (w : List Piece). bare_pieces a ++ w) own) (reads_as (reads_parts (bare_pieces a) _ r (reads_last _)) (λ k j f. record {
  tree = f.first.tree;
  stands = grow f.first.tree k f.middle j f.first.stands f.second.is f.second.rest;
  same = f.first.same;
}))

module _ (other : ℕ → Span) (t : Text) where
  pub empty_case : (at : Span) → FoundStmt t (Statement other t) (stmt.Empty at)
  empty_case at = reprinted (pieces.empty_pieces at) (reads_as (reads_last _) (λ k j f. record {
    tree = stmt.Empty (other k);
    stands = g.empty f.is refl f.rest;
    same = same.same_empty (other k) at;
  }))

  break_case : (at : Span) (l : Option NamedPlace) → FoundName other t l → FoundStmt t (Statement other t) (stmt.Break at l)
  break_case at l r = reprinted (pieces.break_pieces at l) (reads_as (reads_mark _ (reads_parts (maybe_label l) _ r (reads_last _))) (λ k j f. let p = f.rest.first in let end = f.rest.second in record {
    tree = stmt.Break (other k) p.tree;
    stands = g.jump_to (ap (among jumps) f.is ∙ break_jumps) p.stands end.is (ap (λ (z : Terminal). jump z (other k) p.tree) (sym f.is)) end.rest;
    same = same.same_break (other k) at p.tree l p.same;
  }))

  continue_case : (at : Span) (l : Option NamedPlace) → FoundName other t l → FoundStmt t (Statement other t) (stmt.Continue at l)
  continue_case at l r = reprinted (pieces.continue_pieces at l) (reads_as (reads_mark _ (reads_parts (maybe_label l) _ r (reads_last _))) (λ k j f. let p = f.rest.first in let end = f.rest.second in record {
    tree = stmt.Continue (other k) p.tree;
    stands = g.jump_to (ap (among jumps) f.is ∙ continue_jumps) p.stands end.is (ap (λ (z : Terminal). jump z (other k) p.tree) (sym f.is)) end.rest;
    same = same.same_continue (other k) at p.tree l p.same;
  }))

  pub jump_case : (x : Terminal) → among jumps x ≡ true → (at : Span) (l : Option NamedPlace) → FoundName other t l → FoundStmt t (Statement other t) (jump x at l)
  jump_case x o at l r = elim (is_jump x o) [
    | inl y ↦ subst (λ (z : Terminal). FoundStmt t (Statement other t) (jump z at l)) (sym y) (break_case at l r)
    | inr y ↦ subst (λ (z : Terminal). FoundStmt t (Statement other t) (jump z at l)) (sym y) (continue_case at l r)
  ]

  pub return_case : (at : Span) (x : Option ExprTree) → FoundExpression other t x → FoundStmt t (Statement other t) (stmt.Return at x)
  return_case at x r = reprinted (pieces.return_pieces at x) (reads_as (reads_mark _ (reads_parts (maybe_expr x) _ r (reads_last _))) (λ k j f. let p = f.rest.first in let end = f.rest.second in record {
    tree = stmt.Return (other k) p.tree;
    stands = g.return f.is p.stands end.is refl end.rest;
    same = same.same_return (other k) at p.tree x p.same;
  }))

  pub throw_case : (at : Span) (x : ExprTree) → Found t (Expression other t) x → FoundStmt t (Statement other t) (stmt.Throw at x)
  throw_case at x r = reprinted (pieces.throw_pieces at x) (reads_as (reads_mark _ (reads_parts (expr_pieces x) _ r (reads_last _))) (λ k j f. let p = f.rest.first in let end = f.rest.second in record {
    tree = stmt.Throw (other k) p.tree;
    stands = g.throw f.is p.stands end.is refl end.rest;
    same = same.same_throw (other k) at p.tree x p.same;
  }))

  -- ---- the labels of a switch

  pub case_case : (at : Span) (x : ExprTree) → Found t (Expression other t) x → FoundStmt t (Label other t) (stmt.Case at x)
  case_case at x r = reprinted (pieces.case_pieces at x) (reads_as (reads_mark _ (reads_parts (expr_pieces x) _ r (reads_last _))) (λ k j f. let p = f.rest.first in let end = f.rest.second in record {
    tree = stmt.Case (other k) p.tree;
    stands = g.case f.is p.stands end.is refl end.rest;
    same = same.same_case (other k) at p.tree x p.same;
  }))

  pub default_case : (at : Span) → FoundStmt t (Label other t) (stmt.Default at)
  default_case at = reprinted (pieces.default_pieces at) (reads_as (reads_mark _ (reads_last _)) (λ k j f. record {
    tree = stmt.Default (other k);
    stands = g.default f.is f.rest.is refl f.rest.rest;
    same = same.same_default (other k) at;
  }))

  -- ---- blocks, and the bodies of constructors

  pub block_case : (at end : Span) (b : List StmtTree) → FoundStmts t (BlockStatements other t) b → FoundStmt t (Block other t) (stmt.Block at b end)
  block_case at end b r = reprinted (pieces.block_pieces at b end) (reads_as (reads_mark _ (reads_parts (line_pieces b) _ (in_a_line b r) (reads_last _))) (λ k j f. let p = f.rest in record {
    tree = stmt.Block (other k) p.first.tree (other p.middle);
    stands = g.braces f.is p.first.stands p.second.is refl p.second.rest;
    same = same.same_block (other k) at (other p.middle) end p.first.tree b p.first.same;
  }))

  pub this_call_case : (at : Span) (xs : List ExprTree) → FoundAll t (MaybeExpressions other t) xs → FoundStmt t (ConstructorCall other t) (stmt.ConstructorCall at false xs)
  this_call_case at xs r = reprinted (pieces.constructor_call_pieces at false xs) (reads_as (reads_mark _ (reads_mark _ (reads_parts (list_pieces xs) _ r (reads_mark _ (reads_last _))))) (λ k j f. let p = f.rest.rest in record {
    tree = stmt.ConstructorCall (other k) false p.first.tree;
    stands = g.of_this f.is f.rest.is p.first.stands p.second.is p.second.rest.is refl p.second.rest.rest;
    same = same.same_constructor_call (other k) at false false p.first.tree xs refl p.first.same;
  }))

  pub super_call_case : (at : Span) (xs : List ExprTree) → FoundAll t (MaybeExpressions other t) xs → FoundStmt t (ConstructorCall other t) (stmt.ConstructorCall at true xs)
  super_call_case at xs r = reprinted (pieces.constructor_call_pieces at true xs) (reads_as (reads_mark _ (reads_mark _ (reads_parts (list_pieces xs) _ r (reads_mark _ (reads_last _))))) (λ k j f. let p = f.rest.rest in record {
    tree = stmt.ConstructorCall (other k) true p.first.tree;
    stands = g.of_super f.is f.rest.is p.first.stands p.second.is p.second.rest.is refl p.second.rest.rest;
    same = same.same_constructor_call (other k) at true true p.first.tree xs refl p.first.same;
  }))

  calling_pieces : (at : Span) (c : StmtTree) (b : List StmtTree) (end : Span)
      → stmt_pieces (stmt.Block at (c ∷ b) end) ≡ sign (codes "{") ∷ Space ∷ (stmt_pieces c ++ (line_pieces b ++ (Space ∷ sign (codes "}") ∷ [])))
  calling_pieces at c b end = pieces.block_pieces at (c ∷ b) end ∙ ap (λ (w : List Piece). sign (codes "{") ∷ Space ∷ w) (append_assoc (stmt_pieces c) (line_pieces b) (Space ∷ sign (codes "}") ∷ []))

  pub calling_case : (at end : Span) (c : StmtTree) (b : List StmtTree) → FoundStmt t (ConstructorCall other t) c → FoundStmts t (BlockStatements other t) b → FoundStmt t (ConstructorBody other t) (stmt.Block at (c ∷ b) end)
  calling_case at end c b rc rb = reprinted (calling_pieces at c b end) (reads_as (reads_mark _ (reads_parts (stmt_pieces c) _ rc (reads_parts (line_pieces b) _ (in_a_line b rb) (reads_last _)))) (λ k j f.
      let p = f.rest.first in
      let q = f.rest.second in record {
        tree = stmt.Block (other k) (p.tree ∷ q.first.tree) (other q.middle);
        stands = g.calling_body f.is p.stands q.first.stands q.second.is refl q.second.rest;
        same = same.same_block (other k) at (other q.middle) end (p.tree ∷ q.first.tree) (c ∷ b)
            (ap (λ (z : StmtTree). z ∷ map unplaced_stmt q.first.tree) p.same ∙ ap (λ (w : List StmtTree). unplaced_stmt c ∷ w) q.first.same);
      }))
