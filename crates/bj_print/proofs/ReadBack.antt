-- Printed lines are read back.
use Rattle.std.proofs.Common.{◌≡◌, ℕ, ◌≤◌, List, length, None, sym, subst}
use Rattle.bj_expr_tree.specs.declared.expr.ExprTree.{ExprTree}
use Rattle.bj_tree.specs.declared.line.LineTree.TheVariants as lines
use Rattle.bj_grammar.specs.Given.{text_of, place_of}
use Rattle.bj_expr.specs.Grammar.{Expression}
use Rattle.bj_writer.specs.Pieces.{Piece, tokens_of, written}
use Rattle.bj_writer.specs.Tokens.{IsToken, AreTokens, ReadAs}
use Rattle.bj_writer.proofs.ReadBack.{written_reads}
use Rattle.bj_line.specs.Line.{most_nodes}
use Rattle.bj_layout.specs.Exprs.{expr_pieces}
use Rattle.bj_print.specs.Printed.{IsLineText, ReadsAsExpr}
use Rattle.bj_print.proofs.Holds.{Holds, ends}
use Rattle.bj_print.proofs.Drawn.{tokens_drawn}
use Rattle.bj_print.proofs.ExprDrawn as drawn
use Rattle.bj_print.proofs.ExprBack.{expr_laws}
use Rattle.bj_print.proofs.Invariants.{same_height}
use Rattle.bj_print.proofs.Sources.{tokens_given, are_tokens, holds_itself, ends_at}

-- a printed text is read as the printed tokens
pub record Printed (p : List Piece) : Type 0 where
  pub read : ReadAs (written None p) (tokens_of p)
  pub holds : Holds (text_of read.lexemes) 0 (tokens_of p)
  pub stops : ends 0 (tokens_of p) ≡ length read.lexemes

pub printed : (p : List Piece) → AreTokens (tokens_of p) → Printed p
printed p are =
    let r = written_reads p are in
    record { read = r; holds = subst (Holds (text_of r.lexemes) 0) r.spelling (holds_itself r.lexemes); stops = ends_at r.lexemes (tokens_of p) r.spelling }

-- ---- expressions

pub expr_reads_back : (a : ExprTree) (bytes : List ℕ) → IsLineText bytes (lines.Expr a) → ReadsAsExpr (written None (expr_pieces a)) a
expr_reads_back a bytes l =
    let p = expr_pieces a in
    let given = tokens_given bytes l.tokens l.end l.reads in
    let d = drawn.expression IsToken (place_of l.tokens) (text_of l.tokens) given a 0 (length l.tokens) l.is.0 in
    let w = printed p (are_tokens (tokens_of p) (tokens_drawn IsToken p d)) in
    let back = (expr_laws (place_of l.tokens) (text_of l.tokens) (place_of w.read.lexemes) (text_of w.read.lexemes)).expression a 0 (length l.tokens) l.is.0 0 w.holds in (
      back.tree,
      record {
        tokens = w.read.lexemes;
        end = w.read.end;
        reads = w.read.reads;
        is = (subst (Expression (place_of w.read.lexemes) (text_of w.read.lexemes) back.tree 0) w.stops back.stands, subst (λ (h : ℕ). h ≤ most_nodes) (sym (same_height back.tree a back.same)) l.is.1);
      },
      back.same,
    )
