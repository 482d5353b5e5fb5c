-- Printed bodies are read again: a line a statement makes no other tokens.
use Rattle.std.proofs.Common.{◌≡◌, ℕ, List, [], ◌∷◌, ◌++◌, map, Option, Some, None, refl, sym, ap, ◌∙◌, subst}
use Rattle.std.specs.Prelude.{codes, option_map}
use Rattle.bj_base.specs.declared.span.Span.{Span}
use Rattle.bj_lex.specs.Grammar.{Spelled}
use Rattle.bj_tree.specs.declared.stmt.StmtTree.{StmtTree, StmtTree-F, out-StmtTree, out-roll-StmtTree}
use Rattle.bj_tree.specs.declared.stmt.StmtTree.TheVariants as stmt
use Rattle.bj_grammar.specs.Reader.{Text}
use Rattle.bj_stmt.specs.Grammar as stmts
use Rattle.bj_stmt.specs.Grammar.{Block, ConstructorBody}
use Rattle.bj_class.specs.Grammar as g
use Rattle.bj_class.specs.Grammar.{MaybeBody}
use Rattle.bj_writer.specs.Pieces.{Space, Line, tokens_of}
use Rattle.bj_layout.specs.Exprs.{sign}
use Rattle.bj_layout.specs.Stmts.{stmt_pieces}
use Rattle.bj_layout.specs.Classes.{each, statement_line, lines_in_braces, body_pieces, body_form, maybe_body}
use Rattle.bj_print.specs.Same.{unplaced_stmt, SameStmt}
use Rattle.bj_print.proofs.Holds.{Back, tokens_append}
use Rattle.bj_print.proofs.ExprTokens.{signed}
use Rattle.bj_print.proofs.StmtPieces.{line_pieces, block_pieces}
use Rattle.bj_print.proofs.StmtLaws.{StmtLaws}
use Rattle.bj_print.proofs.Again.{Reads, reads_last, reads_as, respelled}

-- ---- a block is printed with a statement a line, and its tokens are the same on one line

block_form : (at : Span) (body : List StmtTree) (end : Span) → out-StmtTree (stmt.Block at body end) ≡ StmtTree-F.Block at body end
block_form at body end = ap out-StmtTree (sym (stmt.rolls-Block at body end)) ∙ out-roll-StmtTree (StmtTree-F.Block at body end)

pub body_of_block : (at : Span) (body : List StmtTree) (end : Span) → body_pieces (stmt.Block at body end) ≡ lines_in_braces body
body_of_block at body end = ap (body_form (stmt.Block at body end)) (block_form at body end)

lines_tokens : (xs : List StmtTree) → tokens_of (each (map statement_line xs)) ≡ tokens_of (line_pieces xs)
lines_tokens [] = refl
lines_tokens (x ∷ xs) = tokens_append (stmt_pieces x) (each (map statement_line xs))
    ∙ (ap (λ (w : List Spelled). tokens_of (stmt_pieces x) ++ w) (lines_tokens xs) ∙ sym (tokens_append (stmt_pieces x) (line_pieces xs)))

braces_tokens : (xs : List StmtTree) → tokens_of (lines_in_braces xs) ≡ tokens_of (sign (codes "{") ∷ (line_pieces xs ++ (Space ∷ sign (codes "}") ∷ [])))
braces_tokens xs = ap (λ (w : List Spelled). signed (codes "{") ∷ w)
    (tokens_append (each (map statement_line xs)) (Line 4 ∷ sign (codes "}") ∷ [])
    ∙ (ap (λ (w : List Spelled). w ++ signed (codes "}") ∷ []) (lines_tokens xs) ∙ sym (tokens_append (line_pieces xs) (Space ∷ sign (codes "}") ∷ []))))

body_tokens : (at : Span) (xs : List StmtTree) (end : Span) → tokens_of (body_pieces (stmt.Block at xs end)) ≡ tokens_of (stmt_pieces (stmt.Block at xs end))
body_tokens at xs end = ap tokens_of (body_of_block at xs end) ∙ (braces_tokens xs ∙ ap tokens_of (sym (block_pieces at xs end)))

block_tokens : {place : ℕ → Span} {s : Text} {a : StmtTree} {i j : ℕ} → Block place s a i j → tokens_of (body_pieces a) ≡ tokens_of (stmt_pieces a)
block_tokens {place} {i = i} (stmts.braces {b = b} {m = m} o d o2 is at) =
    subst (λ (a : StmtTree). tokens_of (body_pieces a) ≡ tokens_of (stmt_pieces a)) (sym is) (body_tokens (place i) b (place m))

constructor_tokens : {place : ℕ → Span} {s : Text} {a : StmtTree} {i j : ℕ} → ConstructorBody place s a i j → tokens_of (body_pieces a) ≡ tokens_of (stmt_pieces a)
constructor_tokens (stmts.plain_body d) = block_tokens d
constructor_tokens {place} {i = i} (stmts.calling_body {c = c} {b = b} {m = m} o d e o2 is at) =
    subst (λ (a : StmtTree). tokens_of (body_pieces a) ≡ tokens_of (stmt_pieces a)) (sym is) (body_tokens (place i) (c ∷ b) (place m))

-- ---- bodies

abbrev pub FoundBody : Text → (StmtTree → ℕ → ℕ → Type 0) → StmtTree → Type 0
FoundBody t D a = Reads t (tokens_of (body_pieces a)) (Back D SameStmt a)

abbrev pub SameBody : Option StmtTree → Option StmtTree → Type 0
SameBody a b = option_map unplaced_stmt a ≡ option_map unplaced_stmt b

abbrev pub FoundMaybe : (ℕ → Span) → Text → Option StmtTree → Type 0
FoundMaybe other t a = Reads t (tokens_of (maybe_body a)) (Back (MaybeBody other t) SameBody a)

module _ (place : ℕ → Span) (s : Text) (other : ℕ → Span) (t : Text) (laws : StmtLaws place s other t) where
  pub block_again : {a : StmtTree} {i j : ℕ} → Block place s a i j → FoundBody t (Block other t) a
  block_again {a} {i} {j} d = respelled (block_tokens d) (record { read = laws.block a i j d })

  pub constructor_again : {a : StmtTree} {i j : ℕ} → ConstructorBody place s a i j → FoundBody t (ConstructorBody other t) a
  constructor_again {a} {i} {j} d = respelled (constructor_tokens d) (record { read = laws.constructor_body a i j d })

  pub maybe_body_again : {a : Option StmtTree} {i j : ℕ} → MaybeBody place s a i j → FoundMaybe other t a
  maybe_body_again (g.no_body o is at) = subst (FoundMaybe other t) (sym is) (reads_as (reads_last (signed (codes ";"))) (λ k j f. record {
    tree = None;
    stands = g.no_body f.is refl f.rest;
    same = refl;
  }))
  maybe_body_again (g.body d is) = subst (FoundMaybe other t) (sym is) (reads_as (block_again d) (λ k j f. record {
    tree = Some f.tree;
    stands = g.body f.stands refl;
    same = ap (λ (z : StmtTree). Some z) f.same;
  }))
