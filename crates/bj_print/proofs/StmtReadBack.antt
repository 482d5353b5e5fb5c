-- Printed statements are read back.
use Rattle.std.proofs.Common.{◌≡◌, ℕ, ◌≤◌, List, [], ◌∷◌, map, length, None, refl, sym, ap, ◌∙◌, subst, arith}
use Rattle.std.proofs.lemmas.List.{append-nil}
use Rattle.bj_tree.specs.declared.stmt.StmtTree.{StmtTree}
use Rattle.bj_tree.specs.declared.line.LineTree.TheVariants as lines
use Rattle.bj_grammar.specs.Given.{text_of, place_of}
use Rattle.bj_stmt.specs.Grammar.{SomeStatements}
use Rattle.bj_stmt.specs.Heights.{stmt_height}
use Rattle.bj_writer.specs.Pieces.{tokens_of, written}
use Rattle.bj_writer.specs.Tokens.{IsToken}
use Rattle.bj_line.specs.Line.{most_nodes, line_height}
use Rattle.bj_print.specs.Same.{SameStmt}
use Rattle.bj_layout.specs.Stmts.{stmt_pieces, stmt_parts, in_line}
use Rattle.bj_print.specs.Printed.{IsLineText, ReadsAsStmt}
use Rattle.bj_print.proofs.Holds.{Holds, ends}
use Rattle.bj_print.proofs.Drawn.{tokens_drawn}
use Rattle.bj_print.proofs.StmtDrawn as drawn
use Rattle.bj_print.proofs.ExprBack.{expr_laws}
use Rattle.bj_print.proofs.StmtLaws.{SameStmts}
use Rattle.bj_print.proofs.StmtInduction.{stmt_laws}
use Rattle.bj_print.proofs.HeightsSteady.{same_height}
use Rattle.bj_print.proofs.Sources.{tokens_given, are_tokens}
use Rattle.bj_print.proofs.ReadBack.{printed}
use Rattle.bj_print.proofs.Apart.{statements_are_no_expression}

-- the tokens of one statement in a line are its own
one_in_line : (a : StmtTree) → tokens_of (in_line (map stmt_parts (a ∷ []))) ≡ tokens_of (stmt_pieces a)
one_in_line a = ap tokens_of (append-nil (stmt_pieces a))

-- statements that are the same as one are one
pub record One (bs : List StmtTree) (a : StmtTree) : Type 0 where
  pub tree : StmtTree
  pub is : bs ≡ tree ∷ []
  pub same : SameStmt tree a

only_one : (bs : List StmtTree) (a : StmtTree) → SameStmts bs (a ∷ []) → One bs a
only_one [] a e = cc
only_one (b ∷ []) a e = record { tree = b; is = refl; same = cc }
only_one (b ∷ c ∷ rest) a e = cc

height_of_one : (b : StmtTree) → line_height (b ∷ []) ≡ stmt_height b
height_of_one b = omega arith

pub stmt_reads_back : (a : StmtTree) (bytes : List ℕ) → IsLineText bytes (lines.Stmts (a ∷ [])) → ReadsAsStmt (written None (stmt_pieces a)) a
stmt_reads_back a bytes l =
    let p = stmt_pieces a in
    let given = tokens_given bytes l.tokens l.end l.reads in
    let d = drawn.some_statements IsToken (place_of l.tokens) (text_of l.tokens) given (a ∷ []) 0 (length l.tokens) l.is.0 in
    let w = printed p (are_tokens (tokens_of p) (tokens_drawn IsToken p d.0)) in
    let laws = stmt_laws (place_of l.tokens) (text_of l.tokens) (place_of w.read.lexemes) (text_of w.read.lexemes) (expr_laws (place_of l.tokens) (text_of l.tokens) (place_of w.read.lexemes) (text_of w.read.lexemes)) in
    let same_tokens = one_in_line a in
    let back = laws.some_statements (a ∷ []) 0 (length l.tokens) l.is.0 0 (subst (Holds (text_of w.read.lexemes) 0) (sym same_tokens) w.holds) in
    let one = only_one back.tree a back.same in
    let stands = subst (λ (bs : List StmtTree). SomeStatements (place_of w.read.lexemes) (text_of w.read.lexemes) bs 0 (length w.read.lexemes)) one.is
    (subst (SomeStatements (place_of w.read.lexemes) (text_of w.read.lexemes) back.tree 0) (ap (ends 0) same_tokens ∙ w.stops) back.stands) in
    let height : stmt_height one.tree ≡ stmt_height a = same_height one.tree a one.same in (
      one.tree,
      record {
        tokens = w.read.lexemes;
        end = w.read.end;
        reads = w.read.reads;
        is = (stands, low one.tree a height l.is.1, λ x shallow. statements_are_no_expression (place_of w.read.lexemes) (place_of w.read.lexemes) (text_of w.read.lexemes) (length w.read.lexemes) (one.tree ∷ []) x stands shallow.0);
      },
      one.same,
    )
  where
    low : (b a : StmtTree) → stmt_height b ≡ stmt_height a → line_height (a ∷ []) ≤ most_nodes → line_height (b ∷ []) ≤ most_nodes
    low b a e h = let x = height_of_one a in let y = height_of_one b in omega arith
