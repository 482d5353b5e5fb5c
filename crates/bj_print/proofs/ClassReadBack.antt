-- Printed files are read back.
use Rattle.std.proofs.Common.{◌≡◌, ℕ, List, length, None, sym, ap, subst}
use Rattle.bj_tree.specs.declared.class.ClassTree.{ClassTree}
use Rattle.bj_grammar.specs.Given.{text_of, place_of}
use Rattle.bj_class.specs.Grammar.{File}
use Rattle.bj_writer.specs.Pieces.{tokens_of, written}
use Rattle.bj_writer.specs.Tokens.{IsToken}
use Rattle.bj_line.specs.Line.{most_nodes}
use Rattle.bj_layout.specs.Classes.{class_pieces}
use Rattle.bj_print.specs.Printed.{IsClassText, ReadsAsClass}
use Rattle.bj_print.proofs.Drawn.{tokens_drawn}
use Rattle.bj_print.proofs.FileDrawn as drawn
use Rattle.bj_print.proofs.ExprBack.{expr_laws}
use Rattle.bj_print.proofs.StmtInduction.{stmt_laws}
use Rattle.bj_print.proofs.FileBack.{class_prints}
use Rattle.bj_print.proofs.ClassSteady.{same_fits, same_deep}
use Rattle.bj_print.proofs.Sources.{tokens_given, are_tokens}
use Rattle.bj_print.proofs.ReadBack.{printed}

pub class_reads_back : (a : ClassTree) (bytes : List ℕ) → IsClassText bytes a → ReadsAsClass (written None (class_pieces a)) a
class_reads_back a bytes l =
    let p = class_pieces a in
    let given = tokens_given bytes l.tokens l.end l.reads in
    let d = drawn.file_drawn IsToken (place_of l.tokens) (text_of l.tokens) given a.file a 0 (length l.tokens) l.is.stands in
    let w = printed p (are_tokens (tokens_of p) (tokens_drawn IsToken p d)) in
    let exprs = expr_laws (place_of l.tokens) (text_of l.tokens) (place_of w.read.lexemes) (text_of w.read.lexemes) in
    let stmts = stmt_laws (place_of l.tokens) (text_of l.tokens) (place_of w.read.lexemes) (text_of w.read.lexemes) exprs in
    let back = class_prints (place_of l.tokens) (text_of l.tokens) (place_of w.read.lexemes) (text_of w.read.lexemes) exprs stmts a.file a 0 (length l.tokens) l.is.stands 0 w.holds in
    let file : back.tree.file ≡ a.file = ap (λ (c : ClassTree). c.file) back.same in
    let stands = subst (File a.file (place_of w.read.lexemes) (text_of w.read.lexemes) back.tree 0) w.stops back.stands in (
      back.tree,
      record {
        tokens = w.read.lexemes;
        end = w.read.end;
        reads = w.read.reads;
        is = record {
          stands = subst (λ (f : List ℕ). File f (place_of w.read.lexemes) (text_of w.read.lexemes) back.tree 0 (length w.read.lexemes)) (sym file) stands;
          fits = same_fits back.tree a back.same l.is.fits;
          low = λ deep. l.is.low (same_deep most_nodes back.tree a back.same deep);
        };
      },
      back.same,
    )
