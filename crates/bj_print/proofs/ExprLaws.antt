-- What the grammar of expressions promises for printed ones: each is found again.
use Rattle.std.proofs.Common.{◌≡◌, ℕ, List, map}
use Rattle.bj_base.specs.declared.span.Span.{Span}
use Rattle.bj_expr_tree.specs.declared.types.TypeTree.{TypeTree}
use Rattle.bj_expr_tree.specs.declared.expr.ExprTree.{ExprTree}
use Rattle.bj_grammar.specs.Reader.{Text}
use Rattle.bj_expr.specs.Grammar.{Dims, TypeAt, Expression, Unary, Initializer, Args}
use Rattle.bj_writer.specs.Pieces.{Piece, tokens_of}
use Rattle.bj_print.specs.Same.{unplaced_expr, unplaced_type, SameExpr}
use Rattle.bj_layout.specs.Exprs.{expr_pieces, type_pieces, pairs, with_commas}
use Rattle.bj_print.proofs.Holds.{Holds, ends, Prints}

abbrev pub SameExprs : List ExprTree → List ExprTree → Type 0
SameExprs a b = map unplaced_expr a ≡ map unplaced_expr b

abbrev pub SameType : TypeTree → TypeTree → Type 0
SameType a b = unplaced_type a ≡ unplaced_type b

-- with commas between them
abbrev pub list_pieces : List ExprTree → List Piece
list_pieces xs = with_commas (map expr_pieces xs)

-- the trees of the text s have their places by `place`, and those of the text t that holds the printed tokens have them by `other`
pub record ExprLaws (place : ℕ → Span) (s : Text) (other : ℕ → Span) (t : Text) : Type 0 where
  pub expression : Prints t (Expression place s) (Expression other t) SameExpr expr_pieces
  pub unary : Prints t (Unary place s) (Unary other t) SameExpr expr_pieces
  pub initializer : Prints t (Initializer place s) (Initializer other t) SameExpr expr_pieces
  pub args : Prints t (Args place s) (Args other t) SameExprs list_pieces
  pub type_at : Prints t (TypeAt place s) (TypeAt other t) SameType type_pieces
  pub dims : (n i j : ℕ) → Dims s n i j → (k : ℕ) → Holds t k (tokens_of (pairs n)) → Dims t n k (ends k (tokens_of (pairs n)))
