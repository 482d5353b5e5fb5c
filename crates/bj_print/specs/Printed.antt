-- What a printed text reads as.
use Rattle.std.specs.Prelude.{ℕ, List, [], ◌∷◌}
use Rattle.bj_base.specs.declared.span.Span.{Span}
use Rattle.bj_text.specs.Utf16.{bytes_of}
use Rattle.bj_token.specs.declared.token.Token.{Token}
use Rattle.bj_lex.specs.Texts.{ReadsAs}
use Rattle.bj_expr_tree.specs.declared.expr.ExprTree.{ExprTree}
use Rattle.bj_tree.specs.declared.stmt.StmtTree.{StmtTree}
use Rattle.bj_tree.specs.declared.line.LineTree.{LineTree}
use Rattle.bj_tree.specs.declared.line.LineTree.TheVariants as lines
use Rattle.bj_tree.specs.declared.class.ClassTree.{ClassTree}
use Rattle.bj_line.specs.Line.{IsLine}
use Rattle.bj_parse.specs.Class.{IsClass}
use Rattle.bj_print.specs.Same.{SameExpr, SameStmt, SameClass}

-- The bytes are read as tokens, and these are the line: `tokens` and `line_of` give that tree.
pub record IsLineText (bytes : List ℕ) (line : LineTree) : Type 0 where
  pub tokens : List Token
  pub end : Span
  pub reads : ReadsAs bytes tokens end
  pub is : IsLine tokens line

-- The bytes are read as tokens, and these are the file with its class: `tokens` and `class_of` give that tree.
pub record IsClassText (bytes : List ℕ) (tree : ClassTree) : Type 0 where
  pub tokens : List Token
  pub end : Span
  pub reads : ReadsAs bytes tokens end
  pub is : IsClass tree.file tokens tree

-- ---- the same but for places

-- the units, in UTF-8, are a line of the same expression
abbrev pub ReadsAsExpr : List ℕ → ExprTree → Type 0
ReadsAsExpr units a = (b : ExprTree) × IsLineText (bytes_of units) (lines.Expr b) × SameExpr b a

-- the units, in UTF-8, are a line of the same statement
abbrev pub ReadsAsStmt : List ℕ → StmtTree → Type 0
ReadsAsStmt units a = (b : StmtTree) × IsLineText (bytes_of units) (lines.Stmts (b ∷ [])) × SameStmt b a

-- the units, in UTF-8, are the same file with its class
abbrev pub ReadsAsClass : List ℕ → ClassTree → Type 0
ReadsAsClass units a = (b : ClassTree) × IsClassText (bytes_of units) b × SameClass b a
