-- What the grammar of statements promises for printed ones: each is found again.
use Rattle.std.proofs.Common.{◌≡◌, ℕ, List, map}
use Rattle.bj_base.specs.declared.span.Span.{Span}
use Rattle.bj_tree.specs.declared.stmt.VariableTree.{VariableTree}
use Rattle.bj_tree.specs.declared.stmt.StmtTree.{StmtTree}
use Rattle.bj_grammar.specs.Reader.{Text}
use Rattle.bj_stmt.specs.Grammar.{Statement, Block, BlockStatement, ConstructorBody, Variables, SomeStatements}
use Rattle.bj_print.specs.Same.{unplaced_stmt, unplaced_variable, SameStmt}
use Rattle.bj_layout.specs.Exprs.{with_commas}
use Rattle.bj_layout.specs.Stmts.{in_line, stmt_parts, stmt_pieces, variable_pieces}
use Rattle.bj_print.proofs.Holds.{Prints}

abbrev pub SameStmts : List StmtTree → List StmtTree → Type 0
SameStmts a b = map unplaced_stmt a ≡ map unplaced_stmt b

abbrev pub SameVariables : List VariableTree → List VariableTree → Type 0
SameVariables a b = map unplaced_variable a ≡ map unplaced_variable b

-- the trees of the text s have their places by `place`, and those of the text t that holds the printed tokens have them by `other`
pub record StmtLaws (place : ℕ → Span) (s : Text) (other : ℕ → Span) (t : Text) : Type 0 where
  pub statement : Prints t (Statement place s) (Statement other t) SameStmt stmt_pieces
  pub block : Prints t (Block place s) (Block other t) SameStmt stmt_pieces
  pub block_statement : Prints t (BlockStatement place s) (BlockStatement other t) SameStmt stmt_pieces
  pub constructor_body : Prints t (ConstructorBody place s) (ConstructorBody other t) SameStmt stmt_pieces
  pub variables : Prints t (Variables place s) (Variables other t) SameVariables (λ (xs : List VariableTree). with_commas (map variable_pieces xs))
  pub some_statements : Prints t (SomeStatements place s) (SomeStatements other t) SameStmts (λ (xs : List StmtTree). in_line (map stmt_parts xs))
