-- The readers of blocks keep what the laws of members ask of them.
use Rattle.std.proofs.Common.{◌≡◌, ℕ}
use Rattle.bj_base.specs.declared.span.Span.{Span}
use Rattle.bj_tree.specs.declared.stmt.StmtTree.{StmtTree}
use Rattle.bj_grammar.specs.declared.terminal.Terminal.TheVariants as t
use Rattle.bj_grammar.specs.Terminal.{terminal}
use Rattle.bj_grammar.specs.Reader.{Text}
use Rattle.bj_stmt.specs.declared.part.StmtPart.TheVariants as p
use Rattle.bj_stmt.specs.Grammar as g
use Rattle.bj_stmt.specs.Grammar.{Block, ConstructorBody}
use Rattle.bj_stmt.proofs.GivenExpressions.{given}
use Rattle.bj_stmt.proofs.NestedStmts.{depth}
use Rattle.bj_stmt.proofs.StmtShape.{block_forward, constructor_body_forward}
use Rattle.bj_class.proofs.Needed.{Blocks}

block_brace : (place : ℕ → Span) (s : Text) {a : StmtTree} {i j : ℕ} → Block place s a i j → terminal (s i) ≡ t.LeftBrace
block_brace place s (g.braces o d q e at) = o

body_brace : (place : ℕ → Span) (s : Text) {a : StmtTree} {i j : ℕ} → ConstructorBody place s a i j → terminal (s i) ≡ t.LeftBrace
body_brace place s (g.plain_body d) = block_brace place s d
body_brace place s (g.calling_body o d b q e at) = o

pub blocks : (place : ℕ → Span) (most room : ℕ) → Blocks place most room
blocks place most room = record {
  block_laws = (depth place most (given place most) room).parts p.Block;
  body_laws = (depth place most (given place most) room).parts p.ConstructorBody;
  block_begins = λ s a i j d. (block_brace place s d, block_forward place most (given place most) s d);
  body_begins = λ s a i j d. (body_brace place s d, constructor_body_forward place most (given place most) s d);
}
