-- What the laws of members ask of the readers of blocks, and of what stands before a member.
use Rattle.std.proofs.Common.{◌≡◌, ℕ, suc, ◌<◌, true, false, List, [], ◌∷◌}
use Rattle.bj_base.specs.declared.span.Span.{Span}
use Rattle.bj_tree.specs.declared.stmt.StmtTree.{StmtTree}
use Rattle.bj_grammar.specs.declared.terminal.Terminal.{Terminal}
use Rattle.bj_grammar.specs.declared.terminal.Terminal.TheVariants as t
use Rattle.bj_grammar.specs.Terminal.{terminal, same_terminal, among}
use Rattle.bj_grammar.specs.Reader.{Text}
use Rattle.bj_grammar.proofs.Terminals.{is_token}
use Rattle.bj_grammar.proofs.Laws.{Laws}
use Rattle.bj_stmt.specs.declared.part.StmtPart.TheVariants as p
use Rattle.bj_stmt.specs.Grammar.{Block, ConstructorBody}
use Rattle.bj_stmt.specs.Nodes.{StmtHasNode}
use Rattle.bj_stmt.specs.Reading.{nested}
use Rattle.bj_stmt.proofs.Expressions.{Never}
use Rattle.bj_stmt.proofs.Small.{Any}
use Rattle.bj_class.specs.Grammar.{Annotations, ModifierList, MaybeNames, modifier_words}
use Rattle.bj_class.specs.Reading.{annotations, modifiers, maybe_names}

pub record Blocks (place : ℕ → Span) (most room : ℕ) : Type 1 where
  pub block_laws : Laws most (nested place most room p.Block) (λ s a i j. Block place s a i j) Any (StmtHasNode (suc room))
  pub body_laws : Laws most (nested place most room p.ConstructorBody) (λ s a i j. ConstructorBody place s a i j) Any (StmtHasNode (suc room))
  pub block_begins : (s : Text) (a : StmtTree) (i j : ℕ) → Block place s a i j → (terminal (s i) ≡ t.LeftBrace) × (i < j)
  pub body_begins : (s : Text) (a : StmtTree) (i j : ℕ) → ConstructorBody place s a i j → (terminal (s i) ≡ t.LeftBrace) × (i < j)

-- what may follow names behind a keyword, or nothing in their place
abbrev pub AfterNames : {A : Type 0} → Terminal → A → Terminal → Type 0
AfterNames keyword a x = (same_terminal x t.Comma ≡ false) × (same_terminal x keyword ≡ false)

-- what may not follow annotations
abbrev pub annotation_words : List Terminal
annotation_words = t.At ∷ t.LeftParen ∷ []

abbrev pub AfterAnnotations : {A : Type 0} → A → Terminal → Type 0
AfterAnnotations a x = among annotation_words x ≡ false

abbrev pub AfterModifiers : {A : Type 0} → A → Terminal → Type 0
AfterModifiers a x = among modifier_words x ≡ false

pub record Heads (place : ℕ → Span) (most : ℕ) : Type 1 where
  pub names_laws : (keyword : Terminal) → is_token keyword ≡ true → Laws most (maybe_names place most keyword) (λ s a i j. MaybeNames keyword place s a i j) (AfterNames keyword) Never
  pub annotations_laws : Laws most (annotations place most) (λ s a i j. Annotations place s a i j) AfterAnnotations Never
  pub modifiers_laws : Laws most (modifiers place most) (λ s a i j. ModifierList place s a i j) AfterModifiers Never
