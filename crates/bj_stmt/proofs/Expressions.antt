-- What the laws of statements ask of the readers of types and expressions.
use Rattle.std.proofs.Common.{◌≡◌, ℕ, suc, ◌<◌, ◌≤◌, true, false, List, [], ◌∷◌}
use Rattle.bj_base.specs.declared.span.Span.{Span}
use Rattle.bj_expr_tree.specs.declared.types.TypeTree.{TypeTree}
use Rattle.bj_expr_tree.specs.declared.expr.ExprTree.{ExprTree}
use Rattle.bj_grammar.specs.declared.terminal.Terminal.{Terminal}
use Rattle.bj_grammar.specs.declared.terminal.Terminal.TheVariants as t
use Rattle.bj_grammar.specs.Terminal.{terminal, same_terminal, among}
use Rattle.bj_grammar.specs.Reader.{Text}
use Rattle.bj_grammar.proofs.Laws.{Laws}
use Rattle.bj_expr.specs.declared.part.Part.{Part}
use Rattle.bj_expr.specs.declared.part.Part.TheVariants as part
use Rattle.bj_expr.specs.Grammar.{assigns, TypeAt, Dims}
use Rattle.bj_expr.specs.Reading.{type_at, dims}
use Rattle.bj_expr.specs.Reading as expressions
use Rattle.bj_expr.specs.Nodes.{HasNode}
use Rattle.bj_expr.specs.Within.{Stands}

-- the tokens that end an expression in a statement
abbrev pub enders : List Terminal
enders = t.Semicolon ∷ t.RightParen ∷ t.RightBracket ∷ t.RightBrace ∷ t.Comma ∷ t.Colon ∷ t.Other ∷ []

-- the tokens that an expression begins with
abbrev pub expression_words : List Terminal
expression_words = t.Number ∷ t.LongNumber ∷ t.CharText ∷ t.StringText ∷ t.True ∷ t.False ∷ t.Null ∷ t.This ∷ t.LeftParen ∷ t.Word ∷ t.Super ∷ t.New ∷ t.Complement ∷ t.Not ∷ t.Minus ∷ t.Plus ∷ t.Increment ∷ t.Decrement ∷ []

abbrev pub beginners : Part → List Terminal
beginners part.Initializer = t.LeftBrace ∷ expression_words
beginners x = expression_words

-- a type is not followed by another bracket
abbrev pub AfterType : {A : Type 0} → A → Terminal → Type 0
AfterType a x = same_terminal x t.LeftBracket ≡ false

abbrev pub Never : {A : Type 0} → Span → A → Type 0
Never at a = ⊥

pub record Given (place : ℕ → Span) (most : ℕ) : Type 1 where
  pub part_forward : (x : Part) (s : Text) (a : ExprTree) (i j : ℕ) → Stands x place s a i j → i < j
  pub part_frame : (x : Part) (s u : Text) (a : ExprTree) (i j : ℕ) → ((z : ℕ) → z < j → u z ≡ s z) → Stands x place s a i j → Stands x place u a i j
  pub type_forward : (s : Text) (a : TypeTree) (i j : ℕ) → TypeAt place s a i j → i < j
  pub type_frame : (s u : Text) (a : TypeTree) (i j : ℕ) → ((z : ℕ) → z < j → u z ≡ s z) → TypeAt place s a i j → TypeAt place u a i j
  pub dims_forward : (s : Text) (a i j : ℕ) → Dims s a i j → i ≤ j
  pub dims_frame : (s u : Text) (a i j : ℕ) → ((z : ℕ) → z < j → u z ≡ s z) → Dims s a i j → Dims u a i j
  -- what may follow a part
  pub After : Part → ExprTree → Terminal → Type 0
  pub part_laws : (room : ℕ) (x : Part) → Laws most (expressions.nested place most room x) (λ s a i j. Stands x place s a i j) (After x) (HasNode (suc room))
  pub ends : (x : Part) (a : ExprTree) (k : Terminal) → among enders k ≡ true → After x a k
  pub before_assign : (a : ExprTree) (k : Terminal) → among assigns k ≡ true → After part.Unary a k
  pub begins : (x : Part) (s : Text) (a : ExprTree) (i j : ℕ) → Stands x place s a i j → among (beginners x) (terminal (s i)) ≡ true
  pub type_laws : Laws most (type_at place most) (λ s a i j. TypeAt place s a i j) AfterType Never
  pub dims_laws : Laws most (dims place most) (λ s a i j. Dims s a i j) AfterType Never
