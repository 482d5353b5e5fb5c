-- What the functions that read give.
use Rattle.std.specs.Prelude.{ℕ, List, Result}
use Rattle.std.specs.declared.alloc.Global.{Global}
use denote.Bor.{Bor}
use Rattle.bj_base.specs.declared.span.Span.{Span}
use Rattle.bj_token.specs.declared.token.Token.{Token}
use Rattle.bj_expr_tree.specs.declared.expr.ExprTree.{ExprTree}
use Rattle.bj_expr.specs.declared.bounds.Bounds.{Bounds}
use Rattle.bj_expr.specs.declared.part.Part.{Part}
use Rattle.bj_grammar.specs.declared.stop.Stop.{Stop}
use Rattle.bj_grammar.specs.declared.terminal.Terminal.TheVariants as t
use Rattle.bj_grammar.specs.Terminal.{among}
use Rattle.bj_grammar.specs.Given.{text_of, place_of, Gives}
use Rattle.bj_grammar.specs.Reader.{Parser, loop}
use Rattle.bj_expr.specs.Grammar.{step_ops}
use Rattle.bj_expr.specs.Reading.{nested, is, selectors, goes_on, comma, selection, postfix_step, operation}

-- a rule over the readers of nested parts of some tokens
abbrev pub over_nested : {B : Type 0} → ((ℕ → Span) → Bounds → (Part → Parser ExprTree) → B) → List Token → Bounds → B
over_nested rule tokens bounds = rule (place_of tokens) bounds (nested (place_of tokens) bounds.most bounds.room)

-- a part that is nested
abbrev pub part_of : List Token → Bounds → Part → Parser ExprTree
part_of tokens bounds x = nested (place_of tokens) bounds.most bounds.room x

-- A function value that reads nested parts.
pub record Nests (bounds : Bounds) (pre : Global → Bor (List Token) → Bounds → ℕ → Part → Type 0)
    (post : Global → Bor (List Token) → Bounds → ℕ → Part → Result (ExprTree × ℕ) Stop → Type 0) : Type 0 where
  pub callable : (alloc : Global) (tokens : Bor (List Token)) (at : ℕ) (part : Part) → pre alloc tokens bounds at part
  pub reads : (alloc : Global) (tokens : Bor (List Token)) (at : ℕ) (part : Part) (r : Result (ExprTree × ℕ) Stop) → post alloc tokens bounds at part r
      → Gives r (part_of tokens.now bounds part (text_of tokens.now) at)

-- the expressions after a first one, each after a comma
abbrev pub commas_of : Bounds → List Token → List ExprTree → Parser (List ExprTree)
commas_of bounds tokens = loop bounds.most (is t.Comma) (over_nested comma tokens bounds)

-- all that is selected from a primary expression
abbrev pub selections_of : Bounds → List Token → ℕ → ExprTree → Parser ExprTree
selections_of bounds tokens start = loop bounds.most (among selectors) (over_nested selection tokens bounds start)

-- each `++` and `--` behind an operand
abbrev pub steps_of : Bounds → List Token → ℕ → ExprTree → Parser ExprTree
steps_of bounds tokens start = loop bounds.most (among step_ops) (over_nested postfix_step tokens bounds start)

-- the operators of a rank, after a first operand
abbrev pub operations_of : Bounds → List Token → ℕ → ℕ → ExprTree → Parser ExprTree
operations_of bounds tokens rank start = loop bounds.most (goes_on rank) (over_nested operation tokens bounds rank start)
