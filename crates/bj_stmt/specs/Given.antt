-- What the functions that read give: the rules over the readers of nested parts of some tokens, and the parts of rules that are functions of their own.
use Rattle.std.specs.Prelude.{ℕ, Bool, List, [], ◌∷◌, ◌++◌, Option, Result}
use Rattle.std.specs.declared.alloc.Global.{Global}
use denote.Bor.{Bor}
use Rattle.bj_base.specs.declared.span.Span.{Span}
use Rattle.bj_token.specs.declared.token.Token.{Token}
use Rattle.bj_expr_tree.specs.declared.types.TypeTree.{TypeTree}
use Rattle.bj_expr_tree.specs.declared.expr.ExprTree.{ExprTree}
use Rattle.bj_tree.specs.declared.stmt.VariableTree.{VariableTree}
use Rattle.bj_tree.specs.declared.stmt.StmtTree.{StmtTree}
use Rattle.bj_tree.specs.declared.stmt.StmtTree.TheVariants as stmt
use Rattle.bj_grammar.specs.declared.stop.Stop.{Stop}
use Rattle.bj_grammar.specs.declared.terminal.Terminal.TheVariants as t
use Rattle.bj_grammar.specs.Terminal.{among}
use Rattle.bj_grammar.specs.Given.{text_of, place_of, Gives}
use Rattle.bj_grammar.specs.Reader.{Parser, ◌>>=◌, pure, here, sign, ahead, choose, loop}
use Rattle.bj_expr.specs.declared.bounds.Bounds.{Bounds}
use Rattle.bj_expr.specs.Reading.{is}
use Rattle.bj_stmt.specs.declared.part.StmtPart.{StmtPart}
use Rattle.bj_stmt.specs.declared.part.StmtPart.TheVariants as p
use Rattle.bj_stmt.specs.Reading.{nested, name_at, next_value, next_variable, next_member, next_evaluation, next_catch, next_statement, in_parens, inside, on_line, branch_words, loop_words, leave_words, guard_words, is_labelled, branching, looping, leaving, guarding, labelled, evaluate}

-- a rule over the readers of nested parts of some tokens
abbrev pub over_nested : {B : Type 0} → ((ℕ → Span) → ℕ → ℕ → (StmtPart → Parser StmtTree) → B) → List Token → Bounds → B
over_nested rule tokens bounds = rule (place_of tokens) bounds.most bounds.room (nested (place_of tokens) bounds.most bounds.room)

-- a rule in which no part is nested
abbrev pub over_bounds : {B : Type 0} → ((ℕ → Span) → ℕ → ℕ → B) → List Token → Bounds → B
over_bounds rule tokens bounds = rule (place_of tokens) bounds.most bounds.room

-- a part that is nested
abbrev pub part_of : List Token → Bounds → StmtPart → Parser StmtTree
part_of tokens bounds x = nested (place_of tokens) bounds.most bounds.room x

-- A function value that reads nested parts.
pub record Nests (bounds : Bounds) (pre : Global → Bor (List Token) → Bounds → ℕ → StmtPart → Type 0)
    (post : Global → Bor (List Token) → Bounds → ℕ → StmtPart → Result (StmtTree × ℕ) Stop → Type 0) : Type 0 where
  pub callable : (alloc : Global) (tokens : Bor (List Token)) (at : ℕ) (part : StmtPart) → pre alloc tokens bounds at part
  pub reads : (alloc : Global) (tokens : Bor (List Token)) (at : ℕ) (part : StmtPart) (r : Result (StmtTree × ℕ) Stop) → post alloc tokens bounds at part r
      → Gives r (part_of tokens.now bounds part (text_of tokens.now) at)

-- ---- the loops

-- the expressions after a first one, each after a comma
abbrev pub values_of : List Token → Bounds → List ExprTree → Parser (List ExprTree)
values_of tokens bounds = loop bounds.most (is t.Comma) (over_bounds next_value tokens bounds)

-- the variables after a first one, each after a comma
abbrev pub variables_of : List Token → Bounds → List VariableTree → Parser (List VariableTree)
variables_of tokens bounds = loop bounds.most (is t.Comma) (over_bounds next_variable tokens bounds)

-- the members of a switch after a first label
abbrev pub members_of : List Token → Bounds → List StmtTree → Parser (List StmtTree)
members_of tokens bounds = loop bounds.most inside (over_nested next_member tokens bounds)

-- the expressions as statements after a first one, each after a comma
abbrev pub evaluations_of : List Token → Bounds → List StmtTree → Parser (List StmtTree)
evaluations_of tokens bounds = loop bounds.most (is t.Comma) (over_nested next_evaluation tokens bounds)

-- the catches after some
abbrev pub catches_of : List Token → Bounds → List StmtTree → Parser (List StmtTree)
catches_of tokens bounds = loop bounds.most (is t.Catch) (over_nested next_catch tokens bounds)

-- the statements of a block after some
abbrev pub block_of : List Token → Bounds → List StmtTree → Parser (List StmtTree)
block_of tokens bounds = loop bounds.most inside (over_nested next_statement tokens bounds)

-- a statement of a line after others
abbrev pub line_step : List Token → Bounds → List StmtTree → Parser (List StmtTree)
line_step tokens bounds b = part_of tokens bounds p.BlockStatement >>= λ c. pure (b ++ c ∷ [])

-- the statements of a line after some
abbrev pub line_of : List Token → Bounds → List StmtTree → Parser (List StmtTree)
line_of tokens bounds = loop bounds.most on_line (line_step tokens bounds)

-- ---- the ends of some rules

-- `else` and its statement
abbrev pub otherwise : List Token → Bounds → ℕ → ExprTree → StmtTree → Parser StmtTree
otherwise tokens bounds i x b = sign t.Else (part_of tokens bounds p.Statement >>= λ c. pure (stmt.IfElse (place_of tokens i) x b c))

-- the condition of a `do`, behind its statement
abbrev pub do_rest : List Token → Bounds → ℕ → StmtTree → Parser StmtTree
do_rest tokens bounds i b = sign t.While (over_nested in_parens tokens bounds (λ x. sign t.Semicolon (pure (stmt.Do (place_of tokens i) b x))))

-- the statement of a `for`, behind its head
abbrev pub for_rest : List Token → Bounds → ℕ → List StmtTree → Option ExprTree → List ExprTree → Parser StmtTree
for_rest tokens bounds i inits x us = sign t.RightParen (part_of tokens bounds p.Statement >>= λ b. pure (stmt.For (place_of tokens i) inits x us b))

-- the name of a catch and its block
abbrev pub catch_rest : List Token → Bounds → ℕ → Bool → TypeTree → Parser StmtTree
catch_rest tokens bounds i f ty = name_at (place_of tokens) bounds.most >>= λ x. sign t.RightParen (part_of tokens bounds p.Block >>= λ b. pure (stmt.Catch (place_of tokens i) f (ty ∷ []) x b))

-- a statement that is no block and no semicolon
abbrev pub worded_of : List Token → Bounds → Parser StmtTree
worded_of tokens bounds = here (λ i. choose (among branch_words) (over_nested branching tokens bounds i) (choose (among loop_words) (over_nested looping tokens bounds i)
    (choose (among leave_words) (over_nested leaving tokens bounds i) (choose (among guard_words) (over_nested guarding tokens bounds i) (ahead is_labelled (over_nested labelled tokens bounds i) (over_nested evaluate tokens bounds))))))
