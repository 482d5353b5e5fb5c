-- What the tokens of a console line are, and what reading one promises.
use Rattle.std.specs.Prelude.{◌≡◌, ℕ, suc, ◌<◌, ◌≤◌, ◌+◌, ◌-◌, Bool, ◌&&◌, ◌||◌, if◌then◌else◌, nat_lt, ◌⊎◌, List, [], ◌∷◌, length, map, Result, Ok, Err}
use Rattle.bj_base.specs.declared.span.Span.{Span}
use Rattle.bj_base.specs.declared.fault.FaultCode.{FaultCode}
use Rattle.bj_base.specs.declared.fault.FaultCode.TheVariants as codes
use Rattle.bj_base.specs.declared.fault.Refusal.{Refusal}
use Rattle.bj_base.specs.declared.fault.Refusal.TheVariants as refusals
use Rattle.bj_token.specs.declared.token.Token.{Token}
use Rattle.bj_token.specs.declared.token.Tokens.{Tokens}
use Rattle.bj_expr_tree.specs.declared.expr.ExprTree.{ExprTree}
use Rattle.bj_tree.specs.declared.stmt.StmtTree.{StmtTree}
use Rattle.bj_tree.specs.declared.line.LineTree.{LineTree}
use Rattle.bj_tree.specs.declared.line.LineTree.TheVariants as lines
use Rattle.bj_expr_tree.specs.Size.{most, height_of}
use Rattle.bj_grammar.specs.declared.stop.Stop.{Stop}
use Rattle.bj_grammar.specs.declared.stop.Stop.TheVariants as stops
use Rattle.bj_grammar.specs.declared.terminal.Terminal.{Terminal}
use Rattle.bj_grammar.specs.declared.terminal.Terminal.TheVariants as t
use Rattle.bj_grammar.specs.Terminal.{terminal, same_terminal, among}
use Rattle.bj_grammar.specs.Reader.{Text, Answer, Found, Wrong}
use Rattle.bj_grammar.specs.Given.{text_of, place_of, IsDeepAt}
use Rattle.bj_expr.specs.declared.bounds.Bounds.{Bounds}
use Rattle.bj_expr.specs.declared.part.Part.TheVariants as part
use Rattle.bj_expr.specs.Grammar.{Expression, leasts}
use Rattle.bj_expr.specs.Nodes.{HasNode}
use Rattle.bj_expr.specs.Reading as expressions
use Rattle.bj_stmt.specs.Grammar.{SomeStatements}
use Rattle.bj_stmt.specs.Heights.{stmt_height}
use Rattle.bj_stmt.specs.Nodes.{SomeStmtHasNode}
use Rattle.bj_stmt.specs.Reading.{statements_within}
use Rattle.bj_line.specs.declared.outcome.Outcome.{Outcome}
use Rattle.bj_line.specs.declared.outcome.Outcome.TheVariants as o

-- how many nodes may stand on the way from the root of a tree to a node of it, both included
abbrev pub most_nodes : ℕ
most_nodes = 201

abbrev pub line_height : List StmtTree → ℕ
line_height b = most (map stmt_height b)

-- The tokens, all of them, are the expression, or the statements [JLS 14, 15]. Trees have the places of the first list.
abbrev pub IsExpression : List Token → List Token → ExprTree → Type 0
IsExpression places tokens a = Expression (place_of places) (text_of tokens) a 0 (length tokens)

abbrev pub AreStatements : List Token → List Token → List StmtTree → Type 0
AreStatements places tokens b = SomeStatements (place_of places) (text_of tokens) b 0 (length tokens)

-- the tokens are an expression that is not too deep
abbrev pub IsShallow : List Token → ExprTree → Type 0
IsShallow tokens a = IsExpression tokens tokens a × (height_of a ≤ most_nodes)

-- A line is an expression if it can be read as one, and else one statement or more.
abbrev pub IsLine : List Token → LineTree → Type 0
IsLine tokens (lines.Expr a) = IsShallow tokens a
IsLine tokens (lines.Stmts b) = AreStatements tokens tokens b × (line_height b ≤ most_nodes) × ((a : ExprTree) → IsShallow tokens a → ⊥)

-- the tokens are a line of the grammar, however deep
abbrev pub InGrammar : List Token → List Token → Type 0
InGrammar places tokens = ((a : ExprTree) × IsExpression places tokens a) ⊎ ((b : List StmtTree) × AreStatements places tokens b)

-- the first tokens are the same, so many of them; the end counts as a token
abbrev pub SameBefore : List Token → List Token → ℕ → Type 0
SameBefore tokens others n = (x : ℕ) → x < n → (x < length tokens → x < length others) × (text_of others x ≡ text_of tokens x)

-- The first token with which the tokens so far begin no line of the grammar; the end counts as a token. Some tokens that begin with
-- those before the place are a line; none that begin with those and the one at the place are one.
pub record FirstFault (tokens : List Token) (at : ℕ) : Type 0 where
  pub begins : (others : List Token) × (at ≤ length others) × SameBefore tokens others at × InGrammar tokens others
  pub no_more : (others : List Token) → SameBefore tokens others (suc at) → InGrammar tokens others → ⊥

-- ---- what the two readers give

abbrev pub line_bounds : List Token → Bounds
line_bounds tokens = record { most = suc (length tokens); room = most_nodes }

abbrev pub as_expression : List Token → Answer ExprTree
as_expression tokens = expressions.nested (place_of tokens) (suc (length tokens)) most_nodes part.Expression (text_of tokens) 0

abbrev pub as_statements : List Token → Answer (List StmtTree)
as_statements tokens = statements_within (place_of tokens) (suc (length tokens)) most_nodes (text_of tokens) 0

-- a reader stops at a token before the end, or at the end
abbrev pub IsStuck : {A : Type 0} → List Token → Answer A → ℕ → Type 0
IsStuck tokens answer k = (answer ≡ Wrong k) ⊎ ((a : _) × (answer ≡ Found a k) × (k < length tokens))

-- what a reader comes to on all tokens
abbrev pub ComesTo : {A : Type 0} → List Token → Answer A → Outcome A → Type 0
ComesTo tokens answer (o.Whole a) = answer ≡ Found a (length tokens)
ComesTo tokens answer (o.Stuck k) = IsStuck tokens answer k
ComesTo tokens answer (o.Deep at) = IsDeepAt at answer

-- what the tokens come to as an expression, and as statements
abbrev pub IsExpressionOutcome : List Token → Outcome ExprTree → Type 0
IsExpressionOutcome tokens x = ComesTo tokens (as_expression tokens) x

abbrev pub IsStatementsOutcome : List Token → Outcome (List StmtTree) → Type 0
IsStatementsOutcome tokens x = ComesTo tokens (as_statements tokens) x

-- ---- nodes that are too deep

-- a node at the place has more than 200 nodes above it
abbrev pub IsDeepIn : Span → ExprTree → Type 0
IsDeepIn at a = HasNode (suc most_nodes) at a

abbrev pub IsDeepAmong : Span → List StmtTree → Type 0
IsDeepAmong at b = SomeStmtHasNode (suc most_nodes) at b

-- The tokens before some place begin a tree of the kind, and in each tree of the tokens that go on from these, and from the five behind them, a
-- node at the span is too deep.
pub record DeepAt {A : Type 0} (Stands : List Token → A → Type 0) (IsDeep : Span → A → Type 0) (tokens : List Token) (at : Span) : Type 0 where
  pub place : ℕ
  pub begins : (others : List Token) × (place ≤ length others) × SameBefore tokens others place × ((a : A) × Stands others a)
  pub deep : (others : List Token) (a : A) → SameBefore tokens others (5 + place) → Stands others a → IsDeep at a

-- Reading the tokens as an expression, or as statements, passes the limit of depth at a node there, which is too deep in all that goes on from the
-- tokens so far. A node of each line that all the tokens are has more than 200 nodes above it.
pub record TooDeep (tokens : List Token) (at : Span) : Type 0 where
  pub passes : IsDeepAt at (as_expression tokens) ⊎ IsDeepAt at (as_statements tokens)
  pub node : DeepAt (IsExpression tokens) IsDeepIn tokens at ⊎ DeepAt (AreStatements tokens) IsDeepAmong tokens at
  pub expression : (a : ExprTree) → IsExpression tokens tokens a → most_nodes < height_of a
  pub statements : (b : List StmtTree) → AreStatements tokens tokens b → most_nodes < line_height b

-- ---- what reading promises

abbrev pub StopsAt : Result LineTree Stop → List Token → Type 0
StopsAt (Ok line) tokens = Unit {0}
StopsAt (Err stops.Memory) tokens = Unit {0}
StopsAt (Err (stops.Syntax at)) tokens = FirstFault tokens at
StopsAt (Err (stops.Deep at)) tokens = TooDeep tokens at

-- the result is this line, unless memory ran out
abbrev pub StopsWith : Result LineTree Stop → LineTree → Type 0
StopsWith (Ok line) a = line ≡ a
StopsWith (Err stops.Memory) a = Unit {0}
StopsWith (Err (stops.Syntax at)) a = ⊥
StopsWith (Err (stops.Deep at)) a = ⊥

-- ---- the codes of faults

-- whether type arguments follow a `<`
abbrev pub has_arguments : Text → ℕ → Bool
has_arguments s at = among (t.Question ∷ t.Greater ∷ []) (terminal (s at))
    || (same_terminal (terminal (s at)) t.Word && among (t.Greater ∷ t.Comma ∷ t.Less ∷ t.ShiftRight ∷ t.ShiftZero ∷ []) (terminal (s (suc at))))

-- the terminal that stands so many places before, and none before the first token
abbrev pub back : Text → ℕ → ℕ → Terminal
back s at n = if nat_lt at n then t.Other else terminal (s (at - n))

-- `<` behind a type name [JLS 4.5]
abbrev pub is_generic : Text → ℕ → Bool
is_generic s at = same_terminal (terminal (s at)) t.Less && (same_terminal (back s at 1) t.Word && (same_terminal (back s at 2) t.New || has_arguments s (suc at)))

-- a resource of a `try` [JLS 14.20.3]
abbrev pub is_resource : Text → ℕ → Bool
is_resource s at = same_terminal (terminal (s at)) t.LeftParen && same_terminal (back s at 1) t.Try

-- a second type of a catch [JLS 14.20]
abbrev pub is_multi_catch : Text → ℕ → Bool
is_multi_catch s at = same_terminal (terminal (s at)) t.Or && (same_terminal (back s at 1) t.Word
    && ((same_terminal (back s at 2) t.LeftParen && same_terminal (back s at 3) t.Catch) || (same_terminal (back s at 2) t.Final && same_terminal (back s at 3) t.LeftParen)))

abbrev pub class_words : List Terminal
class_words = t.Class ∷ t.Interface ∷ []

-- the tokens behind which a statement begins, or its modifiers go on
abbrev pub before_class : List Terminal
before_class = t.Other ∷ t.Semicolon ∷ t.LeftBrace ∷ t.RightBrace ∷ t.Final ∷ t.Abstract ∷ []

-- a class within a block or a line [JLS 14.3]
abbrev pub is_local_class : Text → ℕ → Bool
is_local_class s at = among class_words (terminal (s at)) && among before_class (back s at 1)

-- what the profile leaves out of Java
abbrev pub is_left_out : Text → ℕ → Bool
is_left_out s at = is_generic s at || (is_resource s at || (is_multi_catch s at || is_local_class s at))

-- the code of a fault at a token that the grammar does not take
abbrev pub code_at : Text → ℕ → FaultCode
code_at s at = if among leasts (terminal (s at)) then codes.Wide else (if is_left_out s at then codes.Profile else codes.Syntax)

-- where a fault stands: at the token, or at the end of the text
abbrev pub spot : Tokens → ℕ → Span
spot tokens at = if nat_lt at (length tokens.items) then place_of tokens.items at else tokens.end

abbrev pub GivesLine : Result LineTree Refusal → LineTree → Type 0
GivesLine (Ok line) a = line ≡ a
GivesLine (Err refusals.NoMemory) a = Unit {0}
GivesLine (Err (refusals.Fault fault)) a = ⊥

-- the first token that does not fit, with its code
pub record IsFirst (tokens : Tokens) (at : Span) (code : FaultCode) : Type 0 where
  pub index : ℕ
  pub first : FirstFault tokens.items index
  pub place : at ≡ spot tokens index
  pub coded : code ≡ code_at (text_of tokens.items) index

abbrev pub FaultAt : Result LineTree Refusal → Tokens → Type 0
FaultAt (Ok line) tokens = Unit {0}
FaultAt (Err refusals.NoMemory) tokens = Unit {0}
FaultAt (Err (refusals.Fault fault)) tokens = (fault.class ≡ tokens.class) × (((fault.code ≡ codes.Deep) × TooDeep tokens.items fault.at) ⊎ IsFirst tokens fault.at fault.code)

-- the refusal is of a fault at the place where reading stops, unless memory ran out
abbrev pub IsRefusalOf : Tokens → Stop → Refusal → Type 0
IsRefusalOf tokens stop refusals.NoMemory = Unit {0}
IsRefusalOf tokens stops.Memory (refusals.Fault fault) = ⊥
IsRefusalOf tokens (stops.Syntax at) (refusals.Fault fault) = (fault.class ≡ tokens.class) × (fault.at ≡ spot tokens at) × (fault.code ≡ code_at (text_of tokens.items) at)
IsRefusalOf tokens (stops.Deep at) (refusals.Fault fault) = (fault.class ≡ tokens.class) × (fault.at ≡ at) × (fault.code ≡ codes.Deep)
