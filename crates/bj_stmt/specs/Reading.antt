-- The reader of statements, as a function on texts.
use Rattle.std.specs.Prelude.{ℕ, zero, suc, Bool, true, false, not, ◌-◌, ◌&&◌, ◌||◌, if◌then◌else◌, List, [], ◌∷◌, ◌++◌, Option, Some, None}
use Rattle.bj_base.specs.declared.span.Span.{Span}
use Rattle.bj_expr_tree.specs.declared.types.NamedPlace.{NamedPlace}
use Rattle.bj_expr_tree.specs.declared.types.TypeTree.{TypeTree}
use Rattle.bj_expr_tree.specs.declared.expr.ExprTree.{ExprTree}
use Rattle.bj_expr_tree.specs.declared.expr.ExprTree.TheVariants as e
use Rattle.bj_tree.specs.declared.stmt.VariableTree.{VariableTree}
use Rattle.bj_tree.specs.declared.stmt.StmtTree.{StmtTree}
use Rattle.bj_tree.specs.declared.stmt.StmtTree.TheVariants as stmt
use Rattle.bj_grammar.specs.declared.terminal.Terminal.{Terminal}
use Rattle.bj_grammar.specs.declared.terminal.Terminal.TheVariants as t
use Rattle.bj_grammar.specs.Terminal.{terminal, same_terminal, among}
use Rattle.bj_grammar.specs.Reader.{Text, Parser, ◌>>=◌, pure, over, here, operator, word, sign, ahead, choose, loop}
use Rattle.bj_expr.specs.declared.part.Part.TheVariants as part
use Rattle.bj_expr.specs.Grammar.{assigns, assign_op, primitives}
use Rattle.bj_expr.specs.Reading.{is, dims, type_at, limited}
use Rattle.bj_expr.specs.Reading as expressions
use Rattle.bj_stmt.specs.declared.part.StmtPart.{StmtPart}
use Rattle.bj_stmt.specs.declared.part.StmtPart.TheVariants as p
use Rattle.bj_stmt.specs.Grammar.{is_statement, jump, jumps}

-- ---- the next tokens

-- whether a declaration of variables begins at a place: a statement of another form begins otherwise
abbrev pub declares : Text → ℕ → Bool
declares s i = same_terminal (terminal (s i)) t.Final || (among primitives (terminal (s i)) || (same_terminal (terminal (s i)) t.Word
    && (same_terminal (terminal (s (suc i))) t.Word || (same_terminal (terminal (s (suc i))) t.LeftBracket && same_terminal (terminal (s (suc (suc i)))) t.RightBracket))))

-- whether a label stands at a place
abbrev pub is_labelled : Text → ℕ → Bool
is_labelled s i = same_terminal (terminal (s i)) t.Word && same_terminal (terminal (s (suc i))) t.Colon

-- whether the name of a class with `.class` stands at a place
abbrev pub is_class_lock : Text → ℕ → Bool
is_class_lock s i = same_terminal (terminal (s i)) t.Word && (same_terminal (terminal (s (suc i))) t.Dot && same_terminal (terminal (s (suc (suc i)))) t.Class)

abbrev pub constructors : List Terminal
constructors = t.This ∷ t.Super ∷ []

-- whether a call of another constructor begins at a place
abbrev pub is_constructor_call : Text → ℕ → Bool
is_constructor_call s i = among constructors (terminal (s i)) && same_terminal (terminal (s (suc i))) t.LeftParen

-- whether a token stands before the end of a block
abbrev pub inside : Terminal → Bool
inside x = not (same_terminal x t.RightBrace)

-- whether a token stands before the end of the text
abbrev pub on_line : Terminal → Bool
on_line x = not (same_terminal x t.Other)

abbrev pub branch_words : List Terminal
branch_words = t.If ∷ t.Switch ∷ []

abbrev pub loop_words : List Terminal
loop_words = t.While ∷ t.Do ∷ t.For ∷ []

abbrev pub leave_words : List Terminal
leave_words = t.Break ∷ t.Continue ∷ t.Return ∷ t.Throw ∷ []

abbrev pub guard_words : List Terminal
guard_words = t.Synchronized ∷ t.Try ∷ []

abbrev pub is_empty : List StmtTree → Bool
is_empty [] = true
is_empty (a ∷ all) = false

-- ---- small parts

unfoldable pub maybe_final : Parser Bool
maybe_final = choose (is t.Final) (sign t.Final (pure true)) (pure false)

-- Given where each token stands, and how many steps a loop may take.
module _ (place : ℕ → Span) (most : ℕ) where
  -- a name where it stands
  unfoldable pub name_at : Parser NamedPlace
  name_at = here (λ m. word t.Word (λ v. pure (record { at = place m; name = v })))

  unfoldable pub maybe_name : Parser (Option NamedPlace)
  maybe_name = choose (is t.Word) (name_at >>= λ x. pure (Some x)) (pure None)

  -- Given how much room there is for an expression.
  module _ (room : ℕ) where
    unfoldable pub value : Parser ExprTree
    value = expressions.nested place most room part.Expression

    -- an expression, where the semicolon does not come at once
    unfoldable pub maybe_value : Parser (Option ExprTree)
    maybe_value = choose (is t.Semicolon) (pure None) (value >>= λ x. pure (Some x))

    unfoldable pub next_value : List ExprTree → Parser (List ExprTree)
    next_value b = sign t.Comma (value >>= λ x. pure (b ++ x ∷ []))

    -- expressions up to a parenthesis
    unfoldable pub all_values : Parser (List ExprTree)
    all_values = choose (is t.RightParen) (pure []) ((value >>= λ x. pure (x ∷ [])) >>= loop most (is t.Comma) next_value)

    unfoldable pub maybe_init : Parser (Option ExprTree)
    maybe_init = choose (is t.Assign) (sign t.Assign (expressions.nested place most room part.Initializer >>= λ x. pure (Some x))) (pure None)

    -- the rest of a variable, behind its name v at m
    unfoldable pub variable_behind : ℕ → List ℕ → Parser VariableTree
    variable_behind m v = dims place most >>= λ d. maybe_init >>= λ x. pure (record { at = place m; name = v; dims = d; init = x })

    unfoldable pub variable : Parser VariableTree
    variable = here (λ m. word t.Word (variable_behind m))

    unfoldable pub next_variable : List VariableTree → Parser (List VariableTree)
    next_variable b = sign t.Comma (variable >>= λ x. pure (b ++ x ∷ []))

    unfoldable pub variables : Parser (List VariableTree)
    variables = (variable >>= λ x. pure (x ∷ [])) >>= loop most (is t.Comma) next_variable

    -- the variables of a declaration, the first of which has the name v at m
    unfoldable pub variables_behind : ℕ → List ℕ → Parser (List VariableTree)
    variables_behind m v = (variable_behind m v >>= λ x. pure (x ∷ [])) >>= loop most (is t.Comma) next_variable

    -- What is assigned. Both sides are below the assignment.
    unfoldable pub assigned : Parser ExprTree
    assigned = expressions.nested place most (room - 1) part.Expression

    unfoldable pub assignment : ℕ → ExprTree → Parser ExprTree
    assignment i l = operator (among assigns) (λ v. limited (room - 1) l >>= λ l. assigned >>= λ r. pure (e.Assign (place i) (assign_op (terminal v)) l r))

    -- an expression that may be a statement, behind a unary one at its beginning
    unfoldable pub evaluated : ℕ → ExprTree → Parser ExprTree
    evaluated i l = if is_statement l then choose (among assigns) (assignment i l) (pure l) else assignment i l

    unfoldable pub statement_expression : Parser ExprTree
    statement_expression = here (λ i. expressions.nested place most room part.Unary >>= evaluated i)

    unfoldable pub evaluation : Parser StmtTree
    evaluation = here (λ i. statement_expression >>= λ x. pure (stmt.Expression (place i) x))

    unfoldable pub called : ℕ → Bool → Parser StmtTree
    called i of_super = sign t.LeftParen (all_values >>= λ xs. sign t.RightParen (sign t.Semicolon (pure (stmt.ConstructorCall (place i) of_super xs))))

    unfoldable pub constructor_call : Parser StmtTree
    constructor_call = here (λ i. choose (is t.This) (sign t.This (called i false)) (sign t.Super (called i true)))

    unfoldable pub case_label : ℕ → Parser StmtTree
    case_label i = sign t.Case (value >>= λ x. sign t.Colon (pure (stmt.Case (place i) x)))

    unfoldable pub default_label : ℕ → Parser StmtTree
    default_label i = sign t.Default (sign t.Colon (pure (stmt.Default (place i))))

    unfoldable pub label : Parser StmtTree
    label = here (λ i. choose (is t.Case) (case_label i) (default_label i))

  -- the variables of a declaration with so much room below it; each is a node above its initializer
  unfoldable pub variables_below : ℕ → Parser (List VariableTree)
  variables_below zero = over place
  variables_below (suc room) = variables room

  unfoldable pub declaration : ℕ → Parser StmtTree
  declaration room = here (λ i. maybe_final >>= λ f. type_at place most >>= λ ty. variables_below room >>= λ vs. pure (stmt.Local (place i) f ty vs))

-- ---- statements

-- Given where each token stands, how many steps a loop may take, how much room there is below a statement, and the readers of what is nested in it.
module _ (place : ℕ → Span) (most : ℕ) (room : ℕ) (nested : StmtPart → Parser StmtTree) where
  -- an expression in parentheses, and then the rest
  unfoldable pub in_parens : (ExprTree → Parser StmtTree) → Parser StmtTree
  in_parens f = sign t.LeftParen (value place most room >>= λ x. sign t.RightParen (f x))

  unfoldable pub choice_tail : ℕ → ExprTree → StmtTree → Parser StmtTree
  choice_tail i x b = choose (is t.Else) (sign t.Else (nested p.Statement >>= λ c. pure (stmt.IfElse (place i) x b c))) (pure (stmt.If (place i) x b))

  unfoldable pub choice : ℕ → Parser StmtTree
  choice i = sign t.If (in_parens (λ x. nested p.Statement >>= choice_tail i x))

  -- a label first, and then labels and statements
  unfoldable pub next_member : List StmtTree → Parser (List StmtTree)
  next_member b = nested p.Member >>= λ c. pure (b ++ c ∷ [])

  unfoldable pub members : Parser (List StmtTree)
  members = choose (is t.RightBrace) (pure []) ((nested p.Label >>= λ c. pure (c ∷ [])) >>= loop most inside next_member)

  unfoldable pub switched : ℕ → ExprTree → Parser StmtTree
  switched i x = sign t.LeftBrace (members >>= λ ms. sign t.RightBrace (pure (stmt.Switch (place i) x ms)))

  unfoldable pub switch : ℕ → Parser StmtTree
  switch i = sign t.Switch (in_parens (switched i))

  unfoldable pub branching : ℕ → Parser StmtTree
  branching i = choose (is t.If) (choice i) (switch i)

  unfoldable pub while_loop : ℕ → Parser StmtTree
  while_loop i = sign t.While (in_parens (λ x. nested p.Statement >>= λ b. pure (stmt.While (place i) x b)))

  unfoldable pub do_loop : ℕ → Parser StmtTree
  do_loop i = sign t.Do (nested p.Statement >>= λ b. sign t.While (in_parens (λ x. sign t.Semicolon (pure (stmt.Do (place i) b x)))))

  -- the rest of a `for`, behind what it begins with
  unfoldable pub for_tail : ℕ → List StmtTree → Parser StmtTree
  for_tail i inits = sign t.Semicolon (maybe_value place most room >>= λ x. sign t.Semicolon (all_values place most room >>= λ us. sign t.RightParen (nested p.Statement >>= λ b. pure (stmt.For (place i) inits x us b))))

  unfoldable pub next_evaluation : List StmtTree → Parser (List StmtTree)
  next_evaluation b = sign t.Comma (nested p.Evaluation >>= λ x. pure (b ++ x ∷ []))

  unfoldable pub evaluations : Parser (List StmtTree)
  evaluations = (nested p.Evaluation >>= λ x. pure (x ∷ [])) >>= loop most (is t.Comma) next_evaluation

  unfoldable pub for_each : ℕ → Bool → TypeTree → NamedPlace → Parser StmtTree
  for_each i f ty name = sign t.Colon (value place most room >>= λ x. sign t.RightParen (nested p.Statement >>= λ b. pure (stmt.ForEach (place i) f ty name x b)))

  unfoldable pub for_evaluated : ℕ → Parser StmtTree
  for_evaluated i = choose (is t.Semicolon) (for_tail i []) (evaluations >>= for_tail i)

-- Behind the first name, at m, of a declaration at d in a `for`: the declaration and its variables are nodes above their initializers.
unfoldable pub for_variables : (ℕ → Span) → ℕ → ℕ → (StmtPart → Parser StmtTree) → ℕ → ℕ → Bool → TypeTree → NamedPlace → ℕ → Parser StmtTree
for_variables place most zero nested i d f ty name m = over (λ _. place d)
for_variables place most (suc zero) nested i d f ty name m = over (λ _. place m)
for_variables place most (suc (suc room)) nested i d f ty name m = variables_behind place most room m name.name >>= λ vs. for_tail place most (suc (suc room)) nested i (stmt.Local (place d) f ty vs ∷ [])

module _ (place : ℕ → Span) (most : ℕ) (room : ℕ) (nested : StmtPart → Parser StmtTree) where
  unfoldable pub for_named : ℕ → ℕ → Bool → TypeTree → Parser StmtTree
  for_named i d f ty = here (λ m. name_at place most >>= λ x. choose (is t.Colon) (for_each place most room nested i f ty x) (for_variables place most room nested i d f ty x m))

  unfoldable pub for_declared : ℕ → Parser StmtTree
  for_declared i = here (λ d. maybe_final >>= λ f. type_at place most >>= λ ty. for_named i d f ty)

  unfoldable pub for_loop : ℕ → Parser StmtTree
  for_loop i = sign t.For (sign t.LeftParen (ahead declares (for_declared i) (for_evaluated place most room nested i)))

  unfoldable pub looping : ℕ → Parser StmtTree
  looping i = choose (is t.While) (while_loop place most room nested i) (choose (is t.Do) (do_loop place most room nested i) (for_loop i))

  unfoldable pub jumped : ℕ → Parser StmtTree
  jumped i = operator (among jumps) (λ v. maybe_name place most >>= λ l. sign t.Semicolon (pure (jump (terminal v) (place i) l)))

  unfoldable pub returned : ℕ → Parser StmtTree
  returned i = sign t.Return (maybe_value place most room >>= λ x. sign t.Semicolon (pure (stmt.Return (place i) x)))

  unfoldable pub thrown : ℕ → Parser StmtTree
  thrown i = sign t.Throw (value place most room >>= λ x. sign t.Semicolon (pure (stmt.Throw (place i) x)))

  unfoldable pub leaving : ℕ → Parser StmtTree
  leaving i = choose (among jumps) (jumped i) (choose (is t.Return) (returned i) (thrown i))

  unfoldable pub class_lock : ℕ → Parser StmtTree
  class_lock i = name_at place most >>= λ x. sign t.Dot (sign t.Class (sign t.RightParen (nested p.Block >>= λ b. pure (stmt.SynchronizedClass (place i) x b))))

  unfoldable pub object_lock : ℕ → Parser StmtTree
  object_lock i = value place most room >>= λ x. sign t.RightParen (nested p.Block >>= λ b. pure (stmt.Synchronized (place i) x b))

  unfoldable pub locked : ℕ → Parser StmtTree
  locked i = sign t.Synchronized (sign t.LeftParen (ahead is_class_lock (class_lock i) (object_lock i)))

  unfoldable pub catch : Parser StmtTree
  catch = here (λ i. sign t.Catch (sign t.LeftParen (maybe_final >>= λ f. type_at place most >>= λ ty. name_at place most >>= λ x. sign t.RightParen (nested p.Block >>= λ b. pure (stmt.Catch (place i) f (ty ∷ []) x b)))))

  unfoldable pub next_catch : List StmtTree → Parser (List StmtTree)
  next_catch b = nested p.Catch >>= λ c. pure (b ++ c ∷ [])

  unfoldable pub catches : Parser (List StmtTree)
  catches = pure [] >>= loop most (is t.Catch) next_catch

  unfoldable pub finally : ℕ → StmtTree → List StmtTree → Parser StmtTree
  finally i b cs = sign t.Finally (nested p.Block >>= λ f. pure (stmt.TryFinally (place i) b cs f))

  -- a `try` has a catch or a `finally`
  unfoldable pub try_tail : ℕ → StmtTree → List StmtTree → Parser StmtTree
  try_tail i b cs = if is_empty cs then finally i b cs else choose (is t.Finally) (finally i b cs) (pure (stmt.Try (place i) b cs))

  unfoldable pub tried : ℕ → Parser StmtTree
  tried i = sign t.Try (nested p.Block >>= λ b. catches >>= try_tail i b)

  unfoldable pub guarding : ℕ → Parser StmtTree
  guarding i = choose (is t.Synchronized) (locked i) (tried i)

  unfoldable pub labelled : ℕ → Parser StmtTree
  labelled i = word t.Word (λ v. sign t.Colon (nested p.Statement >>= λ b. pure (stmt.Labelled (place i) v b)))

  unfoldable pub next_statement : List StmtTree → Parser (List StmtTree)
  next_statement b = nested p.BlockStatement >>= λ c. pure (b ++ c ∷ [])

  -- the rest of a block that begins at i, behind some statements of it
  unfoldable pub rest_of_block : ℕ → List StmtTree → Parser StmtTree
  rest_of_block i b = loop most inside next_statement b >>= λ all. here (λ m. sign t.RightBrace (pure (stmt.Block (place i) all (place m))))

  unfoldable pub block : Parser StmtTree
  block = here (λ i. sign t.LeftBrace (rest_of_block i []))

  unfoldable pub constructor_body : Parser StmtTree
  constructor_body = here (λ i. sign t.LeftBrace (ahead is_constructor_call (nested p.ConstructorCall >>= λ c. rest_of_block i (c ∷ [])) (rest_of_block i [])))

  unfoldable pub evaluate : Parser StmtTree
  evaluate = evaluation place most room >>= λ a. sign t.Semicolon (pure a)

  unfoldable pub empty : ℕ → Parser StmtTree
  empty i = sign t.Semicolon (pure (stmt.Empty (place i)))

  unfoldable pub statement : Parser StmtTree
  statement = here (λ i. choose (is t.LeftBrace) block (choose (is t.Semicolon) (empty i) (choose (among branch_words) (branching place most room nested i) (choose (among loop_words) (looping i)
      (choose (among leave_words) (leaving i) (choose (among guard_words) (guarding i) (ahead is_labelled (labelled i) evaluate)))))))

  unfoldable pub local : Parser StmtTree
  local = declaration place most room >>= λ a. sign t.Semicolon (pure a)

  unfoldable pub block_statement : Parser StmtTree
  block_statement = ahead declares local statement

  unfoldable pub member : Parser StmtTree
  member = here (λ i. choose (is t.Case) (case_label place most room i) (choose (is t.Default) (default_label place most room i) block_statement))

  unfoldable pub rule : StmtPart → Parser StmtTree
  rule p.Statement = statement
  rule p.BlockStatement = block_statement
  rule p.Block = block
  rule p.Member = member
  rule p.Label = label place most room
  rule p.Catch = catch
  rule p.Evaluation = evaluation place most room
  rule p.ConstructorCall = constructor_call place most room
  rule p.ConstructorBody = constructor_body

-- a part that is no higher than the number says
unfoldable pub nested : (ℕ → Span) → ℕ → ℕ → StmtPart → Parser StmtTree
nested place most zero x = over place
nested place most (suc room) x = rule place most room (nested place most room) x

-- one statement or more, up to the end of the text
unfoldable pub statements_within : (ℕ → Span) → ℕ → ℕ → Parser (List StmtTree)
statements_within place most room = (nested place most room p.BlockStatement >>= λ c. pure (c ∷ [])) >>= loop most on_line (λ b. nested place most room p.BlockStatement >>= λ c. pure (b ++ c ∷ []))
