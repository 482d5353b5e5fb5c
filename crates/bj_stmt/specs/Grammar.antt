-- The grammar of statements [JLS 14]: which tree stands in a text from a place up to another. Each constructor is a production.
-- Trees name their places by `place`, which gives where the token at each place of the text stands.
use Rattle.std.specs.Prelude.{◌≡◌, ◌≢◌, ℕ, zero, suc, Bool, true, false, List, [], ◌∷◌, ◌++◌, Option, Some, None}
use Rattle.bj_base.specs.declared.span.Span.{Span}
use Rattle.bj_token.specs.declared.token.Token.{Token}
use Rattle.bj_expr_tree.specs.declared.types.NamedPlace.{NamedPlace}
use Rattle.bj_expr_tree.specs.declared.types.TypeTree.{TypeTree}
use Rattle.bj_expr_tree.specs.declared.expr.ExprTree.{ExprTree, Prefix', Postfix', Call', MethodCall', SuperCall', New'}
use Rattle.bj_expr_tree.specs.declared.expr.ExprTree.TheVariants as e
use Rattle.bj_tree.specs.declared.stmt.VariableTree.{VariableTree}
use Rattle.bj_tree.specs.declared.stmt.StmtTree.{StmtTree}
use Rattle.bj_tree.specs.declared.stmt.StmtTree.TheVariants as stmt
use Rattle.bj_tree.specs.declared.stmt.StmtTree.TheOpen.{StmtTree-F}
use Rattle.bj_tree.specs.declared.stmt.StmtTree.TheFolds.{fold-StmtTree}
use Rattle.bj_grammar.specs.declared.terminal.Terminal.{Terminal}
use Rattle.bj_grammar.specs.declared.terminal.Terminal.TheVariants as t
use Rattle.bj_grammar.specs.Terminal.{terminal, same_terminal, among}
use Rattle.bj_grammar.specs.Reader.{Text}
use Rattle.bj_expr.specs.Grammar.{assigns, assign_op, TypeAt, Dims, Expression, Unary, Initializer}

-- a name where it stands
abbrev pub named : Span → Token → NamedPlace
named at token = record { at = at; name = token.text }

-- whether an expression may be a statement: a step of a variable, a call or a new object [JLS 14.8]
abbrev pub is_statement : ExprTree → Bool
is_statement (Prefix' at op p x) = true
is_statement (Postfix' at op p x) = true
is_statement (Call' at name p args) = true
is_statement (MethodCall' at p x name q args) = true
is_statement (SuperCall' at name p args) = true
is_statement (New' at class p args) = true
is_statement _ = false

-- whether a statement ends with an `if` that has no `else`, so that one may not follow it [JLS 14.5]
abbrev pub dangles_form : StmtTree-F Bool → Bool
dangles_form (StmtTree-F.If at test body) = true
dangles_form (StmtTree-F.IfElse at test body other) = other
dangles_form (StmtTree-F.While at test body) = body
dangles_form (StmtTree-F.For at init test update body) = body
dangles_form (StmtTree-F.ForEach at is_final holds name over body) = body
dangles_form (StmtTree-F.Labelled at label body) = body
dangles_form form = false

unfoldable pub dangles : StmtTree → Bool
dangles = fold-StmtTree Bool dangles_form

-- `final`, or nothing
pub data MaybeFinal (s : Text) : Bool → ℕ → ℕ → Type 0 where
  not_final : {a : Bool} {i j : ℕ} → a ≡ false → j ≡ i → MaybeFinal s a i j
  final : {a : Bool} {i j : ℕ} → terminal (s i) ≡ t.Final → a ≡ true → j ≡ suc i → MaybeFinal s a i j

-- an initializer behind `=`, or nothing
pub data MaybeInit (place : ℕ → Span) (s : Text) : Option ExprTree → ℕ → ℕ → Type 0 where
  no_init : {a : Option ExprTree} {i j : ℕ} → a ≡ None → j ≡ i → MaybeInit place s a i j
  init : {a : Option ExprTree} {x : ExprTree} {i j : ℕ} → terminal (s i) ≡ t.Assign → Initializer place s x (suc i) j → a ≡ Some x → MaybeInit place s a i j

-- an expression, or nothing
pub data MaybeExpression (place : ℕ → Span) (s : Text) : Option ExprTree → ℕ → ℕ → Type 0 where
  no_expression : {a : Option ExprTree} {i j : ℕ} → a ≡ None → j ≡ i → MaybeExpression place s a i j
  expression : {a : Option ExprTree} {x : ExprTree} {i j : ℕ} → Expression place s x i j → a ≡ Some x → MaybeExpression place s a i j

-- a name, or nothing
pub data MaybeName (place : ℕ → Span) (s : Text) : Option NamedPlace → ℕ → ℕ → Type 0 where
  no_name : {a : Option NamedPlace} {i j : ℕ} → a ≡ None → j ≡ i → MaybeName place s a i j
  name : {a : Option NamedPlace} {i j : ℕ} → terminal (s i) ≡ t.Word → a ≡ Some (named (place i) (s i)) → j ≡ suc i → MaybeName place s a i j

-- a variable: its name, the brackets behind it and its initializer [JLS 8.3, 14.4]
pub data Variable (place : ℕ → Span) (s : Text) : VariableTree → ℕ → ℕ → Type 0 where
  variable : {a : VariableTree} {x : Option ExprTree} {n i m j : ℕ} → terminal (s i) ≡ t.Word → Dims s n (suc i) m → MaybeInit place s x m j
      → a ≡ record { at = place i; name = (s i).text; dims = n; init = x } → Variable place s a i j

-- variables with commas between them
pub data Variables (place : ℕ → Span) (s : Text) : List VariableTree → ℕ → ℕ → Type 0 where
  first_variable : {a : List VariableTree} {x : VariableTree} {i j : ℕ} → Variable place s x i j → a ≡ x ∷ [] → Variables place s a i j
  next_variable : {a : List VariableTree} {b : List VariableTree} {x : VariableTree} {i m j : ℕ} → Variables place s b i m → terminal (s m) ≡ t.Comma → Variable place s x (suc m) j → a ≡ b ++ x ∷ [] → Variables place s a i j

-- a declaration of variables without its semicolon [JLS 14.4]
pub data Declaration (place : ℕ → Span) (s : Text) : StmtTree → ℕ → ℕ → Type 0 where
  declaration : {a : StmtTree} {f : Bool} {ty : TypeTree} {vs : List VariableTree} {i m n j : ℕ} → MaybeFinal s f i m → TypeAt place s ty m n → Variables place s vs n j
      → a ≡ stmt.Local (place i) f ty vs → Declaration place s a i j

-- an expression that may be a statement [JLS 14.8]
pub data StatementExpression (place : ℕ → Span) (s : Text) : ExprTree → ℕ → ℕ → Type 0 where
  evaluated : {a : ExprTree} {i j : ℕ} → Unary place s a i j → is_statement a ≡ true → StatementExpression place s a i j
  assigned : {a : ExprTree} {l : ExprTree} {r : ExprTree} {i m j : ℕ} → Unary place s l i m → among assigns (terminal (s m)) ≡ true → Expression place s r (suc m) j
      → a ≡ e.Assign (place i) (assign_op (terminal (s m))) l r → StatementExpression place s a i j

-- such an expression as a statement, without its semicolon
pub data Evaluation (place : ℕ → Span) (s : Text) : StmtTree → ℕ → ℕ → Type 0 where
  evaluation : {a : StmtTree} {x : ExprTree} {i j : ℕ} → StatementExpression place s x i j → a ≡ stmt.Expression (place i) x → Evaluation place s a i j

-- some with commas between them
pub data Evaluations (place : ℕ → Span) (s : Text) : List StmtTree → ℕ → ℕ → Type 0 where
  first_evaluation : {a : List StmtTree} {x : StmtTree} {i j : ℕ} → Evaluation place s x i j → a ≡ x ∷ [] → Evaluations place s a i j
  next_evaluation : {a : List StmtTree} {b : List StmtTree} {x : StmtTree} {i m j : ℕ} → Evaluations place s b i m → terminal (s m) ≡ t.Comma → Evaluation place s x (suc m) j → a ≡ b ++ x ∷ [] → Evaluations place s a i j

-- what a `for` begins with [JLS 14.14.1]
pub data ForInit (place : ℕ → Span) (s : Text) : List StmtTree → ℕ → ℕ → Type 0 where
  no_for_init : {a : List StmtTree} {i j : ℕ} → a ≡ [] → j ≡ i → ForInit place s a i j
  declares : {a : List StmtTree} {x : StmtTree} {i j : ℕ} → Declaration place s x i j → a ≡ x ∷ [] → ForInit place s a i j
  evaluates : {a : List StmtTree} {i j : ℕ} → Evaluations place s a i j → ForInit place s a i j

-- expressions with commas between them
pub data Expressions (place : ℕ → Span) (s : Text) : List ExprTree → ℕ → ℕ → Type 0 where
  first_expression : {a : List ExprTree} {x : ExprTree} {i j : ℕ} → Expression place s x i j → a ≡ x ∷ [] → Expressions place s a i j
  next_expression : {a : List ExprTree} {b : List ExprTree} {x : ExprTree} {i m j : ℕ} → Expressions place s b i m → terminal (s m) ≡ t.Comma → Expression place s x (suc m) j → a ≡ b ++ x ∷ [] → Expressions place s a i j

-- some, or none
pub data MaybeExpressions (place : ℕ → Span) (s : Text) : List ExprTree → ℕ → ℕ → Type 0 where
  no_expressions : {a : List ExprTree} {i j : ℕ} → a ≡ [] → j ≡ i → MaybeExpressions place s a i j
  expressions : {a : List ExprTree} {i j : ℕ} → Expressions place s a i j → MaybeExpressions place s a i j

-- `break`, `continue`: the tree of one with its label
abbrev pub jump : Terminal → Span → Option NamedPlace → StmtTree
jump t.Break at label = stmt.Break at label
jump _ at label = stmt.Continue at label

abbrev pub jumps : List Terminal
jumps = t.Break ∷ t.Continue ∷ []

mutual
  -- a statement that may be the body of another: no declaration of variables [JLS 14.5]
  pub data Statement (place : ℕ → Span) (s : Text) : StmtTree → ℕ → ℕ → Type 0 where
    block : {a : StmtTree} {i j : ℕ} → Block place s a i j → Statement place s a i j
    -- [JLS 14.6]
    empty : {a : StmtTree} {i j : ℕ} → terminal (s i) ≡ t.Semicolon → a ≡ stmt.Empty (place i) → j ≡ suc i → Statement place s a i j
    -- [JLS 14.8]
    evaluate : {a : StmtTree} {i m j : ℕ} → Evaluation place s a i m → terminal (s m) ≡ t.Semicolon → j ≡ suc m → Statement place s a i j
    -- [JLS 14.9.1]
    choice : {a : StmtTree} {x : ExprTree} {b : StmtTree} {i m j : ℕ} → terminal (s i) ≡ t.If → terminal (s (suc i)) ≡ t.LeftParen → Expression place s x (suc (suc i)) m → terminal (s m) ≡ t.RightParen
        → Statement place s b (suc m) j → a ≡ stmt.If (place i) x b → Statement place s a i j
    -- an `else` belongs to the nearest `if` before it that has none [JLS 14.9.2]
    choice_else : {a : StmtTree} {x : ExprTree} {b : StmtTree} {c : StmtTree} {i m n j : ℕ} → terminal (s i) ≡ t.If → terminal (s (suc i)) ≡ t.LeftParen → Expression place s x (suc (suc i)) m → terminal (s m) ≡ t.RightParen
        → Statement place s b (suc m) n → dangles b ≡ false → terminal (s n) ≡ t.Else → Statement place s c (suc n) j → a ≡ stmt.IfElse (place i) x b c → Statement place s a i j
    -- [JLS 14.12]
    while : {a : StmtTree} {x : ExprTree} {b : StmtTree} {i m j : ℕ} → terminal (s i) ≡ t.While → terminal (s (suc i)) ≡ t.LeftParen → Expression place s x (suc (suc i)) m → terminal (s m) ≡ t.RightParen
        → Statement place s b (suc m) j → a ≡ stmt.While (place i) x b → Statement place s a i j
    -- [JLS 14.13]
    do_while : {a : StmtTree} {b : StmtTree} {x : ExprTree} {i m n j : ℕ} → terminal (s i) ≡ t.Do → Statement place s b (suc i) m → terminal (s m) ≡ t.While → terminal (s (suc m)) ≡ t.LeftParen
        → Expression place s x (suc (suc m)) n → terminal (s n) ≡ t.RightParen → terminal (s (suc n)) ≡ t.Semicolon → a ≡ stmt.Do (place i) b x → j ≡ suc (suc n) → Statement place s a i j
    -- [JLS 14.14.1]
    for : {a : StmtTree} {inits : List StmtTree} {x : Option ExprTree} {us : List ExprTree} {b : StmtTree} {i k m n j : ℕ} → terminal (s i) ≡ t.For → terminal (s (suc i)) ≡ t.LeftParen
        → ForInit place s inits (suc (suc i)) k → terminal (s k) ≡ t.Semicolon → MaybeExpression place s x (suc k) m → terminal (s m) ≡ t.Semicolon → MaybeExpressions place s us (suc m) n → terminal (s n) ≡ t.RightParen
        → Statement place s b (suc n) j → a ≡ stmt.For (place i) inits x us b → Statement place s a i j
    -- [JLS 14.14.2]
    for_each : {a : StmtTree} {f : Bool} {ty : TypeTree} {x : ExprTree} {b : StmtTree} {i k m n j : ℕ} → terminal (s i) ≡ t.For → terminal (s (suc i)) ≡ t.LeftParen
        → MaybeFinal s f (suc (suc i)) k → TypeAt place s ty k m → terminal (s m) ≡ t.Word → terminal (s (suc m)) ≡ t.Colon → Expression place s x (suc (suc m)) n → terminal (s n) ≡ t.RightParen
        → Statement place s b (suc n) j → a ≡ stmt.ForEach (place i) f ty (named (place m) (s m)) x b → Statement place s a i j
    -- [JLS 14.11]
    switch : {a : StmtTree} {x : ExprTree} {ms : List StmtTree} {i m n j : ℕ} → terminal (s i) ≡ t.Switch → terminal (s (suc i)) ≡ t.LeftParen → Expression place s x (suc (suc i)) m → terminal (s m) ≡ t.RightParen
        → terminal (s (suc m)) ≡ t.LeftBrace → Members place s ms (suc (suc m)) n → terminal (s n) ≡ t.RightBrace → a ≡ stmt.Switch (place i) x ms → j ≡ suc n → Statement place s a i j
    -- [JLS 14.7]
    labelled : {a : StmtTree} {b : StmtTree} {i j : ℕ} → terminal (s i) ≡ t.Word → terminal (s (suc i)) ≡ t.Colon → Statement place s b (suc (suc i)) j → a ≡ stmt.Labelled (place i) (s i).text b → Statement place s a i j
    -- [JLS 14.15, 14.16]
    jump_to : {a : StmtTree} {l : Option NamedPlace} {i m j : ℕ} → among jumps (terminal (s i)) ≡ true → MaybeName place s l (suc i) m → terminal (s m) ≡ t.Semicolon → a ≡ jump (terminal (s i)) (place i) l → j ≡ suc m → Statement place s a i j
    -- [JLS 14.17]
    return : {a : StmtTree} {x : Option ExprTree} {i m j : ℕ} → terminal (s i) ≡ t.Return → MaybeExpression place s x (suc i) m → terminal (s m) ≡ t.Semicolon → a ≡ stmt.Return (place i) x → j ≡ suc m → Statement place s a i j
    -- [JLS 14.18]
    throw : {a : StmtTree} {x : ExprTree} {i m j : ℕ} → terminal (s i) ≡ t.Throw → Expression place s x (suc i) m → terminal (s m) ≡ t.Semicolon → a ≡ stmt.Throw (place i) x → j ≡ suc m → Statement place s a i j
    -- [JLS 14.19]
    synchronized : {a : StmtTree} {x : ExprTree} {b : StmtTree} {i m j : ℕ} → terminal (s i) ≡ t.Synchronized → terminal (s (suc i)) ≡ t.LeftParen → Expression place s x (suc (suc i)) m → terminal (s m) ≡ t.RightParen
        → Block place s b (suc m) j → a ≡ stmt.Synchronized (place i) x b → Statement place s a i j
    -- on a class, by its name [JLS 14.19, 15.8.2]
    synchronized_class : {a : StmtTree} {b : StmtTree} {i j : ℕ} → terminal (s i) ≡ t.Synchronized → terminal (s (suc i)) ≡ t.LeftParen → terminal (s (suc (suc i))) ≡ t.Word → terminal (s (suc (suc (suc i)))) ≡ t.Dot
        → terminal (s (suc (suc (suc (suc i))))) ≡ t.Class → terminal (s (suc (suc (suc (suc (suc i)))))) ≡ t.RightParen → Block place s b (suc (suc (suc (suc (suc (suc i)))))) j
        → a ≡ stmt.SynchronizedClass (place i) (named (place (suc (suc i))) (s (suc (suc i)))) b → Statement place s a i j
    -- with a catch at least [JLS 14.20.1]
    try : {a : StmtTree} {b : StmtTree} {cs : List StmtTree} {i m j : ℕ} → terminal (s i) ≡ t.Try → Block place s b (suc i) m → Catches place s cs m j → cs ≢ [] → a ≡ stmt.Try (place i) b cs → Statement place s a i j
    -- [JLS 14.20.2]
    try_finally : {a : StmtTree} {b : StmtTree} {cs : List StmtTree} {f : StmtTree} {i m n j : ℕ} → terminal (s i) ≡ t.Try → Block place s b (suc i) m → Catches place s cs m n → terminal (s n) ≡ t.Finally → Block place s f (suc n) j
        → a ≡ stmt.TryFinally (place i) b cs f → Statement place s a i j

  -- [JLS 14.2]
  pub data Block (place : ℕ → Span) (s : Text) : StmtTree → ℕ → ℕ → Type 0 where
    braces : {a : StmtTree} {b : List StmtTree} {i m j : ℕ} → terminal (s i) ≡ t.LeftBrace → BlockStatements place s b (suc i) m → terminal (s m) ≡ t.RightBrace → a ≡ stmt.Block (place i) b (place m) → j ≡ suc m → Block place s a i j

  pub data BlockStatements (place : ℕ → Span) (s : Text) : List StmtTree → ℕ → ℕ → Type 0 where
    no_statements : {a : List StmtTree} {i j : ℕ} → a ≡ [] → j ≡ i → BlockStatements place s a i j
    next_statement : {a : List StmtTree} {b : List StmtTree} {c : StmtTree} {i m j : ℕ} → BlockStatements place s b i m → BlockStatement place s c m j → a ≡ b ++ c ∷ [] → BlockStatements place s a i j

  -- a statement, or a declaration of variables [JLS 14.2]
  pub data BlockStatement (place : ℕ → Span) (s : Text) : StmtTree → ℕ → ℕ → Type 0 where
    local : {a : StmtTree} {i m j : ℕ} → Declaration place s a i m → terminal (s m) ≡ t.Semicolon → j ≡ suc m → BlockStatement place s a i j
    statement : {a : StmtTree} {i j : ℕ} → Statement place s a i j → BlockStatement place s a i j

  -- the members of a switch, the first of which is a label
  pub data Members (place : ℕ → Span) (s : Text) : List StmtTree → ℕ → ℕ → Type 0 where
    no_members : {a : List StmtTree} {i j : ℕ} → a ≡ [] → j ≡ i → Members place s a i j
    first_label : {a : List StmtTree} {c : StmtTree} {i j : ℕ} → Label place s c i j → a ≡ c ∷ [] → Members place s a i j
    next_member : {a : List StmtTree} {b : List StmtTree} {c : StmtTree} {i m j : ℕ} → Members place s b i m → b ≢ [] → Member place s c m j → a ≡ b ++ c ∷ [] → Members place s a i j

  pub data Member (place : ℕ → Span) (s : Text) : StmtTree → ℕ → ℕ → Type 0 where
    label : {a : StmtTree} {i j : ℕ} → Label place s a i j → Member place s a i j
    in_group : {a : StmtTree} {i j : ℕ} → BlockStatement place s a i j → Member place s a i j

  pub data Label (place : ℕ → Span) (s : Text) : StmtTree → ℕ → ℕ → Type 0 where
    case : {a : StmtTree} {x : ExprTree} {i m j : ℕ} → terminal (s i) ≡ t.Case → Expression place s x (suc i) m → terminal (s m) ≡ t.Colon → a ≡ stmt.Case (place i) x → j ≡ suc m → Label place s a i j
    default : {a : StmtTree} {i j : ℕ} → terminal (s i) ≡ t.Default → terminal (s (suc i)) ≡ t.Colon → a ≡ stmt.Default (place i) → j ≡ suc (suc i) → Label place s a i j

  pub data Catches (place : ℕ → Span) (s : Text) : List StmtTree → ℕ → ℕ → Type 0 where
    no_catches : {a : List StmtTree} {i j : ℕ} → a ≡ [] → j ≡ i → Catches place s a i j
    next_catch : {a : List StmtTree} {b : List StmtTree} {c : StmtTree} {i m j : ℕ} → Catches place s b i m → Catch place s c m j → a ≡ b ++ c ∷ [] → Catches place s a i j

  -- [JLS 14.20]
  pub data Catch (place : ℕ → Span) (s : Text) : StmtTree → ℕ → ℕ → Type 0 where
    catch : {a : StmtTree} {f : Bool} {ty : TypeTree} {b : StmtTree} {i k m j : ℕ} → terminal (s i) ≡ t.Catch → terminal (s (suc i)) ≡ t.LeftParen → MaybeFinal s f (suc (suc i)) k → TypeAt place s ty k m
        → terminal (s m) ≡ t.Word → terminal (s (suc m)) ≡ t.RightParen → Block place s b (suc (suc m)) j → a ≡ stmt.Catch (place i) f (ty ∷ []) (named (place m) (s m)) b → Catch place s a i j

-- a call of another constructor, at the head of a constructor's body [JLS 8.8.7.1]
pub data ConstructorCall (place : ℕ → Span) (s : Text) : StmtTree → ℕ → ℕ → Type 0 where
  of_this : {a : StmtTree} {xs : List ExprTree} {i m j : ℕ} → terminal (s i) ≡ t.This → terminal (s (suc i)) ≡ t.LeftParen → MaybeExpressions place s xs (suc (suc i)) m → terminal (s m) ≡ t.RightParen → terminal (s (suc m)) ≡ t.Semicolon
      → a ≡ stmt.ConstructorCall (place i) false xs → j ≡ suc (suc m) → ConstructorCall place s a i j
  of_super : {a : StmtTree} {xs : List ExprTree} {i m j : ℕ} → terminal (s i) ≡ t.Super → terminal (s (suc i)) ≡ t.LeftParen → MaybeExpressions place s xs (suc (suc i)) m → terminal (s m) ≡ t.RightParen → terminal (s (suc m)) ≡ t.Semicolon
      → a ≡ stmt.ConstructorCall (place i) true xs → j ≡ suc (suc m) → ConstructorCall place s a i j

-- the body of a constructor [JLS 8.8.7]
pub data ConstructorBody (place : ℕ → Span) (s : Text) : StmtTree → ℕ → ℕ → Type 0 where
  plain_body : {a : StmtTree} {i j : ℕ} → Block place s a i j → ConstructorBody place s a i j
  calling_body : {a : StmtTree} {c : StmtTree} {b : List StmtTree} {i k m j : ℕ} → terminal (s i) ≡ t.LeftBrace → ConstructorCall place s c (suc i) k → BlockStatements place s b k m → terminal (s m) ≡ t.RightBrace
      → a ≡ stmt.Block (place i) (c ∷ b) (place m) → j ≡ suc m → ConstructorBody place s a i j

-- one statement or more [JLS 14.2]
pub data SomeStatements (place : ℕ → Span) (s : Text) : List StmtTree → ℕ → ℕ → Type 0 where
  some_statements : {a : List StmtTree} {i j : ℕ} → BlockStatements place s a i j → a ≢ [] → SomeStatements place s a i j
