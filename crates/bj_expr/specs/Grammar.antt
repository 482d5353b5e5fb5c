-- The grammar of types, expressions and initializers [JLS 4, 10.6, 15]: which tree stands in a text from a place up to another. Each constructor is a production.
-- Trees name their places by `place`, which gives where the token at each place of the text stands.
use Rattle.std.specs.Prelude.{◌≡◌, ℕ, zero, suc, min, Bool, true, false, List, [], ◌∷◌, ◌++◌}
use Rattle.bj_base.specs.declared.span.Span.{Span}
use Rattle.bj_token.specs.declared.token.Token.{Token}
use Rattle.bj_expr_tree.specs.declared.types.TypeName.{TypeName}
use Rattle.bj_expr_tree.specs.declared.types.TypeName.TheVariants as names
use Rattle.bj_expr_tree.specs.declared.types.TypeTree.{TypeTree}
use Rattle.bj_expr_tree.specs.declared.expr.LiteralKind.{LiteralKind}
use Rattle.bj_expr_tree.specs.declared.expr.LiteralKind.TheVariants as literals
use Rattle.bj_expr_tree.specs.declared.expr.UnaryOp.{UnaryOp}
use Rattle.bj_expr_tree.specs.declared.expr.UnaryOp.TheVariants as unaries
use Rattle.bj_expr_tree.specs.declared.expr.AssignOp.{AssignOp}
use Rattle.bj_expr_tree.specs.declared.expr.AssignOp.TheVariants as assignments
use Rattle.bj_expr_tree.specs.declared.expr.StepOp.{StepOp}
use Rattle.bj_expr_tree.specs.declared.expr.StepOp.TheVariants as steps
use Rattle.bj_expr_tree.specs.declared.expr.BinaryOp.{BinaryOp}
use Rattle.bj_expr_tree.specs.declared.expr.BinaryOp.TheVariants as binaries
use Rattle.bj_expr_tree.specs.declared.expr.ExprTree.{ExprTree, NewArray'}
use Rattle.bj_expr_tree.specs.declared.expr.ExprTree.TheVariants as e
use Rattle.bj_grammar.specs.declared.terminal.Terminal.{Terminal}
use Rattle.bj_grammar.specs.declared.terminal.Terminal.TheVariants as t
use Rattle.bj_grammar.specs.Terminal.{terminal, among}
use Rattle.bj_grammar.specs.Reader.{Text}

-- ---- the operators

-- those with two operands, from the ones that bind tightest [JLS 15.17 to 15.24]
abbrev pub ops : ℕ → List Terminal
ops zero = t.Times ∷ t.Slash ∷ t.Percent ∷ []
ops (suc zero) = t.Plus ∷ t.Minus ∷ []
ops (suc (suc zero)) = t.ShiftLeft ∷ t.ShiftRight ∷ t.ShiftZero ∷ []
ops (suc (suc (suc zero))) = t.Less ∷ t.AtMost ∷ t.Greater ∷ t.AtLeast ∷ []
ops (suc (suc (suc (suc zero)))) = t.Equal ∷ t.Unequal ∷ []
ops (suc (suc (suc (suc (suc zero))))) = t.And ∷ []
ops (suc (suc (suc (suc (suc (suc zero)))))) = t.Caret ∷ []
ops (suc (suc (suc (suc (suc (suc (suc zero))))))) = t.Or ∷ []
ops (suc (suc (suc (suc (suc (suc (suc (suc zero)))))))) = t.Both ∷ []
ops (suc (suc (suc (suc (suc (suc (suc (suc (suc zero))))))))) = t.Either ∷ []
ops _ = []

-- the rank of the relations, among which `instanceof` is [JLS 15.20]
abbrev pub is_relational : ℕ → Bool
is_relational (suc (suc (suc zero))) = true
is_relational _ = false

-- how many ranks there are
abbrev pub ranks : ℕ
ranks = 10

abbrev pub binary_op : Terminal → BinaryOp
binary_op t.Times = binaries.Mul
binary_op t.Slash = binaries.Div
binary_op t.Percent = binaries.Rem
binary_op t.Plus = binaries.Add
binary_op t.Minus = binaries.Sub
binary_op t.ShiftLeft = binaries.Shl
binary_op t.ShiftRight = binaries.Shr
binary_op t.ShiftZero = binaries.Ushr
binary_op t.Less = binaries.Less
binary_op t.AtMost = binaries.AtMost
binary_op t.Greater = binaries.Greater
binary_op t.AtLeast = binaries.AtLeast
binary_op t.Equal = binaries.Equal
binary_op t.Unequal = binaries.Unequal
binary_op t.And = binaries.And
binary_op t.Caret = binaries.Xor
binary_op t.Or = binaries.Or
binary_op t.Both = binaries.Both
binary_op _ = binaries.Either

-- the operators of assignment [JLS 15.26]
abbrev pub assigns : List Terminal
assigns = t.Assign ∷ t.TimesAssign ∷ t.SlashAssign ∷ t.PercentAssign ∷ t.PlusAssign ∷ t.MinusAssign ∷ t.LeftAssign ∷ t.RightAssign ∷ t.ZeroAssign ∷ t.AndAssign ∷ t.CaretAssign ∷ t.OrAssign ∷ []

abbrev pub assign_op : Terminal → AssignOp
assign_op t.TimesAssign = assignments.Mul
assign_op t.SlashAssign = assignments.Div
assign_op t.PercentAssign = assignments.Rem
assign_op t.PlusAssign = assignments.Add
assign_op t.MinusAssign = assignments.Sub
assign_op t.LeftAssign = assignments.Shl
assign_op t.RightAssign = assignments.Shr
assign_op t.ZeroAssign = assignments.Ushr
assign_op t.AndAssign = assignments.And
assign_op t.CaretAssign = assignments.Xor
assign_op t.OrAssign = assignments.Or
assign_op _ = assignments.Plain

-- before the operand of a unary expression that may follow a cast to a class [JLS 15.15]
abbrev pub negations : List Terminal
negations = t.Complement ∷ t.Not ∷ []

abbrev pub negation_op : Terminal → UnaryOp
negation_op t.Complement = unaries.Complement
negation_op _ = unaries.Not

-- before or after an operand [JLS 15.14, 15.15]
abbrev pub step_ops : List Terminal
step_ops = t.Increment ∷ t.Decrement ∷ []

abbrev pub step_op : Terminal → StepOp
step_op t.Increment = steps.Increment
step_op _ = steps.Decrement

-- ---- literals and types

abbrev pub literal_words : List Terminal
literal_words = t.Number ∷ t.LongNumber ∷ t.CharText ∷ t.StringText ∷ t.True ∷ t.False ∷ t.Null ∷ []

-- the numbers that stand only behind a minus [JLS 3.10.1]
abbrev pub leasts : List Terminal
leasts = t.LeastNumber ∷ t.LeastLong ∷ []

abbrev pub literal_kind : Terminal → LiteralKind
literal_kind t.Number = literals.Int
literal_kind t.LeastNumber = literals.Int
literal_kind t.LongNumber = literals.Long
literal_kind t.LeastLong = literals.Long
literal_kind t.CharText = literals.Char
literal_kind t.StringText = literals.Text
literal_kind t.True = literals.True
literal_kind t.False = literals.False
literal_kind _ = literals.Null

abbrev pub primitives : List Terminal
primitives = t.Int ∷ t.Long ∷ t.Boolean ∷ t.Char ∷ []

abbrev pub type_words : List Terminal
type_words = t.Word ∷ primitives

abbrev pub type_name : Terminal → List ℕ → TypeName
type_name t.Int text = names.Int
type_name t.Long text = names.Long
type_name t.Boolean text = names.Boolean
type_name t.Char text = names.Char
type_name _ text = names.Named text

-- one pair of brackets more; no type has more than 4294967295
abbrev pub one_more : ℕ → ℕ
one_more n = min (suc n) 4294967295

-- whether a tree is a new array of given sizes
abbrev pub is_new_array : ExprTree → Bool
is_new_array (NewArray' at holds p sizes dims) = true
is_new_array _ = false

-- pairs of brackets
pub data Dims (s : Text) : ℕ → ℕ → ℕ → Type 0 where
  no_pair : {a i j : ℕ} → a ≡ zero → j ≡ i → Dims s a i j
  pair : {a b i m j : ℕ} → Dims s b i m → terminal (s m) ≡ t.LeftBracket → terminal (s (suc m)) ≡ t.RightBracket → a ≡ one_more b → j ≡ suc (suc m) → Dims s a i j

abbrev pub type_tree : Span → Token → ℕ → TypeTree
type_tree at token n = record { at = at; name = type_name (terminal token) token.text; dims = n }

pub data TypeAt (place : ℕ → Span) (s : Text) : TypeTree → ℕ → ℕ → Type 0 where
  named : {a : TypeTree} {n i j : ℕ} → among type_words (terminal (s i)) ≡ true → Dims s n (suc i) j
      → a ≡ type_tree (place i) (s i) n → TypeAt place s a i j

abbrev pub is_plain_primitive : TypeName → ℕ → Bool
is_plain_primitive (names.Named text) dims = false
is_plain_primitive _ zero = true
is_plain_primitive _ (suc n) = false

-- whether a type is one before whose operand a sign may stand in a cast [JLS 15.16]
abbrev pub is_primitive : TypeTree → Bool
is_primitive ty = is_plain_primitive ty.name ty.dims

mutual
  -- an expression: an assignment groups from the right, and its left side is a unary expression [JLS 15.26]
  pub data Expression (place : ℕ → Span) (s : Text) : ExprTree → ℕ → ℕ → Type 0 where
    value : {a : ExprTree} {i j : ℕ} → Conditional place s a i j → Expression place s a i j
    -- [JLS 15.26]
    assign : {a : ExprTree} {l : ExprTree} {r : ExprTree} {i m j : ℕ} → Unary place s l i m → among assigns (terminal (s m)) ≡ true → Expression place s r (suc m) j → a ≡ e.Assign (place i) (assign_op (terminal (s m))) l r → Expression place s a i j

  pub data Conditional (place : ℕ → Span) (s : Text) : ExprTree → ℕ → ℕ → Type 0 where
    ranked : {a : ExprTree} {i j : ℕ} → Level place s ranks a i j → Conditional place s a i j
    -- [JLS 15.25]
    conditional : {a : ExprTree} {x : ExprTree} {y : ExprTree} {z : ExprTree} {i m n j : ℕ} → Level place s ranks x i m → terminal (s m) ≡ t.Question → Expression place s y (suc m) n → terminal (s n) ≡ t.Colon → Conditional place s z (suc n) j → a ≡ e.Conditional (place i) x y z → Conditional place s a i j

  -- rank 0 is a unary expression, and each rank above has the operators of one more rank, from the left
  pub data Level (place : ℕ → Span) (s : Text) : ℕ → ExprTree → ℕ → ℕ → Type 0 where
    unary : {a : ExprTree} {i j : ℕ} → Unary place s a i j → Level place s zero a i j
    tighter : {h : ℕ} {a : ExprTree} {i j : ℕ} → Level place s h a i j → Level place s (suc h) a i j
    binary : {h : ℕ} {a l r : ExprTree} {i m j : ℕ} → Level place s (suc h) l i m → among (ops h) (terminal (s m)) ≡ true → Level place s h r (suc m) j
        → a ≡ e.Binary (place i) (binary_op (terminal (s m))) l r → Level place s (suc h) a i j
    -- [JLS 15.20.2]
    instance : {h : ℕ} {a l : ExprTree} {ty : TypeTree} {i m j : ℕ} → Level place s (suc h) l i m → is_relational h ≡ true → terminal (s m) ≡ t.InstanceOf → TypeAt place s ty (suc m) j
        → a ≡ e.InstanceOf (place i) l ty → Level place s (suc h) a i j

  pub data Unary (place : ℕ → Span) (s : Text) : ExprTree → ℕ → ℕ → Type 0 where
    -- [JLS 15.15.4]
    minus : {a : ExprTree} {x : ExprTree} {i j : ℕ} → terminal (s i) ≡ t.Minus → Unary place s x (suc i) j → a ≡ e.Unary (place i) unaries.Minus x → Unary place s a i j
    -- the least number of its type [JLS 3.10.1]
    least : {a : ExprTree} {i j : ℕ} → terminal (s i) ≡ t.Minus → among leasts (terminal (s (suc i))) ≡ true → a ≡ e.Unary (place i) unaries.Minus (e.Literal (place (suc i)) (literal_kind (terminal (s (suc i)))) (s (suc i)).text) → j ≡ suc (suc i) → Unary place s a i j
    -- [JLS 15.15.3]
    plus : {a : ExprTree} {x : ExprTree} {i j : ℕ} → terminal (s i) ≡ t.Plus → Unary place s x (suc i) j → a ≡ e.Unary (place i) unaries.Plus x → Unary place s a i j
    -- [JLS 15.15.1, 15.15.2]
    prefix : {a : ExprTree} {x : ExprTree} {i j : ℕ} → among step_ops (terminal (s i)) ≡ true → Unary place s x (suc i) j → a ≡ e.Prefix (place i) (step_op (terminal (s i))) x → Unary place s a i j
    plain : {a : ExprTree} {i j : ℕ} → Plain place s a i j → Unary place s a i j

  -- a unary expression that does not begin with `+`, `-`, `++` or `--` [JLS 15.15]
  pub data Plain (place : ℕ → Span) (s : Text) : ExprTree → ℕ → ℕ → Type 0 where
    -- [JLS 15.15.5, 15.15.6]
    negation : {a : ExprTree} {x : ExprTree} {i j : ℕ} → among negations (terminal (s i)) ≡ true → Unary place s x (suc i) j → a ≡ e.Unary (place i) (negation_op (terminal (s i))) x → Plain place s a i j
    -- [JLS 15.16]
    cast_primitive : {a : ExprTree} {ty : TypeTree} {x : ExprTree} {i m j : ℕ} → terminal (s i) ≡ t.LeftParen → TypeAt place s ty (suc i) m → terminal (s m) ≡ t.RightParen → is_primitive ty ≡ true → Unary place s x (suc m) j → a ≡ e.Cast (place i) ty x → Plain place s a i j
    cast_reference : {a : ExprTree} {ty : TypeTree} {x : ExprTree} {i m j : ℕ} → terminal (s i) ≡ t.LeftParen → TypeAt place s ty (suc i) m → terminal (s m) ≡ t.RightParen → is_primitive ty ≡ false → Plain place s x (suc m) j → a ≡ e.Cast (place i) ty x → Plain place s a i j
    postfix : {a : ExprTree} {i j : ℕ} → Postfix place s a i j → Plain place s a i j

  pub data Postfix (place : ℕ → Span) (s : Text) : ExprTree → ℕ → ℕ → Type 0 where
    selected : {a : ExprTree} {i j : ℕ} → Selected place s a i j → Postfix place s a i j
    -- [JLS 15.14.2, 15.14.3]
    step : {a : ExprTree} {x : ExprTree} {i m j : ℕ} → Postfix place s x i m → among step_ops (terminal (s m)) ≡ true → a ≡ e.Postfix (place i) (step_op (terminal (s m))) x → j ≡ suc m → Postfix place s a i j

  -- a primary expression and what is selected from it [JLS 15.8]
  pub data Selected (place : ℕ → Span) (s : Text) : ExprTree → ℕ → ℕ → Type 0 where
    primary : {a : ExprTree} {i j : ℕ} → Primary place s a i j → Selected place s a i j
    -- [JLS 15.11.1]
    field : {a : ExprTree} {x : ExprTree} {i m j : ℕ} → Selected place s x i m → terminal (s m) ≡ t.Dot → terminal (s (suc m)) ≡ t.Word → a ≡ e.Field (place i) x (s (suc m)).text → j ≡ suc (suc m) → Selected place s a i j
    -- [JLS 15.12]
    method_call : {a : ExprTree} {x : ExprTree} {args : List ExprTree} {i m n j : ℕ} → Selected place s x i m → terminal (s m) ≡ t.Dot → terminal (s (suc m)) ≡ t.Word → terminal (s (suc (suc m))) ≡ t.LeftParen → Args place s args (suc (suc (suc m))) n → terminal (s n) ≡ t.RightParen → a ≡ e.MethodCall (place i) x (s (suc m)).text args → j ≡ suc n → Selected place s a i j
    -- not of a new array without values, whose brackets are its dimensions [JLS 15.10.3]
    index : {a : ExprTree} {x : ExprTree} {y : ExprTree} {i m n j : ℕ} → Selected place s x i m → is_new_array x ≡ false → terminal (s m) ≡ t.LeftBracket → Expression place s y (suc m) n → terminal (s n) ≡ t.RightBracket → a ≡ e.Index (place i) x y → j ≡ suc n → Selected place s a i j

  pub data Primary (place : ℕ → Span) (s : Text) : ExprTree → ℕ → ℕ → Type 0 where
    -- [JLS 15.8.1]
    literal : {a : ExprTree} {i j : ℕ} → among literal_words (terminal (s i)) ≡ true → a ≡ e.Literal (place i) (literal_kind (terminal (s i))) (s i).text → j ≡ suc i → Primary place s a i j
    -- [JLS 15.8.3]
    this : {a : ExprTree} {i j : ℕ} → terminal (s i) ≡ t.This → a ≡ e.This (place i) → j ≡ suc i → Primary place s a i j
    -- [JLS 15.8.5]
    paren : {a : ExprTree} {x : ExprTree} {i m j : ℕ} → terminal (s i) ≡ t.LeftParen → Expression place s x (suc i) m → terminal (s m) ≡ t.RightParen → a ≡ e.Paren (place i) x → j ≡ suc m → Primary place s a i j
    -- [JLS 6.5]
    name : {a : ExprTree} {i j : ℕ} → terminal (s i) ≡ t.Word → a ≡ e.Name (place i) (s i).text → j ≡ suc i → Primary place s a i j
    -- [JLS 15.12]
    call : {a : ExprTree} {args : List ExprTree} {i m j : ℕ} → terminal (s i) ≡ t.Word → terminal (s (suc i)) ≡ t.LeftParen → Args place s args (suc (suc i)) m → terminal (s m) ≡ t.RightParen → a ≡ e.Call (place i) (s i).text args → j ≡ suc m → Primary place s a i j
    -- [JLS 15.11.2]
    super_field : {a : ExprTree} {i j : ℕ} → terminal (s i) ≡ t.Super → terminal (s (suc i)) ≡ t.Dot → terminal (s (suc (suc i))) ≡ t.Word → a ≡ e.SuperField (place i) (s (suc (suc i))).text → j ≡ suc (suc (suc i)) → Primary place s a i j
    -- [JLS 15.12]
    super_call : {a : ExprTree} {args : List ExprTree} {i m j : ℕ} → terminal (s i) ≡ t.Super → terminal (s (suc i)) ≡ t.Dot → terminal (s (suc (suc i))) ≡ t.Word → terminal (s (suc (suc (suc i)))) ≡ t.LeftParen → Args place s args (suc (suc (suc (suc i)))) m → terminal (s m) ≡ t.RightParen → a ≡ e.SuperCall (place i) (s (suc (suc i))).text args → j ≡ suc m → Primary place s a i j
    -- [JLS 15.9]
    create : {a : ExprTree} {args : List ExprTree} {i m j : ℕ} → terminal (s i) ≡ t.New → terminal (s (suc i)) ≡ t.Word → terminal (s (suc (suc i))) ≡ t.LeftParen → Args place s args (suc (suc (suc i))) m → terminal (s m) ≡ t.RightParen → a ≡ e.New (place i) (s (suc i)).text args → j ≡ suc m → Primary place s a i j
    -- [JLS 15.10.1]
    new_array : {a : ExprTree} {sizes : List ExprTree} {n i m j : ℕ} → terminal (s i) ≡ t.New → among type_words (terminal (s (suc i))) ≡ true → Sizes place s sizes (suc (suc i)) m → Dims s n m j
        → a ≡ e.NewArray (place i) (type_tree (place (suc i)) (s (suc i)) 0) sizes n → Primary place s a i j
    new_values : {a : ExprTree} {values : List ExprTree} {n i m j : ℕ} → terminal (s i) ≡ t.New → among type_words (terminal (s (suc i))) ≡ true → Dims s n (suc (suc i)) m → Values place s values m j
        → a ≡ e.NewValues (place i) (type_tree (place (suc i)) (s (suc i)) n) values → Primary place s a i j

  -- the sizes of a new array, one in each pair of brackets [JLS 15.10.1]
  pub data Sizes (place : ℕ → Span) (s : Text) : List ExprTree → ℕ → ℕ → Type 0 where
    size : {a : List ExprTree} {x : ExprTree} {i m j : ℕ} → terminal (s i) ≡ t.LeftBracket → Expression place s x (suc i) m → terminal (s m) ≡ t.RightBracket → a ≡ x ∷ [] → j ≡ suc m → Sizes place s a i j
    next_size : {a : List ExprTree} {b : List ExprTree} {x : ExprTree} {i m n j : ℕ} → Sizes place s b i m → terminal (s m) ≡ t.LeftBracket → Expression place s x (suc m) n → terminal (s n) ≡ t.RightBracket
        → a ≡ b ++ x ∷ [] → j ≡ suc n → Sizes place s a i j

  -- values in braces, with a comma behind the last one or without [JLS 10.6]
  pub data Values (place : ℕ → Span) (s : Text) : List ExprTree → ℕ → ℕ → Type 0 where
    no_values : {a : List ExprTree} {i j : ℕ} → terminal (s i) ≡ t.LeftBrace → terminal (s (suc i)) ≡ t.RightBrace → a ≡ [] → j ≡ suc (suc i) → Values place s a i j
    only_comma : {a : List ExprTree} {i j : ℕ} → terminal (s i) ≡ t.LeftBrace → terminal (s (suc i)) ≡ t.Comma → terminal (s (suc (suc i))) ≡ t.RightBrace → a ≡ [] → j ≡ suc (suc (suc i)) → Values place s a i j
    values : {a : List ExprTree} {i m j : ℕ} → terminal (s i) ≡ t.LeftBrace → Initializers place s a (suc i) m → terminal (s m) ≡ t.RightBrace → j ≡ suc m → Values place s a i j
    values_comma : {a : List ExprTree} {i m j : ℕ} → terminal (s i) ≡ t.LeftBrace → Initializers place s a (suc i) m → terminal (s m) ≡ t.Comma → terminal (s (suc m)) ≡ t.RightBrace → j ≡ suc (suc m) → Values place s a i j

  -- initializers with commas between them
  pub data Initializers (place : ℕ → Span) (s : Text) : List ExprTree → ℕ → ℕ → Type 0 where
    first : {a : List ExprTree} {x : ExprTree} {i j : ℕ} → Initializer place s x i j → a ≡ x ∷ [] → Initializers place s a i j
    next : {a : List ExprTree} {b : List ExprTree} {x : ExprTree} {i m j : ℕ} → Initializers place s b i m → terminal (s m) ≡ t.Comma → Initializer place s x (suc m) j → a ≡ b ++ x ∷ [] → Initializers place s a i j

  -- what a variable is given at its declaration: an expression, or values in braces [JLS 8.3, 10.6]
  pub data Initializer (place : ℕ → Span) (s : Text) : ExprTree → ℕ → ℕ → Type 0 where
    expression : {a : ExprTree} {i j : ℕ} → Expression place s a i j → Initializer place s a i j
    braces : {a : ExprTree} {all : List ExprTree} {i j : ℕ} → Values place s all i j → a ≡ e.Braces (place i) all → Initializer place s a i j

  -- arguments, which may be none
  pub data Args (place : ℕ → Span) (s : Text) : List ExprTree → ℕ → ℕ → Type 0 where
    none : {a : List ExprTree} {i j : ℕ} → a ≡ [] → j ≡ i → Args place s a i j
    some : {a : List ExprTree} {i j : ℕ} → Exprs place s a i j → Args place s a i j

  -- expressions with commas between them
  pub data Exprs (place : ℕ → Span) (s : Text) : List ExprTree → ℕ → ℕ → Type 0 where
    one : {a : List ExprTree} {x : ExprTree} {i j : ℕ} → Expression place s x i j → a ≡ x ∷ [] → Exprs place s a i j
    comma : {a : List ExprTree} {b : List ExprTree} {x : ExprTree} {i m j : ℕ} → Exprs place s b i m → terminal (s m) ≡ t.Comma → Expression place s x (suc m) j → a ≡ b ++ x ∷ [] → Exprs place s a i j
