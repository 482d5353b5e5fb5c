-- The reader of expressions, as a function on texts.
use Rattle.std.specs.Prelude.{ℕ, zero, suc, Bool, true, false, ◌&&◌, ◌||◌, if◌then◌else◌, List, [], ◌∷◌, ◌++◌}
use Rattle.bj_base.specs.declared.span.Span.{Span}
use Rattle.bj_expr_tree.specs.declared.types.TypeTree.{TypeTree}
use Rattle.bj_expr_tree.specs.declared.expr.UnaryOp.TheVariants as unaries
use Rattle.bj_token.specs.declared.token.Token.{Token}
use Rattle.bj_expr_tree.specs.declared.expr.ExprTree.{ExprTree, Binary', InstanceOf', Conditional', Assign'}
use Rattle.bj_expr_tree.specs.declared.expr.ExprTree.TheVariants as e
use Rattle.bj_expr.specs.declared.bounds.Bounds.{Bounds}
use Rattle.bj_expr.specs.declared.part.Part.{Part}
use Rattle.bj_expr.specs.declared.part.Part.TheVariants as part
use Rattle.bj_grammar.specs.declared.terminal.Terminal.{Terminal}
use Rattle.bj_grammar.specs.declared.terminal.Terminal.TheVariants as t
use Rattle.bj_grammar.specs.Terminal.{terminal, same_terminal, among}
use Rattle.bj_grammar.specs.Reader.{Text, Parser, ◌>>=◌, pure, over, unless_deep, nowhere, here, operator, word, sign, ahead, choose, loop}
use Rattle.bj_expr.specs.Nodes.{nodes_at, first}
use Rattle.bj_expr.specs.Grammar.{ops, is_relational, ranks, binary_op, assigns, assign_op, negations, negation_op, step_ops, step_op, literal_words, leasts, literal_kind, primitives, type_words, type_tree, is_new_array, one_more, is_primitive}

abbrev pub is : Terminal → Terminal → Bool
is k = λ x. same_terminal x k

-- the tokens that begin the operand of a cast to a class [JLS 15.16]
abbrev pub begins_plain : List Terminal
begins_plain = t.Number ∷ t.LongNumber ∷ t.CharText ∷ t.StringText ∷ t.True ∷ t.False ∷ t.Null ∷ t.This ∷ t.LeftParen ∷ t.Word ∷ t.Super ∷ t.New ∷ t.Complement ∷ t.Not ∷ []

abbrev pub selectors : List Terminal
selectors = t.Dot ∷ t.LeftBracket ∷ []

-- whether a token goes on with an operator of the rank
abbrev pub goes_on : ℕ → Terminal → Bool
goes_on h x = (is_relational h && same_terminal x t.InstanceOf) || among (ops h) x

-- a cast stands where a type in parentheses does, if what follows it may be its operand [JLS 15.16]
abbrev pub is_cast : Text → ℕ → Bool
is_cast s i = same_terminal (terminal (s i)) t.LeftParen && (among primitives (terminal (s (suc i)))
    || (same_terminal (terminal (s (suc i))) t.Word
    && ((same_terminal (terminal (s (suc (suc i)))) t.RightParen && among begins_plain (terminal (s (suc (suc (suc i))))))
    || (same_terminal (terminal (s (suc (suc i)))) t.LeftBracket && same_terminal (terminal (s (suc (suc (suc i))))) t.RightBracket))))

-- whether the root of a tree is no operator of lower rank than the unary ones
abbrev pub is_unary : ExprTree → Bool
is_unary (Binary' at op p x q y) = false
is_unary (InstanceOf' at p x ty) = false
is_unary (Conditional' at p x q y r z) = false
is_unary (Assign' at op p x q y) = false
is_unary _ = true

abbrev pub operand_part : TypeTree → Part
operand_part ty = if is_primitive ty then part.Unary else part.Plain

-- An operand that a node will stand above, which has no node with so many above it.
unfoldable pub limited : ℕ → ExprTree → Parser ExprTree
limited room a = unless_deep (first (nodes_at a room)) (pure a)

-- a pair of brackets, after some
unfoldable pub pair : ℕ → Parser ℕ
pair n = sign t.LeftBracket (sign t.RightBracket (pure (one_more n)))

-- the pairs of brackets behind so many
unfoldable pub pairs : ℕ → ℕ → Parser ℕ
pairs most n = loop most (is t.LeftBracket) pair n

module _ (place : ℕ → Span) (most : ℕ) where
  unfoldable pub dims : Parser ℕ
  dims = pairs most zero

  unfoldable pub type_at : Parser TypeTree
  type_at = here (λ i. operator (among type_words) (λ v. dims >>= λ n. pure (type_tree (place i) v n)))

-- The rules, given where each token stands, the bounds, in which the room is that below the part, and the readers of nested parts.
module _ (place : ℕ → Span) (bounds : Bounds) (nested : Part → Parser ExprTree) where
  unfoldable pub comma : List ExprTree → Parser (List ExprTree)
  comma b = sign t.Comma (nested part.Expression >>= λ x. pure (b ++ x ∷ []))

  unfoldable pub exprs : Parser (List ExprTree)
  exprs = (nested part.Expression >>= λ x. pure (x ∷ [])) >>= loop bounds.most (is t.Comma) comma

  unfoldable pub args : Parser (List ExprTree)
  args = choose (is t.RightParen) (pure []) exprs

  -- arguments in parentheses
  unfoldable pub arguments : Parser (List ExprTree)
  arguments = sign t.LeftParen (args >>= λ all. sign t.RightParen (pure all))

  unfoldable pub named : ℕ → List ℕ → Parser ExprTree
  named i v = choose (is t.LeftParen) (arguments >>= λ all. pure (e.Call (place i) v all)) (pure (e.Name (place i) v))

  unfoldable pub of_super : ℕ → List ℕ → Parser ExprTree
  of_super i v = choose (is t.LeftParen) (arguments >>= λ all. pure (e.SuperCall (place i) v all)) (pure (e.SuperField (place i) v))

  -- the values behind some, up to the closing brace; a comma may stand before it
  unfoldable pub more_values : ℕ → List ExprTree → Parser (List ExprTree)
  more_values zero b = choose (is t.Comma) (over (λ _. nowhere)) (pure b)
  more_values (suc n) b = choose (is t.Comma) (sign t.Comma (choose (is t.RightBrace) (pure b) (nested part.Initializer >>= λ x. more_values n (b ++ x ∷ [])))) (pure b)

  unfoldable pub inside_braces : Parser (List ExprTree)
  inside_braces = choose (is t.RightBrace) (pure []) (choose (is t.Comma) (sign t.Comma (pure [])) (nested part.Initializer >>= λ x. more_values bounds.most (x ∷ [])))

  unfoldable pub values : Parser (List ExprTree)
  values = sign t.LeftBrace (inside_braces >>= λ all. sign t.RightBrace (pure all))

  unfoldable pub valued : ℕ → ℕ → Token → ℕ → Parser ExprTree
  valued i m v n = values >>= λ all. pure (e.NewValues (place i) (type_tree (place m) v n) all)

  -- the sizes behind some, and how many pairs without a size follow them
  unfoldable pub more_sizes : ℕ → List ExprTree → Parser (List ExprTree × ℕ)
  more_sizes zero b = choose (is t.LeftBracket) (over (λ _. nowhere)) (pure (b, 0))
  more_sizes (suc n) b = choose (is t.LeftBracket) (sign t.LeftBracket (choose (is t.RightBracket) (sign t.RightBracket (pairs bounds.most 1 >>= λ d. pure (b, d)))
      (nested part.Expression >>= λ x. sign t.RightBracket (more_sizes n (b ++ x ∷ []))))) (pure (b, 0))

  unfoldable pub sized : ℕ → ℕ → Token → Parser ExprTree
  sized i m v = nested part.Expression >>= λ x. sign t.RightBracket (more_sizes bounds.most (x ∷ []) >>= λ d. pure (e.NewArray (place i) (type_tree (place m) v 0) d.0 d.1))

  unfoldable pub unsized : ℕ → ℕ → Token → Parser ExprTree
  unsized i m v = sign t.RightBracket (pairs bounds.most 1 >>= λ n. valued i m v n)

  -- a new array, whose element type is the token v at m
  unfoldable pub array : ℕ → ℕ → Token → Parser ExprTree
  array i m v = choose (is t.LeftBrace) (valued i m v 0) (sign t.LeftBracket (choose (is t.RightBracket) (unsized i m v) (sized i m v)))

  unfoldable pub object : ℕ → List ℕ → Parser ExprTree
  object i class = arguments >>= λ all. pure (e.New (place i) class all)

  unfoldable pub created : ℕ → ℕ → Token → Parser ExprTree
  created i m v = if same_terminal (terminal v) t.Word then choose (is t.LeftParen) (object i v.text) (array i m v) else array i m v

  unfoldable pub creation : ℕ → Parser ExprTree
  creation i = sign t.New (here (λ m. operator (among type_words) (λ v. created i m v)))

  unfoldable pub parenthesized : ℕ → Parser ExprTree
  parenthesized i = sign t.LeftParen (nested part.Expression >>= λ x. sign t.RightParen (pure (e.Paren (place i) x)))

  unfoldable pub by_super : ℕ → Parser ExprTree
  by_super i = sign t.Super (sign t.Dot (word t.Word (of_super i)))

  unfoldable pub by_name : ℕ → Parser ExprTree
  by_name i = word t.Word (named i)

  unfoldable pub literal : ℕ → Parser ExprTree
  literal i = operator (among literal_words) (λ v. pure (e.Literal (place i) (literal_kind (terminal v)) v.text))

  unfoldable pub primary : Parser ExprTree
  primary = here (λ i. choose (among literal_words) (literal i)
      (choose (is t.This) (sign t.This (pure (e.This (place i))))
      (choose (is t.LeftParen) (parenthesized i) (choose (is t.Super) (by_super i) (choose (is t.New) (creation i) (by_name i))))))

  unfoldable pub member : ℕ → ExprTree → List ℕ → Parser ExprTree
  member i x v = choose (is t.LeftParen) (arguments >>= λ all. pure (e.MethodCall (place i) x v all)) (pure (e.Field (place i) x v))

  unfoldable pub element : ℕ → ExprTree → Parser ExprTree
  element i x = sign t.LeftBracket (limited bounds.room x >>= λ x. nested part.Expression >>= λ y. sign t.RightBracket (pure (e.Index (place i) x y)))

  unfoldable pub dotted : ℕ → ExprTree → Parser ExprTree
  dotted i x = sign t.Dot (limited bounds.room x >>= λ x. word t.Word (member i x))

  -- the brackets behind a new array of given sizes are its own
  unfoldable pub selection : ℕ → ExprTree → Parser ExprTree
  selection i x = if is_new_array x then dotted i x else choose (is t.LeftBracket) (element i x) (dotted i x)

  unfoldable pub selected : Parser ExprTree
  selected = here (λ i. primary >>= loop bounds.most (among selectors) (selection i))

  unfoldable pub postfix_step : ℕ → ExprTree → Parser ExprTree
  postfix_step i x = operator (among step_ops) (λ v. limited bounds.room x >>= λ x. pure (e.Postfix (place i) (step_op (terminal v)) x))

  unfoldable pub postfix : Parser ExprTree
  postfix = here (λ i. selected >>= loop bounds.most (among step_ops) (postfix_step i))

  unfoldable pub cast : ℕ → Parser ExprTree
  cast i = sign t.LeftParen (type_at place bounds.most >>= λ ty. sign t.RightParen (nested (operand_part ty) >>= λ x. pure (e.Cast (place i) ty x)))

  unfoldable pub negation : ℕ → Parser ExprTree
  negation i = operator (among negations) (λ v. nested part.Unary >>= λ x. pure (e.Unary (place i) (negation_op (terminal v)) x))

  unfoldable pub plain : Parser ExprTree
  plain = here (λ i. choose (among negations) (negation i)
      (ahead is_cast (cast i) postfix))

  unfoldable pub least : ℕ → Parser ExprTree
  least i = here (λ m. operator (among leasts) (λ v. limited bounds.room (e.Literal (place m) (literal_kind (terminal v)) v.text) >>= λ x. pure (e.Unary (place i) unaries.Minus x)))

  unfoldable pub negative : ℕ → Parser ExprTree
  negative i = choose (among leasts) (least i)
      (nested part.Unary >>= λ x. pure (e.Unary (place i) unaries.Minus x))

  unfoldable pub positive : ℕ → Parser ExprTree
  positive i = sign t.Plus (nested part.Unary >>= λ x. pure (e.Unary (place i) unaries.Plus x))

  unfoldable pub prefixed : ℕ → Parser ExprTree
  prefixed i = operator (among step_ops) (λ v. nested part.Unary >>= λ x. pure (e.Prefix (place i) (step_op (terminal v)) x))

  unfoldable pub unary : Parser ExprTree
  unary = here (λ i. choose (is t.Minus) (sign t.Minus (negative i)) (choose (is t.Plus) (positive i) (choose (among step_ops) (prefixed i) plain)))

  -- an operator of the rank and its right operand, after a left one
  unfoldable pub binary : ℕ → ℕ → ExprTree → Parser ExprTree
  binary h i l = operator (among (ops h)) (λ v. limited bounds.room l >>= λ l. nested (part.Operand h) >>= λ r. pure (e.Binary (place i) (binary_op (terminal v)) l r))

  unfoldable pub instance : ℕ → ExprTree → Parser ExprTree
  instance i l = sign t.InstanceOf (limited bounds.room l >>= λ l. type_at place bounds.most >>= λ ty. pure (e.InstanceOf (place i) l ty))

  unfoldable pub operation : ℕ → ℕ → ExprTree → Parser ExprTree
  operation h i l = if is_relational h then choose (is t.InstanceOf) (instance i l) (binary h i l) else binary h i l

  unfoldable pub level : ℕ → Parser ExprTree
  level zero = unary
  level (suc h) = here (λ i. level h >>= loop bounds.most (goes_on h) (operation h i))

  unfoldable pub otherwise : ℕ → ExprTree → ExprTree → Parser ExprTree
  otherwise i x y = nested part.Conditional >>= λ z. pure (e.Conditional (place i) x y z)

  unfoldable pub alternatives : ℕ → ExprTree → Parser ExprTree
  alternatives i x = sign t.Question (limited bounds.room x >>= λ x. nested part.Expression >>= λ y. sign t.Colon (otherwise i x y))

  unfoldable pub chosen : ℕ → ExprTree → Parser ExprTree
  chosen i x = choose (is t.Question) (alternatives i x) (pure x)

  unfoldable pub conditional : Parser ExprTree
  conditional = here (λ i. level ranks >>= chosen i)

  unfoldable pub assignment : ℕ → ExprTree → Parser ExprTree
  assignment i l = operator (among assigns) (λ v. limited bounds.room l >>= λ l. nested part.Expression >>= λ r. pure (e.Assign (place i) (assign_op (terminal v)) l r))

  unfoldable pub assigned : ℕ → ExprTree → Parser ExprTree
  assigned i l = if is_unary l then choose (among assigns) (assignment i l) (pure l) else pure l

  unfoldable pub expression : Parser ExprTree
  expression = here (λ i. conditional >>= assigned i)

  unfoldable pub initializer : Parser ExprTree
  initializer = here (λ i. choose (is t.LeftBrace) (values >>= λ all. pure (e.Braces (place i) all)) expression)

  unfoldable pub rule : Part → Parser ExprTree
  rule part.Expression = expression
  rule part.Conditional = conditional
  rule (part.Operand h) = level h
  rule part.Unary = unary
  rule part.Plain = plain
  rule part.Initializer = initializer

abbrev pub bounds_of : ℕ → ℕ → Bounds
bounds_of most room = record { most = most; room = room }

-- a part with no more nodes than there is room for on the way from its root to a node of it, both included
unfoldable pub nested : (ℕ → Span) → ℕ → ℕ → Part → Parser ExprTree
nested place most zero x = over place
nested place most (suc room) x = rule place (bounds_of most room) (nested place most room) x
