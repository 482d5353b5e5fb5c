-- The kinds of forms of expressions: what the functions that copy or count those of one kind are given.
use Rattle.bj_expr_tree.specs.declared.expr.ExprTree.{ExprTree}
use Rattle.bj_expr_tree.specs.declared.expr.ExprTree.TheOpen.{ExprTree-F}

-- a literal, `this`, parentheses, a name or a field
abbrev pub IsPrimary : ExprTree-F ExprTree → Type 0
IsPrimary (ExprTree-F.Literal at kind text) = Unit {0}
IsPrimary (ExprTree-F.This at) = Unit {0}
IsPrimary (ExprTree-F.Paren at inner) = Unit {0}
IsPrimary (ExprTree-F.Name at name) = Unit {0}
IsPrimary (ExprTree-F.Field at target name) = Unit {0}
IsPrimary (ExprTree-F.SuperField at name) = Unit {0}
IsPrimary form = ⊥

-- a call of a method
abbrev pub IsCall : ExprTree-F ExprTree → Type 0
IsCall (ExprTree-F.Call at name args) = Unit {0}
IsCall (ExprTree-F.MethodCall at target name args) = Unit {0}
IsCall (ExprTree-F.SuperCall at name args) = Unit {0}
IsCall form = ⊥

-- a new object or array, or values in braces
abbrev pub IsCreation : ExprTree-F ExprTree → Type 0
IsCreation (ExprTree-F.New at class args) = Unit {0}
IsCreation (ExprTree-F.NewArray at holds sizes dims) = Unit {0}
IsCreation (ExprTree-F.NewValues at holds values) = Unit {0}
IsCreation (ExprTree-F.Braces at values) = Unit {0}
IsCreation form = ⊥

-- an operator with one operand that is an expression
abbrev pub IsUnary : ExprTree-F ExprTree → Type 0
IsUnary (ExprTree-F.Postfix at op operand) = Unit {0}
IsUnary (ExprTree-F.Prefix at op operand) = Unit {0}
IsUnary (ExprTree-F.Unary at op operand) = Unit {0}
IsUnary (ExprTree-F.Cast at to operand) = Unit {0}
IsUnary (ExprTree-F.InstanceOf at value holds) = Unit {0}
IsUnary form = ⊥

-- an operator between two operands, or an element of an array
abbrev pub IsBinary : ExprTree-F ExprTree → Type 0
IsBinary (ExprTree-F.Index at array index) = Unit {0}
IsBinary (ExprTree-F.Binary at op left right) = Unit {0}
IsBinary form = ⊥

-- an operator that binds the loosest
abbrev pub IsLoosest : ExprTree-F ExprTree → Type 0
IsLoosest (ExprTree-F.Conditional at test chosen other) = Unit {0}
IsLoosest (ExprTree-F.Assign at op target value) = Unit {0}
IsLoosest form = ⊥
