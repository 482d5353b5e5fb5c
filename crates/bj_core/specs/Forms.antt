-- The kinds of expressions: what the functions that copy the expressions of one kind are given.
use Rattle.bj_core.specs.declared.tree.Expr.{Expr}
use Rattle.bj_core.specs.declared.tree.Expr.TheOpen.{Expr-F}

-- an operator of `int`s, a field or an assignment to one
abbrev pub IsOperation : Expr-F Expr → Type 0
IsOperation (Expr-F.IntNegate at operand) = Unit {0}
IsOperation (Expr-F.IntBinary at op left right) = Unit {0}
IsOperation (Expr-F.Field at object slot) = Unit {0}
IsOperation (Expr-F.SetField at object slot value) = Unit {0}
IsOperation form = ⊥

-- a new object or a call
abbrev pub IsCall : Expr-F Expr → Type 0
IsCall (Expr-F.New at class constructor args) = Unit {0}
IsCall (Expr-F.Virtual at object class method args) = Unit {0}
IsCall form = ⊥
