-- The forms of the core tree, without the boxes.
use Rattle.std.specs.Prelude.{ℕ}
use Rattle.bj_base.specs.declared.span.Span.{Span}
use Rattle.bj_base.specs.declared.op.Op.{Op}
use Rattle.bj_core.specs.declared.tree.Expr.{Expr, end_of-Expr, more_of-Expr}
use Rattle.bj_core.specs.declared.tree.Expr.TheVariants.{IntNegate', IntBinary', Field', SetField'}

pattern abbrev pub Negate : Span → Expr → Expr
Negate at a = IntNegate' at tt (more_of-Expr a end_of-Expr)

pattern abbrev pub Binary : Span → Op → Expr → Expr → Expr
Binary at op a b = IntBinary' at op tt (more_of-Expr a end_of-Expr) tt (more_of-Expr b end_of-Expr)

pattern abbrev pub Read : Span → Expr → ℕ → Expr
Read at a slot = Field' at tt (more_of-Expr a end_of-Expr) slot

pattern abbrev pub Assign : Span → Expr → ℕ → Expr → Expr
Assign at a slot b = SetField' at tt (more_of-Expr a end_of-Expr) slot tt (more_of-Expr b end_of-Expr)
