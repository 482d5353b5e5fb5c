-- The value of an expression of `int` constants, unary minus and operators.
use Rattle.std.specs.Prelude.{ℤ, Option, Some, None}
use Rattle.bj_core.specs.declared.types.Const.{Const}
use Rattle.bj_core.specs.declared.types.Const.TheVariants as k
use Rattle.bj_base.specs.declared.op.Op.{Op}
use Rattle.bj_core.specs.declared.tree.Expr.{Expr}
use Rattle.bj_core.specs.declared.tree.Expr.TheVariants as e
use Rattle.bj_text.specs.Arith.{int_result, int_negated}
use Rattle.bj_eval.specs.Forms.{Negate, Binary}

abbrev pub constant_of : Const → Option ℤ
constant_of (k.Int n) = Some n
constant_of c = None

abbrev pub minus : Option ℤ → Option ℤ
minus (Some n) = Some (int_negated n)
minus None = None

abbrev pub both : Op → Option ℤ → Option ℤ → Option ℤ
both op (Some a) (Some b) = int_result op a b
both op (Some a) None = None
both op None b = None

-- [JLS 15.15.4, 15.17, 15.18.2, 15.19, 15.22.1]
abbrev pub value_of : Expr → Option ℤ
value_of (e.Const at value) = constant_of value
value_of (Negate at a) = minus (value_of a)
value_of (Binary at op a b) = both op (value_of a) (value_of b)
value_of node = None
