-- An operand stack.
use Rattle.std.specs.Prelude.{ℕ, List}
use Rattle.bj_core.specs.declared.types.Val.{Val}

-- the operands, the topmost first, and how many there may be
pub record Stack : Type 0 where
  pub values : List Val
  pub room : ℕ
