-- A form as it is built is the form as it is matched.
use Rattle.std.specs.Prelude.{◌≡◌, ℕ, refl}
use Rattle.bj_base.specs.declared.span.Span.{Span}
use Rattle.bj_base.specs.declared.op.Op.{Op}
use Rattle.bj_core.specs.declared.tree.Expr.{Expr}
use Rattle.bj_core.specs.declared.tree.Expr.TheVariants.{IntNegate, IntBinary, Field, SetField}
use Rattle.bj_core.specs.declared.tree.Expr.TheBlock.{shape-the_row-Expr-0, hidden-the_row-Expr-0}
use Rattle.bj_eval.specs.Forms.{Negate, Binary, Read, Assign}

pub IntNegate_is : (at : Span) (a : Expr) → IntNegate at a ≡ Negate at a
unfolding shape-the_row-Expr-0 hidden-the_row-Expr-0 denote.Hole.Carrier.hidden
IntNegate_is at a = refl

pub IntBinary_is : (at : Span) (op : Op) (a b : Expr) → IntBinary at op a b ≡ Binary at op a b
unfolding shape-the_row-Expr-0 hidden-the_row-Expr-0 denote.Hole.Carrier.hidden
IntBinary_is at op a b = refl

pub Field_is : (at : Span) (a : Expr) (slot : ℕ) → Field at a slot ≡ Read at a slot
unfolding shape-the_row-Expr-0 hidden-the_row-Expr-0 denote.Hole.Carrier.hidden
Field_is at a slot = refl

pub SetField_is : (at : Span) (a : Expr) (slot : ℕ) (b : Expr) → SetField at a slot b ≡ Assign at a slot b
unfolding shape-the_row-Expr-0 hidden-the_row-Expr-0 denote.Hole.Carrier.hidden
SetField_is at a slot b = refl
