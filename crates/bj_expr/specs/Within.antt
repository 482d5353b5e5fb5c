-- What stands where as a part, what may follow it, and what reading it promises.
use Rattle.std.specs.Prelude.{ℕ}
use Rattle.bj_base.specs.declared.span.Span.{Span}
use Rattle.bj_expr_tree.specs.declared.expr.ExprTree.{ExprTree}
use Rattle.bj_expr.specs.declared.part.Part.{Part}
use Rattle.bj_expr.specs.declared.part.Part.TheVariants as part
use Rattle.bj_grammar.specs.Reader.{Text}
use Rattle.bj_expr.specs.Grammar.{Expression, Conditional, Level, Unary, Plain, Initializer}

-- the part stands in the text from a place up to another
abbrev pub Stands : Part → (ℕ → Span) → Text → ExprTree → ℕ → ℕ → Type 0
Stands part.Expression place s a i j = Expression place s a i j
Stands part.Conditional place s a i j = Conditional place s a i j
Stands (part.Operand h) place s a i j = Level place s h a i j
Stands part.Unary place s a i j = Unary place s a i j
Stands part.Plain place s a i j = Plain place s a i j
Stands part.Initializer place s a i j = Initializer place s a i j
