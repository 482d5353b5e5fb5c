-- What a statement does: a step point where it starts, and then one case a form.
use Rattle.std.specs.Prelude.{Option, Some, None}
use Rattle.bj_base.specs.declared.span.Span.{Span}
use Rattle.bj_core.specs.declared.tree.Expr.{Expr}
use Rattle.bj_core.specs.declared.tree.Stmt.{Stmt, Row_of-Stmt, end_of-Stmt, more_of-Stmt}
use Rattle.bj_core.specs.declared.tree.Stmt.TheVariants.{Block', Expression, Return}
use Rattle.bj_eval.specs.Evaluation.{Context, Fine, Returns, Went, On, on_value, on_fine, at_point, line_in}
use Rattle.bj_eval.specs.Expressions.{expr}

-- a statement other than a block starts with a step point
abbrev pub starting : Context → Span → On → On
starting c at f s xs = at_point c (line_in c.invocation.class at) f s xs

-- an expression whose value is dropped [JLS 14.8]
abbrev pub evaluated : Context → Expr → On
evaluated c e s xs = on_value (expr c e s xs) (λ v. Went Fine)

-- `return` [JLS 14.17]
abbrev pub returned : Context → Option Expr → On
returned c (Some e) s xs = on_value (expr c e s xs) (λ v. Went (Returns (Some v)))
returned c None s xs = Went (Returns None) s xs

abbrev mutual
  pub stmt : Context → Stmt → On
  stmt c (Block' at shape row) = stmts c row
  stmt c (Expression at e) = starting c at (evaluated c e)
  stmt c (Return at value) = starting c at (returned c value)

  -- one after another, while they complete normally [JLS 14.2]
  pub stmts : {n : _} → Context → Row_of-Stmt n → On
  stmts c end_of-Stmt s xs = Went Fine s xs
  stmts c (more_of-Stmt st rest) s xs = on_fine (stmt c st s xs) (stmts c rest)
