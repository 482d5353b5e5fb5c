-- The terms of console lines that name `Cell`: each is an expression with a value. A name stands for its slot in the
-- term's scope.
use Rattle.std.specs.Prelude.{ℕ, [], ◌∷◌, Some}
use Rattle.bj_base.specs.declared.span.Span.{Span}
use Rattle.bj_core.specs.declared.tree.Expr.{Expr}
use Rattle.bj_core.specs.declared.tree.Expr.TheVariants as e
use Rattle.bj_core.specs.declared.tree.Stmt.{Stmt}
use Rattle.bj_core.specs.declared.tree.Stmt.TheVariants.{Return}

-- `new Cell(x)`
abbrev pub new_cell : Span → Expr → Stmt
new_cell at x = Return at (Some (e.New at 5 0 (x ∷ [])))

-- `c.add(x)`
abbrev pub call_add : Span → ℕ → Expr → Stmt
call_add at c x = Return at (Some (e.Virtual at (e.Local at c) 5 1 (x ∷ [])))

-- `c.get()`
abbrev pub call_get : Span → ℕ → Stmt
call_get at c = Return at (Some (e.Virtual at (e.Local at c) 5 2 []))
