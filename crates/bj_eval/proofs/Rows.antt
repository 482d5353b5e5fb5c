-- What lists of statements and of arguments do: a row of the tree is its list.
use Rattle.std.proofs.Common.{◌≡◌, ℕ, List, [], ◌∷◌, refl, ap, ◌∙◌}
use Rattle.std.specs.Prelude.{map}
use Rattle.bj_base.specs.declared.span.Span.{Span}
use Rattle.bj_core.specs.declared.tree.Expr.{Expr, Row_of-Expr, end_of-Expr, more_of-Expr}
use Rattle.bj_core.specs.declared.tree.Expr.TheVariants.{New, Virtual}
use Rattle.bj_core.specs.declared.tree.Expr.TheBlock.{shape-the_row-Expr-0, hidden-the_row-Expr-0, hidden-the_row-Expr-1, items-the_row-Expr, items_hidden-the_row-Expr-1}
use Rattle.bj_core.specs.declared.tree.Stmt.{Stmt, Row_of-Stmt, end_of-Stmt, more_of-Stmt}
use Rattle.bj_core.specs.declared.tree.Stmt.TheVariants.{Block}
use Rattle.bj_core.specs.declared.tree.Stmt.TheBlock.{hidden-the_row-Stmt-0, items-the_row-Stmt, items_hidden-the_row-Stmt-0}
use Rattle.bj_eval.specs.Evaluation.{Context, On, on_fine, on_value}
use Rattle.bj_eval.specs.Expressions.{expr, exprs, created, each, virtual}
use Rattle.bj_eval.specs.Statements.{stmt, stmts}
use Rattle.bj_eval.specs.Entering.{all}

row_is : {n : _} → (c : Context) (row : Row_of-Stmt n) → stmts c row ≡ all c (items-the_row-Stmt n row)
row_is c end_of-Stmt = refl
row_is c (more_of-Stmt st rest) = let before : On → On = λ k s xs. on_fine (stmt c st s xs) k in ap before (row_is c rest)

pub Block_is : (c : Context) (at : Span) (body : List Stmt) → stmt c (Block at body) ≡ all c body
Block_is c at body = row_is c (hidden-the_row-Stmt-0 body) ∙ ap (all c) (items_hidden-the_row-Stmt-0 body)

args_are : {n : _} → (c : Context) (row : Row_of-Expr n) → exprs c row ≡ map (expr c) (items-the_row-Expr n row)
args_are c end_of-Expr = refl
args_are c (more_of-Expr e rest) = ap (λ l. expr c e ∷ l) (args_are c rest)

given_is : (c : Context) (args : List Expr) → exprs c (hidden-the_row-Expr-1 args) ≡ map (expr c) args
given_is c args = args_are c (hidden-the_row-Expr-1 args) ∙ ap (map (expr c)) (items_hidden-the_row-Expr-1 args)

pub New_is : (c : Context) (at : Span) (class constructor : ℕ) (args : List Expr) → expr c (New at class constructor args) ≡ created c class constructor (map (expr c) args)
New_is c at class constructor args = ap (created c class constructor) (given_is c args)

pub Virtual_is : (c : Context) (at : Span) (a : Expr) (class method : ℕ) (args : List Expr)
    → expr c (Virtual at a class method args) ≡ (λ s xs. on_value (expr c a s xs) (λ x. each (map (expr c) args) [] (virtual c class method x)))
unfolding shape-the_row-Expr-0 hidden-the_row-Expr-0 denote.Hole.Carrier.hidden
Virtual_is c at a class method args =
    let called : List On → On = λ l s xs. on_value (expr c a s xs) (λ x. each l [] (virtual c class method x)) in ap called (given_is c args)
