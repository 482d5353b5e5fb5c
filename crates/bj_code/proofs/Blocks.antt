-- The code of a block is that of its statements, and that of arguments in a row is that of their list.
use Rattle.std.proofs.Common.{◌≡◌, ℕ, ◌+◌, ◌≤◌, max, List, [], ◌∷◌, ◌++◌, length, refl, ap, ◌∙◌, arith}
use Rattle.bj_base.specs.declared.span.Span.{Span}
use Rattle.bj_core.specs.declared.program.Program.{Program}
use Rattle.bj_core.specs.declared.tree.Expr.{Expr, Row_of-Expr, end_of-Expr, more_of-Expr}
use Rattle.bj_core.specs.declared.tree.Expr.TheVariants as e
use Rattle.bj_core.specs.declared.tree.Expr.TheVariants.{New, Virtual}
use Rattle.bj_core.specs.declared.tree.Expr.TheBlock.{shape-the_row-Expr-0, hidden-the_row-Expr-0, hidden-the_row-Expr-1, items-the_row-Expr, items_hidden-the_row-Expr-1}
use Rattle.bj_core.specs.declared.tree.Stmt.{Stmt, Row_of-Stmt, end_of-Stmt, more_of-Stmt}
use Rattle.bj_core.specs.declared.tree.Stmt.TheVariants.{Block}
use Rattle.bj_core.specs.declared.tree.Stmt.TheBlock.{hidden-the_row-Stmt-0, items-the_row-Stmt, items_hidden-the_row-Stmt-0}
use Rattle.bj_eval.specs.Forms.{Negate, Binary, Read, Assign}
use Rattle.bj_code.specs.declared.code.Instr.{Instr}
use Rattle.bj_code.specs.declared.code.Instr.TheVariants as i
use Rattle.bj_code.specs.TermCode.{expr_code, expr_depth, exprs_code, exprs_depth, start_code, count, args_code, args_depth, stmt_code, stmts_code, stmt_depth, stmts_depth, all_code, all_depth}

pub row_code : {n : _} → (p : Program) (class : ℕ) (row : Row_of-Stmt n) → stmts_code p class row ≡ all_code p class (items-the_row-Stmt n row)
row_code p class end_of-Stmt = refl
row_code p class (more_of-Stmt a rest) = ap (λ l. stmt_code p class a ++ l) (row_code p class rest)

pub row_depth : {n : _} → (row : Row_of-Stmt n) → stmts_depth row ≡ all_depth (items-the_row-Stmt n row)
row_depth end_of-Stmt = refl
row_depth (more_of-Stmt a rest) = ap (max (stmt_depth a)) (row_depth rest)

pub Block_code : (p : Program) (class : ℕ) (at : Span) (body : List Stmt) → stmt_code p class (Block at body) ≡ all_code p class body
Block_code p class at body = row_code p class (hidden-the_row-Stmt-0 body) ∙ ap (all_code p class) (items_hidden-the_row-Stmt-0 body)

pub Block_depth : (at : Span) (body : List Stmt) → stmt_depth (Block at body) ≡ all_depth body
Block_depth at body = row_depth (hidden-the_row-Stmt-0 body) ∙ ap all_depth (items_hidden-the_row-Stmt-0 body)

pub args_row_code : {n : _} → (p : Program) (row : Row_of-Expr n) → exprs_code p row ≡ args_code p (items-the_row-Expr n row)
args_row_code p end_of-Expr = refl
args_row_code p (more_of-Expr e rest) = ap (λ l. expr_code p e ++ l) (args_row_code p rest)

pub args_row_depth : {n : _} → (row : Row_of-Expr n) → exprs_depth row ≡ args_depth (items-the_row-Expr n row)
args_row_depth end_of-Expr = refl
args_row_depth (more_of-Expr e rest) = ap (λ d. max (expr_depth e) (d + 1)) (args_row_depth rest)

pub args_row_count : {n : _} → (row : Row_of-Expr n) → count row ≡ length (items-the_row-Expr n row)
args_row_count end_of-Expr = refl
args_row_count (more_of-Expr e rest) = let more = args_row_count rest in omega (arith, more)

given_code : (p : Program) (args : List Expr) → exprs_code p (hidden-the_row-Expr-1 args) ≡ args_code p args
given_code p args = args_row_code p (hidden-the_row-Expr-1 args) ∙ ap (args_code p) (items_hidden-the_row-Expr-1 args)

given_depth : (args : List Expr) → exprs_depth (hidden-the_row-Expr-1 args) ≡ args_depth args
given_depth args = args_row_depth (hidden-the_row-Expr-1 args) ∙ ap args_depth (items_hidden-the_row-Expr-1 args)

given_count : (args : List Expr) → count (hidden-the_row-Expr-1 args) ≡ length args
given_count args = args_row_count (hidden-the_row-Expr-1 args) ∙ ap length (items_hidden-the_row-Expr-1 args)

pub New_code : (p : Program) (at : Span) (class constructor : ℕ) (args : List Expr)
    → expr_code p (New at class constructor args) ≡ start_code p class ++ (i.Make class ∷ (args_code p args ++ i.InvokeSpecial class constructor (length args) ∷ []))
New_code p at class constructor args =
    let made : List Instr → ℕ → List Instr = λ l n. start_code p class ++ (i.Make class ∷ (l ++ i.InvokeSpecial class constructor n ∷ [])) in
    ap (λ l. made l (count (hidden-the_row-Expr-1 args))) (given_code p args) ∙ ap (made (args_code p args)) (given_count args)

pub New_depth : (at : Span) (class constructor : ℕ) (args : List Expr) → expr_depth (New at class constructor args) ≡ args_depth args + 1
New_depth at class constructor args = ap (λ d. d + 1) (given_depth args)

pub Virtual_code : (p : Program) (at : Span) (a : Expr) (class method : ℕ) (args : List Expr)
    → expr_code p (Virtual at a class method args) ≡ expr_code p a ++ (args_code p args ++ i.InvokeVirtual class method (length args) ∷ [])
unfolding shape-the_row-Expr-0 hidden-the_row-Expr-0 denote.Hole.Carrier.hidden
Virtual_code p at a class method args =
    let called : List Instr → ℕ → List Instr = λ l n. expr_code p a ++ (l ++ i.InvokeVirtual class method n ∷ []) in
    ap (λ l. called l (count (hidden-the_row-Expr-1 args))) (given_code p args) ∙ ap (called (args_code p args)) (given_count args)

pub Virtual_depth : (at : Span) (a : Expr) (class method : ℕ) (args : List Expr) → expr_depth (Virtual at a class method args) ≡ max (expr_depth a) (args_depth args + 1)
unfolding shape-the_row-Expr-0 hidden-the_row-Expr-0 denote.Hole.Carrier.hidden
Virtual_depth at a class method args = ap (λ d. max (expr_depth a) (d + 1)) (given_depth args)

-- an expression has an operand at least once: its value
pub has_value : (e : Expr) → 1 ≤ expr_depth e
has_value (e.Const at value) = omega arith
has_value (e.Local at slot) = omega arith
has_value (e.This at) = omega arith
has_value (Negate at a) = has_value a
has_value (Binary at op a b) = omega (arith, has_value a)
has_value (Read at a slot) = has_value a
has_value (Assign at a slot b) = omega (arith, has_value a)
has_value (e.New' at class constructor shape row) = omega arith
has_value (e.Virtual' at tt (more_of-Expr a end_of-Expr) class method shape row) = omega (arith, has_value a)
