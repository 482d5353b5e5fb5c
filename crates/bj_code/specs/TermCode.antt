-- The code of a term.
use Rattle.std.specs.Prelude.{ℕ, ◌+◌, max, List, [], ◌∷◌, ◌++◌, length, Option, Some, None, if◌then◌else◌}
use Rattle.bj_core.specs.declared.types.Val.TheVariants as v
use Rattle.bj_core.specs.declared.types.Const.{Const}
use Rattle.bj_core.specs.declared.types.Const.TheVariants as k
use Rattle.bj_core.specs.declared.frame.Term.{Term}
use Rattle.bj_core.specs.declared.tree.Expr.{Expr, Row_of-Expr, end_of-Expr, more_of-Expr}
use Rattle.bj_core.specs.declared.tree.Expr.TheVariants as e
use Rattle.bj_core.specs.declared.tree.Stmt.{Stmt, Row_of-Stmt, end_of-Stmt, more_of-Stmt}
use Rattle.bj_core.specs.declared.tree.Stmt.TheVariants as s
use Rattle.bj_core.specs.declared.program.Program.{Program}
use Rattle.bj_eval.specs.Forms.{Negate, Binary, Read, Assign}
use Rattle.bj_eval.specs.Routines.{is_ready, start_number}
use Rattle.bj_eval.specs.Frames.{no_class}
use Rattle.bj_eval.specs.Evaluation.{line_in}
use Rattle.bj_code.specs.declared.code.Instr.{Instr}
use Rattle.bj_code.specs.declared.code.Instr.TheVariants as i
use Rattle.bj_code.specs.declared.code.CodeBody.{CodeBody}

-- a constant; a form that is not built has no code
abbrev pub const_code : Const → List Instr
const_code (k.Int n) = i.Push (v.Int n) ∷ []
const_code (k.Long n) = i.Push (v.Long n) ∷ []
const_code (k.Bool b) = i.Push (v.Bool b) ∷ []
const_code (k.Char u) = i.Push (v.Char u) ∷ []
const_code (k.Text t) = []

-- what initializes a class before its first use: nothing where it is of the prelude
abbrev pub start_code : Program → ℕ → List Instr
start_code p class = if is_ready p class then [] else i.InitBegin class ∷ (i.InvokeStart class (start_number p class) ∷ (i.InitEnd class ∷ []))

abbrev pub count : {n : _} → Row_of-Expr n → ℕ
count end_of-Expr = 0
count (more_of-Expr e rest) = count rest + 1

-- an expression: its operands from left to right, and then its instruction
abbrev mutual
  pub expr_code : Program → Expr → List Instr
  expr_code p (e.Const at value) = const_code value
  expr_code p (e.Local at slot) = i.Load slot ∷ []
  expr_code p (e.This at) = i.This ∷ []
  expr_code p (Negate at a) = expr_code p a ++ i.IntNegate ∷ []
  expr_code p (Binary at op a b) = expr_code p a ++ (expr_code p b ++ i.IntBinary op ∷ [])
  expr_code p (Read at a slot) = expr_code p a ++ i.GetField slot ∷ []
  expr_code p (Assign at a slot b) = expr_code p a ++ (expr_code p b ++ i.PutField slot ∷ [])
  expr_code p (e.New' at class constructor shape row) = start_code p class ++ (i.Make class ∷ (exprs_code p row ++ i.InvokeSpecial class constructor (count row) ∷ []))
  expr_code p (e.Virtual' at tt (more_of-Expr a end_of-Expr) class method shape row) = expr_code p a ++ (exprs_code p row ++ i.InvokeVirtual class method (count row) ∷ [])

  pub exprs_code : {n : _} → Program → Row_of-Expr n → List Instr
  exprs_code p end_of-Expr = []
  exprs_code p (more_of-Expr e rest) = expr_code p e ++ exprs_code p rest

-- the most operands that an expression has at once, its value among them
abbrev mutual
  pub expr_depth : Expr → ℕ
  expr_depth (e.Const at value) = 1
  expr_depth (e.Local at slot) = 1
  expr_depth (e.This at) = 1
  expr_depth (Negate at a) = expr_depth a
  expr_depth (Binary at op a b) = max (expr_depth a) (expr_depth b + 1)
  expr_depth (Read at a slot) = expr_depth a
  expr_depth (Assign at a slot b) = max (expr_depth a) (expr_depth b + 1)
  expr_depth (e.New' at class constructor shape row) = exprs_depth row + 1
  expr_depth (e.Virtual' at tt (more_of-Expr a end_of-Expr) class method shape row) = max (expr_depth a) (exprs_depth row + 1)

  -- arguments, one after another
  pub exprs_depth : {n : _} → Row_of-Expr n → ℕ
  exprs_depth end_of-Expr = 0
  exprs_depth (more_of-Expr e rest) = max (expr_depth e) (exprs_depth rest + 1)

-- the same of a list of arguments
abbrev pub args_code : Program → List Expr → List Instr
args_code p [] = []
args_code p (e ∷ rest) = expr_code p e ++ args_code p rest

abbrev pub args_depth : List Expr → ℕ
args_depth [] = 0
args_depth (e ∷ rest) = max (expr_depth e) (args_depth rest + 1)

abbrev pub return_code : Program → Option Expr → List Instr
return_code p (Some a) = expr_code p a ++ i.ReturnValue ∷ []
return_code p None = i.ReturnNothing ∷ []

abbrev pub return_depth : Option Expr → ℕ
return_depth (Some a) = expr_depth a
return_depth None = 0

-- statements of a body of the class; each but a block starts with a step point
abbrev mutual
  pub stmt_code : Program → ℕ → Stmt → List Instr
  stmt_code p class (s.Block' at shape row) = stmts_code p class row
  stmt_code p class (s.Expression at a) = i.Point (line_in class at) ∷ (expr_code p a ++ i.Pop ∷ [])
  stmt_code p class (s.Return at value) = i.Point (line_in class at) ∷ return_code p value

  pub stmts_code : {n : _} → Program → ℕ → Row_of-Stmt n → List Instr
  stmts_code p class end_of-Stmt = []
  stmts_code p class (more_of-Stmt a rest) = stmt_code p class a ++ stmts_code p class rest

-- the most operands that a statement has at once
abbrev mutual
  pub stmt_depth : Stmt → ℕ
  stmt_depth (s.Block' at shape row) = stmts_depth row
  stmt_depth (s.Expression at a) = expr_depth a
  stmt_depth (s.Return at value) = return_depth value

  pub stmts_depth : {n : _} → Row_of-Stmt n → ℕ
  stmts_depth end_of-Stmt = 0
  stmts_depth (more_of-Stmt a rest) = max (stmt_depth a) (stmts_depth rest)

-- the same of a list of statements
abbrev pub all_code : Program → ℕ → List Stmt → List Instr
all_code p class [] = []
all_code p class (a ∷ rest) = stmt_code p class a ++ all_code p class rest

abbrev pub all_depth : List Stmt → ℕ
all_depth [] = 0
all_depth (a ∷ rest) = max (stmt_depth a) (all_depth rest)

-- a term; behind its last statement it is over without a value
abbrev pub term_code : Program → Term → CodeBody
term_code p t = record { steps = stmt_code p no_class t.body ++ i.ReturnNothing ∷ []; handlers = []; locals = length t.scope; depth = stmt_depth t.body; params = []; entry = 1 }
