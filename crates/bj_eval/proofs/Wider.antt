-- What is typed with no variables is typed with any.
use Rattle.std.proofs.Common.{◌≡◌, ℕ, zero, suc, List, [], Option, Some}
use Rattle.std.specs.Prelude.{slice_get}
use Rattle.bj_core.specs.declared.types.Ty.{Ty}
use Rattle.bj_core.specs.declared.program.Program.{Program}
use Rattle.bj_core.specs.declared.tree.Expr.{Expr}
use Rattle.bj_core.specs.declared.tree.Stmt.{Stmt}
use Rattle.bj_eval.specs.Typed.{HasTy, int_constant, long_constant, bool_constant, char_constant, local, this, int_negate, int_binary, get_field, set_field, call, new, HaveTys, no_args, one_arg, IsObject, this_object, named_object, IsOk, block, expression, return_value, return_nothing, AreOk, no_more, and_then, Scope, scope_in}

nowhere : (slot : ℕ) (ty : Ty) → slice_get [] slot ≡ Some ty → ⊥
nowhere zero ty e = cc
nowhere (suc slot) ty e = cc

module _ (program : Program) (class : Option ℕ) (tys : List Ty) where
  abbrev bare : Scope
  bare = scope_in class []

  abbrev full : Scope
  full = scope_in class tys

  object_wider : {k : ℕ} {a : Expr} → IsObject bare k a → IsObject full k a
  object_wider (this_object at there e) = this_object at there e
  object_wider {k = k} (named_object at slot there e) = absurd (nowhere slot _ there)

  mutual
    expr_wider : {a : Expr} {ty : Ty} → HasTy program bare a ty → HasTy program full a ty
    expr_wider (int_constant at n e) = int_constant at n e
    expr_wider (long_constant at n e) = long_constant at n e
    expr_wider (bool_constant at b e) = bool_constant at b e
    expr_wider (char_constant at u e) = char_constant at u e
    expr_wider (local at slot there e) = absurd (nowhere slot _ there)
    expr_wider (this at there e) = this at there e
    expr_wider (int_negate at h e) = int_negate at (expr_wider h) e
    expr_wider (int_binary at op total hx hy e) = int_binary at op total (expr_wider hx) (expr_wider hy) e
    expr_wider (get_field at slot f object field e) = get_field at slot f (object_wider object) field e
    expr_wider (set_field at slot f object field h e) = set_field at slot f (object_wider object) field (expr_wider h) e
    expr_wider (call at method m in_term object ready there primitive hs e) = call at method m in_term (object_wider object) ready there primitive (args_wider hs) e
    expr_wider (new at constructor m in_term ready there constructs hs e) = new at constructor m in_term ready there constructs (args_wider hs) e

    args_wider : {args : List Expr} {takes : List Ty} → HaveTys program bare args takes → HaveTys program full args takes
    args_wider (no_args e none) = no_args e none
    args_wider (one_arg h hs e some) = one_arg (expr_wider h) (args_wider hs) e some

  mutual
    pub stmt_wider : {gives : Ty} {st : Stmt} → IsOk program bare gives st → IsOk program full gives st
    stmt_wider (block at ok e) = block at (all_wider ok) e
    stmt_wider (expression at h e) = expression at (expr_wider h) e
    stmt_wider (return_value at h e) = return_value at (expr_wider h) e
    stmt_wider (return_nothing at void e) = return_nothing at void e

    all_wider : {gives : Ty} {body : List Stmt} → AreOk program bare gives body → AreOk program full gives body
    all_wider (no_more e) = no_more e
    all_wider (and_then ok oks e) = and_then (stmt_wider ok) (all_wider oks) e
