-- How high a statement is does not depend on places.
use Rattle.std.proofs.Common.{◌≡◌, ℕ, suc, List, map, Option, option_map, refl, sym, ap, ◌∙◌}
use Rattle.std.specs.Prelude.{max, unwrap_or}
use Rattle.bj_expr_tree.specs.declared.expr.ExprTree.{ExprTree}
use Rattle.bj_tree.specs.declared.stmt.VariableTree.{VariableTree}
use Rattle.bj_tree.specs.declared.stmt.StmtTree.{StmtTree, StmtTree-F}
use Rattle.bj_expr_tree.specs.Size.{most, height_of}
use Rattle.bj_stmt.specs.Heights.{variable_height, stmt_form, stmt_height}
use Rattle.bj_print.specs.Same.{unplaced_expr, unplaced_variable, unplaced_stmt, SameStmt}
use Rattle.bj_print.proofs.Measures.{each_steady, maybe_steady}
use Rattle.bj_print.proofs.Invariants.{unplaced_height}
use Rattle.bj_print.proofs.StmtSteady.{blotted, unplaced_steady}

-- ---- the expressions in a statement

of_expr : (x : ExprTree) → height_of (unplaced_expr x) ≡ height_of x
of_expr = unplaced_height

of_maybe : (x : Option ExprTree) → option_map height_of (option_map unplaced_expr x) ≡ option_map height_of x
of_maybe = maybe_steady height_of unplaced_expr of_expr

of_exprs : (xs : List ExprTree) → map height_of (map unplaced_expr xs) ≡ map height_of xs
of_exprs = each_steady height_of unplaced_expr of_expr

of_variable : (x : VariableTree) → variable_height (unplaced_variable x) ≡ variable_height x
of_variable x = ap (λ (n : Option ℕ). suc (unwrap_or n 0)) (of_maybe x.init)

pub of_variables : (xs : List VariableTree) → map variable_height (map unplaced_variable xs) ≡ map variable_height xs
of_variables = each_steady variable_height unplaced_variable of_variable

form_steady : (y : StmtTree-F ℕ) → stmt_form (blotted y) ≡ stmt_form y
form_steady (StmtTree-F.Block at body end) = refl
form_steady (StmtTree-F.Empty at) = refl
form_steady (StmtTree-F.Local at is_final holds variables) = ap (λ (z : List ℕ). suc (most z)) (of_variables variables)
form_steady (StmtTree-F.Expression at value) = ap (λ (z : ℕ). suc z) (of_expr value)
form_steady (StmtTree-F.If at test body) = ap (λ (z : ℕ). suc (max z body)) (of_expr test)
form_steady (StmtTree-F.IfElse at test body other) = ap (λ (z : ℕ). suc (max z (max body other))) (of_expr test)
form_steady (StmtTree-F.While at test body) = ap (λ (z : ℕ). suc (max z body)) (of_expr test)
form_steady (StmtTree-F.Do at body test) = ap (λ (z : ℕ). suc (max body z)) (of_expr test)
form_steady (StmtTree-F.For at init test update body) = ap (λ (z : Option ℕ). suc (max (most init) (max (unwrap_or z 0) (max (most (map height_of (map unplaced_expr update))) body)))) (of_maybe test)
    ∙ ap (λ (z : List ℕ). suc (max (most init) (max (unwrap_or (option_map height_of test) 0) (max (most z) body)))) (of_exprs update)
form_steady (StmtTree-F.ForEach at is_final holds name over body) = ap (λ (z : ℕ). suc (max z body)) (of_expr over)
form_steady (StmtTree-F.Switch at value members) = ap (λ (z : ℕ). suc (max z (most members))) (of_expr value)
form_steady (StmtTree-F.Case at value) = ap (λ (z : ℕ). suc z) (of_expr value)
form_steady (StmtTree-F.Default at) = refl
form_steady (StmtTree-F.Labelled at label body) = refl
form_steady (StmtTree-F.Break at label) = refl
form_steady (StmtTree-F.Continue at label) = refl
form_steady (StmtTree-F.Return at value) = ap (λ (z : Option ℕ). suc (unwrap_or z 0)) (of_maybe value)
form_steady (StmtTree-F.Throw at value) = ap (λ (z : ℕ). suc z) (of_expr value)
form_steady (StmtTree-F.Synchronized at lock body) = ap (λ (z : ℕ). suc (max z body)) (of_expr lock)
form_steady (StmtTree-F.SynchronizedClass at class body) = refl
form_steady (StmtTree-F.Try at body catches) = refl
form_steady (StmtTree-F.TryFinally at body catches finally) = refl
form_steady (StmtTree-F.Catch at is_final types name body) = refl
form_steady (StmtTree-F.ConstructorCall at is_super args) = ap (λ (z : List ℕ). suc (most z)) (of_exprs args)

pub height_steady : (x : StmtTree) → stmt_height (unplaced_stmt x) ≡ stmt_height x
unfolding stmt_height
height_steady = unplaced_steady stmt_form form_steady

pub same_height : (x y : StmtTree) → SameStmt x y → stmt_height x ≡ stmt_height y
same_height x y e = sym (height_steady x) ∙ ap stmt_height e ∙ height_steady y
