-- How many nodes a statement has does not depend on places.
use Rattle.std.proofs.Common.{◌≡◌, ℕ, suc, ◌+◌, List, map, Option, option_map, refl, ap, ◌∙◌}
use Rattle.std.specs.Prelude.{unwrap_or}
use Rattle.bj_expr_tree.specs.declared.expr.ExprTree.{ExprTree}
use Rattle.bj_tree.specs.declared.stmt.VariableTree.{VariableTree}
use Rattle.bj_tree.specs.declared.stmt.StmtTree.{StmtTree, StmtTree-F}
use Rattle.bj_expr_tree.specs.Count.{total, nodes_of_expr}
use Rattle.bj_tree.specs.Count.{nodes_of_variable, stmt_form, nodes_of}
use Rattle.bj_print.specs.Same.{unplaced_expr, unplaced_variable, unplaced_stmt}
use Rattle.bj_print.proofs.Measures.{each_steady, maybe_steady}
use Rattle.bj_print.proofs.Invariants.{unplaced_nodes}
use Rattle.bj_print.proofs.StmtSteady.{blotted, unplaced_steady}

-- ---- the expressions in a statement

of_expr : (x : ExprTree) → nodes_of_expr (unplaced_expr x) ≡ nodes_of_expr x
of_expr = unplaced_nodes

of_maybe : (x : Option ExprTree) → option_map nodes_of_expr (option_map unplaced_expr x) ≡ option_map nodes_of_expr x
of_maybe = maybe_steady nodes_of_expr unplaced_expr of_expr

of_exprs : (xs : List ExprTree) → map nodes_of_expr (map unplaced_expr xs) ≡ map nodes_of_expr xs
of_exprs = each_steady nodes_of_expr unplaced_expr of_expr

of_variable : (x : VariableTree) → nodes_of_variable (unplaced_variable x) ≡ nodes_of_variable x
of_variable x = ap (λ (n : Option ℕ). suc (unwrap_or n 0)) (of_maybe x.init)

of_variables : (xs : List VariableTree) → map nodes_of_variable (map unplaced_variable xs) ≡ map nodes_of_variable xs
of_variables = each_steady nodes_of_variable unplaced_variable of_variable

form_steady : (y : StmtTree-F ℕ) → stmt_form (blotted y) ≡ stmt_form y
form_steady (StmtTree-F.Block at body end) = refl
form_steady (StmtTree-F.Empty at) = refl
form_steady (StmtTree-F.Local at is_final holds variables) = ap (λ (z : List ℕ). suc (total z)) (of_variables variables)
form_steady (StmtTree-F.Expression at value) = ap (λ (z : ℕ). suc z) (of_expr value)
form_steady (StmtTree-F.If at test body) = ap (λ (z : ℕ). suc (z + body)) (of_expr test)
form_steady (StmtTree-F.IfElse at test body other) = ap (λ (z : ℕ). suc (z + (body + other))) (of_expr test)
form_steady (StmtTree-F.While at test body) = ap (λ (z : ℕ). suc (z + body)) (of_expr test)
form_steady (StmtTree-F.Do at body test) = ap (λ (z : ℕ). suc (body + z)) (of_expr test)
form_steady (StmtTree-F.For at init test update body) = ap (λ (z : Option ℕ). suc (total init + (unwrap_or z 0 + (total (map nodes_of_expr (map unplaced_expr update)) + body)))) (of_maybe test)
    ∙ ap (λ (z : List ℕ). suc (total init + (unwrap_or (option_map nodes_of_expr test) 0 + (total z + body)))) (of_exprs update)
form_steady (StmtTree-F.ForEach at is_final holds name over body) = ap (λ (z : ℕ). suc (z + body)) (of_expr over)
form_steady (StmtTree-F.Switch at value members) = ap (λ (z : ℕ). suc (z + total members)) (of_expr value)
form_steady (StmtTree-F.Case at value) = ap (λ (z : ℕ). suc z) (of_expr value)
form_steady (StmtTree-F.Default at) = refl
form_steady (StmtTree-F.Labelled at label body) = refl
form_steady (StmtTree-F.Break at label) = refl
form_steady (StmtTree-F.Continue at label) = refl
form_steady (StmtTree-F.Return at value) = ap (λ (z : Option ℕ). suc (unwrap_or z 0)) (of_maybe value)
form_steady (StmtTree-F.Throw at value) = ap (λ (z : ℕ). suc z) (of_expr value)
form_steady (StmtTree-F.Synchronized at lock body) = ap (λ (z : ℕ). suc (z + body)) (of_expr lock)
form_steady (StmtTree-F.SynchronizedClass at class body) = refl
form_steady (StmtTree-F.Try at body catches) = refl
form_steady (StmtTree-F.TryFinally at body catches finally) = refl
form_steady (StmtTree-F.Catch at is_final types name body) = refl
form_steady (StmtTree-F.ConstructorCall at is_super args) = ap (λ (z : List ℕ). suc (total z)) (of_exprs args)

pub nodes_steady : (x : StmtTree) → nodes_of (unplaced_stmt x) ≡ nodes_of x
unfolding nodes_of
nodes_steady = unplaced_steady stmt_form form_steady
