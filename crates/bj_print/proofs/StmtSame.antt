-- Statements of a form are the same but for places where their parts are.
use Rattle.std.proofs.Common.{◌≡◌, ℕ, Bool, List, map, Option, option_map, sym, ap, ◌∙◌}
use Rattle.bj_base.specs.declared.span.Span.{Span}
use Rattle.bj_expr_tree.specs.declared.types.TypeTree.{TypeTree}
use Rattle.bj_expr_tree.specs.declared.types.NamedPlace.{NamedPlace}
use Rattle.bj_expr_tree.specs.declared.expr.ExprTree.{ExprTree}
use Rattle.bj_tree.specs.declared.stmt.VariableTree.{VariableTree}
use Rattle.bj_tree.specs.declared.stmt.StmtTree.{StmtTree}
use Rattle.bj_tree.specs.declared.stmt.StmtTree.TheVariants as stmt
use Rattle.bj_print.specs.Same.{nowhere, unplaced_name, unplaced_type, unplaced_expr, unplaced_variable, unplaced_stmt, SameExpr, SameStmt}
use Rattle.bj_print.proofs.ExprLaws.{SameExprs, SameType}
use Rattle.bj_print.proofs.StmtLaws.{SameStmts, SameVariables}
use Rattle.bj_print.proofs.StmtUnplaced.{SameMaybe, SameMaybeName, SameName, SameTypes, block_unplaced, empty_unplaced, local_unplaced, expression_unplaced, if_unplaced, if_else_unplaced, while_unplaced, do_unplaced, for_unplaced, for_each_unplaced, switch_unplaced, case_unplaced, default_unplaced, labelled_unplaced, break_unplaced, continue_unplaced, return_unplaced, throw_unplaced, synchronized_unplaced, synchronized_class_unplaced, try_unplaced, try_finally_unplaced, catch_unplaced, constructor_call_unplaced}

pub same_block : (p q : Span) (u v : Span) (body0 body1 : List StmtTree) → SameStmts body0 body1 → SameStmt (stmt.Block p body0 u) (stmt.Block q body1 v)
same_block p q u v body0 body1 h0 = block_unplaced p body0 u ∙ (ap (λ (z : List StmtTree). stmt.Block nowhere z nowhere) h0) ∙ sym (block_unplaced q body1 v)

pub same_empty : (p q : Span) → SameStmt (stmt.Empty p) (stmt.Empty q)
same_empty p q = empty_unplaced p ∙ sym (empty_unplaced q)

pub same_local : (p q : Span) (is_final0 is_final1 : Bool) (holds0 holds1 : TypeTree) (variables0 variables1 : List VariableTree) → is_final0 ≡ is_final1 → SameType holds0 holds1
    → SameVariables variables0 variables1 → SameStmt (stmt.Local p is_final0 holds0 variables0) (stmt.Local q is_final1 holds1 variables1)
same_local p q is_final0 is_final1 holds0 holds1 variables0 variables1 h0 h1 h2 = local_unplaced p is_final0 holds0 variables0
    ∙ (ap (λ (z : Bool). stmt.Local nowhere z (unplaced_type holds0) (map unplaced_variable variables0)) h0) ∙ (ap (λ (z : TypeTree). stmt.Local nowhere is_final1 z (map unplaced_variable variables0)) h1)
    ∙ (ap (λ (z : List VariableTree). stmt.Local nowhere is_final1 (unplaced_type holds1) z) h2) ∙ sym (local_unplaced q is_final1 holds1 variables1)

pub same_expression : (p q : Span) (value0 value1 : ExprTree) → SameExpr value0 value1 → SameStmt (stmt.Expression p value0) (stmt.Expression q value1)
same_expression p q value0 value1 h0 = expression_unplaced p value0 ∙ (ap (λ (z : ExprTree). stmt.Expression nowhere z) h0) ∙ sym (expression_unplaced q value1)

pub same_if : (p q : Span) (test0 test1 : ExprTree) (body0 body1 : StmtTree) → SameExpr test0 test1 → SameStmt body0 body1 → SameStmt (stmt.If p test0 body0) (stmt.If q test1 body1)
same_if p q test0 test1 body0 body1 h0 h1 = if_unplaced p test0 body0 ∙ (ap (λ (z : ExprTree). stmt.If nowhere z (unplaced_stmt body0)) h0) ∙ (ap (λ (z : StmtTree). stmt.If nowhere (unplaced_expr test1) z) h1)
    ∙ sym (if_unplaced q test1 body1)

pub same_if_else : (p q : Span) (test0 test1 : ExprTree) (body0 body1 : StmtTree) (other0 other1 : StmtTree) → SameExpr test0 test1 → SameStmt body0 body1 → SameStmt other0 other1
    → SameStmt (stmt.IfElse p test0 body0 other0) (stmt.IfElse q test1 body1 other1)
same_if_else p q test0 test1 body0 body1 other0 other1 h0 h1 h2 = if_else_unplaced p test0 body0 other0 ∙ (ap (λ (z : ExprTree). stmt.IfElse nowhere z (unplaced_stmt body0) (unplaced_stmt other0)) h0)
    ∙ (ap (λ (z : StmtTree). stmt.IfElse nowhere (unplaced_expr test1) z (unplaced_stmt other0)) h1) ∙ (ap (λ (z : StmtTree). stmt.IfElse nowhere (unplaced_expr test1) (unplaced_stmt body1) z) h2)
    ∙ sym (if_else_unplaced q test1 body1 other1)

pub same_while : (p q : Span) (test0 test1 : ExprTree) (body0 body1 : StmtTree) → SameExpr test0 test1 → SameStmt body0 body1 → SameStmt (stmt.While p test0 body0) (stmt.While q test1 body1)
same_while p q test0 test1 body0 body1 h0 h1 = while_unplaced p test0 body0 ∙ (ap (λ (z : ExprTree). stmt.While nowhere z (unplaced_stmt body0)) h0)
    ∙ (ap (λ (z : StmtTree). stmt.While nowhere (unplaced_expr test1) z) h1) ∙ sym (while_unplaced q test1 body1)

pub same_do : (p q : Span) (body0 body1 : StmtTree) (test0 test1 : ExprTree) → SameStmt body0 body1 → SameExpr test0 test1 → SameStmt (stmt.Do p body0 test0) (stmt.Do q body1 test1)
same_do p q body0 body1 test0 test1 h0 h1 = do_unplaced p body0 test0 ∙ (ap (λ (z : StmtTree). stmt.Do nowhere z (unplaced_expr test0)) h0) ∙ (ap (λ (z : ExprTree). stmt.Do nowhere (unplaced_stmt body1) z) h1)
    ∙ sym (do_unplaced q body1 test1)

pub same_for : (p q : Span) (init0 init1 : List StmtTree) (test0 test1 : Option ExprTree) (update0 update1 : List ExprTree) (body0 body1 : StmtTree) → SameStmts init0 init1 → SameMaybe test0 test1
    → SameExprs update0 update1 → SameStmt body0 body1 → SameStmt (stmt.For p init0 test0 update0 body0) (stmt.For q init1 test1 update1 body1)
same_for p q init0 init1 test0 test1 update0 update1 body0 body1 h0 h1 h2 h3 = for_unplaced p init0 test0 update0 body0
    ∙ (ap (λ (z : List StmtTree). stmt.For nowhere z (option_map unplaced_expr test0) (map unplaced_expr update0) (unplaced_stmt body0)) h0)
    ∙ (ap (λ (z : Option ExprTree). stmt.For nowhere (map unplaced_stmt init1) z (map unplaced_expr update0) (unplaced_stmt body0)) h1)
    ∙ (ap (λ (z : List ExprTree). stmt.For nowhere (map unplaced_stmt init1) (option_map unplaced_expr test1) z (unplaced_stmt body0)) h2)
    ∙ (ap (λ (z : StmtTree). stmt.For nowhere (map unplaced_stmt init1) (option_map unplaced_expr test1) (map unplaced_expr update1) z) h3) ∙ sym (for_unplaced q init1 test1 update1 body1)

pub same_for_each : (p q : Span) (is_final0 is_final1 : Bool) (holds0 holds1 : TypeTree) (name0 name1 : NamedPlace) (over0 over1 : ExprTree) (body0 body1 : StmtTree) → is_final0 ≡ is_final1
    → SameType holds0 holds1 → SameName name0 name1 → SameExpr over0 over1 → SameStmt body0 body1
    → SameStmt (stmt.ForEach p is_final0 holds0 name0 over0 body0) (stmt.ForEach q is_final1 holds1 name1 over1 body1)
same_for_each p q is_final0 is_final1 holds0 holds1 name0 name1 over0 over1 body0 body1 h0 h1 h2 h3 h4 = for_each_unplaced p is_final0 holds0 name0 over0 body0
    ∙ (ap (λ (z : Bool). stmt.ForEach nowhere z (unplaced_type holds0) (unplaced_name name0) (unplaced_expr over0) (unplaced_stmt body0)) h0)
    ∙ (ap (λ (z : TypeTree). stmt.ForEach nowhere is_final1 z (unplaced_name name0) (unplaced_expr over0) (unplaced_stmt body0)) h1)
    ∙ (ap (λ (z : NamedPlace). stmt.ForEach nowhere is_final1 (unplaced_type holds1) z (unplaced_expr over0) (unplaced_stmt body0)) h2)
    ∙ (ap (λ (z : ExprTree). stmt.ForEach nowhere is_final1 (unplaced_type holds1) (unplaced_name name1) z (unplaced_stmt body0)) h3)
    ∙ (ap (λ (z : StmtTree). stmt.ForEach nowhere is_final1 (unplaced_type holds1) (unplaced_name name1) (unplaced_expr over1) z) h4) ∙ sym (for_each_unplaced q is_final1 holds1 name1 over1 body1)

pub same_switch : (p q : Span) (value0 value1 : ExprTree) (members0 members1 : List StmtTree) → SameExpr value0 value1 → SameStmts members0 members1
    → SameStmt (stmt.Switch p value0 members0) (stmt.Switch q value1 members1)
same_switch p q value0 value1 members0 members1 h0 h1 = switch_unplaced p value0 members0 ∙ (ap (λ (z : ExprTree). stmt.Switch nowhere z (map unplaced_stmt members0)) h0)
    ∙ (ap (λ (z : List StmtTree). stmt.Switch nowhere (unplaced_expr value1) z) h1) ∙ sym (switch_unplaced q value1 members1)

pub same_case : (p q : Span) (value0 value1 : ExprTree) → SameExpr value0 value1 → SameStmt (stmt.Case p value0) (stmt.Case q value1)
same_case p q value0 value1 h0 = case_unplaced p value0 ∙ (ap (λ (z : ExprTree). stmt.Case nowhere z) h0) ∙ sym (case_unplaced q value1)

pub same_default : (p q : Span) → SameStmt (stmt.Default p) (stmt.Default q)
same_default p q = default_unplaced p ∙ sym (default_unplaced q)

pub same_labelled : (p q : Span) (label0 label1 : List ℕ) (body0 body1 : StmtTree) → label0 ≡ label1 → SameStmt body0 body1 → SameStmt (stmt.Labelled p label0 body0) (stmt.Labelled q label1 body1)
same_labelled p q label0 label1 body0 body1 h0 h1 = labelled_unplaced p label0 body0 ∙ (ap (λ (z : List ℕ). stmt.Labelled nowhere z (unplaced_stmt body0)) h0)
    ∙ (ap (λ (z : StmtTree). stmt.Labelled nowhere label1 z) h1) ∙ sym (labelled_unplaced q label1 body1)

pub same_break : (p q : Span) (label0 label1 : Option NamedPlace) → SameMaybeName label0 label1 → SameStmt (stmt.Break p label0) (stmt.Break q label1)
same_break p q label0 label1 h0 = break_unplaced p label0 ∙ (ap (λ (z : Option NamedPlace). stmt.Break nowhere z) h0) ∙ sym (break_unplaced q label1)

pub same_continue : (p q : Span) (label0 label1 : Option NamedPlace) → SameMaybeName label0 label1 → SameStmt (stmt.Continue p label0) (stmt.Continue q label1)
same_continue p q label0 label1 h0 = continue_unplaced p label0 ∙ (ap (λ (z : Option NamedPlace). stmt.Continue nowhere z) h0) ∙ sym (continue_unplaced q label1)

pub same_return : (p q : Span) (value0 value1 : Option ExprTree) → SameMaybe value0 value1 → SameStmt (stmt.Return p value0) (stmt.Return q value1)
same_return p q value0 value1 h0 = return_unplaced p value0 ∙ (ap (λ (z : Option ExprTree). stmt.Return nowhere z) h0) ∙ sym (return_unplaced q value1)

pub same_throw : (p q : Span) (value0 value1 : ExprTree) → SameExpr value0 value1 → SameStmt (stmt.Throw p value0) (stmt.Throw q value1)
same_throw p q value0 value1 h0 = throw_unplaced p value0 ∙ (ap (λ (z : ExprTree). stmt.Throw nowhere z) h0) ∙ sym (throw_unplaced q value1)

pub same_synchronized : (p q : Span) (lock0 lock1 : ExprTree) (body0 body1 : StmtTree) → SameExpr lock0 lock1 → SameStmt body0 body1
    → SameStmt (stmt.Synchronized p lock0 body0) (stmt.Synchronized q lock1 body1)
same_synchronized p q lock0 lock1 body0 body1 h0 h1 = synchronized_unplaced p lock0 body0 ∙ (ap (λ (z : ExprTree). stmt.Synchronized nowhere z (unplaced_stmt body0)) h0)
    ∙ (ap (λ (z : StmtTree). stmt.Synchronized nowhere (unplaced_expr lock1) z) h1) ∙ sym (synchronized_unplaced q lock1 body1)

pub same_synchronized_class : (p q : Span) (class0 class1 : NamedPlace) (body0 body1 : StmtTree) → SameName class0 class1 → SameStmt body0 body1
    → SameStmt (stmt.SynchronizedClass p class0 body0) (stmt.SynchronizedClass q class1 body1)
same_synchronized_class p q class0 class1 body0 body1 h0 h1 = synchronized_class_unplaced p class0 body0 ∙ (ap (λ (z : NamedPlace). stmt.SynchronizedClass nowhere z (unplaced_stmt body0)) h0)
    ∙ (ap (λ (z : StmtTree). stmt.SynchronizedClass nowhere (unplaced_name class1) z) h1) ∙ sym (synchronized_class_unplaced q class1 body1)

pub same_try : (p q : Span) (body0 body1 : StmtTree) (catches0 catches1 : List StmtTree) → SameStmt body0 body1 → SameStmts catches0 catches1 → SameStmt (stmt.Try p body0 catches0) (stmt.Try q body1 catches1)
same_try p q body0 body1 catches0 catches1 h0 h1 = try_unplaced p body0 catches0 ∙ (ap (λ (z : StmtTree). stmt.Try nowhere z (map unplaced_stmt catches0)) h0)
    ∙ (ap (λ (z : List StmtTree). stmt.Try nowhere (unplaced_stmt body1) z) h1) ∙ sym (try_unplaced q body1 catches1)

pub same_try_finally : (p q : Span) (body0 body1 : StmtTree) (catches0 catches1 : List StmtTree) (finally0 finally1 : StmtTree) → SameStmt body0 body1 → SameStmts catches0 catches1 → SameStmt finally0 finally1
    → SameStmt (stmt.TryFinally p body0 catches0 finally0) (stmt.TryFinally q body1 catches1 finally1)
same_try_finally p q body0 body1 catches0 catches1 finally0 finally1 h0 h1 h2 = try_finally_unplaced p body0 catches0 finally0
    ∙ (ap (λ (z : StmtTree). stmt.TryFinally nowhere z (map unplaced_stmt catches0) (unplaced_stmt finally0)) h0)
    ∙ (ap (λ (z : List StmtTree). stmt.TryFinally nowhere (unplaced_stmt body1) z (unplaced_stmt finally0)) h1)
    ∙ (ap (λ (z : StmtTree). stmt.TryFinally nowhere (unplaced_stmt body1) (map unplaced_stmt catches1) z) h2) ∙ sym (try_finally_unplaced q body1 catches1 finally1)

pub same_catch : (p q : Span) (is_final0 is_final1 : Bool) (types0 types1 : List TypeTree) (name0 name1 : NamedPlace) (body0 body1 : StmtTree) → is_final0 ≡ is_final1 → SameTypes types0 types1
    → SameName name0 name1 → SameStmt body0 body1 → SameStmt (stmt.Catch p is_final0 types0 name0 body0) (stmt.Catch q is_final1 types1 name1 body1)
same_catch p q is_final0 is_final1 types0 types1 name0 name1 body0 body1 h0 h1 h2 h3 = catch_unplaced p is_final0 types0 name0 body0
    ∙ (ap (λ (z : Bool). stmt.Catch nowhere z (map unplaced_type types0) (unplaced_name name0) (unplaced_stmt body0)) h0)
    ∙ (ap (λ (z : List TypeTree). stmt.Catch nowhere is_final1 z (unplaced_name name0) (unplaced_stmt body0)) h1)
    ∙ (ap (λ (z : NamedPlace). stmt.Catch nowhere is_final1 (map unplaced_type types1) z (unplaced_stmt body0)) h2)
    ∙ (ap (λ (z : StmtTree). stmt.Catch nowhere is_final1 (map unplaced_type types1) (unplaced_name name1) z) h3) ∙ sym (catch_unplaced q is_final1 types1 name1 body1)

pub same_constructor_call : (p q : Span) (is_super0 is_super1 : Bool) (args0 args1 : List ExprTree) → is_super0 ≡ is_super1 → SameExprs args0 args1
    → SameStmt (stmt.ConstructorCall p is_super0 args0) (stmt.ConstructorCall q is_super1 args1)
same_constructor_call p q is_super0 is_super1 args0 args1 h0 h1 = constructor_call_unplaced p is_super0 args0 ∙ (ap (λ (z : Bool). stmt.ConstructorCall nowhere z (map unplaced_expr args0)) h0)
    ∙ (ap (λ (z : List ExprTree). stmt.ConstructorCall nowhere is_super1 z) h1) ∙ sym (constructor_call_unplaced q is_super1 args1)
