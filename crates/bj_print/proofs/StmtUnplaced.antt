-- Statements are the same but for places where their parts are.
use Rattle.std.proofs.Common.{◌≡◌, ℕ, Bool, List, map, Option, option_map, sym, ap, ◌∙◌}
use Rattle.bj_base.specs.declared.span.Span.{Span}
use Rattle.bj_expr_tree.specs.declared.types.TypeTree.{TypeTree}
use Rattle.bj_expr_tree.specs.declared.types.NamedPlace.{NamedPlace}
use Rattle.bj_expr_tree.specs.declared.expr.ExprTree.{ExprTree}
use Rattle.bj_tree.specs.declared.stmt.VariableTree.{VariableTree}
use Rattle.bj_tree.specs.declared.stmt.StmtTree.{StmtTree}
use Rattle.bj_tree.specs.declared.stmt.StmtTree.TheVariants as stmt
use Rattle.bj_tree.specs.declared.stmt.StmtTree.TheOpen.{StmtTree-F}
use Rattle.bj_tree.specs.declared.stmt.StmtTree.TheFolds.{fold-roll-StmtTree}
use Rattle.bj_print.specs.Same.{nowhere, unplaced_name, unplaced_type, unplaced_expr, unplaced_variable, unplaced_stmt_form, unplaced_stmt}

abbrev pub SameMaybe : Option ExprTree → Option ExprTree → Type 0
SameMaybe a b = option_map unplaced_expr a ≡ option_map unplaced_expr b

abbrev pub SameMaybeName : Option NamedPlace → Option NamedPlace → Type 0
SameMaybeName a b = option_map unplaced_name a ≡ option_map unplaced_name b

abbrev pub SameName : NamedPlace → NamedPlace → Type 0
SameName a b = unplaced_name a ≡ unplaced_name b

abbrev pub SameTypes : List TypeTree → List TypeTree → Type 0
SameTypes a b = map unplaced_type a ≡ map unplaced_type b

-- ---- each form with its places blotted out

pub block_unplaced : (at : Span) (body : List StmtTree) (end : Span) → unplaced_stmt (stmt.Block at body end) ≡ stmt.Block nowhere (map unplaced_stmt body) nowhere
unfolding unplaced_stmt
block_unplaced at body end = ap unplaced_stmt (sym (stmt.rolls-Block at body end)) ∙ fold-roll-StmtTree StmtTree unplaced_stmt_form (StmtTree-F.Block at body end)

pub empty_unplaced : (at : Span) → unplaced_stmt (stmt.Empty at) ≡ stmt.Empty nowhere
unfolding unplaced_stmt
empty_unplaced at = ap unplaced_stmt (sym (stmt.rolls-Empty at)) ∙ fold-roll-StmtTree StmtTree unplaced_stmt_form (StmtTree-F.Empty at)

pub local_unplaced : (at : Span) (is_final : Bool) (holds : TypeTree) (variables : List VariableTree)
    → unplaced_stmt (stmt.Local at is_final holds variables) ≡ stmt.Local nowhere is_final (unplaced_type holds) (map unplaced_variable variables)
unfolding unplaced_stmt
local_unplaced at is_final holds variables = ap unplaced_stmt (sym (stmt.rolls-Local at is_final holds variables)) ∙ fold-roll-StmtTree StmtTree unplaced_stmt_form (StmtTree-F.Local at is_final holds variables)

pub expression_unplaced : (at : Span) (value : ExprTree) → unplaced_stmt (stmt.Expression at value) ≡ stmt.Expression nowhere (unplaced_expr value)
unfolding unplaced_stmt
expression_unplaced at value = ap unplaced_stmt (sym (stmt.rolls-Expression at value)) ∙ fold-roll-StmtTree StmtTree unplaced_stmt_form (StmtTree-F.Expression at value)

pub if_unplaced : (at : Span) (test : ExprTree) (body : StmtTree) → unplaced_stmt (stmt.If at test body) ≡ stmt.If nowhere (unplaced_expr test) (unplaced_stmt body)
unfolding unplaced_stmt
if_unplaced at test body = ap unplaced_stmt (sym (stmt.rolls-If at test body)) ∙ fold-roll-StmtTree StmtTree unplaced_stmt_form (StmtTree-F.If at test body)

pub if_else_unplaced : (at : Span) (test : ExprTree) (body : StmtTree) (other : StmtTree)
    → unplaced_stmt (stmt.IfElse at test body other) ≡ stmt.IfElse nowhere (unplaced_expr test) (unplaced_stmt body) (unplaced_stmt other)
unfolding unplaced_stmt
if_else_unplaced at test body other = ap unplaced_stmt (sym (stmt.rolls-IfElse at test body other)) ∙ fold-roll-StmtTree StmtTree unplaced_stmt_form (StmtTree-F.IfElse at test body other)

pub while_unplaced : (at : Span) (test : ExprTree) (body : StmtTree) → unplaced_stmt (stmt.While at test body) ≡ stmt.While nowhere (unplaced_expr test) (unplaced_stmt body)
unfolding unplaced_stmt
while_unplaced at test body = ap unplaced_stmt (sym (stmt.rolls-While at test body)) ∙ fold-roll-StmtTree StmtTree unplaced_stmt_form (StmtTree-F.While at test body)

pub do_unplaced : (at : Span) (body : StmtTree) (test : ExprTree) → unplaced_stmt (stmt.Do at body test) ≡ stmt.Do nowhere (unplaced_stmt body) (unplaced_expr test)
unfolding unplaced_stmt
do_unplaced at body test = ap unplaced_stmt (sym (stmt.rolls-Do at body test)) ∙ fold-roll-StmtTree StmtTree unplaced_stmt_form (StmtTree-F.Do at body test)

pub for_unplaced : (at : Span) (init : List StmtTree) (test : Option ExprTree) (update : List ExprTree) (body : StmtTree)
    → unplaced_stmt (stmt.For at init test update body) ≡ stmt.For nowhere (map unplaced_stmt init) (option_map unplaced_expr test) (map unplaced_expr update) (unplaced_stmt body)
unfolding unplaced_stmt
for_unplaced at init test update body = ap unplaced_stmt (sym (stmt.rolls-For at init test update body)) ∙ fold-roll-StmtTree StmtTree unplaced_stmt_form (StmtTree-F.For at init test update body)

pub for_each_unplaced : (at : Span) (is_final : Bool) (holds : TypeTree) (name : NamedPlace) (over : ExprTree) (body : StmtTree)
    → unplaced_stmt (stmt.ForEach at is_final holds name over body) ≡ stmt.ForEach nowhere is_final (unplaced_type holds) (unplaced_name name) (unplaced_expr over) (unplaced_stmt body)
unfolding unplaced_stmt
for_each_unplaced at is_final holds name over body = ap unplaced_stmt (sym (stmt.rolls-ForEach at is_final holds name over body))
    ∙ fold-roll-StmtTree StmtTree unplaced_stmt_form (StmtTree-F.ForEach at is_final holds name over body)

pub switch_unplaced : (at : Span) (value : ExprTree) (members : List StmtTree) → unplaced_stmt (stmt.Switch at value members) ≡ stmt.Switch nowhere (unplaced_expr value) (map unplaced_stmt members)
unfolding unplaced_stmt
switch_unplaced at value members = ap unplaced_stmt (sym (stmt.rolls-Switch at value members)) ∙ fold-roll-StmtTree StmtTree unplaced_stmt_form (StmtTree-F.Switch at value members)

pub case_unplaced : (at : Span) (value : ExprTree) → unplaced_stmt (stmt.Case at value) ≡ stmt.Case nowhere (unplaced_expr value)
unfolding unplaced_stmt
case_unplaced at value = ap unplaced_stmt (sym (stmt.rolls-Case at value)) ∙ fold-roll-StmtTree StmtTree unplaced_stmt_form (StmtTree-F.Case at value)

pub default_unplaced : (at : Span) → unplaced_stmt (stmt.Default at) ≡ stmt.Default nowhere
unfolding unplaced_stmt
default_unplaced at = ap unplaced_stmt (sym (stmt.rolls-Default at)) ∙ fold-roll-StmtTree StmtTree unplaced_stmt_form (StmtTree-F.Default at)

pub labelled_unplaced : (at : Span) (label : List ℕ) (body : StmtTree) → unplaced_stmt (stmt.Labelled at label body) ≡ stmt.Labelled nowhere label (unplaced_stmt body)
unfolding unplaced_stmt
labelled_unplaced at label body = ap unplaced_stmt (sym (stmt.rolls-Labelled at label body)) ∙ fold-roll-StmtTree StmtTree unplaced_stmt_form (StmtTree-F.Labelled at label body)

pub break_unplaced : (at : Span) (label : Option NamedPlace) → unplaced_stmt (stmt.Break at label) ≡ stmt.Break nowhere (option_map unplaced_name label)
unfolding unplaced_stmt
break_unplaced at label = ap unplaced_stmt (sym (stmt.rolls-Break at label)) ∙ fold-roll-StmtTree StmtTree unplaced_stmt_form (StmtTree-F.Break at label)

pub continue_unplaced : (at : Span) (label : Option NamedPlace) → unplaced_stmt (stmt.Continue at label) ≡ stmt.Continue nowhere (option_map unplaced_name label)
unfolding unplaced_stmt
continue_unplaced at label = ap unplaced_stmt (sym (stmt.rolls-Continue at label)) ∙ fold-roll-StmtTree StmtTree unplaced_stmt_form (StmtTree-F.Continue at label)

pub return_unplaced : (at : Span) (value : Option ExprTree) → unplaced_stmt (stmt.Return at value) ≡ stmt.Return nowhere (option_map unplaced_expr value)
unfolding unplaced_stmt
return_unplaced at value = ap unplaced_stmt (sym (stmt.rolls-Return at value)) ∙ fold-roll-StmtTree StmtTree unplaced_stmt_form (StmtTree-F.Return at value)

pub throw_unplaced : (at : Span) (value : ExprTree) → unplaced_stmt (stmt.Throw at value) ≡ stmt.Throw nowhere (unplaced_expr value)
unfolding unplaced_stmt
throw_unplaced at value = ap unplaced_stmt (sym (stmt.rolls-Throw at value)) ∙ fold-roll-StmtTree StmtTree unplaced_stmt_form (StmtTree-F.Throw at value)

pub synchronized_unplaced : (at : Span) (lock : ExprTree) (body : StmtTree) → unplaced_stmt (stmt.Synchronized at lock body) ≡ stmt.Synchronized nowhere (unplaced_expr lock) (unplaced_stmt body)
unfolding unplaced_stmt
synchronized_unplaced at lock body = ap unplaced_stmt (sym (stmt.rolls-Synchronized at lock body)) ∙ fold-roll-StmtTree StmtTree unplaced_stmt_form (StmtTree-F.Synchronized at lock body)

pub synchronized_class_unplaced : (at : Span) (class : NamedPlace) (body : StmtTree)
    → unplaced_stmt (stmt.SynchronizedClass at class body) ≡ stmt.SynchronizedClass nowhere (unplaced_name class) (unplaced_stmt body)
unfolding unplaced_stmt
synchronized_class_unplaced at class body = ap unplaced_stmt (sym (stmt.rolls-SynchronizedClass at class body)) ∙ fold-roll-StmtTree StmtTree unplaced_stmt_form (StmtTree-F.SynchronizedClass at class body)

pub try_unplaced : (at : Span) (body : StmtTree) (catches : List StmtTree) → unplaced_stmt (stmt.Try at body catches) ≡ stmt.Try nowhere (unplaced_stmt body) (map unplaced_stmt catches)
unfolding unplaced_stmt
try_unplaced at body catches = ap unplaced_stmt (sym (stmt.rolls-Try at body catches)) ∙ fold-roll-StmtTree StmtTree unplaced_stmt_form (StmtTree-F.Try at body catches)

pub try_finally_unplaced : (at : Span) (body : StmtTree) (catches : List StmtTree) (finally : StmtTree)
    → unplaced_stmt (stmt.TryFinally at body catches finally) ≡ stmt.TryFinally nowhere (unplaced_stmt body) (map unplaced_stmt catches) (unplaced_stmt finally)
unfolding unplaced_stmt
try_finally_unplaced at body catches finally = ap unplaced_stmt (sym (stmt.rolls-TryFinally at body catches finally))
    ∙ fold-roll-StmtTree StmtTree unplaced_stmt_form (StmtTree-F.TryFinally at body catches finally)

pub catch_unplaced : (at : Span) (is_final : Bool) (types : List TypeTree) (name : NamedPlace) (body : StmtTree)
    → unplaced_stmt (stmt.Catch at is_final types name body) ≡ stmt.Catch nowhere is_final (map unplaced_type types) (unplaced_name name) (unplaced_stmt body)
unfolding unplaced_stmt
catch_unplaced at is_final types name body = ap unplaced_stmt (sym (stmt.rolls-Catch at is_final types name body)) ∙ fold-roll-StmtTree StmtTree unplaced_stmt_form (StmtTree-F.Catch at is_final types name body)

pub constructor_call_unplaced : (at : Span) (is_super : Bool) (args : List ExprTree) → unplaced_stmt (stmt.ConstructorCall at is_super args) ≡ stmt.ConstructorCall nowhere is_super (map unplaced_expr args)
unfolding unplaced_stmt
constructor_call_unplaced at is_super args = ap unplaced_stmt (sym (stmt.rolls-ConstructorCall at is_super args)) ∙ fold-roll-StmtTree StmtTree unplaced_stmt_form (StmtTree-F.ConstructorCall at is_super args)
