-- The nodes of each form of statement.
use Rattle.std.proofs.Common.{◌≡◌, ℕ, suc, ◌+◌, Bool, List, map, Option, option_map, unwrap_or, sym, ap, ◌∙◌}
use Rattle.bj_base.specs.declared.span.Span.{Span}
use Rattle.bj_expr_tree.specs.declared.types.TypeTree.{TypeTree}
use Rattle.bj_expr_tree.specs.declared.types.NamedPlace.{NamedPlace}
use Rattle.bj_expr_tree.specs.declared.expr.ExprTree.{ExprTree}
use Rattle.bj_tree.specs.declared.stmt.VariableTree.{VariableTree}
use Rattle.bj_tree.specs.declared.stmt.StmtTree.{StmtTree}
use Rattle.bj_tree.specs.declared.stmt.StmtTree.TheVariants as stmt
use Rattle.bj_tree.specs.declared.stmt.StmtTree.TheOpen.{StmtTree-F}
use Rattle.bj_tree.specs.declared.stmt.StmtTree.TheFolds.{fold-roll-StmtTree}
use Rattle.bj_expr_tree.specs.Count.{total, nodes_of_expr}
use Rattle.bj_tree.specs.Count.{nodes_of_variable, stmt_form, nodes_of}

pub block_nodes : (at : Span) (body : List StmtTree) (end : Span) → nodes_of (stmt.Block at body end) ≡ suc (total (map nodes_of body))
unfolding nodes_of
block_nodes at body end = ap nodes_of (sym (stmt.rolls-Block at body end)) ∙ fold-roll-StmtTree ℕ stmt_form (StmtTree-F.Block at body end)

pub empty_nodes : (at : Span) → nodes_of (stmt.Empty at) ≡ 1
unfolding nodes_of
empty_nodes at = ap nodes_of (sym (stmt.rolls-Empty at)) ∙ fold-roll-StmtTree ℕ stmt_form (StmtTree-F.Empty at)

pub local_nodes : (at : Span) (is_final : Bool) (holds : TypeTree) (variables : List VariableTree) → nodes_of (stmt.Local at is_final holds variables) ≡ suc (total (map nodes_of_variable variables))
unfolding nodes_of
local_nodes at is_final holds variables = ap nodes_of (sym (stmt.rolls-Local at is_final holds variables)) ∙ fold-roll-StmtTree ℕ stmt_form (StmtTree-F.Local at is_final holds variables)

pub expression_nodes : (at : Span) (value : ExprTree) → nodes_of (stmt.Expression at value) ≡ suc (nodes_of_expr value)
unfolding nodes_of
expression_nodes at value = ap nodes_of (sym (stmt.rolls-Expression at value)) ∙ fold-roll-StmtTree ℕ stmt_form (StmtTree-F.Expression at value)

pub if_nodes : (at : Span) (test : ExprTree) (body : StmtTree) → nodes_of (stmt.If at test body) ≡ suc (nodes_of_expr test + nodes_of body)
unfolding nodes_of
if_nodes at test body = ap nodes_of (sym (stmt.rolls-If at test body)) ∙ fold-roll-StmtTree ℕ stmt_form (StmtTree-F.If at test body)

pub ifelse_nodes : (at : Span) (test : ExprTree) (body : StmtTree) (other : StmtTree) → nodes_of (stmt.IfElse at test body other) ≡ suc (nodes_of_expr test + (nodes_of body + nodes_of other))
unfolding nodes_of
ifelse_nodes at test body other = ap nodes_of (sym (stmt.rolls-IfElse at test body other)) ∙ fold-roll-StmtTree ℕ stmt_form (StmtTree-F.IfElse at test body other)

pub while_nodes : (at : Span) (test : ExprTree) (body : StmtTree) → nodes_of (stmt.While at test body) ≡ suc (nodes_of_expr test + nodes_of body)
unfolding nodes_of
while_nodes at test body = ap nodes_of (sym (stmt.rolls-While at test body)) ∙ fold-roll-StmtTree ℕ stmt_form (StmtTree-F.While at test body)

pub do_nodes : (at : Span) (body : StmtTree) (test : ExprTree) → nodes_of (stmt.Do at body test) ≡ suc (nodes_of body + nodes_of_expr test)
unfolding nodes_of
do_nodes at body test = ap nodes_of (sym (stmt.rolls-Do at body test)) ∙ fold-roll-StmtTree ℕ stmt_form (StmtTree-F.Do at body test)

pub for_nodes : (at : Span) (init : List StmtTree) (test : Option ExprTree) (update : List ExprTree) (body : StmtTree) → nodes_of (stmt.For at init test update body) ≡ suc (total (map nodes_of init) + (unwrap_or (option_map nodes_of_expr test) 0 + (total (map nodes_of_expr update) + nodes_of body)))
unfolding nodes_of
for_nodes at init test update body = ap nodes_of (sym (stmt.rolls-For at init test update body)) ∙ fold-roll-StmtTree ℕ stmt_form (StmtTree-F.For at init test update body)

pub foreach_nodes : (at : Span) (is_final : Bool) (holds : TypeTree) (name : NamedPlace) (over : ExprTree) (body : StmtTree) → nodes_of (stmt.ForEach at is_final holds name over body) ≡ suc (nodes_of_expr over + nodes_of body)
unfolding nodes_of
foreach_nodes at is_final holds name over body = ap nodes_of (sym (stmt.rolls-ForEach at is_final holds name over body)) ∙ fold-roll-StmtTree ℕ stmt_form (StmtTree-F.ForEach at is_final holds name over body)

pub switch_nodes : (at : Span) (value : ExprTree) (members : List StmtTree) → nodes_of (stmt.Switch at value members) ≡ suc (nodes_of_expr value + total (map nodes_of members))
unfolding nodes_of
switch_nodes at value members = ap nodes_of (sym (stmt.rolls-Switch at value members)) ∙ fold-roll-StmtTree ℕ stmt_form (StmtTree-F.Switch at value members)

pub case_nodes : (at : Span) (value : ExprTree) → nodes_of (stmt.Case at value) ≡ suc (nodes_of_expr value)
unfolding nodes_of
case_nodes at value = ap nodes_of (sym (stmt.rolls-Case at value)) ∙ fold-roll-StmtTree ℕ stmt_form (StmtTree-F.Case at value)

pub default_nodes : (at : Span) → nodes_of (stmt.Default at) ≡ 1
unfolding nodes_of
default_nodes at = ap nodes_of (sym (stmt.rolls-Default at)) ∙ fold-roll-StmtTree ℕ stmt_form (StmtTree-F.Default at)

pub labelled_nodes : (at : Span) (label : List ℕ) (body : StmtTree) → nodes_of (stmt.Labelled at label body) ≡ suc (nodes_of body)
unfolding nodes_of
labelled_nodes at label body = ap nodes_of (sym (stmt.rolls-Labelled at label body)) ∙ fold-roll-StmtTree ℕ stmt_form (StmtTree-F.Labelled at label body)

pub break_nodes : (at : Span) (label : Option NamedPlace) → nodes_of (stmt.Break at label) ≡ 1
unfolding nodes_of
break_nodes at label = ap nodes_of (sym (stmt.rolls-Break at label)) ∙ fold-roll-StmtTree ℕ stmt_form (StmtTree-F.Break at label)

pub continue_nodes : (at : Span) (label : Option NamedPlace) → nodes_of (stmt.Continue at label) ≡ 1
unfolding nodes_of
continue_nodes at label = ap nodes_of (sym (stmt.rolls-Continue at label)) ∙ fold-roll-StmtTree ℕ stmt_form (StmtTree-F.Continue at label)

pub return_nodes : (at : Span) (value : Option ExprTree) → nodes_of (stmt.Return at value) ≡ suc (unwrap_or (option_map nodes_of_expr value) 0)
unfolding nodes_of
return_nodes at value = ap nodes_of (sym (stmt.rolls-Return at value)) ∙ fold-roll-StmtTree ℕ stmt_form (StmtTree-F.Return at value)

pub throw_nodes : (at : Span) (value : ExprTree) → nodes_of (stmt.Throw at value) ≡ suc (nodes_of_expr value)
unfolding nodes_of
throw_nodes at value = ap nodes_of (sym (stmt.rolls-Throw at value)) ∙ fold-roll-StmtTree ℕ stmt_form (StmtTree-F.Throw at value)

pub synchronized_nodes : (at : Span) (lock : ExprTree) (body : StmtTree) → nodes_of (stmt.Synchronized at lock body) ≡ suc (nodes_of_expr lock + nodes_of body)
unfolding nodes_of
synchronized_nodes at lock body = ap nodes_of (sym (stmt.rolls-Synchronized at lock body)) ∙ fold-roll-StmtTree ℕ stmt_form (StmtTree-F.Synchronized at lock body)

pub synchronizedclass_nodes : (at : Span) (class : NamedPlace) (body : StmtTree) → nodes_of (stmt.SynchronizedClass at class body) ≡ suc (nodes_of body)
unfolding nodes_of
synchronizedclass_nodes at class body = ap nodes_of (sym (stmt.rolls-SynchronizedClass at class body)) ∙ fold-roll-StmtTree ℕ stmt_form (StmtTree-F.SynchronizedClass at class body)

pub try_nodes : (at : Span) (body : StmtTree) (catches : List StmtTree) → nodes_of (stmt.Try at body catches) ≡ suc (nodes_of body + total (map nodes_of catches))
unfolding nodes_of
try_nodes at body catches = ap nodes_of (sym (stmt.rolls-Try at body catches)) ∙ fold-roll-StmtTree ℕ stmt_form (StmtTree-F.Try at body catches)

pub tryfinally_nodes : (at : Span) (body : StmtTree) (catches : List StmtTree) (finally : StmtTree) → nodes_of (stmt.TryFinally at body catches finally) ≡ suc (nodes_of body + (total (map nodes_of catches) + nodes_of finally))
unfolding nodes_of
tryfinally_nodes at body catches finally = ap nodes_of (sym (stmt.rolls-TryFinally at body catches finally)) ∙ fold-roll-StmtTree ℕ stmt_form (StmtTree-F.TryFinally at body catches finally)

pub catch_nodes : (at : Span) (is_final : Bool) (types : List TypeTree) (name : NamedPlace) (body : StmtTree) → nodes_of (stmt.Catch at is_final types name body) ≡ suc (nodes_of body)
unfolding nodes_of
catch_nodes at is_final types name body = ap nodes_of (sym (stmt.rolls-Catch at is_final types name body)) ∙ fold-roll-StmtTree ℕ stmt_form (StmtTree-F.Catch at is_final types name body)

pub constructorcall_nodes : (at : Span) (is_super : Bool) (args : List ExprTree) → nodes_of (stmt.ConstructorCall at is_super args) ≡ suc (total (map nodes_of_expr args))
unfolding nodes_of
constructorcall_nodes at is_super args = ap nodes_of (sym (stmt.rolls-ConstructorCall at is_super args)) ∙ fold-roll-StmtTree ℕ stmt_form (StmtTree-F.ConstructorCall at is_super args)

pub ruleset stmt_nodes = (block_nodes, empty_nodes, local_nodes, expression_nodes, if_nodes, ifelse_nodes, while_nodes, do_nodes, for_nodes, foreach_nodes, switch_nodes, case_nodes, default_nodes, labelled_nodes, break_nodes, continue_nodes, return_nodes, throw_nodes, synchronized_nodes, synchronizedclass_nodes, try_nodes, tryfinally_nodes, catch_nodes, constructorcall_nodes)
