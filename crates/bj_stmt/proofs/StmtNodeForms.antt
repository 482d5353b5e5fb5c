-- The nodes of each form of statement: the one at its root, and those below it.
use Rattle.std.proofs.Common.{◌≡◌, ℕ, suc, Bool, List, [], ◌∷◌, ◌++◌, map, Option, sym, ap, ◌∙◌}
use Rattle.bj_base.specs.declared.span.Span.{Span}
use Rattle.bj_expr_tree.specs.declared.types.TypeTree.{TypeTree}
use Rattle.bj_expr_tree.specs.declared.types.NamedPlace.{NamedPlace}
use Rattle.bj_expr_tree.specs.declared.expr.ExprTree.{ExprTree}
use Rattle.bj_tree.specs.declared.stmt.VariableTree.{VariableTree}
use Rattle.bj_tree.specs.declared.stmt.StmtTree.{StmtTree}
use Rattle.bj_tree.specs.declared.stmt.StmtTree.TheVariants as stmt
use Rattle.bj_tree.specs.declared.stmt.StmtTree.TheOpen.{StmtTree-F}
use Rattle.bj_tree.specs.declared.stmt.StmtTree.TheFolds.{fold-roll-StmtTree}
use Rattle.bj_expr.specs.Nodes.{all_beside, nodes_at}
use Rattle.bj_stmt.specs.Nodes.{option_nodes, variable_nodes, stmt_nodes_form, stmt_nodes_at}

pub block_below : (at : Span) (body : List StmtTree) (end : Span) (n : ℕ) → stmt_nodes_at (stmt.Block at body end) (suc n) ≡ all_beside (map stmt_nodes_at body) n
unfolding stmt_nodes_at
block_below at body end n = ap (λ (f : ℕ → List Span). f (suc n)) (ap stmt_nodes_at (sym (stmt.rolls-Block at body end)) ∙ fold-roll-StmtTree (ℕ → List Span) stmt_nodes_form (StmtTree-F.Block at body end))

pub block_root : (at : Span) (body : List StmtTree) (end : Span) → stmt_nodes_at (stmt.Block at body end) 0 ≡ at ∷ []
unfolding stmt_nodes_at
block_root at body end = ap (λ (f : ℕ → List Span). f 0) (ap stmt_nodes_at (sym (stmt.rolls-Block at body end)) ∙ fold-roll-StmtTree (ℕ → List Span) stmt_nodes_form (StmtTree-F.Block at body end))

pub empty_below : (at : Span) (n : ℕ) → stmt_nodes_at (stmt.Empty at) (suc n) ≡ []
unfolding stmt_nodes_at
empty_below at n = ap (λ (f : ℕ → List Span). f (suc n)) (ap stmt_nodes_at (sym (stmt.rolls-Empty at)) ∙ fold-roll-StmtTree (ℕ → List Span) stmt_nodes_form (StmtTree-F.Empty at))

pub empty_root : (at : Span) → stmt_nodes_at (stmt.Empty at) 0 ≡ at ∷ []
unfolding stmt_nodes_at
empty_root at = ap (λ (f : ℕ → List Span). f 0) (ap stmt_nodes_at (sym (stmt.rolls-Empty at)) ∙ fold-roll-StmtTree (ℕ → List Span) stmt_nodes_form (StmtTree-F.Empty at))

pub local_below : (at : Span) (is_final : Bool) (holds : TypeTree) (variables : List VariableTree) (n : ℕ) → stmt_nodes_at (stmt.Local at is_final holds variables) (suc n) ≡ all_beside (map variable_nodes variables) n
unfolding stmt_nodes_at
local_below at is_final holds variables n = ap (λ (f : ℕ → List Span). f (suc n)) (ap stmt_nodes_at (sym (stmt.rolls-Local at is_final holds variables)) ∙ fold-roll-StmtTree (ℕ → List Span) stmt_nodes_form (StmtTree-F.Local at is_final holds variables))

pub local_root : (at : Span) (is_final : Bool) (holds : TypeTree) (variables : List VariableTree) → stmt_nodes_at (stmt.Local at is_final holds variables) 0 ≡ at ∷ []
unfolding stmt_nodes_at
local_root at is_final holds variables = ap (λ (f : ℕ → List Span). f 0) (ap stmt_nodes_at (sym (stmt.rolls-Local at is_final holds variables)) ∙ fold-roll-StmtTree (ℕ → List Span) stmt_nodes_form (StmtTree-F.Local at is_final holds variables))

pub expression_below : (at : Span) (value : ExprTree) (n : ℕ) → stmt_nodes_at (stmt.Expression at value) (suc n) ≡ nodes_at value n
unfolding stmt_nodes_at
expression_below at value n = ap (λ (f : ℕ → List Span). f (suc n)) (ap stmt_nodes_at (sym (stmt.rolls-Expression at value)) ∙ fold-roll-StmtTree (ℕ → List Span) stmt_nodes_form (StmtTree-F.Expression at value))

pub expression_root : (at : Span) (value : ExprTree) → stmt_nodes_at (stmt.Expression at value) 0 ≡ at ∷ []
unfolding stmt_nodes_at
expression_root at value = ap (λ (f : ℕ → List Span). f 0) (ap stmt_nodes_at (sym (stmt.rolls-Expression at value)) ∙ fold-roll-StmtTree (ℕ → List Span) stmt_nodes_form (StmtTree-F.Expression at value))

pub if_below : (at : Span) (test : ExprTree) (body : StmtTree) (n : ℕ) → stmt_nodes_at (stmt.If at test body) (suc n) ≡ nodes_at test n ++ stmt_nodes_at body n
unfolding stmt_nodes_at
if_below at test body n = ap (λ (f : ℕ → List Span). f (suc n)) (ap stmt_nodes_at (sym (stmt.rolls-If at test body)) ∙ fold-roll-StmtTree (ℕ → List Span) stmt_nodes_form (StmtTree-F.If at test body))

pub if_root : (at : Span) (test : ExprTree) (body : StmtTree) → stmt_nodes_at (stmt.If at test body) 0 ≡ at ∷ []
unfolding stmt_nodes_at
if_root at test body = ap (λ (f : ℕ → List Span). f 0) (ap stmt_nodes_at (sym (stmt.rolls-If at test body)) ∙ fold-roll-StmtTree (ℕ → List Span) stmt_nodes_form (StmtTree-F.If at test body))

pub ifelse_below : (at : Span) (test : ExprTree) (body : StmtTree) (other : StmtTree) (n : ℕ) → stmt_nodes_at (stmt.IfElse at test body other) (suc n) ≡ nodes_at test n ++ (stmt_nodes_at body n ++ stmt_nodes_at other n)
unfolding stmt_nodes_at
ifelse_below at test body other n = ap (λ (f : ℕ → List Span). f (suc n)) (ap stmt_nodes_at (sym (stmt.rolls-IfElse at test body other)) ∙ fold-roll-StmtTree (ℕ → List Span) stmt_nodes_form (StmtTree-F.IfElse at test body other))

pub ifelse_root : (at : Span) (test : ExprTree) (body : StmtTree) (other : StmtTree) → stmt_nodes_at (stmt.IfElse at test body other) 0 ≡ at ∷ []
unfolding stmt_nodes_at
ifelse_root at test body other = ap (λ (f : ℕ → List Span). f 0) (ap stmt_nodes_at (sym (stmt.rolls-IfElse at test body other)) ∙ fold-roll-StmtTree (ℕ → List Span) stmt_nodes_form (StmtTree-F.IfElse at test body other))

pub while_below : (at : Span) (test : ExprTree) (body : StmtTree) (n : ℕ) → stmt_nodes_at (stmt.While at test body) (suc n) ≡ nodes_at test n ++ stmt_nodes_at body n
unfolding stmt_nodes_at
while_below at test body n = ap (λ (f : ℕ → List Span). f (suc n)) (ap stmt_nodes_at (sym (stmt.rolls-While at test body)) ∙ fold-roll-StmtTree (ℕ → List Span) stmt_nodes_form (StmtTree-F.While at test body))

pub while_root : (at : Span) (test : ExprTree) (body : StmtTree) → stmt_nodes_at (stmt.While at test body) 0 ≡ at ∷ []
unfolding stmt_nodes_at
while_root at test body = ap (λ (f : ℕ → List Span). f 0) (ap stmt_nodes_at (sym (stmt.rolls-While at test body)) ∙ fold-roll-StmtTree (ℕ → List Span) stmt_nodes_form (StmtTree-F.While at test body))

pub do_below : (at : Span) (body : StmtTree) (test : ExprTree) (n : ℕ) → stmt_nodes_at (stmt.Do at body test) (suc n) ≡ stmt_nodes_at body n ++ nodes_at test n
unfolding stmt_nodes_at
do_below at body test n = ap (λ (f : ℕ → List Span). f (suc n)) (ap stmt_nodes_at (sym (stmt.rolls-Do at body test)) ∙ fold-roll-StmtTree (ℕ → List Span) stmt_nodes_form (StmtTree-F.Do at body test))

pub do_root : (at : Span) (body : StmtTree) (test : ExprTree) → stmt_nodes_at (stmt.Do at body test) 0 ≡ at ∷ []
unfolding stmt_nodes_at
do_root at body test = ap (λ (f : ℕ → List Span). f 0) (ap stmt_nodes_at (sym (stmt.rolls-Do at body test)) ∙ fold-roll-StmtTree (ℕ → List Span) stmt_nodes_form (StmtTree-F.Do at body test))

pub for_below : (at : Span) (init : List StmtTree) (test : Option ExprTree) (update : List ExprTree) (body : StmtTree) (n : ℕ) → stmt_nodes_at (stmt.For at init test update body) (suc n) ≡ all_beside (map stmt_nodes_at init) n ++ (option_nodes test n ++ (all_beside (map nodes_at update) n ++ stmt_nodes_at body n))
unfolding stmt_nodes_at
for_below at init test update body n = ap (λ (f : ℕ → List Span). f (suc n)) (ap stmt_nodes_at (sym (stmt.rolls-For at init test update body)) ∙ fold-roll-StmtTree (ℕ → List Span) stmt_nodes_form (StmtTree-F.For at init test update body))

pub for_root : (at : Span) (init : List StmtTree) (test : Option ExprTree) (update : List ExprTree) (body : StmtTree) → stmt_nodes_at (stmt.For at init test update body) 0 ≡ at ∷ []
unfolding stmt_nodes_at
for_root at init test update body = ap (λ (f : ℕ → List Span). f 0) (ap stmt_nodes_at (sym (stmt.rolls-For at init test update body)) ∙ fold-roll-StmtTree (ℕ → List Span) stmt_nodes_form (StmtTree-F.For at init test update body))

pub foreach_below : (at : Span) (is_final : Bool) (holds : TypeTree) (name : NamedPlace) (ranges : ExprTree) (body : StmtTree) (n : ℕ) → stmt_nodes_at (stmt.ForEach at is_final holds name ranges body) (suc n) ≡ nodes_at ranges n ++ stmt_nodes_at body n
unfolding stmt_nodes_at
foreach_below at is_final holds name ranges body n = ap (λ (f : ℕ → List Span). f (suc n)) (ap stmt_nodes_at (sym (stmt.rolls-ForEach at is_final holds name ranges body)) ∙ fold-roll-StmtTree (ℕ → List Span) stmt_nodes_form (StmtTree-F.ForEach at is_final holds name ranges body))

pub foreach_root : (at : Span) (is_final : Bool) (holds : TypeTree) (name : NamedPlace) (ranges : ExprTree) (body : StmtTree) → stmt_nodes_at (stmt.ForEach at is_final holds name ranges body) 0 ≡ at ∷ []
unfolding stmt_nodes_at
foreach_root at is_final holds name ranges body = ap (λ (f : ℕ → List Span). f 0) (ap stmt_nodes_at (sym (stmt.rolls-ForEach at is_final holds name ranges body)) ∙ fold-roll-StmtTree (ℕ → List Span) stmt_nodes_form (StmtTree-F.ForEach at is_final holds name ranges body))

pub switch_below : (at : Span) (value : ExprTree) (members : List StmtTree) (n : ℕ) → stmt_nodes_at (stmt.Switch at value members) (suc n) ≡ nodes_at value n ++ all_beside (map stmt_nodes_at members) n
unfolding stmt_nodes_at
switch_below at value members n = ap (λ (f : ℕ → List Span). f (suc n)) (ap stmt_nodes_at (sym (stmt.rolls-Switch at value members)) ∙ fold-roll-StmtTree (ℕ → List Span) stmt_nodes_form (StmtTree-F.Switch at value members))

pub switch_root : (at : Span) (value : ExprTree) (members : List StmtTree) → stmt_nodes_at (stmt.Switch at value members) 0 ≡ at ∷ []
unfolding stmt_nodes_at
switch_root at value members = ap (λ (f : ℕ → List Span). f 0) (ap stmt_nodes_at (sym (stmt.rolls-Switch at value members)) ∙ fold-roll-StmtTree (ℕ → List Span) stmt_nodes_form (StmtTree-F.Switch at value members))

pub case_below : (at : Span) (value : ExprTree) (n : ℕ) → stmt_nodes_at (stmt.Case at value) (suc n) ≡ nodes_at value n
unfolding stmt_nodes_at
case_below at value n = ap (λ (f : ℕ → List Span). f (suc n)) (ap stmt_nodes_at (sym (stmt.rolls-Case at value)) ∙ fold-roll-StmtTree (ℕ → List Span) stmt_nodes_form (StmtTree-F.Case at value))

pub case_root : (at : Span) (value : ExprTree) → stmt_nodes_at (stmt.Case at value) 0 ≡ at ∷ []
unfolding stmt_nodes_at
case_root at value = ap (λ (f : ℕ → List Span). f 0) (ap stmt_nodes_at (sym (stmt.rolls-Case at value)) ∙ fold-roll-StmtTree (ℕ → List Span) stmt_nodes_form (StmtTree-F.Case at value))

pub default_below : (at : Span) (n : ℕ) → stmt_nodes_at (stmt.Default at) (suc n) ≡ []
unfolding stmt_nodes_at
default_below at n = ap (λ (f : ℕ → List Span). f (suc n)) (ap stmt_nodes_at (sym (stmt.rolls-Default at)) ∙ fold-roll-StmtTree (ℕ → List Span) stmt_nodes_form (StmtTree-F.Default at))

pub default_root : (at : Span) → stmt_nodes_at (stmt.Default at) 0 ≡ at ∷ []
unfolding stmt_nodes_at
default_root at = ap (λ (f : ℕ → List Span). f 0) (ap stmt_nodes_at (sym (stmt.rolls-Default at)) ∙ fold-roll-StmtTree (ℕ → List Span) stmt_nodes_form (StmtTree-F.Default at))

pub labelled_below : (at : Span) (label : List ℕ) (body : StmtTree) (n : ℕ) → stmt_nodes_at (stmt.Labelled at label body) (suc n) ≡ stmt_nodes_at body n
unfolding stmt_nodes_at
labelled_below at label body n = ap (λ (f : ℕ → List Span). f (suc n)) (ap stmt_nodes_at (sym (stmt.rolls-Labelled at label body)) ∙ fold-roll-StmtTree (ℕ → List Span) stmt_nodes_form (StmtTree-F.Labelled at label body))

pub labelled_root : (at : Span) (label : List ℕ) (body : StmtTree) → stmt_nodes_at (stmt.Labelled at label body) 0 ≡ at ∷ []
unfolding stmt_nodes_at
labelled_root at label body = ap (λ (f : ℕ → List Span). f 0) (ap stmt_nodes_at (sym (stmt.rolls-Labelled at label body)) ∙ fold-roll-StmtTree (ℕ → List Span) stmt_nodes_form (StmtTree-F.Labelled at label body))

pub break_below : (at : Span) (label : Option NamedPlace) (n : ℕ) → stmt_nodes_at (stmt.Break at label) (suc n) ≡ []
unfolding stmt_nodes_at
break_below at label n = ap (λ (f : ℕ → List Span). f (suc n)) (ap stmt_nodes_at (sym (stmt.rolls-Break at label)) ∙ fold-roll-StmtTree (ℕ → List Span) stmt_nodes_form (StmtTree-F.Break at label))

pub break_root : (at : Span) (label : Option NamedPlace) → stmt_nodes_at (stmt.Break at label) 0 ≡ at ∷ []
unfolding stmt_nodes_at
break_root at label = ap (λ (f : ℕ → List Span). f 0) (ap stmt_nodes_at (sym (stmt.rolls-Break at label)) ∙ fold-roll-StmtTree (ℕ → List Span) stmt_nodes_form (StmtTree-F.Break at label))

pub continue_below : (at : Span) (label : Option NamedPlace) (n : ℕ) → stmt_nodes_at (stmt.Continue at label) (suc n) ≡ []
unfolding stmt_nodes_at
continue_below at label n = ap (λ (f : ℕ → List Span). f (suc n)) (ap stmt_nodes_at (sym (stmt.rolls-Continue at label)) ∙ fold-roll-StmtTree (ℕ → List Span) stmt_nodes_form (StmtTree-F.Continue at label))

pub continue_root : (at : Span) (label : Option NamedPlace) → stmt_nodes_at (stmt.Continue at label) 0 ≡ at ∷ []
unfolding stmt_nodes_at
continue_root at label = ap (λ (f : ℕ → List Span). f 0) (ap stmt_nodes_at (sym (stmt.rolls-Continue at label)) ∙ fold-roll-StmtTree (ℕ → List Span) stmt_nodes_form (StmtTree-F.Continue at label))

pub return_below : (at : Span) (value : Option ExprTree) (n : ℕ) → stmt_nodes_at (stmt.Return at value) (suc n) ≡ option_nodes value n
unfolding stmt_nodes_at
return_below at value n = ap (λ (f : ℕ → List Span). f (suc n)) (ap stmt_nodes_at (sym (stmt.rolls-Return at value)) ∙ fold-roll-StmtTree (ℕ → List Span) stmt_nodes_form (StmtTree-F.Return at value))

pub return_root : (at : Span) (value : Option ExprTree) → stmt_nodes_at (stmt.Return at value) 0 ≡ at ∷ []
unfolding stmt_nodes_at
return_root at value = ap (λ (f : ℕ → List Span). f 0) (ap stmt_nodes_at (sym (stmt.rolls-Return at value)) ∙ fold-roll-StmtTree (ℕ → List Span) stmt_nodes_form (StmtTree-F.Return at value))

pub throw_below : (at : Span) (value : ExprTree) (n : ℕ) → stmt_nodes_at (stmt.Throw at value) (suc n) ≡ nodes_at value n
unfolding stmt_nodes_at
throw_below at value n = ap (λ (f : ℕ → List Span). f (suc n)) (ap stmt_nodes_at (sym (stmt.rolls-Throw at value)) ∙ fold-roll-StmtTree (ℕ → List Span) stmt_nodes_form (StmtTree-F.Throw at value))

pub throw_root : (at : Span) (value : ExprTree) → stmt_nodes_at (stmt.Throw at value) 0 ≡ at ∷ []
unfolding stmt_nodes_at
throw_root at value = ap (λ (f : ℕ → List Span). f 0) (ap stmt_nodes_at (sym (stmt.rolls-Throw at value)) ∙ fold-roll-StmtTree (ℕ → List Span) stmt_nodes_form (StmtTree-F.Throw at value))

pub synchronized_below : (at : Span) (lock : ExprTree) (body : StmtTree) (n : ℕ) → stmt_nodes_at (stmt.Synchronized at lock body) (suc n) ≡ nodes_at lock n ++ stmt_nodes_at body n
unfolding stmt_nodes_at
synchronized_below at lock body n = ap (λ (f : ℕ → List Span). f (suc n)) (ap stmt_nodes_at (sym (stmt.rolls-Synchronized at lock body)) ∙ fold-roll-StmtTree (ℕ → List Span) stmt_nodes_form (StmtTree-F.Synchronized at lock body))

pub synchronized_root : (at : Span) (lock : ExprTree) (body : StmtTree) → stmt_nodes_at (stmt.Synchronized at lock body) 0 ≡ at ∷ []
unfolding stmt_nodes_at
synchronized_root at lock body = ap (λ (f : ℕ → List Span). f 0) (ap stmt_nodes_at (sym (stmt.rolls-Synchronized at lock body)) ∙ fold-roll-StmtTree (ℕ → List Span) stmt_nodes_form (StmtTree-F.Synchronized at lock body))

pub synchronizedclass_below : (at : Span) (class : NamedPlace) (body : StmtTree) (n : ℕ) → stmt_nodes_at (stmt.SynchronizedClass at class body) (suc n) ≡ stmt_nodes_at body n
unfolding stmt_nodes_at
synchronizedclass_below at class body n = ap (λ (f : ℕ → List Span). f (suc n)) (ap stmt_nodes_at (sym (stmt.rolls-SynchronizedClass at class body)) ∙ fold-roll-StmtTree (ℕ → List Span) stmt_nodes_form (StmtTree-F.SynchronizedClass at class body))

pub synchronizedclass_root : (at : Span) (class : NamedPlace) (body : StmtTree) → stmt_nodes_at (stmt.SynchronizedClass at class body) 0 ≡ at ∷ []
unfolding stmt_nodes_at
synchronizedclass_root at class body = ap (λ (f : ℕ → List Span). f 0) (ap stmt_nodes_at (sym (stmt.rolls-SynchronizedClass at class body)) ∙ fold-roll-StmtTree (ℕ → List Span) stmt_nodes_form (StmtTree-F.SynchronizedClass at class body))

pub try_below : (at : Span) (body : StmtTree) (catches : List StmtTree) (n : ℕ) → stmt_nodes_at (stmt.Try at body catches) (suc n) ≡ stmt_nodes_at body n ++ all_beside (map stmt_nodes_at catches) n
unfolding stmt_nodes_at
try_below at body catches n = ap (λ (f : ℕ → List Span). f (suc n)) (ap stmt_nodes_at (sym (stmt.rolls-Try at body catches)) ∙ fold-roll-StmtTree (ℕ → List Span) stmt_nodes_form (StmtTree-F.Try at body catches))

pub try_root : (at : Span) (body : StmtTree) (catches : List StmtTree) → stmt_nodes_at (stmt.Try at body catches) 0 ≡ at ∷ []
unfolding stmt_nodes_at
try_root at body catches = ap (λ (f : ℕ → List Span). f 0) (ap stmt_nodes_at (sym (stmt.rolls-Try at body catches)) ∙ fold-roll-StmtTree (ℕ → List Span) stmt_nodes_form (StmtTree-F.Try at body catches))

pub tryfinally_below : (at : Span) (body : StmtTree) (catches : List StmtTree) (finally : StmtTree) (n : ℕ) → stmt_nodes_at (stmt.TryFinally at body catches finally) (suc n) ≡ stmt_nodes_at body n ++ (all_beside (map stmt_nodes_at catches) n ++ stmt_nodes_at finally n)
unfolding stmt_nodes_at
tryfinally_below at body catches finally n = ap (λ (f : ℕ → List Span). f (suc n)) (ap stmt_nodes_at (sym (stmt.rolls-TryFinally at body catches finally)) ∙ fold-roll-StmtTree (ℕ → List Span) stmt_nodes_form (StmtTree-F.TryFinally at body catches finally))

pub tryfinally_root : (at : Span) (body : StmtTree) (catches : List StmtTree) (finally : StmtTree) → stmt_nodes_at (stmt.TryFinally at body catches finally) 0 ≡ at ∷ []
unfolding stmt_nodes_at
tryfinally_root at body catches finally = ap (λ (f : ℕ → List Span). f 0) (ap stmt_nodes_at (sym (stmt.rolls-TryFinally at body catches finally)) ∙ fold-roll-StmtTree (ℕ → List Span) stmt_nodes_form (StmtTree-F.TryFinally at body catches finally))

pub catch_below : (at : Span) (is_final : Bool) (types : List TypeTree) (name : NamedPlace) (body : StmtTree) (n : ℕ) → stmt_nodes_at (stmt.Catch at is_final types name body) (suc n) ≡ stmt_nodes_at body n
unfolding stmt_nodes_at
catch_below at is_final types name body n = ap (λ (f : ℕ → List Span). f (suc n)) (ap stmt_nodes_at (sym (stmt.rolls-Catch at is_final types name body)) ∙ fold-roll-StmtTree (ℕ → List Span) stmt_nodes_form (StmtTree-F.Catch at is_final types name body))

pub catch_root : (at : Span) (is_final : Bool) (types : List TypeTree) (name : NamedPlace) (body : StmtTree) → stmt_nodes_at (stmt.Catch at is_final types name body) 0 ≡ at ∷ []
unfolding stmt_nodes_at
catch_root at is_final types name body = ap (λ (f : ℕ → List Span). f 0) (ap stmt_nodes_at (sym (stmt.rolls-Catch at is_final types name body)) ∙ fold-roll-StmtTree (ℕ → List Span) stmt_nodes_form (StmtTree-F.Catch at is_final types name body))

pub constructorcall_below : (at : Span) (is_super : Bool) (args : List ExprTree) (n : ℕ) → stmt_nodes_at (stmt.ConstructorCall at is_super args) (suc n) ≡ all_beside (map nodes_at args) n
unfolding stmt_nodes_at
constructorcall_below at is_super args n = ap (λ (f : ℕ → List Span). f (suc n)) (ap stmt_nodes_at (sym (stmt.rolls-ConstructorCall at is_super args)) ∙ fold-roll-StmtTree (ℕ → List Span) stmt_nodes_form (StmtTree-F.ConstructorCall at is_super args))

pub constructorcall_root : (at : Span) (is_super : Bool) (args : List ExprTree) → stmt_nodes_at (stmt.ConstructorCall at is_super args) 0 ≡ at ∷ []
unfolding stmt_nodes_at
constructorcall_root at is_super args = ap (λ (f : ℕ → List Span). f 0) (ap stmt_nodes_at (sym (stmt.rolls-ConstructorCall at is_super args)) ∙ fold-roll-StmtTree (ℕ → List Span) stmt_nodes_form (StmtTree-F.ConstructorCall at is_super args))
