-- The height of each form of statement.
use Rattle.std.proofs.Common.{◌≡◌, ℕ, suc, Bool, List, [], ◌∷◌, ◌++◌, map, Option, option_map, unwrap_or, refl, sym, ap, ◌∙◌, arith}
use Rattle.std.specs.Prelude.{max}
use Rattle.bj_base.specs.declared.span.Span.{Span}
use Rattle.bj_expr_tree.specs.declared.types.TypeTree.{TypeTree}
use Rattle.bj_expr_tree.specs.declared.types.NamedPlace.{NamedPlace}
use Rattle.bj_expr_tree.specs.declared.expr.ExprTree.{ExprTree}
use Rattle.bj_tree.specs.declared.stmt.VariableTree.{VariableTree}
use Rattle.bj_tree.specs.declared.stmt.StmtTree.{StmtTree}
use Rattle.bj_tree.specs.declared.stmt.StmtTree.TheVariants as stmt
use Rattle.bj_tree.specs.declared.stmt.StmtTree.TheOpen.{StmtTree-F}
use Rattle.bj_tree.specs.declared.stmt.StmtTree.TheFolds.{fold-roll-StmtTree}
use Rattle.bj_expr_tree.specs.Size.{most, height_of}
use Rattle.bj_stmt.specs.Heights.{variable_height, stmt_form, stmt_height}

-- the height of a list is that of its highest
abbrev pub stmts_height : List StmtTree → ℕ
stmts_height xs = most (map stmt_height xs)

abbrev pub exprs_height : List ExprTree → ℕ
exprs_height xs = most (map height_of xs)

abbrev pub variables_height : List VariableTree → ℕ
variables_height xs = most (map variable_height xs)

abbrev pub option_height : Option ExprTree → ℕ
option_height x = unwrap_or (option_map height_of x) 0

most_end : (ns : List ℕ) (n : ℕ) → most (ns ++ n ∷ []) ≡ max (most ns) n
most_end [] n = omega arith
most_end (k ∷ ns) n = let h = most_end ns n in omega arith

map_end : {A : Type 0} (f : A → ℕ) (xs : List A) (x : A) → map f (xs ++ x ∷ []) ≡ map f xs ++ f x ∷ []
map_end f [] x = refl
map_end f (y ∷ xs) x = ap (λ (ns : List ℕ). f y ∷ ns) (map_end f xs x)

pub height_end : {A : Type 0} (f : A → ℕ) (xs : List A) (x : A) → most (map f (xs ++ x ∷ [])) ≡ max (most (map f xs)) (f x)
height_end f xs x = ap most (map_end f xs x) ∙ most_end (map f xs) (f x)

pub block_height : (at : Span) (body : List StmtTree) (end : Span) → stmt_height (stmt.Block at body end) ≡ suc (stmts_height body)
unfolding stmt_height
block_height at body end = ap stmt_height (sym (stmt.rolls-Block at body end)) ∙ fold-roll-StmtTree ℕ stmt_form (StmtTree-F.Block at body end)

pub empty_height : (at : Span) → stmt_height (stmt.Empty at) ≡ 1
unfolding stmt_height
empty_height at = ap stmt_height (sym (stmt.rolls-Empty at)) ∙ fold-roll-StmtTree ℕ stmt_form (StmtTree-F.Empty at)

pub local_height : (at : Span) (is_final : Bool) (holds : TypeTree) (variables : List VariableTree) → stmt_height (stmt.Local at is_final holds variables) ≡ suc (variables_height variables)
unfolding stmt_height
local_height at is_final holds variables = ap stmt_height (sym (stmt.rolls-Local at is_final holds variables)) ∙ fold-roll-StmtTree ℕ stmt_form (StmtTree-F.Local at is_final holds variables)

pub expression_height : (at : Span) (value : ExprTree) → stmt_height (stmt.Expression at value) ≡ suc (height_of value)
unfolding stmt_height
expression_height at value = ap stmt_height (sym (stmt.rolls-Expression at value)) ∙ fold-roll-StmtTree ℕ stmt_form (StmtTree-F.Expression at value)

pub if_height : (at : Span) (test : ExprTree) (body : StmtTree) → stmt_height (stmt.If at test body) ≡ suc (max (height_of test) (stmt_height body))
unfolding stmt_height
if_height at test body = ap stmt_height (sym (stmt.rolls-If at test body)) ∙ fold-roll-StmtTree ℕ stmt_form (StmtTree-F.If at test body)

pub ifelse_height : (at : Span) (test : ExprTree) (body : StmtTree) (other : StmtTree) → stmt_height (stmt.IfElse at test body other) ≡ suc (max (height_of test) (max (stmt_height body) (stmt_height other)))
unfolding stmt_height
ifelse_height at test body other = ap stmt_height (sym (stmt.rolls-IfElse at test body other)) ∙ fold-roll-StmtTree ℕ stmt_form (StmtTree-F.IfElse at test body other)

pub while_height : (at : Span) (test : ExprTree) (body : StmtTree) → stmt_height (stmt.While at test body) ≡ suc (max (height_of test) (stmt_height body))
unfolding stmt_height
while_height at test body = ap stmt_height (sym (stmt.rolls-While at test body)) ∙ fold-roll-StmtTree ℕ stmt_form (StmtTree-F.While at test body)

pub do_height : (at : Span) (body : StmtTree) (test : ExprTree) → stmt_height (stmt.Do at body test) ≡ suc (max (stmt_height body) (height_of test))
unfolding stmt_height
do_height at body test = ap stmt_height (sym (stmt.rolls-Do at body test)) ∙ fold-roll-StmtTree ℕ stmt_form (StmtTree-F.Do at body test)

pub for_height : (at : Span) (init : List StmtTree) (test : Option ExprTree) (update : List ExprTree) (body : StmtTree) → stmt_height (stmt.For at init test update body) ≡ suc (max (stmts_height init) (max (option_height test) (max (exprs_height update) (stmt_height body))))
unfolding stmt_height
for_height at init test update body = ap stmt_height (sym (stmt.rolls-For at init test update body)) ∙ fold-roll-StmtTree ℕ stmt_form (StmtTree-F.For at init test update body)

pub foreach_height : (at : Span) (is_final : Bool) (holds : TypeTree) (name : NamedPlace) (ranges : ExprTree) (body : StmtTree) → stmt_height (stmt.ForEach at is_final holds name ranges body) ≡ suc (max (height_of ranges) (stmt_height body))
unfolding stmt_height
foreach_height at is_final holds name ranges body = ap stmt_height (sym (stmt.rolls-ForEach at is_final holds name ranges body)) ∙ fold-roll-StmtTree ℕ stmt_form (StmtTree-F.ForEach at is_final holds name ranges body)

pub switch_height : (at : Span) (value : ExprTree) (members : List StmtTree) → stmt_height (stmt.Switch at value members) ≡ suc (max (height_of value) (stmts_height members))
unfolding stmt_height
switch_height at value members = ap stmt_height (sym (stmt.rolls-Switch at value members)) ∙ fold-roll-StmtTree ℕ stmt_form (StmtTree-F.Switch at value members)

pub case_height : (at : Span) (value : ExprTree) → stmt_height (stmt.Case at value) ≡ suc (height_of value)
unfolding stmt_height
case_height at value = ap stmt_height (sym (stmt.rolls-Case at value)) ∙ fold-roll-StmtTree ℕ stmt_form (StmtTree-F.Case at value)

pub default_height : (at : Span) → stmt_height (stmt.Default at) ≡ 1
unfolding stmt_height
default_height at = ap stmt_height (sym (stmt.rolls-Default at)) ∙ fold-roll-StmtTree ℕ stmt_form (StmtTree-F.Default at)

pub labelled_height : (at : Span) (label : List ℕ) (body : StmtTree) → stmt_height (stmt.Labelled at label body) ≡ suc (stmt_height body)
unfolding stmt_height
labelled_height at label body = ap stmt_height (sym (stmt.rolls-Labelled at label body)) ∙ fold-roll-StmtTree ℕ stmt_form (StmtTree-F.Labelled at label body)

pub break_height : (at : Span) (label : Option NamedPlace) → stmt_height (stmt.Break at label) ≡ 1
unfolding stmt_height
break_height at label = ap stmt_height (sym (stmt.rolls-Break at label)) ∙ fold-roll-StmtTree ℕ stmt_form (StmtTree-F.Break at label)

pub continue_height : (at : Span) (label : Option NamedPlace) → stmt_height (stmt.Continue at label) ≡ 1
unfolding stmt_height
continue_height at label = ap stmt_height (sym (stmt.rolls-Continue at label)) ∙ fold-roll-StmtTree ℕ stmt_form (StmtTree-F.Continue at label)

pub return_height : (at : Span) (value : Option ExprTree) → stmt_height (stmt.Return at value) ≡ suc (option_height value)
unfolding stmt_height
return_height at value = ap stmt_height (sym (stmt.rolls-Return at value)) ∙ fold-roll-StmtTree ℕ stmt_form (StmtTree-F.Return at value)

pub throw_height : (at : Span) (value : ExprTree) → stmt_height (stmt.Throw at value) ≡ suc (height_of value)
unfolding stmt_height
throw_height at value = ap stmt_height (sym (stmt.rolls-Throw at value)) ∙ fold-roll-StmtTree ℕ stmt_form (StmtTree-F.Throw at value)

pub synchronized_height : (at : Span) (lock : ExprTree) (body : StmtTree) → stmt_height (stmt.Synchronized at lock body) ≡ suc (max (height_of lock) (stmt_height body))
unfolding stmt_height
synchronized_height at lock body = ap stmt_height (sym (stmt.rolls-Synchronized at lock body)) ∙ fold-roll-StmtTree ℕ stmt_form (StmtTree-F.Synchronized at lock body)

pub synchronizedclass_height : (at : Span) (class : NamedPlace) (body : StmtTree) → stmt_height (stmt.SynchronizedClass at class body) ≡ suc (stmt_height body)
unfolding stmt_height
synchronizedclass_height at class body = ap stmt_height (sym (stmt.rolls-SynchronizedClass at class body)) ∙ fold-roll-StmtTree ℕ stmt_form (StmtTree-F.SynchronizedClass at class body)

pub try_height : (at : Span) (body : StmtTree) (catches : List StmtTree) → stmt_height (stmt.Try at body catches) ≡ suc (max (stmt_height body) (stmts_height catches))
unfolding stmt_height
try_height at body catches = ap stmt_height (sym (stmt.rolls-Try at body catches)) ∙ fold-roll-StmtTree ℕ stmt_form (StmtTree-F.Try at body catches)

pub tryfinally_height : (at : Span) (body : StmtTree) (catches : List StmtTree) (finally : StmtTree) → stmt_height (stmt.TryFinally at body catches finally) ≡ suc (max (stmt_height body) (max (stmts_height catches) (stmt_height finally)))
unfolding stmt_height
tryfinally_height at body catches finally = ap stmt_height (sym (stmt.rolls-TryFinally at body catches finally)) ∙ fold-roll-StmtTree ℕ stmt_form (StmtTree-F.TryFinally at body catches finally)

pub catch_height : (at : Span) (is_final : Bool) (types : List TypeTree) (name : NamedPlace) (body : StmtTree) → stmt_height (stmt.Catch at is_final types name body) ≡ suc (stmt_height body)
unfolding stmt_height
catch_height at is_final types name body = ap stmt_height (sym (stmt.rolls-Catch at is_final types name body)) ∙ fold-roll-StmtTree ℕ stmt_form (StmtTree-F.Catch at is_final types name body)

pub constructorcall_height : (at : Span) (is_super : Bool) (args : List ExprTree) → stmt_height (stmt.ConstructorCall at is_super args) ≡ suc (exprs_height args)
unfolding stmt_height
constructorcall_height at is_super args = ap stmt_height (sym (stmt.rolls-ConstructorCall at is_super args)) ∙ fold-roll-StmtTree ℕ stmt_form (StmtTree-F.ConstructorCall at is_super args)
