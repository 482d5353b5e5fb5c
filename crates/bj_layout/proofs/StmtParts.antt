-- The pieces of each form of statement.
use Rattle.std.proofs.Common.{◌≡◌, ℕ, Bool, true, false, List, [], ◌∷◌, ◌++◌, map, Option, refl, sym, ap, ◌∙◌}
use Rattle.std.specs.Prelude.{codes, if◌then◌else◌}
use Rattle.bj_base.specs.declared.span.Span.{Span}
use Rattle.bj_expr_tree.specs.declared.types.TypeTree.{TypeTree}
use Rattle.bj_expr_tree.specs.declared.types.NamedPlace.{NamedPlace}
use Rattle.bj_expr_tree.specs.declared.expr.ExprTree.{ExprTree}
use Rattle.bj_tree.specs.declared.stmt.VariableTree.{VariableTree}
use Rattle.bj_tree.specs.declared.stmt.StmtTree.{StmtTree}
use Rattle.bj_tree.specs.declared.stmt.StmtTree.TheVariants as tree
use Rattle.bj_tree.specs.declared.stmt.StmtTree.TheOpen.{StmtTree-F}
use Rattle.bj_tree.specs.declared.stmt.StmtTree.TheFolds.{fold-roll-StmtTree}
use Rattle.bj_writer.specs.Pieces.{Piece, Space, Wrote}
use Rattle.bj_writer.specs.declared.writer.Writer.{Writer}
use Rattle.bj_layout.specs.Exprs.{word, keyword, sign, with_commas, separated, arguments, type_pieces, spaced, expr_pieces}
use Rattle.bj_layout.specs.Stmts.{Pieces, unended, ended, in_line, braced, maybe_final, maybe_expr, maybe_label, variable_pieces, headed, semicolon, for_update, stmt_form, stmt_parts, stmt_pieces}
use Rattle.bj_layout.proofs.Writing.{then_wrote, wrote_as, nothing_wrote}

pub block_parts : (at : Span) (body : List StmtTree) (end : Span) → stmt_parts (tree.Block at body end) ≡ unended (braced (map stmt_parts body))
unfolding stmt_parts
block_parts at body end = ap stmt_parts (sym (tree.rolls-Block at body end)) ∙ fold-roll-StmtTree Pieces stmt_form (StmtTree-F.Block at body end)

pub empty_parts : (at : Span) → stmt_parts (tree.Empty at) ≡ ended []
unfolding stmt_parts
empty_parts at = ap stmt_parts (sym (tree.rolls-Empty at)) ∙ fold-roll-StmtTree Pieces stmt_form (StmtTree-F.Empty at)

pub local_parts : (at : Span) (is_final : Bool) (holds : TypeTree) (variables : List VariableTree) → stmt_parts (tree.Local at is_final holds variables) ≡ ended (maybe_final is_final ++ (type_pieces holds ++ (Space ∷ with_commas (map variable_pieces variables))))
unfolding stmt_parts
local_parts at is_final holds variables = ap stmt_parts (sym (tree.rolls-Local at is_final holds variables)) ∙ fold-roll-StmtTree Pieces stmt_form (StmtTree-F.Local at is_final holds variables)

pub expression_parts : (at : Span) (value : ExprTree) → stmt_parts (tree.Expression at value) ≡ ended (expr_pieces value)
unfolding stmt_parts
expression_parts at value = ap stmt_parts (sym (tree.rolls-Expression at value)) ∙ fold-roll-StmtTree Pieces stmt_form (StmtTree-F.Expression at value)

pub if_parts : (at : Span) (test : ExprTree) (body : StmtTree) → stmt_parts (tree.If at test body) ≡ unended (headed (codes "if") (expr_pieces test) ++ (Space ∷ stmt_pieces body))
unfolding stmt_parts
if_parts at test body = ap stmt_parts (sym (tree.rolls-If at test body)) ∙ fold-roll-StmtTree Pieces stmt_form (StmtTree-F.If at test body)

pub if_else_parts : (at : Span) (test : ExprTree) (body : StmtTree) (other : StmtTree) → stmt_parts (tree.IfElse at test body other) ≡ unended (headed (codes "if") (expr_pieces test) ++ (Space ∷ (stmt_pieces body ++ (spaced (keyword (codes "else")) ++ stmt_pieces other))))
unfolding stmt_parts
if_else_parts at test body other = ap stmt_parts (sym (tree.rolls-IfElse at test body other)) ∙ fold-roll-StmtTree Pieces stmt_form (StmtTree-F.IfElse at test body other)

pub while_parts : (at : Span) (test : ExprTree) (body : StmtTree) → stmt_parts (tree.While at test body) ≡ unended (headed (codes "while") (expr_pieces test) ++ (Space ∷ stmt_pieces body))
unfolding stmt_parts
while_parts at test body = ap stmt_parts (sym (tree.rolls-While at test body)) ∙ fold-roll-StmtTree Pieces stmt_form (StmtTree-F.While at test body)

pub do_parts : (at : Span) (body : StmtTree) (test : ExprTree) → stmt_parts (tree.Do at body test) ≡ ended (keyword (codes "do") ∷ Space ∷ (stmt_pieces body ++ (Space ∷ headed (codes "while") (expr_pieces test))))
unfolding stmt_parts
do_parts at body test = ap stmt_parts (sym (tree.rolls-Do at body test)) ∙ fold-roll-StmtTree Pieces stmt_form (StmtTree-F.Do at body test)

pub for_parts : (at : Span) (init : List StmtTree) (test : Option ExprTree) (update : List ExprTree) (body : StmtTree) → stmt_parts (tree.For at init test update body) ≡ unended (headed (codes "for") (with_commas (map (λ p. p.bare) (map stmt_parts init)) ++ (semicolon ∷ (maybe_expr test ++ (semicolon ∷ for_update (map expr_pieces update))))) ++ (Space ∷ stmt_pieces body))
unfolding stmt_parts
for_parts at init test update body = ap stmt_parts (sym (tree.rolls-For at init test update body)) ∙ fold-roll-StmtTree Pieces stmt_form (StmtTree-F.For at init test update body)

pub for_each_parts : (at : Span) (is_final : Bool) (holds : TypeTree) (name : NamedPlace) (over : ExprTree) (body : StmtTree) → stmt_parts (tree.ForEach at is_final holds name over body) ≡ unended (headed (codes "for") (maybe_final is_final ++ (type_pieces holds ++ (Space ∷ word name.name ∷ (spaced (sign (codes ":")) ++ expr_pieces over)))) ++ (Space ∷ stmt_pieces body))
unfolding stmt_parts
for_each_parts at is_final holds name over body = ap stmt_parts (sym (tree.rolls-ForEach at is_final holds name over body)) ∙ fold-roll-StmtTree Pieces stmt_form (StmtTree-F.ForEach at is_final holds name over body)

pub switch_parts : (at : Span) (value : ExprTree) (members : List StmtTree) → stmt_parts (tree.Switch at value members) ≡ unended (headed (codes "switch") (expr_pieces value) ++ (Space ∷ braced (map stmt_parts members)))
unfolding stmt_parts
switch_parts at value members = ap stmt_parts (sym (tree.rolls-Switch at value members)) ∙ fold-roll-StmtTree Pieces stmt_form (StmtTree-F.Switch at value members)

pub case_parts : (at : Span) (value : ExprTree) → stmt_parts (tree.Case at value) ≡ unended (keyword (codes "case") ∷ Space ∷ (expr_pieces value ++ sign (codes ":") ∷ []))
unfolding stmt_parts
case_parts at value = ap stmt_parts (sym (tree.rolls-Case at value)) ∙ fold-roll-StmtTree Pieces stmt_form (StmtTree-F.Case at value)

pub default_parts : (at : Span) → stmt_parts (tree.Default at) ≡ unended (keyword (codes "default") ∷ sign (codes ":") ∷ [])
unfolding stmt_parts
default_parts at = ap stmt_parts (sym (tree.rolls-Default at)) ∙ fold-roll-StmtTree Pieces stmt_form (StmtTree-F.Default at)

pub labelled_parts : (at : Span) (label : List ℕ) (body : StmtTree) → stmt_parts (tree.Labelled at label body) ≡ unended (word label ∷ sign (codes ":") ∷ Space ∷ stmt_pieces body)
unfolding stmt_parts
labelled_parts at label body = ap stmt_parts (sym (tree.rolls-Labelled at label body)) ∙ fold-roll-StmtTree Pieces stmt_form (StmtTree-F.Labelled at label body)

pub break_parts : (at : Span) (label : Option NamedPlace) → stmt_parts (tree.Break at label) ≡ ended (keyword (codes "break") ∷ maybe_label label)
unfolding stmt_parts
break_parts at label = ap stmt_parts (sym (tree.rolls-Break at label)) ∙ fold-roll-StmtTree Pieces stmt_form (StmtTree-F.Break at label)

pub continue_parts : (at : Span) (label : Option NamedPlace) → stmt_parts (tree.Continue at label) ≡ ended (keyword (codes "continue") ∷ maybe_label label)
unfolding stmt_parts
continue_parts at label = ap stmt_parts (sym (tree.rolls-Continue at label)) ∙ fold-roll-StmtTree Pieces stmt_form (StmtTree-F.Continue at label)

pub return_parts : (at : Span) (value : Option ExprTree) → stmt_parts (tree.Return at value) ≡ ended (keyword (codes "return") ∷ maybe_expr value)
unfolding stmt_parts
return_parts at value = ap stmt_parts (sym (tree.rolls-Return at value)) ∙ fold-roll-StmtTree Pieces stmt_form (StmtTree-F.Return at value)

pub throw_parts : (at : Span) (value : ExprTree) → stmt_parts (tree.Throw at value) ≡ ended (keyword (codes "throw") ∷ Space ∷ expr_pieces value)
unfolding stmt_parts
throw_parts at value = ap stmt_parts (sym (tree.rolls-Throw at value)) ∙ fold-roll-StmtTree Pieces stmt_form (StmtTree-F.Throw at value)

pub synchronized_parts : (at : Span) (lock : ExprTree) (body : StmtTree) → stmt_parts (tree.Synchronized at lock body) ≡ unended (headed (codes "synchronized") (expr_pieces lock) ++ (Space ∷ stmt_pieces body))
unfolding stmt_parts
synchronized_parts at lock body = ap stmt_parts (sym (tree.rolls-Synchronized at lock body)) ∙ fold-roll-StmtTree Pieces stmt_form (StmtTree-F.Synchronized at lock body)

pub synchronized_class_parts : (at : Span) (class : NamedPlace) (body : StmtTree) → stmt_parts (tree.SynchronizedClass at class body) ≡ unended (headed (codes "synchronized") (word class.name ∷ sign (codes ".") ∷ keyword (codes "class") ∷ []) ++ (Space ∷ stmt_pieces body))
unfolding stmt_parts
synchronized_class_parts at class body = ap stmt_parts (sym (tree.rolls-SynchronizedClass at class body)) ∙ fold-roll-StmtTree Pieces stmt_form (StmtTree-F.SynchronizedClass at class body)

pub try_parts : (at : Span) (body : StmtTree) (catches : List StmtTree) → stmt_parts (tree.Try at body catches) ≡ unended (keyword (codes "try") ∷ Space ∷ (stmt_pieces body ++ in_line (map stmt_parts catches)))
unfolding stmt_parts
try_parts at body catches = ap stmt_parts (sym (tree.rolls-Try at body catches)) ∙ fold-roll-StmtTree Pieces stmt_form (StmtTree-F.Try at body catches)

pub try_finally_parts : (at : Span) (body : StmtTree) (catches : List StmtTree) (finally : StmtTree) → stmt_parts (tree.TryFinally at body catches finally) ≡ unended (keyword (codes "try") ∷ Space ∷ (stmt_pieces body ++ (in_line (map stmt_parts catches) ++ (spaced (keyword (codes "finally")) ++ stmt_pieces finally))))
unfolding stmt_parts
try_finally_parts at body catches finally = ap stmt_parts (sym (tree.rolls-TryFinally at body catches finally)) ∙ fold-roll-StmtTree Pieces stmt_form (StmtTree-F.TryFinally at body catches finally)

pub catch_parts : (at : Span) (is_final : Bool) (types : List TypeTree) (name : NamedPlace) (body : StmtTree) → stmt_parts (tree.Catch at is_final types name body) ≡ unended (headed (codes "catch") (maybe_final is_final ++ (separated (spaced (sign (codes "|"))) (map type_pieces types) ++ (Space ∷ word name.name ∷ []))) ++ (Space ∷ stmt_pieces body))
unfolding stmt_parts
catch_parts at is_final types name body = ap stmt_parts (sym (tree.rolls-Catch at is_final types name body)) ∙ fold-roll-StmtTree Pieces stmt_form (StmtTree-F.Catch at is_final types name body)

pub constructor_call_parts : (at : Span) (is_super : Bool) (args : List ExprTree) → stmt_parts (tree.ConstructorCall at is_super args) ≡ ended (keyword (if is_super then codes "super" else codes "this") ∷ arguments (map expr_pieces args))
unfolding stmt_parts
constructor_call_parts at is_super args = ap stmt_parts (sym (tree.rolls-ConstructorCall at is_super args)) ∙ fold-roll-StmtTree Pieces stmt_form (StmtTree-F.ConstructorCall at is_super args)

pub ruleset stmt_forms = (block_parts, empty_parts, local_parts, expression_parts, if_parts, if_else_parts, while_parts, do_parts, for_parts, for_each_parts, switch_parts, case_parts, default_parts, labelled_parts, break_parts, continue_parts, return_parts, throw_parts, synchronized_parts, synchronized_class_parts, try_parts, try_finally_parts, catch_parts, constructor_call_parts)

-- what is written of a statement of a known form
pub wrote_bare : {a b : Writer} {x y : Pieces} → x ≡ y → Wrote a b y.bare → Wrote a b x.bare
wrote_bare e h = wrote_as (ap (λ (p : Pieces). p.bare) e) h

pub wrote_no_semicolon : {a : Writer} {p : List Piece} {ends : Bool} → p ≡ (if ends then semicolon ∷ [] else []) → ends ≡ false → Wrote a a p
wrote_no_semicolon e is = wrote_as (e ∙ ap (λ (t : Bool). if t then semicolon ∷ [] else []) is) nothing_wrote

-- the updates of a `for`, if there are any
pub wrote_no_update : {a : Writer} {xs : List ExprTree} → xs ≡ [] → Wrote a a (for_update (map expr_pieces xs))
wrote_no_update e = wrote_as (ap (λ (ys : List ExprTree). for_update (map expr_pieces ys)) e) nothing_wrote

pub wrote_update : {a b c : Writer} (xs : List ExprTree) → (xs ≡ [] → false ≡ true) → Wrote a b (Space ∷ []) → Wrote b c (with_commas (map expr_pieces xs)) → Wrote a c (for_update (map expr_pieces xs))
wrote_update [] e h k = let never : false ≡ true = e refl in cc
wrote_update (x ∷ xs) e h k = then_wrote h k
