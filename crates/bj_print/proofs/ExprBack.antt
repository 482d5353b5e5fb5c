-- Printed expressions are found again.
use Rattle.std.proofs.Common.{ℕ, suc, List}
use Rattle.bj_base.specs.declared.span.Span.{Span}
use Rattle.bj_expr_tree.specs.declared.expr.ExprTree.{ExprTree}
use Rattle.bj_grammar.specs.Reader.{Text}
use Rattle.bj_grammar.specs.Terminal.{terminal}
use Rattle.bj_expr.specs.Grammar as g
use Rattle.bj_expr.specs.Grammar.{Expression, Conditional, Level, Unary, Plain, Postfix, Selected, Primary, Sizes, Values, Initializers, Initializer, Args, Exprs}
use Rattle.bj_print.proofs.ExprLaws.{ExprLaws}
use Rattle.bj_print.proofs.Found.{Found, FoundAll}
use Rattle.bj_print.proofs.Again.{lifted}
use Rattle.bj_print.proofs.TypeBack.{dims_again, type_again}
use Rattle.bj_print.proofs.ListBack.{FoundSizes, FoundValues, exprs_some, initializers_some, one_expr, more_exprs, no_args, one_initializer, more_initializers, no_values, some_values, one_size_again, more_sizes_again}
use Rattle.bj_print.proofs.PrimaryBack.{literal_found, this_found, paren_found, name_found, call_found, super_field_found, super_call_found, create_found, new_array_found, new_values_found, braces_found}
use Rattle.bj_print.proofs.SelectionBack.{field_found, method_call_found, index_found, step_found}
use Rattle.bj_print.proofs.UnaryBack.{minus_found, least_found, plus_found, prefix_found, negation_found, cast_primitive_found, cast_reference_found}
use Rattle.bj_print.proofs.LevelBack.{binary_found, instance_found, conditional_found, assign_found}

module _ (place : ℕ → Span) (s : Text) (other : ℕ → Span) (t : Text) where
  mutual
    expression_again : {a : ExprTree} {i j : ℕ} → Expression place s a i j → Found t (Expression other t) a
    expression_again (g.value d) = lifted (λ x k j. g.value) (conditional_again d)
    expression_again (g.assign {m = m} dl o dr is) = assign_found other t (terminal (s m)) (unary_again dl) o (expression_again dr) is

    conditional_again : {a : ExprTree} {i j : ℕ} → Conditional place s a i j → Found t (Conditional other t) a
    conditional_again (g.ranked d) = lifted (λ x k j. g.ranked) (level_again d)
    conditional_again (g.conditional dx o dy o2 dz is) = conditional_found other t (level_again dx) (expression_again dy) (conditional_again dz) is

    level_again : {h : ℕ} {a : ExprTree} {i j : ℕ} → Level place s h a i j → Found t (Level other t h) a
    level_again (g.unary d) = lifted (λ x k j. g.unary) (unary_again d)
    level_again (g.tighter d) = lifted (λ x k j. g.tighter) (level_again d)
    level_again (g.binary {m = m} dl o dr is) = binary_found other t (terminal (s m)) (level_again dl) o (level_again dr) is
    level_again (g.instance d r o c is) = instance_found other t (level_again d) r (type_again place s other t c) is

    unary_again : {a : ExprTree} {i j : ℕ} → Unary place s a i j → Found t (Unary other t) a
    unary_again (g.minus o d is) = minus_found other t (unary_again d) is
    unary_again (g.least {i = i} o o2 is at) = least_found other t (place (suc i)) (s (suc i)) o2 is
    unary_again (g.plus o d is) = plus_found other t (unary_again d) is
    unary_again (g.prefix {i = i} o d is) = prefix_found other t (terminal (s i)) o (unary_again d) is
    unary_again (g.plain d) = lifted (λ x k j. g.plain) (plain_again d)

    plain_again : {a : ExprTree} {i j : ℕ} → Plain place s a i j → Found t (Plain other t) a
    plain_again (g.negation {i = i} o d is) = negation_found other t (terminal (s i)) o (unary_again d) is
    plain_again (g.cast_primitive o c o2 p d is) = cast_primitive_found other t (type_again place s other t c) p (unary_again d) is
    plain_again (g.cast_reference o c o2 p d is) = cast_reference_found other t (type_again place s other t c) p (plain_again d) is
    plain_again (g.postfix d) = lifted (λ x k j. g.postfix) (postfix_again d)

    postfix_again : {a : ExprTree} {i j : ℕ} → Postfix place s a i j → Found t (Postfix other t) a
    postfix_again (g.selected d) = lifted (λ x k j. g.selected) (selected_again d)
    postfix_again (g.step {m = m} d o is at) = step_found other t (terminal (s m)) (postfix_again d) o is

    selected_again : {a : ExprTree} {i j : ℕ} → Selected place s a i j → Found t (Selected other t) a
    selected_again (g.primary d) = lifted (λ x k j. g.primary) (primary_again d)
    selected_again (g.field d o o2 is at) = field_found other t (selected_again d) is
    selected_again (g.method_call d o o2 o3 all o4 is at) = method_call_found other t (selected_again d) (args_again all) is
    selected_again (g.index d none o d2 o2 is at) = index_found other t (selected_again d) none (expression_again d2) is

    primary_again : {a : ExprTree} {i j : ℕ} → Primary place s a i j → Found t (Primary other t) a
    primary_again (g.literal {i = i} o is at) = literal_found other t (s i) o is
    primary_again (g.this o is at) = this_found other t is
    primary_again (g.paren o d o2 is at) = paren_found other t (expression_again d) is
    primary_again (g.name o is at) = name_found other t is
    primary_again (g.call o o2 all o3 is at) = call_found other t (args_again all) is
    primary_again (g.super_field o o2 o3 is at) = super_field_found other t is
    primary_again (g.super_call o o2 o3 o4 all o5 is at) = super_call_found other t (args_again all) is
    primary_again (g.create o o2 o3 all o4 is at) = create_found other t (args_again all) is
    primary_again (g.new_array {i = i} o o2 all dims is) = new_array_found other t (s (suc i)) o2 (sizes_again all) dims is
    primary_again (g.new_values {i = i} o o2 dims all is) = new_values_found other t (s (suc i)) o2 dims (values_again all) is

    sizes_again : {a : List ExprTree} {i j : ℕ} → Sizes place s a i j → FoundSizes other t a
    sizes_again (g.size o d o2 is at) = one_size_again other t (expression_again d) is
    sizes_again (g.next_size all o d o2 is at) = more_sizes_again other t (sizes_again all) (expression_again d) is

    values_again : {a : List ExprTree} {i j : ℕ} → Values place s a i j → FoundValues other t a
    values_again (g.no_values o o2 is at) = no_values other t is
    values_again (g.only_comma o o2 o3 is at) = no_values other t is
    values_again (g.values o all o2 at) = some_values other t (initializers_again all)
    values_again (g.values_comma o all o2 o3 at) = some_values other t (initializers_again all)

    initializers_again : {a : List ExprTree} {i j : ℕ} → Initializers place s a i j → FoundAll t (Initializers other t) a
    initializers_again (g.first d is) = one_initializer other t (initializer_again d) is
    initializers_again (g.next all o d is) = more_initializers other t (initializers_some place s all) (initializers_again all) (initializer_again d) is

    initializer_again : {a : ExprTree} {i j : ℕ} → Initializer place s a i j → Found t (Initializer other t) a
    initializer_again (g.expression d) = lifted (λ x k j. g.expression) (expression_again d)
    initializer_again (g.braces all is) = braces_found other t (values_again all) is

    args_again : {a : List ExprTree} {i j : ℕ} → Args place s a i j → FoundAll t (Args other t) a
    args_again (g.none is at) = no_args other t is
    args_again (g.some all) = lifted (λ x k j. g.some) (exprs_again all)

    exprs_again : {a : List ExprTree} {i j : ℕ} → Exprs place s a i j → FoundAll t (Exprs other t) a
    exprs_again (g.one d is) = one_expr other t (expression_again d) is
    exprs_again (g.comma all o d is) = more_exprs other t (exprs_some place s all) (exprs_again all) (expression_again d) is

pub expr_laws : (place : ℕ → Span) (s : Text) (other : ℕ → Span) (t : Text) → ExprLaws place s other t
expr_laws place s other t = record {
  expression = λ a i j d. (expression_again place s other t d).read;
  unary = λ a i j d. (unary_again place s other t d).read;
  initializer = λ a i j d. (initializer_again place s other t d).read;
  args = λ a i j d. (args_again place s other t d).read;
  type_at = λ a i j d. (type_again place s other t d).read;
  dims = λ n i j d. (dims_again d).read;
}
