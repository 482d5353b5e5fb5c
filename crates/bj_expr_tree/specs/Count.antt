-- How many nodes an expression has.
use Rattle.std.specs.Prelude.{ℕ, suc, ◌+◌, List, [], ◌∷◌}
use Rattle.bj_expr_tree.specs.declared.expr.ExprTree.{ExprTree}
use Rattle.bj_expr_tree.specs.declared.expr.ExprTree.TheOpen.{ExprTree-F}
use Rattle.bj_expr_tree.specs.declared.expr.ExprTree.TheFolds.{fold-ExprTree}

-- the sum of a list
abbrev pub total : List ℕ → ℕ
total [] = 0
total (n ∷ ns) = n + total ns

-- the nodes of an expression, itself included, where its parts have these
abbrev pub expr_form : ExprTree-F ℕ → ℕ
expr_form (ExprTree-F.Literal at kind text) = 1
expr_form (ExprTree-F.This at) = 1
expr_form (ExprTree-F.Paren at inner) = suc inner
expr_form (ExprTree-F.Name at name) = 1
expr_form (ExprTree-F.Field at target name) = suc target
expr_form (ExprTree-F.SuperField at name) = 1
expr_form (ExprTree-F.Call at name args) = suc (total args)
expr_form (ExprTree-F.MethodCall at target name args) = suc (target + total args)
expr_form (ExprTree-F.SuperCall at name args) = suc (total args)
expr_form (ExprTree-F.Index at array index) = suc (array + index)
expr_form (ExprTree-F.New at class args) = suc (total args)
expr_form (ExprTree-F.NewArray at holds sizes dims) = suc (total sizes)
expr_form (ExprTree-F.NewValues at holds values) = suc (total values)
expr_form (ExprTree-F.Braces at values) = suc (total values)
expr_form (ExprTree-F.Postfix at op operand) = suc operand
expr_form (ExprTree-F.Prefix at op operand) = suc operand
expr_form (ExprTree-F.Unary at op operand) = suc operand
expr_form (ExprTree-F.Cast at to operand) = suc operand
expr_form (ExprTree-F.Binary at op left right) = suc (left + right)
expr_form (ExprTree-F.InstanceOf at value holds) = suc value
expr_form (ExprTree-F.Conditional at test chosen other) = suc (test + (chosen + other))
expr_form (ExprTree-F.Assign at op target value) = suc (target + value)

-- the nodes of an expression, itself included
unfoldable pub nodes_of_expr : ExprTree → ℕ
nodes_of_expr = fold-ExprTree ℕ expr_form
