-- How high a tree is.
use Rattle.std.specs.Prelude.{ℕ, suc, max, List, [], ◌∷◌}
use Rattle.bj_expr_tree.specs.declared.expr.ExprTree.{ExprTree}
use Rattle.bj_expr_tree.specs.declared.expr.ExprTree.TheOpen.{ExprTree-F}
use Rattle.bj_expr_tree.specs.declared.expr.ExprTree.TheFolds.{fold-ExprTree}

-- the greatest number of a list, and 0 of none
abbrev pub most : List ℕ → ℕ
most [] = 0
most (n ∷ ns) = max n (most ns)

-- the nodes on the longest way down from a node, itself included, where its parts have these
abbrev pub height_form : ExprTree-F ℕ → ℕ
height_form (ExprTree-F.Literal at kind text) = 1
height_form (ExprTree-F.This at) = 1
height_form (ExprTree-F.Paren at inner) = suc inner
height_form (ExprTree-F.Name at name) = 1
height_form (ExprTree-F.Field at target name) = suc target
height_form (ExprTree-F.SuperField at name) = 1
height_form (ExprTree-F.Call at name args) = suc (most args)
height_form (ExprTree-F.MethodCall at target name args) = suc (max target (most args))
height_form (ExprTree-F.SuperCall at name args) = suc (most args)
height_form (ExprTree-F.Index at array index) = suc (max array index)
height_form (ExprTree-F.New at class args) = suc (most args)
height_form (ExprTree-F.NewArray at holds sizes dims) = suc (most sizes)
height_form (ExprTree-F.NewValues at holds values) = suc (most values)
height_form (ExprTree-F.Braces at values) = suc (most values)
height_form (ExprTree-F.Postfix at op operand) = suc operand
height_form (ExprTree-F.Prefix at op operand) = suc operand
height_form (ExprTree-F.Unary at op operand) = suc operand
height_form (ExprTree-F.Cast at to operand) = suc operand
height_form (ExprTree-F.Binary at op left right) = suc (max left right)
height_form (ExprTree-F.InstanceOf at value holds) = suc value
height_form (ExprTree-F.Conditional at test chosen other) = suc (max test (max chosen other))
height_form (ExprTree-F.Assign at op target value) = suc (max target value)

-- the nodes on the longest way down, the root included
unfoldable pub height_of : ExprTree → ℕ
height_of = fold-ExprTree ℕ height_form
