-- Where the nodes of an expression stand, by how many nodes are above them.
use Rattle.std.specs.Prelude.{ℕ, zero, suc, ◌≤◌, List, [], ◌∷◌, ◌++◌, Option, None, Some, Contains}
use Rattle.bj_base.specs.declared.span.Span.{Span}
use Rattle.bj_expr_tree.specs.declared.expr.ExprTree.{ExprTree}
use Rattle.bj_expr_tree.specs.declared.expr.ExprTree.TheOpen.{ExprTree-F}
use Rattle.bj_expr_tree.specs.declared.expr.ExprTree.TheFolds.{fold-ExprTree}

-- no node
abbrev pub leaf : ℕ → List Span
leaf above = []

-- a node, and what stands below it
abbrev pub over : Span → (ℕ → List Span) → ℕ → List Span
over at below zero = at ∷ []
over at below (suc above) = below above

-- some nodes, and others behind them
abbrev pub beside : (ℕ → List Span) → (ℕ → List Span) → ℕ → List Span
beside a b above = a above ++ b above

abbrev pub all_beside : List (ℕ → List Span) → ℕ → List Span
all_beside [] above = []
all_beside (a ∷ rest) above = a above ++ all_beside rest above

abbrev pub nodes_form : ExprTree-F (ℕ → List Span) → ℕ → List Span
nodes_form (ExprTree-F.Literal at kind text) = over at leaf
nodes_form (ExprTree-F.This at) = over at leaf
nodes_form (ExprTree-F.Paren at inner) = over at inner
nodes_form (ExprTree-F.Name at name) = over at leaf
nodes_form (ExprTree-F.Field at target name) = over at target
nodes_form (ExprTree-F.SuperField at name) = over at leaf
nodes_form (ExprTree-F.Call at name args) = over at (all_beside args)
nodes_form (ExprTree-F.MethodCall at target name args) = over at (beside target (all_beside args))
nodes_form (ExprTree-F.SuperCall at name args) = over at (all_beside args)
nodes_form (ExprTree-F.Index at array index) = over at (beside array index)
nodes_form (ExprTree-F.New at class args) = over at (all_beside args)
nodes_form (ExprTree-F.NewArray at holds sizes dims) = over at (all_beside sizes)
nodes_form (ExprTree-F.NewValues at holds values) = over at (all_beside values)
nodes_form (ExprTree-F.Braces at values) = over at (all_beside values)
nodes_form (ExprTree-F.Postfix at op operand) = over at operand
nodes_form (ExprTree-F.Prefix at op operand) = over at operand
nodes_form (ExprTree-F.Unary at op operand) = over at operand
nodes_form (ExprTree-F.Cast at to operand) = over at operand
nodes_form (ExprTree-F.Binary at op left right) = over at (beside left right)
nodes_form (ExprTree-F.InstanceOf at value holds) = over at value
nodes_form (ExprTree-F.Conditional at test chosen other) = over at (beside test (beside chosen other))
nodes_form (ExprTree-F.Assign at op target value) = over at (beside target value)

-- where the nodes with so many above them stand, from left to right
unfoldable pub nodes_at : ExprTree → ℕ → List Span
nodes_at = fold-ExprTree (ℕ → List Span) nodes_form

-- A node stands at the place, and on the way from the root to it, both included, are so many nodes or more.
abbrev pub HasNode : ℕ → Span → ExprTree → Type 0
HasNode n at a = (above : ℕ) × (n ≤ suc above) × Contains (nodes_at a above) at

abbrev pub first : List Span → Option Span
first [] = None
first (at ∷ rest) = Some at

-- an expression with more than one part that nodes are looked for in
abbrev pub HasBranches : ExprTree-F ExprTree → Type 0
HasBranches (ExprTree-F.MethodCall at target name args) = Unit {0}
HasBranches (ExprTree-F.Index at array index) = Unit {0}
HasBranches (ExprTree-F.Binary at op left right) = Unit {0}
HasBranches (ExprTree-F.Conditional at test chosen other) = Unit {0}
HasBranches (ExprTree-F.Assign at op target value) = Unit {0}
HasBranches form = ⊥
