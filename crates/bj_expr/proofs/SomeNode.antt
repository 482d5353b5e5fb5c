-- Each part has its root at its first token.
use Rattle.std.proofs.Common.{◌≡◌, ℕ, refl, sym, subst, List, [], ◌∷◌, le_refl}
use Rattle.std.specs.Prelude.{Contains}
use Rattle.bj_base.specs.declared.span.Span.{Span}
use Rattle.bj_expr_tree.specs.declared.expr.ExprTree.{ExprTree}
use Rattle.bj_expr.specs.declared.part.Part.{Part}
use Rattle.bj_expr.specs.declared.part.Part.TheVariants as part
use Rattle.bj_grammar.specs.Reader.{Text}
use Rattle.bj_expr.specs.Grammar as g
use Rattle.bj_expr.specs.Grammar.{Expression, Conditional, Level, Unary, Plain, Postfix, Selected, Primary, Initializer}
use Rattle.bj_expr.specs.Nodes.{nodes_at, HasNode}
use Rattle.bj_expr.specs.Within.{Stands}
use Rattle.bj_expr.proofs.NodeForms as forms

-- a tree whose root is there
rooted : (at : Span) (a b : ExprTree) → a ≡ b → nodes_at b 0 ≡ at ∷ [] → HasNode 1 at a
rooted at a b e is = subst (HasNode 1 at) (sym e) (0, le_refl 1, subst (λ (ps : List Span). Contains ps at) (sym is) (0, le_refl 1, refl))

module _ (place : ℕ → Span) where
  primary_root : (s : Text) {a : ExprTree} {i j : ℕ} → Primary place s a i j → HasNode 1 (place i) a
  primary_root s {a} {i} (g.literal o is at) = rooted (place i) a _ is (forms.literal_root (place i) _ _)
  primary_root s {a} {i} (g.this o is at) = rooted (place i) a _ is (forms.this_root (place i))
  primary_root s {a} {i} (g.paren o d o2 is at) = rooted (place i) a _ is (forms.paren_root (place i) _)
  primary_root s {a} {i} (g.name o is at) = rooted (place i) a _ is (forms.name_root (place i) _)
  primary_root s {a} {i} (g.call o o2 d o3 is at) = rooted (place i) a _ is (forms.call_root (place i) _ _)
  primary_root s {a} {i} (g.super_field o o2 o3 is at) = rooted (place i) a _ is (forms.superfield_root (place i) _)
  primary_root s {a} {i} (g.super_call o o2 o3 o4 d o5 is at) = rooted (place i) a _ is (forms.supercall_root (place i) _ _)
  primary_root s {a} {i} (g.create o o2 o3 d o4 is at) = rooted (place i) a _ is (forms.new_root (place i) _ _)
  primary_root s {a} {i} (g.new_array o o2 d p is) = rooted (place i) a _ is (forms.newarray_root (place i) _ _ _)
  primary_root s {a} {i} (g.new_values o o2 p d is) = rooted (place i) a _ is (forms.newvalues_root (place i) _ _)

  selected_root : (s : Text) {a : ExprTree} {i j : ℕ} → Selected place s a i j → HasNode 1 (place i) a
  selected_root s (g.primary d) = primary_root s d
  selected_root s {a} {i} (g.field d o o2 is at) = rooted (place i) a _ is (forms.field_root (place i) _ _)
  selected_root s {a} {i} (g.method_call d o o2 o3 xs o4 is at) = rooted (place i) a _ is (forms.methodcall_root (place i) _ _ _)
  selected_root s {a} {i} (g.index d no_array o y o2 is at) = rooted (place i) a _ is (forms.index_root (place i) _ _)

  postfix_root : (s : Text) {a : ExprTree} {i j : ℕ} → Postfix place s a i j → HasNode 1 (place i) a
  postfix_root s (g.selected d) = selected_root s d
  postfix_root s {a} {i} (g.step d o is at) = rooted (place i) a _ is (forms.postfix_root (place i) _ _)

  plain_root : (s : Text) {a : ExprTree} {i j : ℕ} → Plain place s a i j → HasNode 1 (place i) a
  plain_root s {a} {i} (g.negation o d is) = rooted (place i) a _ is (forms.unary_root (place i) _ _)
  plain_root s {a} {i} (g.cast_primitive o ty o2 e d is) = rooted (place i) a _ is (forms.cast_root (place i) _ _)
  plain_root s {a} {i} (g.cast_reference o ty o2 e d is) = rooted (place i) a _ is (forms.cast_root (place i) _ _)
  plain_root s (g.postfix d) = postfix_root s d

  unary_root : (s : Text) {a : ExprTree} {i j : ℕ} → Unary place s a i j → HasNode 1 (place i) a
  unary_root s {a} {i} (g.minus o d is) = rooted (place i) a _ is (forms.unary_root (place i) _ _)
  unary_root s {a} {i} (g.least o o2 is at) = rooted (place i) a _ is (forms.unary_root (place i) _ _)
  unary_root s {a} {i} (g.plus o d is) = rooted (place i) a _ is (forms.unary_root (place i) _ _)
  unary_root s {a} {i} (g.prefix o d is) = rooted (place i) a _ is (forms.prefix_root (place i) _ _)
  unary_root s (g.plain d) = plain_root s d

  level_root : (s : Text) {h : ℕ} {a : ExprTree} {i j : ℕ} → Level place s h a i j → HasNode 1 (place i) a
  level_root s (g.unary d) = unary_root s d
  level_root s (g.tighter d) = level_root s d
  level_root s {a} {i} (g.binary d o y is) = rooted (place i) a _ is (forms.binary_root (place i) _ _ _)
  level_root s {a} {i} (g.instance d e o ty is) = rooted (place i) a _ is (forms.instanceof_root (place i) _ _)

  conditional_root : (s : Text) {a : ExprTree} {i j : ℕ} → Conditional place s a i j → HasNode 1 (place i) a
  conditional_root s (g.ranked d) = level_root s d
  conditional_root s {a} {i} (g.conditional d o y o2 z is) = rooted (place i) a _ is (forms.conditional_root (place i) _ _ _)

  expression_root : (s : Text) {a : ExprTree} {i j : ℕ} → Expression place s a i j → HasNode 1 (place i) a
  expression_root s (g.value d) = conditional_root s d
  expression_root s {a} {i} (g.assign d o y is) = rooted (place i) a _ is (forms.assign_root (place i) _ _ _)

  initializer_root : (s : Text) {a : ExprTree} {i j : ℕ} → Initializer place s a i j → HasNode 1 (place i) a
  initializer_root s (g.expression d) = expression_root s d
  initializer_root s {a} {i} (g.braces d is) = rooted (place i) a _ is (forms.braces_root (place i) _)

  pub root_at : (x : Part) (s : Text) (a : ExprTree) (i j : ℕ) → Stands x place s a i j → HasNode 1 (place i) a
  root_at part.Expression s a i j d = expression_root s d
  root_at part.Conditional s a i j d = conditional_root s d
  root_at (part.Operand h) s a i j d = level_root s d
  root_at part.Unary s a i j d = unary_root s d
  root_at part.Plain s a i j d = plain_root s d
  root_at part.Initializer s a i j d = initializer_root s d
