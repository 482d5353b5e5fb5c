-- What holds of every expression that the grammar derives: it goes forward, and depends on its own tokens alone.
use Rattle.std.proofs.Common.{◌≡◌, ℕ, suc, ◌<◌, ◌≤◌, true, sym, ap, ◌∙◌, subst, arith, List}
use Rattle.bj_base.specs.declared.span.Span.{Span}
use Rattle.bj_token.specs.declared.token.Token.{Token}
use Rattle.bj_expr_tree.specs.declared.types.TypeTree.{TypeTree}
use Rattle.bj_expr_tree.specs.declared.expr.UnaryOp.TheVariants as unaries
use Rattle.bj_expr_tree.specs.declared.expr.ExprTree.{ExprTree}
use Rattle.bj_expr_tree.specs.declared.expr.ExprTree.TheVariants as tree
use Rattle.bj_grammar.specs.declared.terminal.Terminal.{Terminal}
use Rattle.bj_grammar.specs.Terminal.{terminal, among}
use Rattle.bj_grammar.specs.Reader.{Text}
use Rattle.bj_expr.specs.Grammar as g
use Rattle.bj_expr.specs.Grammar.{ops, assigns, assign_op, binary_op, negation_op, step_op, literal_kind, type_tree, type_words, negations, step_ops, literal_words, leasts, Dims, TypeAt, Expression, Conditional, Level, Unary, Plain, Postfix, Selected, Primary, Sizes, Values, Initializers, Initializer, Args, Exprs}

pub dims_forward : (s : Text) {a i j : ℕ} → Dims s a i j → i ≤ j
dims_forward s (g.no_pair e at) = omega arith
dims_forward s (g.pair d o1 o2 e at) = let x = dims_forward s d in omega arith

-- the texts have the same tokens before a place
abbrev pub SameTo : Text → Text → ℕ → Type 0
SameTo s u j = (x : ℕ) → x < j → u x ≡ s x

pub same_word : (s u : Text) (i : ℕ) (k : Terminal) → u i ≡ s i → terminal (s i) ≡ k → terminal (u i) ≡ k
same_word s u i k e o = ap terminal e ∙ o

pub same_among : (s u : Text) (i : ℕ) (ks : List Terminal) → u i ≡ s i → among ks (terminal (s i)) ≡ true → among ks (terminal (u i)) ≡ true
same_among s u i ks e o = ap (λ (v : Token). among ks (terminal v)) e ∙ o

pub dims_frame : (s u : Text) {a i j : ℕ} → SameTo s u j → Dims s a i j → Dims u a i j
dims_frame s u e (g.no_pair is at) = g.no_pair is at
dims_frame s u e (g.pair {m} d o1 o2 is at) =
    g.pair (dims_frame s u (λ z below. e z (omega arith)) d) (same_word s u m _ (e _ (omega arith)) o1) (same_word s u (suc m) _ (e _ (omega arith)) o2) is at

module _ (place : ℕ → Span) where
  pub type_forward : (s : Text) {a : TypeTree} {i j : ℕ} → TypeAt place s a i j → i < j
  type_forward s (g.named o d e) = let x = dims_forward s d in omega arith

  pub type_frame : (s u : Text) {a : TypeTree} {i j : ℕ} → SameTo s u j → TypeAt place s a i j → TypeAt place u a i j
  type_frame s u {a} {i} e (g.named {n} o d is) =
      let le = dims_forward s d in
      let at : u i ≡ s i = e i (omega arith) in
      g.named (same_among s u i type_words at o) (dims_frame s u e d) (subst (λ (v : Token). a ≡ type_tree (place i) v n) (sym at) is)

  mutual
    pub expression_forward : (s : Text) {a : ExprTree} {i j : ℕ} → Expression place s a i j → i < j
    expression_forward s (g.value d0) = conditional_forward s d0
    expression_forward s (g.assign d0 o1 d2 is) = let x0 = unary_forward s d0 in let x2 = expression_forward s d2 in omega arith

    pub conditional_forward : (s : Text) {a : ExprTree} {i j : ℕ} → Conditional place s a i j → i < j
    conditional_forward s (g.ranked d0) = level_forward s d0
    conditional_forward s (g.conditional d0 o1 d2 o3 d4 is) = let x0 = level_forward s d0 in let x2 = expression_forward s d2 in let x4 = conditional_forward s d4 in omega arith

    pub level_forward : (s : Text) {h : ℕ} {a : ExprTree} {i j : ℕ} → Level place s h a i j → i < j
    level_forward s (g.unary d) = unary_forward s d
    level_forward s (g.tighter d) = level_forward s d
    level_forward s (g.binary l o r e) = let x = level_forward s l in let y = level_forward s r in omega arith
    level_forward s (g.instance l o o2 ty e) = let x = level_forward s l in let y = type_forward s ty in omega arith

    pub unary_forward : (s : Text) {a : ExprTree} {i j : ℕ} → Unary place s a i j → i < j
    unary_forward s (g.minus o0 d1 is) = let x1 = unary_forward s d1 in omega arith
    unary_forward s (g.least o0 o1 is at) = omega arith
    unary_forward s (g.plus o0 d1 is) = let x1 = unary_forward s d1 in omega arith
    unary_forward s (g.prefix o0 d1 is) = let x1 = unary_forward s d1 in omega arith
    unary_forward s (g.plain d0) = plain_forward s d0

    pub plain_forward : (s : Text) {a : ExprTree} {i j : ℕ} → Plain place s a i j → i < j
    plain_forward s (g.negation o0 d1 is) = let x1 = unary_forward s d1 in omega arith
    plain_forward s (g.cast_primitive o0 d1 o2 o3 d4 is) = let x1 = type_forward s d1 in let x4 = unary_forward s d4 in omega arith
    plain_forward s (g.cast_reference o0 d1 o2 o3 d4 is) = let x1 = type_forward s d1 in let x4 = plain_forward s d4 in omega arith
    plain_forward s (g.postfix d0) = postfix_forward s d0

    pub postfix_forward : (s : Text) {a : ExprTree} {i j : ℕ} → Postfix place s a i j → i < j
    postfix_forward s (g.selected d0) = selected_forward s d0
    postfix_forward s (g.step d0 o1 is at) = let x0 = postfix_forward s d0 in omega arith

    pub selected_forward : (s : Text) {a : ExprTree} {i j : ℕ} → Selected place s a i j → i < j
    selected_forward s (g.primary d0) = primary_forward s d0
    selected_forward s (g.field d0 o1 o2 is at) = let x0 = selected_forward s d0 in omega arith
    selected_forward s (g.method_call d0 o1 o2 o3 d4 o5 is at) = let x0 = selected_forward s d0 in let x4 = args_forward s d4 in omega arith
    selected_forward s (g.index d0 o1 o2 d3 o4 is at) = let x0 = selected_forward s d0 in let x3 = expression_forward s d3 in omega arith

    pub primary_forward : (s : Text) {a : ExprTree} {i j : ℕ} → Primary place s a i j → i < j
    primary_forward s (g.literal o0 is at) = omega arith
    primary_forward s (g.this o0 is at) = omega arith
    primary_forward s (g.paren o0 d1 o2 is at) = let x1 = expression_forward s d1 in omega arith
    primary_forward s (g.name o0 is at) = omega arith
    primary_forward s (g.call o0 o1 d2 o3 is at) = let x2 = args_forward s d2 in omega arith
    primary_forward s (g.super_field o0 o1 o2 is at) = omega arith
    primary_forward s (g.super_call o0 o1 o2 o3 d4 o5 is at) = let x4 = args_forward s d4 in omega arith
    primary_forward s (g.create o0 o1 o2 d3 o4 is at) = let x3 = args_forward s d3 in omega arith
    primary_forward s (g.new_array o0 o1 d2 d3 is) = let x2 = sizes_forward s d2 in let x3 = dims_forward s d3 in omega arith
    primary_forward s (g.new_values o0 o1 d2 d3 is) = let x2 = dims_forward s d2 in let x3 = values_forward s d3 in omega arith

    pub sizes_forward : (s : Text) {a : List ExprTree} {i j : ℕ} → Sizes place s a i j → i < j
    sizes_forward s (g.size o0 d1 o2 is at) = let x1 = expression_forward s d1 in omega arith
    sizes_forward s (g.next_size d0 o1 d2 o3 is at) = let x0 = sizes_forward s d0 in let x2 = expression_forward s d2 in omega arith

    pub values_forward : (s : Text) {a : List ExprTree} {i j : ℕ} → Values place s a i j → i < j
    values_forward s (g.no_values o0 o1 is at) = omega arith
    values_forward s (g.only_comma o0 o1 o2 is at) = omega arith
    values_forward s (g.values o0 d1 o2 at) = let x1 = initializers_forward s d1 in omega arith
    values_forward s (g.values_comma o0 d1 o2 o3 at) = let x1 = initializers_forward s d1 in omega arith

    pub initializers_forward : (s : Text) {a : List ExprTree} {i j : ℕ} → Initializers place s a i j → i < j
    initializers_forward s (g.first d0 is) = initializer_forward s d0
    initializers_forward s (g.next d0 o1 d2 is) = let x0 = initializers_forward s d0 in let x2 = initializer_forward s d2 in omega arith

    pub initializer_forward : (s : Text) {a : ExprTree} {i j : ℕ} → Initializer place s a i j → i < j
    initializer_forward s (g.expression d0) = expression_forward s d0
    initializer_forward s (g.braces d0 is) = values_forward s d0

    pub args_forward : (s : Text) {a : List ExprTree} {i j : ℕ} → Args place s a i j → i ≤ j
    args_forward s (g.none is at) = omega arith
    args_forward s (g.some d0) = let x0 = exprs_forward s d0 in omega arith

    pub exprs_forward : (s : Text) {a : List ExprTree} {i j : ℕ} → Exprs place s a i j → i < j
    exprs_forward s (g.one d0 is) = expression_forward s d0
    exprs_forward s (g.comma d0 o1 d2 is) = let x0 = exprs_forward s d0 in let x2 = expression_forward s d2 in omega arith

  mutual
    pub expression_frame : (s u : Text) {a : ExprTree} {i j : ℕ} → SameTo s u j → Expression place s a i j → Expression place u a i j
    expression_frame s u e (g.value d0) =
        g.value (conditional_frame s u e d0)
    expression_frame s u {a = a} {i = i} e (g.assign {l = l} {r = r} {m = m} d0 o1 d2 is) =
        let x0 = unary_forward s d0 in let x2 = expression_forward s d2 in g.assign (unary_frame s u (λ z below. e z (omega arith)) d0) (same_among s u m assigns (e _ (omega arith)) o1) (expression_frame s u e d2) (subst (λ (v : Token). a ≡ tree.Assign (place i) (assign_op (terminal v)) l r) (sym (e m (omega arith))) is)

    pub conditional_frame : (s u : Text) {a : ExprTree} {i j : ℕ} → SameTo s u j → Conditional place s a i j → Conditional place u a i j
    conditional_frame s u e (g.ranked d0) =
        g.ranked (level_frame s u e d0)
    conditional_frame s u {i = i} e (g.conditional {m = m} {n = n} d0 o1 d2 o3 d4 is) =
        let x0 = level_forward s d0 in let x2 = expression_forward s d2 in let x4 = conditional_forward s d4 in g.conditional (level_frame s u (λ z below. e z (omega arith)) d0) (same_word s u m _ (e _ (omega arith)) o1) (expression_frame s u (λ z below. e z (omega arith)) d2) (same_word s u n _ (e _ (omega arith)) o3) (conditional_frame s u e d4) is

    pub level_frame : (s u : Text) {h : ℕ} {a : ExprTree} {i j : ℕ} → SameTo s u j → Level place s h a i j → Level place u h a i j
    level_frame s u e (g.unary d) = g.unary (unary_frame s u e d)
    level_frame s u e (g.tighter d) = g.tighter (level_frame s u e d)
    level_frame s u {a} {i} e (g.binary {h} {l} {r} {m} x o y is) =
        let le = level_forward s y in
        let at : u m ≡ s m = e m (omega arith) in
        g.binary (level_frame s u (λ z below. e z (omega arith)) x) (same_among s u m (ops h) at o) (level_frame s u e y)
        (subst (λ (v : Token). a ≡ tree.Binary (place i) (binary_op (terminal v)) l r) (sym at) is)
    level_frame s u e (g.instance {m} x o o2 ty is) =
        let le = type_forward s ty in
        g.instance (level_frame s u (λ z below. e z (omega arith)) x) o (same_word s u m _ (e _ (omega arith)) o2) (type_frame s u e ty) is

    pub unary_frame : (s u : Text) {a : ExprTree} {i j : ℕ} → SameTo s u j → Unary place s a i j → Unary place u a i j
    unary_frame s u {i = i} e (g.minus o0 d1 is) =
        let x1 = unary_forward s d1 in g.minus (same_word s u i _ (e _ (omega arith)) o0) (unary_frame s u e d1) is
    unary_frame s u {a = a} {i = i} e (g.least o0 o1 is at) =
        g.least (same_word s u i _ (e _ (omega arith)) o0) (same_among s u (suc i) leasts (e _ (omega arith)) o1) (subst (λ (v : Token). a ≡ tree.Unary (place i) unaries.Minus (tree.Literal (place (suc i)) (literal_kind (terminal v)) v.text)) (sym (e (suc i) (omega arith))) is) at
    unary_frame s u {i = i} e (g.plus o0 d1 is) =
        let x1 = unary_forward s d1 in g.plus (same_word s u i _ (e _ (omega arith)) o0) (unary_frame s u e d1) is
    unary_frame s u {a = a} {i = i} e (g.prefix {x = x} o0 d1 is) =
        let x1 = unary_forward s d1 in g.prefix (same_among s u i step_ops (e _ (omega arith)) o0) (unary_frame s u e d1) (subst (λ (v : Token). a ≡ tree.Prefix (place i) (step_op (terminal v)) x) (sym (e i (omega arith))) is)
    unary_frame s u e (g.plain d0) =
        g.plain (plain_frame s u e d0)

    pub plain_frame : (s u : Text) {a : ExprTree} {i j : ℕ} → SameTo s u j → Plain place s a i j → Plain place u a i j
    plain_frame s u {a = a} {i = i} e (g.negation {x = x} o0 d1 is) =
        let x1 = unary_forward s d1 in g.negation (same_among s u i negations (e _ (omega arith)) o0) (unary_frame s u e d1) (subst (λ (v : Token). a ≡ tree.Unary (place i) (negation_op (terminal v)) x) (sym (e i (omega arith))) is)
    plain_frame s u {i = i} e (g.cast_primitive {m = m} o0 d1 o2 o3 d4 is) =
        let x1 = type_forward s d1 in let x4 = unary_forward s d4 in g.cast_primitive (same_word s u i _ (e _ (omega arith)) o0) (type_frame s u (λ z below. e z (omega arith)) d1) (same_word s u m _ (e _ (omega arith)) o2) o3 (unary_frame s u e d4) is
    plain_frame s u {i = i} e (g.cast_reference {m = m} o0 d1 o2 o3 d4 is) =
        let x1 = type_forward s d1 in let x4 = plain_forward s d4 in g.cast_reference (same_word s u i _ (e _ (omega arith)) o0) (type_frame s u (λ z below. e z (omega arith)) d1) (same_word s u m _ (e _ (omega arith)) o2) o3 (plain_frame s u e d4) is
    plain_frame s u e (g.postfix d0) =
        g.postfix (postfix_frame s u e d0)

    pub postfix_frame : (s u : Text) {a : ExprTree} {i j : ℕ} → SameTo s u j → Postfix place s a i j → Postfix place u a i j
    postfix_frame s u e (g.selected d0) =
        g.selected (selected_frame s u e d0)
    postfix_frame s u {a = a} {i = i} e (g.step {x = x} {m = m} d0 o1 is at) =
        let x0 = postfix_forward s d0 in g.step (postfix_frame s u (λ z below. e z (omega arith)) d0) (same_among s u m step_ops (e _ (omega arith)) o1) (subst (λ (v : Token). a ≡ tree.Postfix (place i) (step_op (terminal v)) x) (sym (e m (omega arith))) is) at

    pub selected_frame : (s u : Text) {a : ExprTree} {i j : ℕ} → SameTo s u j → Selected place s a i j → Selected place u a i j
    selected_frame s u e (g.primary d0) =
        g.primary (primary_frame s u e d0)
    selected_frame s u {a = a} {i = i} e (g.field {x = x} {m = m} d0 o1 o2 is at) =
        let x0 = selected_forward s d0 in g.field (selected_frame s u (λ z below. e z (omega arith)) d0) (same_word s u m _ (e _ (omega arith)) o1) (same_word s u (suc m) _ (e _ (omega arith)) o2) (subst (λ (v : Token). a ≡ tree.Field (place i) x v.text) (sym (e (suc m) (omega arith))) is) at
    selected_frame s u {a = a} {i = i} e (g.method_call {x = x} {args = args} {m = m} {n = n} d0 o1 o2 o3 d4 o5 is at) =
        let x0 = selected_forward s d0 in let x4 = args_forward s d4 in g.method_call (selected_frame s u (λ z below. e z (omega arith)) d0) (same_word s u m _ (e _ (omega arith)) o1) (same_word s u (suc m) _ (e _ (omega arith)) o2) (same_word s u (suc (suc m)) _ (e _ (omega arith)) o3) (args_frame s u (λ z below. e z (omega arith)) d4) (same_word s u n _ (e _ (omega arith)) o5) (subst (λ (v : Token). a ≡ tree.MethodCall (place i) x v.text args) (sym (e (suc m) (omega arith))) is) at
    selected_frame s u {i = i} e (g.index {m = m} {n = n} d0 o1 o2 d3 o4 is at) =
        let x0 = selected_forward s d0 in let x3 = expression_forward s d3 in g.index (selected_frame s u (λ z below. e z (omega arith)) d0) o1 (same_word s u m _ (e _ (omega arith)) o2) (expression_frame s u (λ z below. e z (omega arith)) d3) (same_word s u n _ (e _ (omega arith)) o4) is at

    pub primary_frame : (s u : Text) {a : ExprTree} {i j : ℕ} → SameTo s u j → Primary place s a i j → Primary place u a i j
    primary_frame s u {a = a} {i = i} e (g.literal o0 is at) =
        g.literal (same_among s u i literal_words (e _ (omega arith)) o0) (subst (λ (v : Token). a ≡ tree.Literal (place i) (literal_kind (terminal v)) v.text) (sym (e i (omega arith))) is) at
    primary_frame s u {i = i} e (g.this o0 is at) =
        g.this (same_word s u i _ (e _ (omega arith)) o0) is at
    primary_frame s u {i = i} e (g.paren {m = m} o0 d1 o2 is at) =
        let x1 = expression_forward s d1 in g.paren (same_word s u i _ (e _ (omega arith)) o0) (expression_frame s u (λ z below. e z (omega arith)) d1) (same_word s u m _ (e _ (omega arith)) o2) is at
    primary_frame s u {a = a} {i = i} e (g.name o0 is at) =
        g.name (same_word s u i _ (e _ (omega arith)) o0) (subst (λ (v : Token). a ≡ tree.Name (place i) v.text) (sym (e i (omega arith))) is) at
    primary_frame s u {a = a} {i = i} e (g.call {args = args} {m = m} o0 o1 d2 o3 is at) =
        let x2 = args_forward s d2 in g.call (same_word s u i _ (e _ (omega arith)) o0) (same_word s u (suc i) _ (e _ (omega arith)) o1) (args_frame s u (λ z below. e z (omega arith)) d2) (same_word s u m _ (e _ (omega arith)) o3) (subst (λ (v : Token). a ≡ tree.Call (place i) v.text args) (sym (e i (omega arith))) is) at
    primary_frame s u {a = a} {i = i} e (g.super_field o0 o1 o2 is at) =
        g.super_field (same_word s u i _ (e _ (omega arith)) o0) (same_word s u (suc i) _ (e _ (omega arith)) o1) (same_word s u (suc (suc i)) _ (e _ (omega arith)) o2) (subst (λ (v : Token). a ≡ tree.SuperField (place i) v.text) (sym (e (suc (suc i)) (omega arith))) is) at
    primary_frame s u {a = a} {i = i} e (g.super_call {args = args} {m = m} o0 o1 o2 o3 d4 o5 is at) =
        let x4 = args_forward s d4 in g.super_call (same_word s u i _ (e _ (omega arith)) o0) (same_word s u (suc i) _ (e _ (omega arith)) o1) (same_word s u (suc (suc i)) _ (e _ (omega arith)) o2) (same_word s u (suc (suc (suc i))) _ (e _ (omega arith)) o3) (args_frame s u (λ z below. e z (omega arith)) d4) (same_word s u m _ (e _ (omega arith)) o5) (subst (λ (v : Token). a ≡ tree.SuperCall (place i) v.text args) (sym (e (suc (suc i)) (omega arith))) is) at
    primary_frame s u {a = a} {i = i} e (g.create {args = args} {m = m} o0 o1 o2 d3 o4 is at) =
        let x3 = args_forward s d3 in g.create (same_word s u i _ (e _ (omega arith)) o0) (same_word s u (suc i) _ (e _ (omega arith)) o1) (same_word s u (suc (suc i)) _ (e _ (omega arith)) o2) (args_frame s u (λ z below. e z (omega arith)) d3) (same_word s u m _ (e _ (omega arith)) o4) (subst (λ (v : Token). a ≡ tree.New (place i) v.text args) (sym (e (suc i) (omega arith))) is) at
    primary_frame s u {a = a} {i = i} e (g.new_array {sizes = sizes} {n = n} {m = m} o0 o1 d2 d3 is) =
        let x2 = sizes_forward s d2 in let x3 = dims_forward s d3 in g.new_array (same_word s u i _ (e _ (omega arith)) o0) (same_among s u (suc i) type_words (e _ (omega arith)) o1) (sizes_frame s u (λ z below. e z (omega arith)) d2) (dims_frame s u e d3) (subst (λ (v : Token). a ≡ tree.NewArray (place i) (type_tree (place (suc i)) v 0) sizes n) (sym (e (suc i) (omega arith))) is)
    primary_frame s u {a = a} {i = i} e (g.new_values {values = values} {n = n} {m = m} o0 o1 d2 d3 is) =
        let x2 = dims_forward s d2 in let x3 = values_forward s d3 in g.new_values (same_word s u i _ (e _ (omega arith)) o0) (same_among s u (suc i) type_words (e _ (omega arith)) o1) (dims_frame s u (λ z below. e z (omega arith)) d2) (values_frame s u e d3) (subst (λ (v : Token). a ≡ tree.NewValues (place i) (type_tree (place (suc i)) v n) values) (sym (e (suc i) (omega arith))) is)

    pub sizes_frame : (s u : Text) {a : List ExprTree} {i j : ℕ} → SameTo s u j → Sizes place s a i j → Sizes place u a i j
    sizes_frame s u {i = i} e (g.size {m = m} o0 d1 o2 is at) =
        let x1 = expression_forward s d1 in g.size (same_word s u i _ (e _ (omega arith)) o0) (expression_frame s u (λ z below. e z (omega arith)) d1) (same_word s u m _ (e _ (omega arith)) o2) is at
    sizes_frame s u {i = i} e (g.next_size {m = m} {n = n} d0 o1 d2 o3 is at) =
        let x0 = sizes_forward s d0 in let x2 = expression_forward s d2 in g.next_size (sizes_frame s u (λ z below. e z (omega arith)) d0) (same_word s u m _ (e _ (omega arith)) o1) (expression_frame s u (λ z below. e z (omega arith)) d2) (same_word s u n _ (e _ (omega arith)) o3) is at

    pub values_frame : (s u : Text) {a : List ExprTree} {i j : ℕ} → SameTo s u j → Values place s a i j → Values place u a i j
    values_frame s u {i = i} e (g.no_values o0 o1 is at) =
        g.no_values (same_word s u i _ (e _ (omega arith)) o0) (same_word s u (suc i) _ (e _ (omega arith)) o1) is at
    values_frame s u {i = i} e (g.only_comma o0 o1 o2 is at) =
        g.only_comma (same_word s u i _ (e _ (omega arith)) o0) (same_word s u (suc i) _ (e _ (omega arith)) o1) (same_word s u (suc (suc i)) _ (e _ (omega arith)) o2) is at
    values_frame s u {i = i} e (g.values {m = m} o0 d1 o2 at) =
        let x1 = initializers_forward s d1 in g.values (same_word s u i _ (e _ (omega arith)) o0) (initializers_frame s u (λ z below. e z (omega arith)) d1) (same_word s u m _ (e _ (omega arith)) o2) at
    values_frame s u {i = i} e (g.values_comma {m = m} o0 d1 o2 o3 at) =
        let x1 = initializers_forward s d1 in g.values_comma (same_word s u i _ (e _ (omega arith)) o0) (initializers_frame s u (λ z below. e z (omega arith)) d1) (same_word s u m _ (e _ (omega arith)) o2) (same_word s u (suc m) _ (e _ (omega arith)) o3) at

    pub initializers_frame : (s u : Text) {a : List ExprTree} {i j : ℕ} → SameTo s u j → Initializers place s a i j → Initializers place u a i j
    initializers_frame s u {i = i} e (g.first d0 is) =
        g.first (initializer_frame s u e d0) is
    initializers_frame s u {i = i} e (g.next {m = m} d0 o1 d2 is) =
        let x0 = initializers_forward s d0 in let x2 = initializer_forward s d2 in g.next (initializers_frame s u (λ z below. e z (omega arith)) d0) (same_word s u m _ (e _ (omega arith)) o1) (initializer_frame s u e d2) is

    pub initializer_frame : (s u : Text) {a : ExprTree} {i j : ℕ} → SameTo s u j → Initializer place s a i j → Initializer place u a i j
    initializer_frame s u e (g.expression d0) =
        g.expression (expression_frame s u e d0)
    initializer_frame s u {i = i} e (g.braces d0 is) =
        g.braces (values_frame s u e d0) is

    pub args_frame : (s u : Text) {a : List ExprTree} {i j : ℕ} → SameTo s u j → Args place s a i j → Args place u a i j
    args_frame s u {i = i} e (g.none is at) =
        g.none is at
    args_frame s u e (g.some d0) =
        g.some (exprs_frame s u e d0)

    pub exprs_frame : (s u : Text) {a : List ExprTree} {i j : ℕ} → SameTo s u j → Exprs place s a i j → Exprs place u a i j
    exprs_frame s u {i = i} e (g.one d0 is) =
        g.one (expression_frame s u e d0) is
    exprs_frame s u {i = i} e (g.comma {m = m} d0 o1 d2 is) =
        let x0 = exprs_forward s d0 in let x2 = expression_forward s d2 in g.comma (exprs_frame s u (λ z below. e z (omega arith)) d0) (same_word s u m _ (e _ (omega arith)) o1) (expression_frame s u e d2) is
