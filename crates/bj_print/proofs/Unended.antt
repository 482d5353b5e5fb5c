-- No expression has a semicolon among its tokens.
use Rattle.std.proofs.Common.{◌≡◌, ℕ, zero, suc, ◌<◌, ◌≤◌, inl, inr, Bool, true, false, refl, sym, ap, ◌∙◌, subst, arith, List}
use Rattle.std.proofs.lemmas.Bool.{cases_lt}
use Rattle.bj_base.specs.declared.span.Span.{Span}
use Rattle.bj_expr_tree.specs.declared.types.TypeTree.{TypeTree}
use Rattle.bj_expr_tree.specs.declared.expr.ExprTree.{ExprTree}
use Rattle.bj_grammar.specs.declared.terminal.Terminal.{Terminal}
use Rattle.bj_grammar.specs.declared.terminal.Terminal.TheVariants as t
use Rattle.bj_grammar.specs.Terminal.{terminal, among}
use Rattle.bj_grammar.specs.Reader.{Text}
use Rattle.bj_expr.specs.Grammar as g
use Rattle.bj_expr.specs.Grammar.{ops, assigns, negations, step_ops, literal_words, leasts, type_words, Dims, TypeAt, Expression, Conditional, Level, Unary, Plain, Postfix, Selected, Primary, Sizes, Values, Initializers, Initializer, Args, Exprs}
use Rattle.bj_expr.proofs.Facts.{each}

abbrev pub is_semicolon : Terminal → Bool
is_semicolon t.Semicolon = true
is_semicolon _ = false

-- from a place up to another, which is not before it, no semicolon stands
pub record Unended (s : Text) (i j : ℕ) : Type 0 where
  pub onward : i ≤ j
  pub none : (x : ℕ) → i ≤ x → x < j → is_semicolon (terminal (s x)) ≡ false

-- ---- how such parts of a text are put together

nothing : (s : Text) (i j : ℕ) → j ≡ i → Unended s i j
nothing s i j at = record { onward = omega arith; none = λ x low high. absurd (omega arith) }

token : (s : Text) (i : ℕ) → is_semicolon (terminal (s i)) ≡ false → Unended s i (suc i)
token s i other = record {
  onward = omega arith;
  none = λ x low high. let here : i ≡ x = omega arith in subst (λ (z : ℕ). is_semicolon (terminal (s z)) ≡ false) here other;
}

kind : (s : Text) (i : ℕ) (k : Terminal) → is_semicolon k ≡ false → terminal (s i) ≡ k → Unended s i (suc i)
kind s i k other o = token s i (ap is_semicolon o ∙ other)

ends_at : (s : Text) (i m j : ℕ) → j ≡ m → Unended s i m → Unended s i j
ends_at s i m j at u = subst (λ (z : ℕ). Unended s i z) (sym at) u

join : (s : Text) (i m j : ℕ) → Unended s i m → Unended s m j → Unended s i j
join s i m j u v = record {
  onward = (let x = u.onward in let y = v.onward in omega arith);
  none = λ x low high. elim (cases_lt x m) [ inl h ↦ u.none x low h | inr h ↦ v.none x h high ];
}

-- ---- the lists of terminals of the grammar of expressions have no semicolon

abbrev Other : Terminal → Type 0
Other x = is_semicolon x ≡ false

op_other : (h : ℕ) (x : Terminal) → among (ops h) x ≡ true → Other x
op_other zero x e = each Other (ops 0) (refl, (refl, (refl, tt))) x e
op_other (suc zero) x e = each Other (ops 1) (refl, (refl, tt)) x e
op_other (suc (suc zero)) x e = each Other (ops 2) (refl, (refl, (refl, tt))) x e
op_other (suc (suc (suc zero))) x e = each Other (ops 3) (refl, (refl, (refl, (refl, tt)))) x e
op_other (suc (suc (suc (suc zero)))) x e = each Other (ops 4) (refl, (refl, tt)) x e
op_other (suc (suc (suc (suc (suc zero))))) x e = each Other (ops 5) (refl, tt) x e
op_other (suc (suc (suc (suc (suc (suc zero)))))) x e = each Other (ops 6) (refl, tt) x e
op_other (suc (suc (suc (suc (suc (suc (suc zero))))))) x e = each Other (ops 7) (refl, tt) x e
op_other (suc (suc (suc (suc (suc (suc (suc (suc zero)))))))) x e = each Other (ops 8) (refl, tt) x e
op_other (suc (suc (suc (suc (suc (suc (suc (suc (suc zero))))))))) x e = each Other (ops 9) (refl, tt) x e
op_other (suc (suc (suc (suc (suc (suc (suc (suc (suc (suc h)))))))))) x e = absurd (cc)

assign_other : (x : Terminal) → among assigns x ≡ true → Other x
assign_other = each Other assigns (refl, (refl, (refl, (refl, (refl, (refl, (refl, (refl, (refl, (refl, (refl, (refl, tt))))))))))))

step_other : (x : Terminal) → among step_ops x ≡ true → Other x
step_other = each Other step_ops (refl, (refl, tt))

negation_other : (x : Terminal) → among negations x ≡ true → Other x
negation_other = each Other negations (refl, (refl, tt))

least_other : (x : Terminal) → among leasts x ≡ true → Other x
least_other = each Other leasts (refl, (refl, tt))

literal_other : (x : Terminal) → among literal_words x ≡ true → Other x
literal_other = each Other literal_words (refl, (refl, (refl, (refl, (refl, (refl, (refl, tt)))))))

type_other : (x : Terminal) → among type_words x ≡ true → Other x
type_other = each Other type_words (refl, (refl, (refl, (refl, (refl, tt)))))

-- ---- types

pub dims_unended : (s : Text) {n i j : ℕ} → Dims s n i j → Unended s i j
dims_unended s (g.no_pair is at) = nothing s _ _ at
dims_unended s (g.pair d o o2 is at) = ends_at s _ _ _ at (join s _ _ _ (dims_unended s d) (join s _ _ _ (kind s _ _ refl o) (kind s _ _ refl o2)))

module _ (place : ℕ → Span) where
  pub type_unended : (s : Text) {a : TypeTree} {i j : ℕ} → TypeAt place s a i j → Unended s i j
  type_unended s (g.named o d is) = join s _ _ _ (token s _ (type_other _ o)) (dims_unended s d)

  -- ---- expressions

  mutual
    pub expression_unended : (s : Text) {a : ExprTree} {i j : ℕ} → Expression place s a i j → Unended s i j
    expression_unended s (g.value d) = conditional_unended s d
    expression_unended s (g.assign d o x is) = join s _ _ _ (unary_unended s d) (join s _ _ _ (token s _ (assign_other _ o)) (expression_unended s x))

    pub conditional_unended : (s : Text) {a : ExprTree} {i j : ℕ} → Conditional place s a i j → Unended s i j
    conditional_unended s (g.ranked d) = level_unended s d
    conditional_unended s (g.conditional d o x o2 y is) =
        join s _ _ _ (level_unended s d) (join s _ _ _ (kind s _ _ refl o) (join s _ _ _ (expression_unended s x) (join s _ _ _ (kind s _ _ refl o2) (conditional_unended s y))))

    pub level_unended : (s : Text) {h : ℕ} {a : ExprTree} {i j : ℕ} → Level place s h a i j → Unended s i j
    level_unended s (g.unary d) = unary_unended s d
    level_unended s (g.tighter d) = level_unended s d
    level_unended s (g.binary {h} l o r is) = join s _ _ _ (level_unended s l) (join s _ _ _ (token s _ (op_other h _ o)) (level_unended s r))
    level_unended s (g.instance l o o2 ty is) = join s _ _ _ (level_unended s l) (join s _ _ _ (kind s _ _ refl o2) (type_unended s ty))

    pub unary_unended : (s : Text) {a : ExprTree} {i j : ℕ} → Unary place s a i j → Unended s i j
    unary_unended s (g.minus o d is) = join s _ _ _ (kind s _ _ refl o) (unary_unended s d)
    unary_unended s (g.least o o2 is at) = ends_at s _ _ _ at (join s _ _ _ (kind s _ _ refl o) (token s _ (least_other _ o2)))
    unary_unended s (g.plus o d is) = join s _ _ _ (kind s _ _ refl o) (unary_unended s d)
    unary_unended s (g.prefix o d is) = join s _ _ _ (token s _ (step_other _ o)) (unary_unended s d)
    unary_unended s (g.plain d) = plain_unended s d

    pub plain_unended : (s : Text) {a : ExprTree} {i j : ℕ} → Plain place s a i j → Unended s i j
    plain_unended s (g.negation o d is) = join s _ _ _ (token s _ (negation_other _ o)) (unary_unended s d)
    plain_unended s (g.cast_primitive o d o2 o3 x is) =
        join s _ _ _ (kind s _ _ refl o) (join s _ _ _ (type_unended s d) (join s _ _ _ (kind s _ _ refl o2) (unary_unended s x)))
    plain_unended s (g.cast_reference o d o2 o3 x is) =
        join s _ _ _ (kind s _ _ refl o) (join s _ _ _ (type_unended s d) (join s _ _ _ (kind s _ _ refl o2) (plain_unended s x)))
    plain_unended s (g.postfix d) = postfix_unended s d

    pub postfix_unended : (s : Text) {a : ExprTree} {i j : ℕ} → Postfix place s a i j → Unended s i j
    postfix_unended s (g.selected d) = selected_unended s d
    postfix_unended s (g.step d o is at) = ends_at s _ _ _ at (join s _ _ _ (postfix_unended s d) (token s _ (step_other _ o)))

    pub selected_unended : (s : Text) {a : ExprTree} {i j : ℕ} → Selected place s a i j → Unended s i j
    selected_unended s (g.primary d) = primary_unended s d
    selected_unended s (g.field d o o2 is at) = ends_at s _ _ _ at (join s _ _ _ (selected_unended s d) (join s _ _ _ (kind s _ _ refl o) (kind s _ _ refl o2)))
    selected_unended s (g.method_call d o o2 o3 x o4 is at) =
        ends_at s _ _ _ at (join s _ _ _ (selected_unended s d)
        (join s _ _ _ (kind s _ _ refl o) (join s _ _ _ (kind s _ _ refl o2) (join s _ _ _ (kind s _ _ refl o3) (join s _ _ _ (args_unended s x) (kind s _ _ refl o4))))))
    selected_unended s (g.index d none o x o2 is at) =
        ends_at s _ _ _ at (join s _ _ _ (selected_unended s d) (join s _ _ _ (kind s _ _ refl o) (join s _ _ _ (expression_unended s x) (kind s _ _ refl o2))))

    pub primary_unended : (s : Text) {a : ExprTree} {i j : ℕ} → Primary place s a i j → Unended s i j
    primary_unended s (g.literal o is at) = ends_at s _ _ _ at (token s _ (literal_other _ o))
    primary_unended s (g.this o is at) = ends_at s _ _ _ at (kind s _ _ refl o)
    primary_unended s (g.paren o d o2 is at) = ends_at s _ _ _ at (join s _ _ _ (kind s _ _ refl o) (join s _ _ _ (expression_unended s d) (kind s _ _ refl o2)))
    primary_unended s (g.name o is at) = ends_at s _ _ _ at (kind s _ _ refl o)
    primary_unended s (g.call o o2 d o3 is at) =
        ends_at s _ _ _ at (join s _ _ _ (kind s _ _ refl o) (join s _ _ _ (kind s _ _ refl o2) (join s _ _ _ (args_unended s d) (kind s _ _ refl o3))))
    primary_unended s (g.super_field o o2 o3 is at) =
        ends_at s _ _ _ at (join s _ _ _ (kind s _ _ refl o) (join s _ _ _ (kind s _ _ refl o2) (kind s _ _ refl o3)))
    primary_unended s (g.super_call o o2 o3 o4 d o5 is at) =
        ends_at s _ _ _ at (join s _ _ _ (kind s _ _ refl o)
        (join s _ _ _ (kind s _ _ refl o2) (join s _ _ _ (kind s _ _ refl o3) (join s _ _ _ (kind s _ _ refl o4) (join s _ _ _ (args_unended s d) (kind s _ _ refl o5))))))
    primary_unended s (g.create o o2 o3 d o4 is at) =
        ends_at s _ _ _ at (join s _ _ _ (kind s _ _ refl o) (join s _ _ _ (kind s _ _ refl o2) (join s _ _ _ (kind s _ _ refl o3) (join s _ _ _ (args_unended s d) (kind s _ _ refl o4)))))
    primary_unended s (g.new_array o o2 d d2 is) =
        join s _ _ _ (kind s _ _ refl o) (join s _ _ _ (token s _ (type_other _ o2)) (join s _ _ _ (sizes_unended s d) (dims_unended s d2)))
    primary_unended s (g.new_values o o2 d d2 is) =
        join s _ _ _ (kind s _ _ refl o) (join s _ _ _ (token s _ (type_other _ o2)) (join s _ _ _ (dims_unended s d) (values_unended s d2)))

    pub sizes_unended : (s : Text) {a : List ExprTree} {i j : ℕ} → Sizes place s a i j → Unended s i j
    sizes_unended s (g.size o d o2 is at) = ends_at s _ _ _ at (join s _ _ _ (kind s _ _ refl o) (join s _ _ _ (expression_unended s d) (kind s _ _ refl o2)))
    sizes_unended s (g.next_size d o x o2 is at) =
        ends_at s _ _ _ at (join s _ _ _ (sizes_unended s d) (join s _ _ _ (kind s _ _ refl o) (join s _ _ _ (expression_unended s x) (kind s _ _ refl o2))))

    pub values_unended : (s : Text) {a : List ExprTree} {i j : ℕ} → Values place s a i j → Unended s i j
    values_unended s (g.no_values o o2 is at) = ends_at s _ _ _ at (join s _ _ _ (kind s _ _ refl o) (kind s _ _ refl o2))
    values_unended s (g.only_comma o o2 o3 is at) =
        ends_at s _ _ _ at (join s _ _ _ (kind s _ _ refl o) (join s _ _ _ (kind s _ _ refl o2) (kind s _ _ refl o3)))
    values_unended s (g.values o d o2 at) = ends_at s _ _ _ at (join s _ _ _ (kind s _ _ refl o) (join s _ _ _ (initializers_unended s d) (kind s _ _ refl o2)))
    values_unended s (g.values_comma o d o2 o3 at) =
        ends_at s _ _ _ at (join s _ _ _ (kind s _ _ refl o) (join s _ _ _ (initializers_unended s d) (join s _ _ _ (kind s _ _ refl o2) (kind s _ _ refl o3))))

    pub initializers_unended : (s : Text) {a : List ExprTree} {i j : ℕ} → Initializers place s a i j → Unended s i j
    initializers_unended s (g.first d is) = initializer_unended s d
    initializers_unended s (g.next d o x is) = join s _ _ _ (initializers_unended s d) (join s _ _ _ (kind s _ _ refl o) (initializer_unended s x))

    pub initializer_unended : (s : Text) {a : ExprTree} {i j : ℕ} → Initializer place s a i j → Unended s i j
    initializer_unended s (g.expression d) = expression_unended s d
    initializer_unended s (g.braces d is) = values_unended s d

    pub args_unended : (s : Text) {a : List ExprTree} {i j : ℕ} → Args place s a i j → Unended s i j
    args_unended s (g.none is at) = nothing s _ _ at
    args_unended s (g.some d) = exprs_unended s d

    pub exprs_unended : (s : Text) {a : List ExprTree} {i j : ℕ} → Exprs place s a i j → Unended s i j
    exprs_unended s (g.one d is) = expression_unended s d
    exprs_unended s (g.comma d o x is) = join s _ _ _ (exprs_unended s d) (join s _ _ _ (kind s _ _ refl o) (expression_unended s x))
