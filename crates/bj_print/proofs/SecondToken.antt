-- Behind a name at the front of an expression stands no colon, unless the name is all of it.
use Rattle.std.proofs.Common.{◌≡◌, ℕ, zero, suc, ◌⊎◌, inl, inr, Bool, true, false, refl, sym, ap, ◌∙◌, subst}
use Rattle.std.proofs.lemmas.Bool.{both_ways}
use Rattle.bj_base.specs.declared.span.Span.{Span}
use Rattle.bj_expr_tree.specs.declared.expr.ExprTree.{ExprTree}
use Rattle.bj_grammar.specs.declared.terminal.Terminal.{Terminal}
use Rattle.bj_grammar.specs.declared.terminal.Terminal.TheVariants as t
use Rattle.bj_grammar.specs.Terminal.{terminal, among}
use Rattle.bj_grammar.specs.Reader.{Text}
use Rattle.bj_expr.specs.Grammar as g
use Rattle.bj_expr.specs.Grammar.{ops, assigns, negations, step_ops, literal_words, Expression, Conditional, Level, Unary, Plain, Postfix, Selected, Primary}
use Rattle.bj_expr.proofs.Facts.{each}

abbrev pub is_colon : Terminal → Bool
is_colon t.Colon = true
is_colon _ = false

abbrev is_name : Terminal → Bool
is_name t.Word = true
is_name _ = false

-- a name at the front is all, or what stands behind it is no colon
abbrev pub NameAlone : Text → ℕ → ℕ → Type 0
NameAlone s i j = terminal (s i) ≡ t.Word → (j ≡ suc i) ⊎ (is_colon (terminal (s (suc i))) ≡ false)

-- what goes on behind a front part
goes_on : (s : Text) (i m j : ℕ) → NameAlone s i m → is_colon (terminal (s m)) ≡ false → NameAlone s i j
goes_on s i m j front other w = elim (front w) [
  | inl e ↦ inr (subst (λ (z : ℕ). is_colon (terminal (s z)) ≡ false) e other)
  | inr h ↦ inr h
]

goes_on_with : (s : Text) (i m j : ℕ) (k : Terminal) → is_colon k ≡ false → NameAlone s i m → terminal (s m) ≡ k → NameAlone s i j
goes_on_with s i m j k other front o = goes_on s i m j front (ap is_colon o ∙ other)

-- what begins with another token has no name at its front
no_name : (s : Text) (i j : ℕ) (k : Terminal) → is_name k ≡ false → terminal (s i) ≡ k → NameAlone s i j
no_name s i j k other o w = absurd (both_ways (is_name k) other (ap is_name (sym o ∙ w)))

no_name_of : (s : Text) (i j : ℕ) → is_name (terminal (s i)) ≡ false → NameAlone s i j
no_name_of s i j other w = absurd (both_ways (is_name (terminal (s i))) other (ap is_name w))

-- ---- the lists of terminals have no colon, or no name

abbrev NoColon : Terminal → Type 0
NoColon x = is_colon x ≡ false

abbrev NoName : Terminal → Type 0
NoName x = is_name x ≡ false

op_no_colon : (h : ℕ) (x : Terminal) → among (ops h) x ≡ true → NoColon x
op_no_colon zero x e = each NoColon (ops 0) (refl, (refl, (refl, tt))) x e
op_no_colon (suc zero) x e = each NoColon (ops 1) (refl, (refl, tt)) x e
op_no_colon (suc (suc zero)) x e = each NoColon (ops 2) (refl, (refl, (refl, tt))) x e
op_no_colon (suc (suc (suc zero))) x e = each NoColon (ops 3) (refl, (refl, (refl, (refl, tt)))) x e
op_no_colon (suc (suc (suc (suc zero)))) x e = each NoColon (ops 4) (refl, (refl, tt)) x e
op_no_colon (suc (suc (suc (suc (suc zero))))) x e = each NoColon (ops 5) (refl, tt) x e
op_no_colon (suc (suc (suc (suc (suc (suc zero)))))) x e = each NoColon (ops 6) (refl, tt) x e
op_no_colon (suc (suc (suc (suc (suc (suc (suc zero))))))) x e = each NoColon (ops 7) (refl, tt) x e
op_no_colon (suc (suc (suc (suc (suc (suc (suc (suc zero)))))))) x e = each NoColon (ops 8) (refl, tt) x e
op_no_colon (suc (suc (suc (suc (suc (suc (suc (suc (suc zero))))))))) x e = each NoColon (ops 9) (refl, tt) x e
op_no_colon (suc (suc (suc (suc (suc (suc (suc (suc (suc (suc h)))))))))) x e = absurd (cc)

assign_no_colon : (x : Terminal) → among assigns x ≡ true → NoColon x
assign_no_colon = each NoColon assigns (refl, (refl, (refl, (refl, (refl, (refl, (refl, (refl, (refl, (refl, (refl, (refl, tt))))))))))))

step_no_colon : (x : Terminal) → among step_ops x ≡ true → NoColon x
step_no_colon = each NoColon step_ops (refl, (refl, tt))

step_no_name : (x : Terminal) → among step_ops x ≡ true → NoName x
step_no_name = each NoName step_ops (refl, (refl, tt))

negation_no_name : (x : Terminal) → among negations x ≡ true → NoName x
negation_no_name = each NoName negations (refl, (refl, tt))

literal_no_name : (x : Terminal) → among literal_words x ≡ true → NoName x
literal_no_name = each NoName literal_words (refl, (refl, (refl, (refl, (refl, (refl, (refl, tt)))))))

-- ---- expressions

module _ (place : ℕ → Span) where
  pub primary_name : (s : Text) {a : ExprTree} {i j : ℕ} → Primary place s a i j → NameAlone s i j
  primary_name s (g.literal o is at) w = no_name_of s _ _ (literal_no_name _ o) w
  primary_name s (g.this o is at) w = no_name s _ _ _ refl o w
  primary_name s (g.paren o d o2 is at) w = no_name s _ _ _ refl o w
  primary_name s (g.name o is at) w = inl at
  primary_name s (g.call o o2 d o3 is at) w = inr (ap is_colon o2)
  primary_name s (g.super_field o o2 o3 is at) w = no_name s _ _ _ refl o w
  primary_name s (g.super_call o o2 o3 o4 d o5 is at) w = no_name s _ _ _ refl o w
  primary_name s (g.create o o2 o3 d o4 is at) w = no_name s _ _ _ refl o w
  primary_name s (g.new_array o o2 d d2 is) w = no_name s _ _ _ refl o w
  primary_name s (g.new_values o o2 d d2 is) w = no_name s _ _ _ refl o w

  pub selected_name : (s : Text) {a : ExprTree} {i j : ℕ} → Selected place s a i j → NameAlone s i j
  selected_name s (g.primary d) w = primary_name s d w
  selected_name s (g.field d o o2 is at) w = goes_on_with s _ _ _ _ refl (selected_name s d) o w
  selected_name s (g.method_call d o o2 o3 x o4 is at) w = goes_on_with s _ _ _ _ refl (selected_name s d) o w
  selected_name s (g.index d none o x o2 is at) w = goes_on_with s _ _ _ _ refl (selected_name s d) o w

  pub postfix_name : (s : Text) {a : ExprTree} {i j : ℕ} → Postfix place s a i j → NameAlone s i j
  postfix_name s (g.selected d) w = selected_name s d w
  postfix_name s (g.step d o is at) w = goes_on s _ _ _ (postfix_name s d) (step_no_colon _ o) w

  pub plain_name : (s : Text) {a : ExprTree} {i j : ℕ} → Plain place s a i j → NameAlone s i j
  plain_name s (g.negation o d is) w = no_name_of s _ _ (negation_no_name _ o) w
  plain_name s (g.cast_primitive o d o2 o3 x is) w = no_name s _ _ _ refl o w
  plain_name s (g.cast_reference o d o2 o3 x is) w = no_name s _ _ _ refl o w
  plain_name s (g.postfix d) w = postfix_name s d w

  pub unary_name : (s : Text) {a : ExprTree} {i j : ℕ} → Unary place s a i j → NameAlone s i j
  unary_name s (g.minus o d is) w = no_name s _ _ _ refl o w
  unary_name s (g.least o o2 is at) w = no_name s _ _ _ refl o w
  unary_name s (g.plus o d is) w = no_name s _ _ _ refl o w
  unary_name s (g.prefix o d is) w = no_name_of s _ _ (step_no_name _ o) w
  unary_name s (g.plain d) w = plain_name s d w

  pub level_name : (s : Text) {h : ℕ} {a : ExprTree} {i j : ℕ} → Level place s h a i j → NameAlone s i j
  level_name s (g.unary d) w = unary_name s d w
  level_name s (g.tighter d) w = level_name s d w
  level_name s (g.binary {h} l o r is) w = goes_on s _ _ _ (level_name s l) (op_no_colon h _ o) w
  level_name s (g.instance l o o2 ty is) w = goes_on_with s _ _ _ _ refl (level_name s l) o2 w

  pub conditional_name : (s : Text) {a : ExprTree} {i j : ℕ} → Conditional place s a i j → NameAlone s i j
  conditional_name s (g.ranked d) w = level_name s d w
  conditional_name s (g.conditional d o x o2 y is) w = goes_on_with s _ _ _ _ refl (level_name s d) o w

  pub expression_name : (s : Text) {a : ExprTree} {i j : ℕ} → Expression place s a i j → NameAlone s i j
  expression_name s (g.value d) w = conditional_name s d w
  expression_name s (g.assign d o x is) w = goes_on s _ _ _ (unary_name s d) (assign_no_colon _ o) w
