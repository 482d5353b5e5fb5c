-- The tokens that a member begins with, and what they tell of the tests on the next two.
use Rattle.std.proofs.Common.{◌≡◌, ℕ, suc, ◌⊎◌, inl, inr, true, false, refl, sym, ap, ◌∙◌, subst, List, ◌∷◌, Option}
use Rattle.bj_base.specs.declared.span.Span.{Span}
use Rattle.bj_expr_tree.specs.declared.types.TypeTree.{TypeTree}
use Rattle.bj_expr_tree.specs.declared.expr.ExprTree.{ExprTree}
use Rattle.bj_tree.specs.declared.stmt.VariableTree.{VariableTree}
use Rattle.bj_tree.specs.declared.class.Modifier.{Modifier}
use Rattle.bj_tree.specs.declared.class.AnnotationTree.{AnnotationTree}
use Rattle.bj_grammar.specs.declared.terminal.Terminal.{Terminal}
use Rattle.bj_grammar.specs.declared.terminal.Terminal.TheVariants as t
use Rattle.bj_grammar.specs.Terminal.{terminal, same_terminal, among}
use Rattle.bj_grammar.specs.Reader.{Text}
use Rattle.bj_expr.specs.Grammar as ge
use Rattle.bj_expr.specs.Grammar.{type_words, Dims, TypeAt}
use Rattle.bj_stmt.specs.Grammar as gs
use Rattle.bj_stmt.specs.Grammar.{MaybeInit, Variable, Variables}
use Rattle.bj_stmt.specs.Reading.{inside}
use Rattle.bj_stmt.proofs.Leftmost.{Each, each, is_not, and_first, and_second}
use Rattle.bj_class.specs.Grammar as g
use Rattle.bj_class.specs.Grammar.{modifier_words, Annotation, Annotations, ModifierList}
use Rattle.bj_class.specs.Reading.{is_called, is_static_block}
use Rattle.bj_class.proofs.Needed.{annotation_words}

-- ---- which terminals

-- what stands behind the modifiers of a member
abbrev pub core_words : List Terminal
core_words = t.Void ∷ type_words

-- a terminal that begins a member with modifiers
abbrev pub Start : Terminal → Type 0
Start x = (same_terminal x t.Semicolon ≡ false) × (same_terminal x t.LeftBrace ≡ false) × (inside x ≡ true)

abbrev NoNote : Terminal → Type 0
NoNote x = among annotation_words x ≡ false

core_notes : Each NoNote core_words
unfolding same_terminal
core_notes = (refl, (refl, (refl, (refl, (refl, (refl, tt))))))

modifier_notes : Each NoNote modifier_words
unfolding same_terminal
modifier_notes = (refl, (refl, (refl, (refl, (refl, (refl, (refl, (refl, tt))))))))

core_modifiers : Each (λ x. among modifier_words x ≡ false) core_words
unfolding same_terminal
core_modifiers = (refl, (refl, (refl, (refl, (refl, (refl, tt))))))

core_starts : Each Start core_words
unfolding same_terminal
core_starts = ((refl, refl, refl), ((refl, refl, refl), ((refl, refl, refl), ((refl, refl, refl), ((refl, refl, refl), ((refl, refl, refl), tt))))))

modifier_starts : Each Start modifier_words
unfolding same_terminal
modifier_starts = ((refl, refl, refl), ((refl, refl, refl), ((refl, refl, refl), ((refl, refl, refl), ((refl, refl, refl), ((refl, refl, refl), ((refl, refl, refl), ((refl, refl, refl), tt))))))))

note_start : Start t.At
unfolding same_terminal
note_start = (refl, refl, refl)

pub static_start : Start t.Static
unfolding same_terminal
static_start = (refl, refl, refl)

core_static : Each (λ x. same_terminal x t.Static ≡ false) core_words
unfolding same_terminal
core_static = (refl, (refl, (refl, (refl, (refl, (refl, tt))))))

type_void : Each (λ x. same_terminal x t.Void ≡ false) type_words
unfolding same_terminal
type_void = (refl, (refl, (refl, (refl, (refl, tt)))))

type_core : Each (λ x. among core_words x ≡ true) type_words
unfolding same_terminal
type_core = (refl, (refl, (refl, (refl, (refl, tt)))))

sign_facts : (among core_words t.Void ≡ true) × (among type_words t.Word ≡ true) × (same_terminal t.At t.Static ≡ false) × (same_terminal t.LeftBracket t.LeftParen ≡ false) × (same_terminal t.Word t.LeftParen ≡ false) × (same_terminal t.Assign t.LeftParen ≡ false) × (same_terminal t.Comma t.LeftParen ≡ false) × (same_terminal t.Semicolon t.LeftParen ≡ false)
unfolding same_terminal
sign_facts = (refl, refl, refl, refl, refl, refl, refl, refl)

pub void_is_core : (x : Terminal) → x ≡ t.Void → among core_words x ≡ true
void_is_core x e = ap (among core_words) e ∙ sign_facts.0

pub word_is_type : (x : Terminal) → x ≡ t.Word → among type_words x ≡ true
word_is_type x e = ap (among type_words) e ∙ sign_facts.1

pub type_is_core : (x : Terminal) → among type_words x ≡ true → among core_words x ≡ true
type_is_core = each (λ x. among core_words x ≡ true) type_words type_core

pub type_no_void : (x : Terminal) → among type_words x ≡ true → same_terminal x t.Void ≡ false
type_no_void = each (λ x. same_terminal x t.Void ≡ false) type_words type_void

pub core_no_modifier : (x : Terminal) → among core_words x ≡ true → among modifier_words x ≡ false
core_no_modifier = each (λ x. among modifier_words x ≡ false) core_words core_modifiers

-- ---- annotations and modifiers, and then another token

annotation_at : (place : ℕ → Span) (s : Text) {a : AnnotationTree} {i j : ℕ} → Annotation place s a i j → terminal (s i) ≡ t.At
annotation_at place s (g.marker o w e at) = o
annotation_at place s (g.expecting o w n p x y q z d c r e at) = o

module _ (place : ℕ → Span) (s : Text) where
  -- what holds of each modifier and of the token behind them holds of the first
  pub modifiers_first : (P : Terminal → Type 0) → Each P modifier_words → {a : List Modifier} {i j : ℕ} → ModifierList place s a i j → P (terminal (s j)) → P (terminal (s i))
  modifiers_first P all (g.no_modifiers e at) h = subst (λ (z : ℕ). P (terminal (s z))) at h
  modifiers_first P all (g.next_modifier {n = n} d o e at) h = modifiers_first P all d (each P modifier_words all (terminal (s n)) o)

  pub annotations_first : (P : Terminal → Type 0) → P t.At → {a : List AnnotationTree} {i j : ℕ} → Annotations place s a i j → P (terminal (s j)) → P (terminal (s i))
  annotations_first P note (g.no_annotations e at) h = subst (λ (z : ℕ). P (terminal (s z))) at h
  annotations_first P note (g.next_annotation {n = n} d x e) h = annotations_first P note d (subst P (sym (annotation_at place s x)) note)

  -- modifiers may follow annotations, and so may what follows modifiers
  pub modifiers_no_note : {a : List Modifier} {i j : ℕ} → ModifierList place s a i j → among core_words (terminal (s j)) ≡ true → among annotation_words (terminal (s i)) ≡ false
  modifiers_no_note {j = j} d o = modifiers_first NoNote modifier_notes d (each NoNote core_words core_notes (terminal (s j)) o)

  pub declared_start : {a : List AnnotationTree} {b : List Modifier} {i k n : ℕ} → Annotations place s a i k → ModifierList place s b k n → among core_words (terminal (s n)) ≡ true → Start (terminal (s i))
  declared_start {n = n} d e o = annotations_first Start note_start d (modifiers_first Start modifier_starts e (each Start core_words core_starts (terminal (s n)) o))

  -- ---- no static initializer

  annotations_begin : {a : List AnnotationTree} {i j : ℕ} → Annotations place s a i j → (j ≡ i) ⊎ (terminal (s i) ≡ t.At)
  annotations_begin (g.no_annotations e at) = inl at
  annotations_begin (g.next_annotation {i = i} {n = n} d x e) = elim (annotations_begin d) [ inl h ↦ inr (subst (λ (z : ℕ). terminal (s z) ≡ t.At) h (annotation_at place s x)) | inr h ↦ inr h ]

  -- what stands behind the first of some modifiers
  modifiers_second : {a : List Modifier} {i j : ℕ} → ModifierList place s a i j → (j ≡ i) ⊎ ((j ≡ suc i) ⊎ (among modifier_words (terminal (s (suc i))) ≡ true))
  modifiers_second (g.no_modifiers e at) = inl at
  modifiers_second {i = i} {j = j} (g.next_modifier {n = n} d o e at) = of (modifiers_second d)
    where
      of : (n ≡ i) ⊎ ((n ≡ suc i) ⊎ (among modifier_words (terminal (s (suc i))) ≡ true)) → (j ≡ i) ⊎ ((j ≡ suc i) ⊎ (among modifier_words (terminal (s (suc i))) ≡ true))
      of (inl h) = inr (inl (at ∙ ap suc h))
      of (inr (inl h)) = inr (inr (subst (λ (z : ℕ). among modifier_words (terminal (s z)) ≡ true) h o))
      of (inr (inr h)) = inr (inr h)

  pub declared_no_block : {a : List AnnotationTree} {b : List Modifier} {i k n : ℕ} → Annotations place s a i k → ModifierList place s b k n → among core_words (terminal (s n)) ≡ true → is_static_block s i ≡ false
  declared_no_block {i = i} {k = k} {n = n} d e o = of (annotations_begin d)
    where
      behind : (n ≡ k) ⊎ ((n ≡ suc k) ⊎ (among modifier_words (terminal (s (suc k))) ≡ true)) → is_static_block s k ≡ false
      behind (inl h) = and_first _ _ (subst (λ (z : ℕ). same_terminal (terminal (s z)) t.Static ≡ false) h (each (λ x. same_terminal x t.Static ≡ false) core_words core_static (terminal (s n)) o))
      behind (inr (inl h)) = and_second (same_terminal (terminal (s k)) t.Static) _ (subst (λ (z : ℕ). same_terminal (terminal (s z)) t.LeftBrace ≡ false) h (each Start core_words core_starts (terminal (s n)) o).1)
      behind (inr (inr h)) = and_second (same_terminal (terminal (s k)) t.Static) _ (each Start modifier_words modifier_starts (terminal (s (suc k))) h).1

      of : (k ≡ i) ⊎ (terminal (s i) ≡ t.At) → is_static_block s i ≡ false
      of (inl h) = subst (λ (z : ℕ). is_static_block s z ≡ false) h (behind (modifiers_second e))
      of (inr h) = and_first _ _ (is_not (terminal (s i)) t.At t.Static h sign_facts.2)

  -- ---- no name with parentheses

  dims_first : {a i j : ℕ} → Dims s a i j → (j ≡ i) ⊎ (terminal (s i) ≡ t.LeftBracket)
  dims_first (ge.no_pair e at) = inl at
  dims_first (ge.pair d o c e at) = elim (dims_first d) [ inl h ↦ inr (subst (λ (z : ℕ). terminal (s z) ≡ t.LeftBracket) h o) | inr h ↦ inr h ]

  abbrev NoParen : ℕ → Type 0
  NoParen i = same_terminal (terminal (s i)) t.LeftParen ≡ false

  behind_dims : {a i j : ℕ} → Dims s a i j → NoParen j → NoParen i
  behind_dims {i = i} d h = elim (dims_first d) [ inl e ↦ subst NoParen e h | inr o ↦ is_not (terminal (s i)) t.LeftBracket t.LeftParen o sign_facts.3 ]

  -- a type and a name
  pub type_not_called : {a : TypeTree} {i j : ℕ} → TypeAt place s a i j → terminal (s j) ≡ t.Word → is_called s i ≡ false
  type_not_called {i = i} {j = j} (ge.named o d e) w = and_second (same_terminal (terminal (s i)) t.Word) _ (behind_dims d (is_not (terminal (s j)) t.Word t.LeftParen w sign_facts.4))

  behind_init : {x : Option ExprTree} {i j : ℕ} → MaybeInit place s x i j → NoParen j → NoParen i
  behind_init (gs.no_init e at) h = subst NoParen at h
  behind_init {i = i} (gs.init o d e) h = is_not (terminal (s i)) t.Assign t.LeftParen o sign_facts.5

  variable_second : {a : VariableTree} {i j : ℕ} → Variable place s a i j → NoParen j → NoParen (suc i)
  variable_second (gs.variable o d x e) h = behind_dims d (behind_init x h)

  variables_second : {a : List VariableTree} {i j : ℕ} → Variables place s a i j → NoParen j → NoParen (suc i)
  variables_second (gs.first_variable d e) h = variable_second d h
  variables_second (gs.next_variable {m = m} d o x e) h = variables_second d (is_not (terminal (s m)) t.Comma t.LeftParen o sign_facts.6)

  -- variables and a semicolon
  pub variables_not_called : {a : List VariableTree} {i j : ℕ} → Variables place s a i j → terminal (s j) ≡ t.Semicolon → is_called s i ≡ false
  variables_not_called {i = i} {j = j} d o = and_second (same_terminal (terminal (s i)) t.Word) _ (variables_second d (is_not (terminal (s j)) t.Semicolon t.LeftParen o sign_facts.7))
