-- Facts of unary expressions: their first tokens, their trees, and a name as each part of an expression.
use Rattle.std.proofs.Common.{◌≡◌, ℕ, zero, suc, ◌+◌, Bool, true, false, cond, refl, ap, ◌∙◌, subst, arith, [], ◌∷◌}
use Rattle.std.specs.Prelude.{◌||◌}
use Rattle.std.proofs.lemmas.Bool.{both_ways}
use Rattle.bj_base.specs.declared.span.Span.{Span}
use Rattle.bj_expr_tree.specs.declared.types.TypeTree.{TypeTree}
use Rattle.bj_expr_tree.specs.declared.expr.ExprTree.{ExprTree}
use Rattle.bj_expr_tree.specs.declared.expr.ExprTree.TheVariants as tree
use Rattle.bj_expr.specs.declared.part.Part.TheVariants as part
use Rattle.bj_grammar.specs.declared.terminal.Terminal.{Terminal}
use Rattle.bj_grammar.specs.declared.terminal.Terminal.TheVariants as t
use Rattle.bj_grammar.specs.Terminal.{terminal, same_terminal, among}
use Rattle.bj_grammar.specs.Reader.{Text}
use Rattle.bj_expr.specs.Grammar as g
use Rattle.bj_expr.specs.Grammar.{ops, binary_op, assigns, negations, step_ops, literal_words, leasts, type_words, type_name, type_tree, is_primitive, Expression, Conditional, Level, Unary, Plain, Postfix, Selected, Primary}
use Rattle.bj_expr.specs.Reading.{begins_plain, selectors, goes_on, is_unary}
use Rattle.bj_expr.proofs.Facts.{or_split, each, stops_level, stops_expression, begins_unary}
use Rattle.bj_expr.proofs.LawLemmas.{PartRel, not_among}

-- ---- constants

pub paren_other : (same_terminal t.RightParen t.LeftBracket ≡ false) × (same_terminal t.Other t.LeftBracket ≡ false)
unfolding same_terminal
paren_other = (refl, refl)

pub word_is : (among type_words t.Word ≡ true) × (same_terminal t.Word t.RightParen ≡ false)
unfolding same_terminal
word_is = (refl, refl)

pub other_ends : (stops_level 0 t.Other ≡ false) × (stops_level 0 t.RightParen ≡ false) × (stops_expression t.RightBracket ≡ false)
unfolding same_terminal
other_ends = (refl, refl, refl)

pub negation_one : (among negations t.Not ≡ true) × (among negations t.Other ≡ false)
unfolding same_terminal
negation_one = (refl, refl)

pub step_one : (among step_ops t.Increment ≡ true) × (among step_ops t.Other ≡ false) × (among step_ops t.Minus ≡ false)
unfolding same_terminal
step_one = (refl, refl, refl)

pub least_one : (among leasts t.LeastNumber ≡ true) × (among leasts t.Other ≡ false)
unfolding same_terminal
least_one = (refl, refl)

pub unary_not_least : (x : Terminal) → among begins_unary x ≡ true → among leasts x ≡ false
unfolding same_terminal
unary_not_least = each (λ x. among leasts x ≡ false) begins_unary (refl, (refl, (refl, (refl, (refl, (refl, (refl, (refl, (refl, (refl, (refl, (refl, (refl, (refl, (refl, (refl, (refl, (refl, tt))))))))))))))))))

pub plain_not_sign : (x : Terminal) → among begins_plain x ≡ true → (among step_ops x ≡ false) × (same_terminal x t.Plus ≡ false) × (same_terminal x t.Minus ≡ false)
unfolding same_terminal
plain_not_sign = each (λ x. (among step_ops x ≡ false) × (same_terminal x t.Plus ≡ false) × (same_terminal x t.Minus ≡ false)) begins_plain
    ((refl, refl, refl), ((refl, refl, refl), ((refl, refl, refl), ((refl, refl, refl), ((refl, refl, refl), ((refl, refl, refl), ((refl, refl, refl), ((refl, refl, refl), ((refl, refl, refl), ((refl, refl, refl), ((refl, refl, refl), ((refl, refl, refl), ((refl, refl, refl), ((refl, refl, refl), tt))))))))))))))

pub step_not_sign : (x : Terminal) → among step_ops x ≡ true → (same_terminal x t.Plus ≡ false) × (same_terminal x t.Minus ≡ false)
unfolding same_terminal
step_not_sign = each (λ x. (same_terminal x t.Plus ≡ false) × (same_terminal x t.Minus ≡ false)) step_ops ((refl, refl), ((refl, refl), tt))

pub plus_not_minus : same_terminal t.Plus t.Minus ≡ false
unfolding same_terminal
plus_not_minus = refl

pub op_not_instance : (h : ℕ) (x : Terminal) → among (ops h) x ≡ true → same_terminal x t.InstanceOf ≡ false
unfolding same_terminal
op_not_instance zero x e = each (λ x. same_terminal x t.InstanceOf ≡ false) (ops 0) (refl, (refl, (refl, tt))) x e
op_not_instance (suc zero) x e = each (λ x. same_terminal x t.InstanceOf ≡ false) (ops 1) (refl, (refl, tt)) x e
op_not_instance (suc (suc zero)) x e = each (λ x. same_terminal x t.InstanceOf ≡ false) (ops 2) (refl, (refl, (refl, tt))) x e
op_not_instance (suc (suc (suc zero))) x e = each (λ x. same_terminal x t.InstanceOf ≡ false) (ops 3) (refl, (refl, (refl, (refl, tt)))) x e
op_not_instance (suc (suc (suc (suc zero)))) x e = each (λ x. same_terminal x t.InstanceOf ≡ false) (ops 4) (refl, (refl, tt)) x e
op_not_instance (suc (suc (suc (suc (suc zero))))) x e = each (λ x. same_terminal x t.InstanceOf ≡ false) (ops 5) (refl, tt) x e
op_not_instance (suc (suc (suc (suc (suc (suc zero)))))) x e = each (λ x. same_terminal x t.InstanceOf ≡ false) (ops 6) (refl, tt) x e
op_not_instance (suc (suc (suc (suc (suc (suc (suc zero))))))) x e = each (λ x. same_terminal x t.InstanceOf ≡ false) (ops 7) (refl, tt) x e
op_not_instance (suc (suc (suc (suc (suc (suc (suc (suc zero)))))))) x e = each (λ x. same_terminal x t.InstanceOf ≡ false) (ops 8) (refl, tt) x e
op_not_instance (suc (suc (suc (suc (suc (suc (suc (suc (suc zero))))))))) x e = each (λ x. same_terminal x t.InstanceOf ≡ false) (ops 9) (refl, tt) x e
op_not_instance (suc (suc (suc (suc (suc (suc (suc (suc (suc (suc h)))))))))) x e = absurd (cc)

pub op_not_other : (h : ℕ) → among (ops h) t.Other ≡ false
unfolding same_terminal
op_not_other zero = refl
op_not_other (suc zero) = refl
op_not_other (suc (suc zero)) = refl
op_not_other (suc (suc (suc zero))) = refl
op_not_other (suc (suc (suc (suc zero)))) = refl
op_not_other (suc (suc (suc (suc (suc zero))))) = refl
op_not_other (suc (suc (suc (suc (suc (suc zero)))))) = refl
op_not_other (suc (suc (suc (suc (suc (suc (suc zero))))))) = refl
op_not_other (suc (suc (suc (suc (suc (suc (suc (suc zero)))))))) = refl
op_not_other (suc (suc (suc (suc (suc (suc (suc (suc (suc zero))))))))) = refl
op_not_other (suc (suc (suc (suc (suc (suc (suc (suc (suc (suc h)))))))))) = refl

pub level_not_bracket : (h : ℕ) (x : Terminal) → stops_level h x ≡ false → same_terminal x t.LeftBracket ≡ false
level_not_bracket zero x e = selected_not (or_split (among step_ops x) (among selectors x || among begins_plain x) e)
  where
    selected_not : (among step_ops x ≡ false) × ((among selectors x || among begins_plain x) ≡ false) → same_terminal x t.LeftBracket ≡ false
    selected_not w = let v = or_split (among selectors x) (among begins_plain x) w.1 in
        let k = or_split (same_terminal x t.Dot) (among (t.LeftBracket ∷ []) x) v.0 in (or_split (same_terminal x t.LeftBracket) false k.1).0
level_not_bracket (suc h) x e = level_not_bracket h x ((or_split (goes_on h x) (stops_level h x) e).1)

pub assign_one : (among assigns t.Assign ≡ true) × (among assigns t.Other ≡ false)
unfolding same_terminal
assign_one = (refl, refl)

-- ---- trees of unary expressions

binary_not : (at : Span) (op : _) (x y : ExprTree) → is_unary (tree.Binary at op x y) ≡ false
binary_not at op x y = refl

instance_not : (at : Span) (x : ExprTree) (ty : TypeTree) → is_unary (tree.InstanceOf at x ty) ≡ false
instance_not at x ty = refl

conditional_not : (at : Span) (x y z : ExprTree) → is_unary (tree.Conditional at x y z) ≡ false
conditional_not at x y z = refl

module _ (place : ℕ → Span) where
  primary_unary : (s : Text) {a : ExprTree} {i j : ℕ} → Primary place s a i j → is_unary a ≡ true
  primary_unary s (g.literal o is at) = ap is_unary is
  primary_unary s (g.this o is at) = ap is_unary is
  primary_unary s (g.paren o d o2 is at) = ap is_unary is
  primary_unary s (g.name o is at) = ap is_unary is
  primary_unary s (g.call o o2 d o3 is at) = ap is_unary is
  primary_unary s (g.super_field o o2 o3 is at) = ap is_unary is
  primary_unary s (g.super_call o o2 o3 o4 d o5 is at) = ap is_unary is
  primary_unary s (g.create o o2 o3 d o4 is at) = ap is_unary is
  primary_unary s (g.new_array o o2 d d2 is) = ap is_unary is
  primary_unary s (g.new_values o o2 d d2 is) = ap is_unary is

  selected_unary : (s : Text) {a : ExprTree} {i j : ℕ} → Selected place s a i j → is_unary a ≡ true
  selected_unary s (g.primary d) = primary_unary s d
  selected_unary s (g.field d o o2 is at) = ap is_unary is
  selected_unary s (g.method_call d o o2 o3 x o4 is at) = ap is_unary is
  selected_unary s (g.index d o o2 x o3 is at) = ap is_unary is

  postfix_unary : (s : Text) {a : ExprTree} {i j : ℕ} → Postfix place s a i j → is_unary a ≡ true
  postfix_unary s (g.selected d) = selected_unary s d
  postfix_unary s (g.step d o is at) = ap is_unary is

  plain_is_unary : (s : Text) {a : ExprTree} {i j : ℕ} → Plain place s a i j → is_unary a ≡ true
  plain_is_unary s (g.negation o d is) = ap is_unary is
  plain_is_unary s (g.cast_primitive o d o2 o3 x is) = ap is_unary is
  plain_is_unary s (g.cast_reference o d o2 o3 x is) = ap is_unary is
  plain_is_unary s (g.postfix d) = postfix_unary s d

  pub unary_is_unary : (s : Text) {a : ExprTree} {i j : ℕ} → Unary place s a i j → is_unary a ≡ true
  unary_is_unary s (g.minus o d is) = ap is_unary is
  unary_is_unary s (g.least o o2 is at) = ap is_unary is
  unary_is_unary s (g.plus o d is) = ap is_unary is
  unary_is_unary s (g.prefix o d is) = ap is_unary is
  unary_is_unary s (g.plain d) = plain_is_unary s d

  level_unary : (s : Text) {h : ℕ} {a : ExprTree} {i j : ℕ} → Level place s h a i j → is_unary a ≡ true → Unary place s a i j
  level_unary s (g.unary d) e = d
  level_unary s (g.tighter d) e = level_unary s d e
  level_unary s {a} {i} (g.binary {l} {r = right} {m} x o y is) e = absurd (both_ways (is_unary a) (ap is_unary is ∙ binary_not (place i) (binary_op (terminal (s m))) l right) e)
  level_unary s {a} {i} (g.instance {l} {ty} x o o2 d is) e = absurd (both_ways (is_unary a) (ap is_unary is ∙ instance_not (place i) l ty) e)

  pub conditional_unary : (s : Text) {a : ExprTree} {i j : ℕ} → Conditional place s a i j → is_unary a ≡ true → Unary place s a i j
  conditional_unary s (g.ranked d) e = level_unary s d e
  conditional_unary s {a} {i} (g.conditional {x} {y} {z} d o v o2 w is) e = absurd (both_ways (is_unary a) (ap is_unary is ∙ conditional_not (place i) x y z) e)

  rank_up : (s : Text) (a : ExprTree) (i j k h : ℕ) → Level place s h a i j → Level place s (k + h) a i j
  rank_up s a i j zero h d = subst (λ (n : ℕ). Level place s n a i j) (let e : h ≡ 0 + h = omega arith in e) d
  rank_up s a i j (suc k) h d = subst (λ (n : ℕ). Level place s n a i j) (let e : suc (k + h) ≡ suc k + h = omega arith in e) (g.tighter (rank_up s a i j k h d))

  pub unary_conditional : (s : Text) {a : ExprTree} {i j : ℕ} → Unary place s a i j → Conditional place s a i j
  unary_conditional s {a} {i} {j} d = g.ranked (subst (λ (n : ℕ). Level place s n a i j) (let e : 10 + 0 ≡ 10 = omega arith in e) (rank_up s a i j 10 0 (g.unary d)))

  pub as_plain : (b : Bool) (s : Text) (x : ExprTree) (i j : ℕ) → b ≡ false → PartRel place (cond b part.Unary part.Plain) s x i j → Plain place s x i j
  as_plain true s x i j e d = absurd (cc)
  as_plain false s x i j e d = d

  pub as_unary : (b : Bool) (s : Text) (x : ExprTree) (i j : ℕ) → b ≡ true → PartRel place (cond b part.Unary part.Plain) s x i j → Unary place s x i j
  as_unary true s x i j e d = d
  as_unary false s x i j e d = absurd (cc)

  pub from_plain_part : (b : Bool) (s : Text) (x : ExprTree) (i j : ℕ) → b ≡ false → Plain place s x i j → PartRel place (cond b part.Unary part.Plain) s x i j
  from_plain_part true s x i j e d = absurd (cc)
  from_plain_part false s x i j e d = d

  pub from_unary_part : (b : Bool) (s : Text) (x : ExprTree) (i j : ℕ) → b ≡ true → Unary place s x i j → PartRel place (cond b part.Unary part.Plain) s x i j
  from_unary_part true s x i j e d = d
  from_unary_part false s x i j e d = absurd (cc)

  -- a name, as each part of an expression that it may be
  pub name_postfix : (s : Text) (i : ℕ) → terminal (s i) ≡ t.Word → Postfix place s (tree.Name (place i) (s i).text) i (suc i)
  name_postfix s i o = g.selected (g.primary (g.name o refl refl))

  pub name_unary : (s : Text) (i : ℕ) → terminal (s i) ≡ t.Word → Unary place s (tree.Name (place i) (s i).text) i (suc i)
  name_unary s i o = g.plain (g.postfix (name_postfix s i o))

  pub name_expression : (s : Text) (i : ℕ) → terminal (s i) ≡ t.Word → Expression place s (tree.Name (place i) (s i).text) i (suc i)
  name_expression s i o = g.value (unary_conditional s (name_unary s i o))

  -- the type that a name is
  abbrev pub named_type : Text → ℕ → ℕ → TypeTree
  named_type s i n = type_tree (place i) (s i) n

  pub reference : (s : Text) (i n : ℕ) → terminal (s i) ≡ t.Word → is_primitive (named_type s i n) ≡ false
  reference s i n w = ap (λ (x : Terminal). is_primitive (record { at = place i; name = type_name x (s i).text; dims = n })) w

  pub word_here : (s : Text) (i : ℕ) → terminal (s i) ≡ t.Word → among type_words (terminal (s i)) ≡ true
  word_here s i w = ap (among type_words) w ∙ word_is.0

-- ---- a postfix expression begins with no negation

plain_word_not : (among negations t.This ≡ false) × (among negations t.LeftParen ≡ false) × (among negations t.Word ≡ false) × (among negations t.Super ≡ false) × (among negations t.New ≡ false)
unfolding same_terminal
plain_word_not = (refl, refl, refl, refl, refl)

literal_not_negation : (x : Terminal) → among literal_words x ≡ true → among negations x ≡ false
unfolding same_terminal
literal_not_negation = each (λ x. among negations x ≡ false) literal_words (refl, (refl, (refl, (refl, (refl, (refl, (refl, tt)))))))

module _ {place : ℕ → Span} where
  primary_no_negation : (s : Text) {a : ExprTree} {i j : ℕ} → Primary place s a i j → among negations (terminal (s i)) ≡ false
  primary_no_negation s (g.literal o is at) = literal_not_negation _ o
  primary_no_negation s (g.this o is at) = not_among negations _ _ o plain_word_not.0
  primary_no_negation s (g.paren o d o2 is at) = not_among negations _ _ o plain_word_not.1
  primary_no_negation s (g.name o is at) = not_among negations _ _ o plain_word_not.2
  primary_no_negation s (g.call o o2 d o3 is at) = not_among negations _ _ o plain_word_not.2
  primary_no_negation s (g.super_field o o2 o3 is at) = not_among negations _ _ o plain_word_not.3
  primary_no_negation s (g.super_call o o2 o3 o4 d o5 is at) = not_among negations _ _ o plain_word_not.3
  primary_no_negation s (g.create o o2 o3 d o4 is at) = not_among negations _ _ o plain_word_not.4
  primary_no_negation s (g.new_array o o2 d d2 is) = not_among negations _ _ o plain_word_not.4
  primary_no_negation s (g.new_values o o2 d d2 is) = not_among negations _ _ o plain_word_not.4

  selected_no_negation : (s : Text) {a : ExprTree} {i j : ℕ} → Selected place s a i j → among negations (terminal (s i)) ≡ false
  selected_no_negation s (g.primary d) = primary_no_negation s d
  selected_no_negation s (g.field d o o2 is at) = selected_no_negation s d
  selected_no_negation s (g.method_call d o o2 o3 x o4 is at) = selected_no_negation s d
  selected_no_negation s (g.index d o o2 x o3 is at) = selected_no_negation s d

  pub no_negation : (s : Text) {a : ExprTree} {i j : ℕ} → Postfix place s a i j → among negations (terminal (s i)) ≡ false
  no_negation s (g.selected d) = selected_no_negation s d
  no_negation s (g.step d o is at) = no_negation s d
