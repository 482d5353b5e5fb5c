-- Where a cast stands, and where an expression in parentheses: the reader that looks ahead goes past what it looked at.
use Rattle.std.proofs.Common.{◌≡◌, ℕ, suc, ◌<◌, ◌≤◌, ◌⊎◌, inl, inr, Bool, true, false, cond, refl, sym, ap, ◌∙◌, subst, arith, le_refl, List, [], ◌∷◌}
use Rattle.std.specs.Prelude.{◌||◌, ◌&&◌}
use Rattle.std.proofs.lemmas.Bool.{cases_Bool, both_ways, and_left, and_right, eq-eqb, ne_eqb}
use lib.Dec.{eqb}
use Rattle.bj_base.specs.declared.span.Span.{Span}
use Rattle.bj_token.specs.declared.token.Token.{Token}
use Rattle.bj_expr_tree.specs.declared.expr.ExprTree.{ExprTree}
use Rattle.bj_grammar.specs.declared.terminal.Terminal.{Terminal}
use Rattle.bj_grammar.specs.declared.terminal.Terminal.TheVariants as t
use Rattle.bj_grammar.specs.Terminal.{terminal, same_terminal, among}
use Rattle.bj_grammar.specs.Given.{ended}
use Rattle.bj_grammar.specs.Reader.{Text, Answer, Parser, ahead}
use Rattle.bj_expr.specs.Grammar as g
use Rattle.bj_expr.specs.Grammar.{negations, step_ops, literal_words, primitives, type_words, Expression, Postfix, Selected, Primary}
use Rattle.bj_expr.specs.Reading.{begins_plain, selectors, is_cast}
use Rattle.bj_grammar.proofs.Terminals.{make, made}
use Rattle.bj_grammar.proofs.Laws.{stop, is_kind, kind_is}
use Rattle.bj_expr.proofs.Facts.{or_split, or_join, each, other, stops_level, begins_unary, step_after}
use Rattle.bj_expr.proofs.Begins.{GoesOn, expression_front, expression_begins}
use Rattle.bj_expr.proofs.LawLemmas.{is_not}

-- ---- a text with some tokens put into it

pub ended_other : terminal ended ≡ t.Other
unfolding terminal
ended_other = refl

abbrev pub fill : Text → ℕ → List Token → Text
fill s i [] = s
fill s i (v ∷ vs) = λ x. cond (eqb x i) v (fill s (suc i) vs x)

fill_here : (s : Text) (i : ℕ) (v : Token) (vs : List Token) → fill s i (v ∷ vs) i ≡ v
fill_here s i v vs = ap (λ b. cond b v (fill s (suc i) vs i)) (eq-eqb i i refl)

fill_skip : (s : Text) (i : ℕ) (v : Token) (vs : List Token) (x : ℕ) → i < x → fill s i (v ∷ vs) x ≡ fill s (suc i) vs x
fill_skip s i v vs x h = ap (λ b. cond b v (fill s (suc i) vs x)) (ne_eqb x i (λ e. omega arith))

fill_before : (s : Text) (i : ℕ) (vs : List Token) (x : ℕ) → x < i → fill s i vs x ≡ s x
fill_before s i [] x h = refl
fill_before s i (v ∷ vs) x h = ap (λ b. cond b v (fill s (suc i) vs x)) (ne_eqb x i (λ e. omega arith)) ∙ fill_before s (suc i) vs x (omega arith)

-- the terminals there
abbrev pub Holds : Text → ℕ → List Token → Type 0
Holds s i [] = Unit {0}
Holds s i (v ∷ vs) = (terminal (s i) ≡ terminal v) × Holds s (suc i) vs

holds_same : (s u : Text) (i : ℕ) (vs : List Token) → ((x : ℕ) → i ≤ x → u x ≡ s x) → Holds s i vs → Holds u i vs
holds_same s u i [] e h = tt
holds_same s u i (v ∷ vs) e h = (ap terminal (e i (le_refl i)) ∙ h.0, holds_same s u (suc i) vs (λ x le. e x (omega arith)) h.1)

pub fill_holds : (s : Text) (i : ℕ) (vs : List Token) → Holds (fill s i vs) i vs
fill_holds s i [] = tt
fill_holds s i (v ∷ vs) = (ap terminal (fill_here s i v vs), holds_same (fill s (suc i) vs) (fill s i (v ∷ vs)) (suc i) vs (λ x le. fill_skip s i v vs x (omega arith)) (fill_holds s (suc i) vs))

kept : (s : Text) (i : ℕ) (vs : List Token) (x : ℕ) (k : Terminal) → x < i → terminal (s x) ≡ k → terminal (fill s i vs x) ≡ k
kept s i vs x k h o = ap terminal (fill_before s i vs x h) ∙ o

-- ---- what a reader does with a parenthesis and a name

-- The tokens f behind `(name)`, and those g behind `(name[`, that make a text which the reader reads.
pub record Passes (p : Parser ExprTree) (f : Token) (g1 g2 g3 : Token) : Type 0 where
  pub close : (s u : Text) (i k : ℕ) → k ≤ suc (suc i) → ((x : ℕ) → x ≤ k → u x ≡ s x) → terminal (u i) ≡ t.LeftParen → terminal (u (suc i)) ≡ t.Word → terminal (u (suc (suc i))) ≡ t.RightParen
      → Holds u (suc (suc (suc i))) (f ∷ ended ∷ []) → k < stop (p s i)
  pub bracket : (s u : Text) (i k : ℕ) → k ≤ suc (suc i) → ((x : ℕ) → x ≤ k → u x ≡ s x) → terminal (u i) ≡ t.LeftParen → terminal (u (suc i)) ≡ t.Word → terminal (u (suc (suc i))) ≡ t.LeftBracket
      → Holds u (suc (suc (suc i))) (g1 ∷ g2 ∷ g3 ∷ ended ∷ []) → k < stop (p s i)

module _ (p : Parser ExprTree) (f g1 g2 g3 : Token) (w : Passes p f g1 g2 g3) where
  pub past_paren : (s : Text) (i : ℕ) → terminal (s i) ≡ t.LeftParen → i < stop (p s i)
  past_paren s i o =
      let vs = make t.Word ∷ make t.RightParen ∷ f ∷ ended ∷ [] in
      let u = fill s (suc i) vs in
      let h = fill_holds s (suc i) vs in
      w.close s u i i (omega arith) (λ x le. fill_before s (suc i) vs x (omega arith)) (kept s (suc i) vs i t.LeftParen (omega arith) o) (h.0 ∙ made t.Word refl) (h.1.0 ∙ made t.RightParen refl) h.1.1

  pub past_name : (s : Text) (i : ℕ) → terminal (s i) ≡ t.LeftParen → terminal (s (suc i)) ≡ t.Word → suc i < stop (p s i)
  past_name s i o o2 =
      let vs = make t.RightParen ∷ f ∷ ended ∷ [] in
      let u = fill s (suc (suc i)) vs in
      let h = fill_holds s (suc (suc i)) vs in
      w.close s u i (suc i) (omega arith) (λ x le. fill_before s (suc (suc i)) vs x (omega arith)) (kept s (suc (suc i)) vs i t.LeftParen (omega arith) o) (kept s (suc (suc i)) vs (suc i) t.Word (omega arith) o2) (h.0 ∙ made t.RightParen refl) h.1

  pub past_close : (s : Text) (i : ℕ) → terminal (s i) ≡ t.LeftParen → terminal (s (suc i)) ≡ t.Word → terminal (s (suc (suc i))) ≡ t.RightParen → suc (suc i) < stop (p s i)
  past_close s i o o2 o3 =
      let vs = f ∷ ended ∷ [] in
      let n = suc (suc (suc i)) in
      let u = fill s n vs in
      w.close s u i (suc (suc i)) (omega arith) (λ x le. fill_before s n vs x (omega arith)) (kept s n vs i t.LeftParen (omega arith) o) (kept s n vs (suc i) t.Word (omega arith) o2) (kept s n vs (suc (suc i)) t.RightParen (omega arith) o3) (fill_holds s n vs)

  pub past_bracket : (s : Text) (i : ℕ) → terminal (s i) ≡ t.LeftParen → terminal (s (suc i)) ≡ t.Word → terminal (s (suc (suc i))) ≡ t.LeftBracket → suc (suc i) < stop (p s i)
  past_bracket s i o o2 o3 =
      let vs = g1 ∷ g2 ∷ g3 ∷ ended ∷ [] in
      let n = suc (suc (suc i)) in
      let u = fill s n vs in
      w.bracket s u i (suc (suc i)) (omega arith) (λ x le. fill_before s n vs x (omega arith)) (kept s n vs i t.LeftParen (omega arith) o) (kept s n vs (suc i) t.Word (omega arith) o2) (kept s n vs (suc (suc i)) t.LeftBracket (omega arith) o3) (fill_holds s n vs)

either_stop : {A : Type 0} (b : Bool) (x y : Answer A) (n : ℕ) → n ≤ stop x → n ≤ stop y → n ≤ stop (cond b x y)
either_stop true x y n f g = f
either_stop false x y n f g = g

-- a test of several tokens in turn, where each is looked at only after the one before
look : (a a' : Bool) (b b' : Bool) → a' ≡ a → (a ≡ true → b' ≡ b) → (a' && b') ≡ (a && b)
look true a' b b' e f = ap (λ (x : Bool). x && b') e ∙ f refl
look false a' b b' e f = ap (λ (x : Bool). x && b') e

each_way : (a a' : Bool) (b b' : Bool) → a' ≡ a → b' ≡ b → (a' || b') ≡ (a || b)
each_way a a' b b' e f = ap (λ (x : Bool). x || b') e ∙ ap (λ (x : Bool). a || x) f

module _ (c q : Parser ExprTree) (f1 a1 a2 a3 f2 b1 b2 b3 : Token) (v : Passes c f1 a1 a2 a3) (w : Passes q f2 b1 b2 b3)
    (c_onward : (s : Text) (i : ℕ) → i ≤ stop (c s i)) (q_onward : (s : Text) (i : ℕ) → i ≤ stop (q s i)) where
  -- the test looks at no token behind the one where the reader stops
  pub seen : (s u : Text) (i : ℕ) → ((x : ℕ) → x ≤ stop (ahead is_cast c q s i) → u x ≡ s x) → is_cast u i ≡ is_cast s i
  seen s u i e = look _ _ _ _ (ap (λ (x : Token). same_terminal (terminal x) t.LeftParen) (e i (either_stop (is_cast s i) (c s i) (q s i) i (c_onward s i) (q_onward s i))))
      (λ p.
      let o : terminal (s i) ≡ t.LeftParen = kind_is _ _ p in
      let at1 : u (suc i) ≡ s (suc i) = e (suc i) (either_stop (is_cast s i) (c s i) (q s i) (suc i) (past_paren c f1 a1 a2 a3 v s i o) (past_paren q f2 b1 b2 b3 w s i o)) in
      each_way _ _ _ _ (ap (λ (x : Token). among primitives (terminal x)) at1)
      (look _ _ _ _ (ap (λ (x : Token). same_terminal (terminal x) t.Word) at1) (λ p2.
      let o2 : terminal (s (suc i)) ≡ t.Word = kind_is _ _ p2 in
      let at2 : u (suc (suc i)) ≡ s (suc (suc i)) = e (suc (suc i)) (either_stop (is_cast s i) (c s i) (q s i) (suc (suc i)) (past_name c f1 a1 a2 a3 v s i o o2) (past_name q f2 b1 b2 b3 w s i o o2)) in
      each_way _ _ _ _
      (look _ _ _ _ (ap (λ (x : Token). same_terminal (terminal x) t.RightParen) at2) (λ p3.
      let o3 : terminal (s (suc (suc i))) ≡ t.RightParen = kind_is _ _ p3 in
      ap (λ (x : Token). among begins_plain (terminal x))
      (e (suc (suc (suc i))) (either_stop (is_cast s i) (c s i) (q s i) (suc (suc (suc i))) (past_close c f1 a1 a2 a3 v s i o o2 o3) (past_close q f2 b1 b2 b3 w s i o o2 o3)))))
      (look _ _ _ _ (ap (λ (x : Token). same_terminal (terminal x) t.LeftBracket) at2) (λ p3.
      let o3 : terminal (s (suc (suc i))) ≡ t.LeftBracket = kind_is _ _ p3 in
      ap (λ (x : Token). same_terminal (terminal x) t.RightBracket)
      (e (suc (suc (suc i))) (either_stop (is_cast s i) (c s i) (q s i) (suc (suc (suc i))) (past_bracket c f1 a1 a2 a3 v s i o o2 o3) (past_bracket q f2 b1 b2 b3 w s i o o2 o3))))))))

-- ---- constants

-- behind these tokens an expression in parentheses is no cast
stops_plain : (x : Terminal) → stops_level 0 x ≡ false → among begins_plain x ≡ false
stops_plain x e = (or_split (among selectors x) (among begins_plain x) ((or_split (among step_ops x) (among selectors x || among begins_plain x) e).1)).1

paren_not_bracket : same_terminal t.RightParen t.LeftBracket ≡ false
unfolding same_terminal
paren_not_bracket = refl

unary_not_primitive : (x : Terminal) → among begins_unary x ≡ true → among primitives x ≡ false
unfolding same_terminal
unary_not_primitive = each (λ x. among primitives x ≡ false) begins_unary (refl, (refl, (refl, (refl, (refl, (refl, (refl, (refl, (refl, (refl, (refl, (refl, (refl, (refl, (refl, (refl, (refl, (refl, tt))))))))))))))))))

unary_right_bracket : among begins_unary t.RightBracket ≡ false
unfolding same_terminal
unary_right_bracket = refl

left_paren_not : (among literal_words t.LeftParen ≡ false) × (same_terminal t.LeftParen t.This ≡ false) × (same_terminal t.LeftParen t.Word ≡ false) × (same_terminal t.LeftParen t.Super ≡ false) × (same_terminal t.LeftParen t.New ≡ false)
    × (among negations t.LeftParen ≡ false)
unfolding same_terminal
left_paren_not = (refl, refl, refl, refl, refl, refl)

pub negation_not : among negations t.LeftParen ≡ false
negation_not = left_paren_not.5

clash : (s : Text) (i : ℕ) (y k : Terminal) → terminal (s i) ≡ y → terminal (s i) ≡ k → same_terminal y k ≡ false → ⊥
clash s i y k w e none = both_ways (same_terminal y k) none (is_kind y k (sym w ∙ e))

-- ---- what stands in the parentheses at the front

module _ (place : ℕ → Span) where
  pub record Inside (s : Text) (i j : ℕ) : Type 0 where
    pub tree : ExprTree
    pub after : ℕ
    pub stands : Expression place s tree (suc i) after
    pub closed : terminal (s after) ≡ t.RightParen
    pub calm : (j ≡ suc after) ⊎ (among begins_plain (terminal (s (suc after))) ≡ false)

  primary_in : (s : Text) {a : ExprTree} {i j : ℕ} → Primary place s a i j → terminal (s i) ≡ t.LeftParen → Inside s i j
  primary_in s {i} (g.literal o is at) p = absurd (both_ways (among literal_words t.LeftParen) left_paren_not.0 (sym (ap (among literal_words) p) ∙ o))
  primary_in s {i} (g.this o is at) p = absurd (clash s i _ _ p o left_paren_not.1)
  primary_in s (g.paren {x} {m} o d o2 is at) p = record { tree = x; after = m; stands = d; closed = o2; calm = inl at }
  primary_in s {i} (g.name o is at) p = absurd (clash s i _ _ p o left_paren_not.2)
  primary_in s {i} (g.call o o2 d o3 is at) p = absurd (clash s i _ _ p o left_paren_not.2)
  primary_in s {i} (g.super_field o o2 o3 is at) p = absurd (clash s i _ _ p o left_paren_not.3)
  primary_in s {i} (g.super_call o o2 o3 o4 d o5 is at) p = absurd (clash s i _ _ p o left_paren_not.3)
  primary_in s {i} (g.create o o2 o3 d o4 is at) p = absurd (clash s i _ _ p o left_paren_not.4)
  primary_in s {i} (g.new_array o o2 d d2 is) p = absurd (clash s i _ _ p o left_paren_not.4)
  primary_in s {i} (g.new_values o o2 d d2 is) p = absurd (clash s i _ _ p o left_paren_not.4)

  deeper : (s : Text) (i m j : ℕ) → Inside s i m → among begins_plain (terminal (s m)) ≡ false → Inside s i j
  deeper s i m j w calm = record {
    tree = w.tree;
    after = w.after;
    stands = w.stands;
    closed = w.closed;
    calm = elim (w.calm) [ inl e ↦ inr (subst (λ (k : ℕ). among begins_plain (terminal (s k)) ≡ false) e calm) | inr h ↦ inr h ];
  }

  dot_calm : (x : Terminal) → x ≡ t.Dot → among begins_plain x ≡ false
  unfolding same_terminal
  dot_calm x e = ap (among begins_plain) e

  bracket_calm : (x : Terminal) → x ≡ t.LeftBracket → among begins_plain x ≡ false
  unfolding same_terminal
  bracket_calm x e = ap (among begins_plain) e

  selected_in : (s : Text) {a : ExprTree} {i j : ℕ} → Selected place s a i j → terminal (s i) ≡ t.LeftParen → Inside s i j
  selected_in s (g.primary d) p = primary_in s d p
  selected_in s {i} {j} (g.field {m} d o o2 is at) p = deeper s i m j (selected_in s d p) (dot_calm _ o)
  selected_in s {i} {j} (g.method_call {m} d o o2 o3 x o4 is at) p = deeper s i m j (selected_in s d p) (dot_calm _ o)
  selected_in s {i} {j} (g.index {m} d none o x o2 is at) p = deeper s i m j (selected_in s d p) (bracket_calm _ o)

  pub postfix_in : (s : Text) {a : ExprTree} {i j : ℕ} → Postfix place s a i j → terminal (s i) ≡ t.LeftParen → Inside s i j
  postfix_in s (g.selected d) p = selected_in s d p
  postfix_in s {i} {j} (g.step {m} d o is at) p = deeper s i m j (postfix_in s d p) ((or_split (among selectors (terminal (s m))) (among begins_plain (terminal (s m))) (step_after _ o)).1)

  -- an expression in parentheses is no cast
  pub no_cast : (s : Text) (a : ExprTree) (i j : ℕ) → Postfix place s a i j → stops_level 0 (terminal (s j)) ≡ false → is_cast s i ≡ false
  no_cast s a i j d last = first (cases_Bool (same_terminal (terminal (s i)) t.LeftParen))
    where
      named : (w : Inside s i j) → (w.after ≡ suc (suc i)) ⊎ GoesOn s (suc (suc i))
          → ((same_terminal (terminal (s (suc (suc i)))) t.RightParen && among begins_plain (terminal (s (suc (suc (suc i))))))
          || (same_terminal (terminal (s (suc (suc i)))) t.LeftBracket && same_terminal (terminal (s (suc (suc (suc i))))) t.RightBracket)) ≡ false
      named w (inl e) = or_join _ _
          (and_right _ _ (elim (w.calm) [
            | inl f ↦ stops_plain _ (subst (λ (k : ℕ). stops_level 0 (terminal (s k)) ≡ false) (f ∙ ap suc e) last)
            | inr h ↦ subst (λ (k : ℕ). among begins_plain (terminal (s (suc k))) ≡ false) e h
          ]))
          (and_left _ _ (is_not _ t.RightParen t.LeftBracket (subst (λ (k : ℕ). terminal (s k) ≡ t.RightParen) e w.closed) paren_not_bracket))
      named w (inr h) = or_join _ _ (and_left _ _ h.second) (behind (cases_Bool (same_terminal (terminal (s (suc (suc i)))) t.LeftBracket)))
        where
          behind : (same_terminal (terminal (s (suc (suc i)))) t.LeftBracket ≡ true) ⊎ (same_terminal (terminal (s (suc (suc i)))) t.LeftBracket ≡ false)
              → (same_terminal (terminal (s (suc (suc i)))) t.LeftBracket && same_terminal (terminal (s (suc (suc (suc i))))) t.RightBracket) ≡ false
          behind (inl e) = and_right _ _ (other (among begins_unary) (terminal (s (suc (suc (suc i))))) t.RightBracket unary_right_bracket (h.bracket (kind_is _ _ e)))
          behind (inr e) = and_left _ _ e

      word_in : (w : Inside s i j) → (same_terminal (terminal (s (suc i))) t.Word ≡ true) ⊎ (same_terminal (terminal (s (suc i))) t.Word ≡ false)
          → (same_terminal (terminal (s (suc i))) t.Word && ((same_terminal (terminal (s (suc (suc i)))) t.RightParen && among begins_plain (terminal (s (suc (suc (suc i))))))
          || (same_terminal (terminal (s (suc (suc i)))) t.LeftBracket && same_terminal (terminal (s (suc (suc (suc i))))) t.RightBracket))) ≡ false
      word_in w (inl e) = and_right _ _ (named w (expression_front place s w.stands (kind_is _ _ e)))
      word_in w (inr e) = and_left _ _ e

      first : (same_terminal (terminal (s i)) t.LeftParen ≡ true) ⊎ (same_terminal (terminal (s i)) t.LeftParen ≡ false) → is_cast s i ≡ false
      first (inl p) =
          let w = postfix_in s d (kind_is _ _ p) in
          and_right _ _ (or_join _ _ (unary_not_primitive _ (expression_begins place s w.stands)) (word_in w (cases_Bool _)))
      first (inr p) = and_left _ _ p
