-- One turn of the loops that read values in braces and the sizes of a new array, and what the sets of the code lack.
use Rattle.std.proofs.Common.{List, [], ◌∷◌, ◌++◌, ◌≡◌, ℕ, zero, suc, ◌+◌, ◌-◌, ◌<◌, ◌≤◌, Bool, true, false, cond, refl, sym, ap, ◌∙◌, subst, arith}
use Rattle.bj_base.specs.declared.span.Span.{Span}
use Rattle.bj_expr_tree.specs.declared.expr.ExprTree.{ExprTree}
use Rattle.bj_grammar.specs.declared.stop.Stop.{Stop}
use Rattle.bj_grammar.specs.declared.terminal.Terminal.TheVariants as t
use Rattle.bj_grammar.specs.Terminal.{terminal, same_terminal, among}
use Rattle.bj_grammar.specs.Reader.{Text, Answer, Found, Wrong, Over, Parser, and_then, ◌>>=◌, pure, over, nowhere, sign, choose, loop}
use Rattle.bj_grammar.specs.Given.{IsDeepAt, Fails}
use Rattle.bj_grammar.proofs.LoopLemmas.{fails_then, fails_same, loop_start}
use Rattle.bj_expr.specs.declared.bounds.Bounds.{Bounds}
use Rattle.bj_expr.specs.declared.part.Part.{Part}
use Rattle.bj_expr.specs.declared.part.Part.TheVariants as part
use Rattle.bj_expr.specs.Grammar.{ops}
use Rattle.bj_expr.specs.Reading.{is, pair, pairs, more_values, more_sizes}

-- no operator stands past the last token
pub op_not_other : (h : ℕ) → among (ops h) t.Other ≡ false
unfolding same_terminal
op_not_other zero = refl
op_not_other (suc zero) = refl
op_not_other (suc (suc zero)) = refl
op_not_other (suc (suc (suc zero))) = refl
op_not_other (suc (suc (suc (suc zero)))) = refl
op_not_other (suc (suc (suc (suc (suc zero))))) = refl
op_not_other (suc (suc (suc (suc (suc (suc zero)))))) = refl
op_not_other (suc (suc (suc (suc (suc (suc (suc zero))))))) = refl
op_not_other (suc (suc (suc (suc (suc (suc (suc (suc zero)))))))) = refl
op_not_other (suc (suc (suc (suc (suc (suc (suc (suc (suc zero))))))))) = refl
op_not_other (suc (suc (suc (suc (suc (suc (suc (suc (suc (suc h)))))))))) = refl

pub pairs_start : (most n : ℕ) (s : Text) (i : ℕ) → pairs most n s i ≡ loop (most - 0) (is t.LeftBracket) pair n s i
unfolding pairs
pairs_start most n s i = loop_start (is t.LeftBracket) pair most n s i

more_left : {X : Type 0} {x : X} (f : ℕ → X) (n at : ℕ) → at < n → x ≡ f (n - at) → x ≡ f (suc (n - (at + 1)))
more_left f n at below e = let turn : n - at ≡ suc (n - (at + 1)) = omega arith in e ∙ ap f turn

none_left : {X : Type 0} {x : X} (f : ℕ → X) (n at : ℕ) → n ≤ at → x ≡ f (n - at) → x ≡ f 0
none_left f n at done e = let none : n - at ≡ 0 = omega arith in e ∙ ap f none

pub from_start : {X : Type 0} (f : ℕ → X) (n : ℕ) → f n ≡ f (n - 0)
from_start f n = let e : n ≡ n - 0 = omega arith in ap f e

-- ---- values in braces

module _ (place : ℕ → Span) (bounds : Bounds) (nested : Part → Parser ExprTree) where
  -- what follows a comma
  abbrev pub value : ℕ → List ExprTree → Parser (List ExprTree)
  value n b = choose (is t.RightBrace) (pure b) (nested part.Initializer >>= λ x. more_values place bounds nested n (b ++ x ∷ []))

  values_stop : (n : ℕ) (b : List ExprTree) (s : Text) (i : ℕ) → same_terminal (terminal (s i)) t.Comma ≡ false → more_values place bounds nested n b s i ≡ Found b i
  unfolding more_values
  values_stop zero b s i e = ap (λ (x : Bool). cond x (over (λ _. nowhere) s i) (Found b i)) e
  values_stop (suc n) b s i e = ap (λ (x : Bool). cond x (sign t.Comma (value n b) s i) (Found b i)) e

  values_turn : (n : ℕ) (b : List ExprTree) (s : Text) (i : ℕ) → same_terminal (terminal (s i)) t.Comma ≡ true → more_values place bounds nested (suc n) b s i ≡ value n b s (suc i)
  unfolding more_values
  values_turn n b s i e = ap (λ (x : Bool). cond x (cond x (value n b s (suc i)) (Wrong i)) (Found b i)) e

  values_over : (b : List ExprTree) (s : Text) (i : ℕ) → same_terminal (terminal (s i)) t.Comma ≡ true → IsDeepAt nowhere (more_values place bounds nested 0 b s i)
  unfolding more_values
  values_over b s i e = subst (λ (x : Bool). IsDeepAt nowhere (cond x (over (λ _. nowhere) s i) (Found b i))) (sym e) refl

  module _ (s : Text) (before : Answer (List ExprTree)) (most turn : ℕ) (b : List ExprTree) (at : ℕ) (so_far : before ≡ more_values place bounds nested (most - turn) b s at) where
    pub values_end : same_terminal (terminal (s at)) t.Comma ≡ false → before ≡ Found b at
    values_end none = so_far ∙ values_stop (most - turn) b s at none

    pub values_past : most ≤ turn → same_terminal (terminal (s at)) t.Comma ≡ true → IsDeepAt nowhere before
    values_past above one = subst (IsDeepAt nowhere) (sym (none_left (λ n. more_values place bounds nested n b s at) most turn above so_far)) (values_over b s at one)

    module _ (below : turn < most) (one : same_terminal (terminal (s at)) t.Comma ≡ true) (next : ℕ) (after : next ≡ suc at) where
      values_after : before ≡ value (most - (turn + 1)) b s next
      values_after = more_left (λ n. more_values place bounds nested n b s at) most turn below so_far ∙ (values_turn (most - (turn + 1)) b s at one ∙ ap (λ (m : ℕ). value (most - (turn + 1)) b s m) (sym after))

      pub values_close : same_terminal (terminal (s next)) t.RightBrace ≡ true → before ≡ Found b next
      values_close brace = values_after ∙ ap (λ (x : Bool). cond x (Found b next) (and_then (nested part.Initializer s next) (λ v j. more_values place bounds nested (most - (turn + 1)) (b ++ v ∷ []) s j))) brace

      values_read : same_terminal (terminal (s next)) t.RightBrace ≡ false → before ≡ and_then (nested part.Initializer s next) (λ v j. more_values place bounds nested (most - (turn + 1)) (b ++ v ∷ []) s j)
      values_read brace = values_after ∙ ap (λ (x : Bool). cond x (Found b next) (and_then (nested part.Initializer s next) (λ v j. more_values place bounds nested (most - (turn + 1)) (b ++ v ∷ []) s j))) brace

      pub values_go : same_terminal (terminal (s next)) t.RightBrace ≡ false → (v : ExprTree) (j : ℕ) → nested part.Initializer s next ≡ Found v j → before ≡ more_values place bounds nested (most - (turn + 1)) (b ++ v ∷ []) s j
      values_go brace v j found = values_read brace ∙ ap (λ (r : Answer ExprTree). and_then r (λ v j. more_values place bounds nested (most - (turn + 1)) (b ++ v ∷ []) s j)) found

      pub values_fail : same_terminal (terminal (s next)) t.RightBrace ≡ false → (e : Stop) → Fails e (nested part.Initializer s next) → Fails e before
      values_fail brace e h = fails_same e _ before (values_read brace) (fails_then e (nested part.Initializer s next) _ h)

-- ---- the sizes of a new array

-- a part that ends with a closing bracket, and then the rest
closed : {B : Type 0} (r : Answer ExprTree) (s : Text) (b : List ExprTree) (g : List ExprTree → Parser B)
    → and_then r (λ x j. sign t.RightBracket (g (b ++ x ∷ [])) s j) ≡ and_then (and_then r (λ x j. sign t.RightBracket (pure (b ++ x ∷ [])) s j)) (λ c k. g c s k)
closed (Found x j) s b g = of (same_terminal (terminal (s j)) t.RightBracket)
  where
    of : (k : Bool) → cond k (g (b ++ x ∷ []) s (suc j)) (Wrong j) ≡ and_then (cond k (Found (b ++ x ∷ []) (suc j)) (Wrong j)) (λ c k. g c s k)
    of true = refl
    of false = refl
closed (Wrong k) s b g = refl
closed (Over k at) s b g = refl

module _ (place : ℕ → Span) (bounds : Bounds) (nested : Part → Parser ExprTree) where
  abbrev pub one_size : List ExprTree → Parser (List ExprTree)
  one_size b = nested part.Expression >>= λ x. sign t.RightBracket (pure (b ++ x ∷ []))

  abbrev pub without : List ExprTree → Parser (List ExprTree × ℕ)
  without b = sign t.RightBracket (pairs bounds.most 1 >>= λ d. pure (b, d))

  -- what follows an opening bracket
  abbrev pub bracket : ℕ → List ExprTree → Parser (List ExprTree × ℕ)
  bracket n b = choose (is t.RightBracket) (without b) (nested part.Expression >>= λ x. sign t.RightBracket (more_sizes place bounds nested n (b ++ x ∷ [])))

  sizes_stop : (n : ℕ) (b : List ExprTree) (s : Text) (i : ℕ) → same_terminal (terminal (s i)) t.LeftBracket ≡ false → more_sizes place bounds nested n b s i ≡ Found (b, 0) i
  unfolding more_sizes
  sizes_stop zero b s i e = ap (λ (x : Bool). cond x (over (λ _. nowhere) s i) (Found (b, 0) i)) e
  sizes_stop (suc n) b s i e = ap (λ (x : Bool). cond x (sign t.LeftBracket (bracket n b) s i) (Found (b, 0) i)) e

  sizes_turn : (n : ℕ) (b : List ExprTree) (s : Text) (i : ℕ) → same_terminal (terminal (s i)) t.LeftBracket ≡ true → more_sizes place bounds nested (suc n) b s i ≡ bracket n b s (suc i)
  unfolding more_sizes
  sizes_turn n b s i e = ap (λ (x : Bool). cond x (cond x (bracket n b s (suc i)) (Wrong i)) (Found (b, 0) i)) e

  sizes_over : (b : List ExprTree) (s : Text) (i : ℕ) → same_terminal (terminal (s i)) t.LeftBracket ≡ true → IsDeepAt nowhere (more_sizes place bounds nested 0 b s i)
  unfolding more_sizes
  sizes_over b s i e = subst (λ (x : Bool). IsDeepAt {A = List ExprTree × ℕ} nowhere (cond x (over (λ _. nowhere) s i) (Found (b, 0) i))) (sym e) refl

  module _ (s : Text) (before : Answer (List ExprTree × ℕ)) (most turn : ℕ) (b : List ExprTree) (at : ℕ) (so_far : before ≡ more_sizes place bounds nested (most - turn) b s at) where
    pub sizes_end : same_terminal (terminal (s at)) t.LeftBracket ≡ false → before ≡ Found (b, 0) at
    sizes_end none = so_far ∙ sizes_stop (most - turn) b s at none

    pub sizes_past : most ≤ turn → same_terminal (terminal (s at)) t.LeftBracket ≡ true → IsDeepAt nowhere before
    sizes_past above one = subst (IsDeepAt nowhere) (sym (none_left (λ n. more_sizes place bounds nested n b s at) most turn above so_far)) (sizes_over b s at one)

    module _ (below : turn < most) (one : same_terminal (terminal (s at)) t.LeftBracket ≡ true) (next : ℕ) (after : next ≡ suc at) where
      sizes_after : before ≡ bracket (most - (turn + 1)) b s next
      sizes_after = more_left (λ n. more_sizes place bounds nested n b s at) most turn below so_far ∙ (sizes_turn (most - (turn + 1)) b s at one ∙ ap (λ (m : ℕ). bracket (most - (turn + 1)) b s m) (sym after))

      pub sizes_close : same_terminal (terminal (s next)) t.RightBracket ≡ true → before ≡ without b s next
      sizes_close end = sizes_after ∙ ap (λ (x : Bool). cond x (without b s next) (and_then (nested part.Expression s next) (λ x j. sign t.RightBracket (more_sizes place bounds nested (most - (turn + 1)) (b ++ x ∷ [])) s j))) end

      sizes_read : same_terminal (terminal (s next)) t.RightBracket ≡ false → before ≡ and_then (one_size b s next) (λ c k. more_sizes place bounds nested (most - (turn + 1)) c s k)
      sizes_read end = sizes_after ∙ (ap (λ (x : Bool). cond x (without b s next) (and_then (nested part.Expression s next) (λ x j. sign t.RightBracket (more_sizes place bounds nested (most - (turn + 1)) (b ++ x ∷ [])) s j))) end
          ∙ closed (nested part.Expression s next) s b (more_sizes place bounds nested (most - (turn + 1))))

      pub sizes_go : same_terminal (terminal (s next)) t.RightBracket ≡ false → (c : List ExprTree) (j : ℕ) → one_size b s next ≡ Found c j → before ≡ more_sizes place bounds nested (most - (turn + 1)) c s j
      sizes_go end c j found = sizes_read end ∙ ap (λ (r : Answer (List ExprTree)). and_then r (λ c k. more_sizes place bounds nested (most - (turn + 1)) c s k)) found

      pub sizes_fail : same_terminal (terminal (s next)) t.RightBracket ≡ false → (e : Stop) → Fails e (one_size b s next) → Fails e before
      sizes_fail end e h = fails_same e _ before (sizes_read end) (fails_then e (one_size b s next) _ h)
