-- One rank of operators, and one level of depth, as the code reads them.
use Rattle.std.proofs.Common.{List, ◌≡◌, ℕ, ◌-◌, ◌<◌, sym, ap, ◌∙◌, subst}
use Rattle.bj_base.specs.declared.span.Span.{Span}
use Rattle.bj_token.specs.declared.token.Token.{Token}
use Rattle.bj_expr_tree.specs.declared.expr.ExprTree.{ExprTree}
use Rattle.bj_grammar.specs.Reader.{Text, Answer, Found, and_then}
use Rattle.bj_grammar.specs.declared.stop.Stop.{Stop}
use Rattle.bj_grammar.specs.Given.{IsDeepAt, Fails, place_of}
use Rattle.bj_grammar.proofs.LoopLemmas.{deeper, fails_then, fails_same}
use Rattle.bj_expr.specs.declared.bounds.Bounds.{Bounds}
use Rattle.bj_expr.specs.declared.part.Part.{Part}
use Rattle.bj_expr.specs.Reading.{level, unary, rule, bounds_of, nested}
use Rattle.bj_expr.specs.Given.{over_nested, operations_of}

pub level_zero : (tokens : List Token) (bounds : Bounds) (rank : ℕ) (s : Text) (i : ℕ) → rank ≡ 0 → over_nested level tokens bounds rank s i ≡ over_nested unary tokens bounds s i
unfolding level
level_zero tokens bounds rank s i none = ap (λ (n : ℕ). over_nested level tokens bounds n s i) none

pub level_more : (tokens : List Token) (bounds : Bounds) (rank : ℕ) (s : Text) (i : ℕ) (left : ExprTree) (at : ℕ) → 0 < rank → over_nested level tokens bounds (rank - 1) s i ≡ Found left at
    → over_nested level tokens bounds rank s i ≡ operations_of bounds tokens (rank - 1) i left s at
unfolding level
level_more tokens bounds rank s i left at some found =
    deeper (λ (n : ℕ). over_nested level tokens bounds n s i) rank some
    ∙ ap (λ (r : Answer ExprTree). and_then r (λ l m. operations_of bounds tokens (rank - 1) i l s m)) found

pub level_fails : (tokens : List Token) (bounds : Bounds) (rank : ℕ) (s : Text) (i : ℕ) → 0 < rank → (e : Stop) → Fails e (over_nested level tokens bounds (rank - 1) s i) → Fails e (over_nested level tokens bounds rank s i)
unfolding level
level_fails tokens bounds rank s i some e h =
    fails_same e _ _ (deeper (λ (n : ℕ). over_nested level tokens bounds n s i) rank some)
    (fails_then e (over_nested level tokens bounds (rank - 1) s i) (λ l m. operations_of bounds tokens (rank - 1) i l s m) h)

pub nested_zero : (tokens : List Token) (most room : ℕ) (x : Part) (s : Text) (i : ℕ) (d : Span) → d ≡ place_of tokens i → room ≡ 0 → IsDeepAt d (nested (place_of tokens) most room x s i)
unfolding nested
nested_zero tokens most room x s i d at none = subst (λ (n : ℕ). IsDeepAt d (nested (place_of tokens) most n x s i)) (sym none) (sym at)

pub nested_more : (tokens : List Token) (most room : ℕ) (x : Part) (s : Text) (i : ℕ) → 0 < room → nested (place_of tokens) most room x s i ≡ over_nested rule tokens (bounds_of most (room - 1)) x s i
unfolding nested
nested_more tokens most room x s i some = deeper (λ (n : ℕ). nested (place_of tokens) most n x s i) room some
