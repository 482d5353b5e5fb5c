-- The tokens past the end, and one turn of the loop over the names of an import, as the code makes it.
use Rattle.std.proofs.Common.{List, ◌∷◌, [], ◌++◌, ◌≡◌, ℕ, zero, suc, ◌+◌, ◌-◌, ◌<◌, ◌≤◌, Bool, true, false, cond, ◌&&◌, rules, length, refl, sym, ap, ◌∙◌, subst, arith}
use Rattle.std.specs.Str.{bytes_eq}
use Rattle.bj_base.specs.declared.span.Span.{Span}
use Rattle.bj_token.specs.declared.token.Token.{Token}
use Rattle.bj_expr_tree.specs.declared.types.NamedPlace.{NamedPlace}
use Rattle.bj_grammar.specs.Terminal.{terminal, same_terminal}
use Rattle.bj_grammar.specs.declared.terminal.Terminal.{Terminal}
use Rattle.bj_grammar.specs.declared.terminal.Terminal.TheVariants as t
use Rattle.bj_grammar.specs.declared.stop.Stop.{Stop}
use Rattle.bj_grammar.specs.Reader.{Text, Parser, Answer, Found, Wrong, and_then, ◌>>=◌, over, nowhere, pure, sign, choose}
use Rattle.bj_grammar.specs.Given.{IsDeepAt, Fails, text_of}
use Rattle.bj_grammar.proofs.LoopLemmas.{fails_then, fails_same}
use Rattle.bj_grammar.proofs.TextLemmas.{end_other, not_at_end}
use Rattle.bj_expr.specs.Reading.{is}
use Rattle.bj_stmt.specs.Reading.{name_at}
use Rattle.bj_class.specs.Reading.{more_names, is_spelled}

-- ---- the tokens past the end

pub past_next : (tokens : List Token) (at : ℕ) (k : Terminal) (b : Bool) → length tokens ≤ at → b ≡ same_terminal t.Other k → b ≡ same_terminal (terminal (text_of tokens (suc at))) k
past_next tokens at k b le e = e ∙ ap (λ (x : Terminal). same_terminal x k) (sym (end_other tokens (suc at) (omega arith)))

pub past_spelled : (tokens : List Token) (at : ℕ) (units : List ℕ) → length tokens ≤ at → is_spelled units (text_of tokens at) ≡ false
past_spelled tokens at units le =
    let other : t.Word ≡ t.Other → ⊥ = search rules in
    ap (λ (b : Bool). b && bytes_eq (text_of tokens at).text units) (not_at_end tokens at t.Word le other)

-- ---- the names of an import

pub from_start : {X : Type 0} (f : ℕ → X) (n : ℕ) → f n ≡ f (n - 0)
from_start f n = let e : n ≡ n - 0 = omega arith in ap f e

more_left : {X : Type 0} {x : X} (f : ℕ → X) (n at : ℕ) → at < n → x ≡ f (n - at) → x ≡ f (suc (n - (at + 1)))
more_left f n at below e = let turn : n - at ≡ suc (n - (at + 1)) = omega arith in e ∙ ap f turn

none_left : {X : Type 0} {x : X} (f : ℕ → X) (n at : ℕ) → n ≤ at → x ≡ f (n - at) → x ≡ f 0
none_left f n at done e = let none : n - at ≡ 0 = omega arith in e ∙ ap f none

module _ (place : ℕ → Span) (bound : ℕ) where
  -- what follows a dot
  abbrev pub behind_dot : ℕ → List NamedPlace → Parser (List NamedPlace × Bool)
  behind_dot n b = choose (is t.Times) (sign t.Times (pure (b, true))) (name_at place bound >>= λ x. more_names place bound n (b ++ x ∷ []))

  names_stop : (n : ℕ) (b : List NamedPlace) (s : Text) (i : ℕ) → same_terminal (terminal (s i)) t.Dot ≡ false → more_names place bound n b s i ≡ Found (b, false) i
  unfolding more_names
  names_stop zero b s i no_dot = ap (λ (x : Bool). cond x (over (λ _. nowhere) s i) (Found (b, false) i)) no_dot
  names_stop (suc n) b s i no_dot = ap (λ (x : Bool). cond x (sign t.Dot (behind_dot n b) s i) (Found (b, false) i)) no_dot

  names_turn : (n : ℕ) (b : List NamedPlace) (s : Text) (i : ℕ) → same_terminal (terminal (s i)) t.Dot ≡ true → more_names place bound (suc n) b s i ≡ behind_dot n b s (suc i)
  unfolding more_names
  names_turn n b s i dot = ap (λ (x : Bool). cond x (sign t.Dot (behind_dot n b) s i) (Found (b, false) i)) dot ∙ ap (λ (x : Bool). cond x (behind_dot n b s (suc i)) (Wrong i)) dot

  names_over : (b : List NamedPlace) (s : Text) (i : ℕ) → same_terminal (terminal (s i)) t.Dot ≡ true → IsDeepAt nowhere (more_names place bound 0 b s i)
  unfolding more_names
  names_over b s i dot = subst (λ (x : Bool). IsDeepAt {A = List NamedPlace × Bool} nowhere (cond x (over (λ _. nowhere) s i) (Found (b, false) i))) (sym dot) refl

  module _ (s : Text) (before : Answer (List NamedPlace × Bool)) (most turn : ℕ) (b : List NamedPlace) (at : ℕ) (so_far : before ≡ more_names place bound (most - turn) b s at) where
    pub names_end : same_terminal (terminal (s at)) t.Dot ≡ false → before ≡ Found (b, false) at
    names_end no_dot = so_far ∙ names_stop (most - turn) b s at no_dot

    pub names_past : most ≤ turn → same_terminal (terminal (s at)) t.Dot ≡ true → IsDeepAt nowhere before
    names_past above dot = subst (IsDeepAt nowhere) (sym (none_left (λ n. more_names place bound n b s at) most turn above so_far)) (names_over b s at dot)

    module _ (below : turn < most) (dot : same_terminal (terminal (s at)) t.Dot ≡ true) (next : ℕ) (after : next ≡ suc at) where
      names_after : before ≡ behind_dot (most - (turn + 1)) b s next
      names_after = more_left (λ n. more_names place bound n b s at) most turn below so_far ∙ (names_turn (most - (turn + 1)) b s at dot ∙ ap (λ (m : ℕ). behind_dot (most - (turn + 1)) b s m) (sym after))

      pub names_all : same_terminal (terminal (s next)) t.Times ≡ true → (end : ℕ) → end ≡ suc next → before ≡ Found (b, true) end
      names_all star end is_end = names_after ∙ (ap (λ (x : Bool). cond x (sign t.Times (pure (b, true)) s next) (and_then (name_at place bound s next) (λ v j. more_names place bound (most - (turn + 1)) (b ++ v ∷ []) s j))) star
          ∙ (ap (λ (x : Bool). cond x (Found (b, true) (suc next)) (Wrong next)) star ∙ ap (λ (m : ℕ). Found (b, true) m) (sym is_end)))

      names_read : same_terminal (terminal (s next)) t.Times ≡ false → before ≡ and_then (name_at place bound s next) (λ v j. more_names place bound (most - (turn + 1)) (b ++ v ∷ []) s j)
      names_read no_star = names_after ∙ ap (λ (x : Bool). cond x (sign t.Times (pure (b, true)) s next) (and_then (name_at place bound s next) (λ v j. more_names place bound (most - (turn + 1)) (b ++ v ∷ []) s j))) no_star

      pub names_go : same_terminal (terminal (s next)) t.Times ≡ false → (v : NamedPlace) (j : ℕ) → name_at place bound s next ≡ Found v j → before ≡ more_names place bound (most - (turn + 1)) (b ++ v ∷ []) s j
      names_go no_star v j found = names_read no_star ∙ ap (λ (r : Answer NamedPlace). and_then r (λ v j. more_names place bound (most - (turn + 1)) (b ++ v ∷ []) s j)) found

      pub names_fail : same_terminal (terminal (s next)) t.Times ≡ false → (e : Stop) → Fails e (name_at place bound s next) → Fails e before
      names_fail no_star e h = fails_same e _ before (names_read no_star) (fails_then e (name_at place bound s next) _ h)
