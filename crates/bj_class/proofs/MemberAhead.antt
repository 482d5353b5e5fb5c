-- What the tests on two tokens look at is looked at by the readers behind them, too.
use Rattle.std.proofs.Common.{◌≡◌, ℕ, suc, ◌<◌, ◌≤◌, Bool, true, false, cond, refl, ap, ◌∙◌, arith, le_refl, [], ◌∷◌, None}
use Rattle.std.specs.Prelude.{◌&&◌}
use Rattle.bj_base.specs.declared.span.Span.{Span}
use Rattle.bj_token.specs.declared.token.Token.{Token}
use Rattle.bj_expr_tree.specs.declared.types.NamedPlace.{NamedPlace}
use Rattle.bj_grammar.specs.declared.terminal.Terminal.{Terminal}
use Rattle.bj_grammar.specs.declared.terminal.Terminal.TheVariants as t
use Rattle.bj_grammar.specs.Terminal.{terminal, same_terminal}
use Rattle.bj_grammar.specs.Reader.{Text, Parser, ◌>>=◌, pure}
use Rattle.bj_grammar.proofs.Laws.{stop, kind_is, reaches}
use Rattle.bj_expr.specs.Grammar as ge
use Rattle.bj_stmt.specs.Grammar as gs
use Rattle.bj_stmt.specs.Grammar.{Variables}
use Rattle.bj_stmt.specs.Reading as rs
use Rattle.bj_stmt.proofs.Expressions.{Given}
use Rattle.bj_stmt.proofs.Ahead.{goes_on, stop_then, stop_word}
use Rattle.bj_stmt.proofs.Small.{variables_laws}

-- whether two terminals stand at a place
abbrev pub Two : Terminal → Terminal → Text → ℕ → Bool
Two k l s i = same_terminal (terminal (s i)) k && same_terminal (terminal (s (suc i))) l

and_known : (a b c : Bool) → (a ≡ true → b ≡ c) → (a && b) ≡ (a && c)
and_known true b c e = e refl
and_known false b c e = refl

pub two_depends : (k l : Terminal) (s u : Text) (i : ℕ) → u i ≡ s i → (same_terminal (terminal (s i)) k ≡ true → u (suc i) ≡ s (suc i)) → Two k l u i ≡ Two k l s i
two_depends k l s u i at0 at1 =
    ap (λ (v : Token). same_terminal (terminal v) k && same_terminal (terminal (u (suc i))) l) at0
    ∙ and_known (same_terminal (terminal (s i)) k) _ _ (λ w. ap (λ (v : Token). same_terminal (terminal v) l) (at1 w))

-- a choice by such a test looks at both tokens where the readers do
pub two_seen : {A : Type 0} (k l : Terminal) (p q : Parser A) (s u : Text) (i : ℕ) → i ≤ stop (p s i) → i ≤ stop (q s i) → (same_terminal (terminal (s i)) k ≡ true → (suc i ≤ stop (p s i)) × (suc i ≤ stop (q s i)))
    → ((x : ℕ) → x ≤ stop (cond (Two k l s i) (p s i) (q s i)) → u x ≡ s x) → Two k l u i ≡ Two k l s i
two_seen k l p q s u i p0 q0 both same = two_depends k l s u i (same i (reach i p0 q0)) (λ w. same (suc i) (reach (suc i) (both w).0 (both w).1))
  where
    either : (n : ℕ) (b : Bool) → n ≤ stop (p s i) → n ≤ stop (q s i) → n ≤ stop (cond b (p s i) (q s i))
    either n true x y = x
    either n false x y = y

    reach : (n : ℕ) → n ≤ stop (p s i) → n ≤ stop (q s i) → n ≤ stop (cond (Two k l s i) (p s i) (q s i))
    reach n x y = either n (Two k l s i) x y

module _ (place : ℕ → Span) (most : ℕ) (s : Text) (i : ℕ) (is_word : same_terminal (terminal (s i)) t.Word ≡ true) where
  name_stop : suc i ≤ stop (rs.name_at place most s i)
  unfolding rs.name_at
  name_stop = stop_word t.Word (λ v. pure (record { at = place i; name = v })) s i (suc i) is_word (le_refl (suc i))

  -- a rule that begins with a name looks behind it
  pub named_past : {A : Type 0} (q : NamedPlace → Parser A) → ((x : NamedPlace) (m : ℕ) → m ≤ stop (q x s m)) → suc i ≤ stop ((rs.name_at place most >>= q) s i)
  named_past q onward = let h = name_stop in let k = stop_then (rs.name_at place most s i) (λ x m. q x s m) onward in omega arith

  -- variables do as well
  pub variables_past : Given place most → (room : ℕ) → i < stop (rs.variables place most room s i)
  variables_past given room =
      let c = goes_on s (suc i) (t.Semicolon ∷ []) (refl, tt) in
      let here : c.0 i ≡ s i = c.1 i (omega arith) in
      let w : terminal (c.0 i) ≡ t.Word = ap terminal here ∙ kind_is _ _ is_word in
      reaches most (rs.variables place most room) (λ s a i j. Variables place s a i j) _ _ (variables_laws place most given room) s c.0 i i
      (record { at = place i; name = (c.0 i).text; dims = 0; init = None } ∷ []) (suc i)
      (λ x h. c.1 x (omega arith))
      (gs.first_variable (gs.variable w (ge.no_pair refl refl) (gs.no_init refl refl) refl) refl)
      c.2.1.kind
      (omega arith) (omega arith)
