-- No reader goes past the last token.
use Rattle.std.proofs.Common.{◌≡◌, ℕ, ◌<◌, ◌≤◌, ◌⊎◌, inl, inr, List, length, ap, subst, le_refl}
use Rattle.std.proofs.lemmas.Bool.{cases_lt, both_ways}
use Rattle.bj_base.specs.declared.span.Span.{Span}
use Rattle.bj_token.specs.declared.token.Token.{Token}
use Rattle.bj_grammar.specs.declared.terminal.Terminal.{Terminal}
use Rattle.bj_grammar.specs.Terminal.{terminal}
use Rattle.bj_grammar.specs.Reader.{Answer, Over, Parser}
use Rattle.bj_grammar.specs.Given.{text_of}
use Rattle.bj_grammar.proofs.Terminals.{is_token}
use Rattle.bj_grammar.proofs.Laws.{Rel, Laws, reached}
use Rattle.bj_grammar.proofs.TextLemmas.{end_other}

module _ {A : Type 0} {n : ℕ} {p : Parser A} {D : Rel A} {E : A → Terminal → Type 0} {T : Span → A → Type 0} (u : Laws n p D E T) (tokens : List Token) (i : ℕ) (starts : i ≤ length tokens) where
  pub ends_in : reached (p (text_of tokens) i) ≤ length tokens
  ends_in = of (cases_lt (length tokens) (reached (p (text_of tokens) i)))
    where
      of : (length tokens < reached (p (text_of tokens) i)) ⊎ (reached (p (text_of tokens) i) ≤ length tokens) → reached (p (text_of tokens) i) ≤ length tokens
      of (inl h) = absurd (both_ways (is_token (terminal (text_of tokens (length tokens)))) (ap is_token (end_other tokens (length tokens) (le_refl (length tokens)))) (u.inside (text_of tokens) i (length tokens) starts h))
      of (inr h) = h

  pub over_in : (k : ℕ) (at : Span) → p (text_of tokens) i ≡ Over k at → k ≤ length tokens
  over_in k at e = subst (λ (r : Answer A). reached r ≤ length tokens) e ends_in
