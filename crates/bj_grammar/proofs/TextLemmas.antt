-- Past the last token stands none.
use Rattle.std.proofs.Common.{◌≡◌, ℕ, ◌≤◌, ◌⊎◌, inl, inr, true, false, List, length, refl, sym, ap, ◌∙◌}
use Rattle.std.proofs.lemmas.Bool.{cases_Bool}
use Rattle.std.proofs.lemmas.List.{get_or_past}
use Rattle.bj_token.specs.declared.token.Token.{Token}
use Rattle.bj_grammar.specs.declared.terminal.Terminal.{Terminal}
use Rattle.bj_grammar.specs.declared.terminal.Terminal.TheVariants as t
use Rattle.bj_grammar.specs.Terminal.{terminal, same_terminal, among}
use Rattle.bj_grammar.specs.Given.{text_of, ended}
use Rattle.bj_grammar.proofs.Laws.{kind_is}

other_end : terminal ended ≡ t.Other
unfolding terminal
other_end = refl

pub end_other : (tokens : List Token) (at : ℕ) → length tokens ≤ at → terminal (text_of tokens at) ≡ t.Other
unfolding text_of
end_other tokens at le = ap terminal (get_or_past tokens at ended le) ∙ other_end

pub not_at_end : (tokens : List Token) (at : ℕ) (k : Terminal) → length tokens ≤ at → (k ≡ t.Other → ⊥) → same_terminal (terminal (text_of tokens at)) k ≡ false
not_at_end tokens at k le other = of (cases_Bool (same_terminal (terminal (text_of tokens at)) k))
  where
    of : (same_terminal (terminal (text_of tokens at)) k ≡ true) ⊎ (same_terminal (terminal (text_of tokens at)) k ≡ false) → same_terminal (terminal (text_of tokens at)) k ≡ false
    of (inl e) = absurd (other (sym (kind_is _ _ e) ∙ end_other tokens at le))
    of (inr e) = e

pub none_at_end : (tokens : List Token) (at : ℕ) (ks : List Terminal) → length tokens ≤ at → among ks t.Other ≡ false → among ks (terminal (text_of tokens at)) ≡ false
none_at_end tokens at ks le none = ap (among ks) (end_other tokens at le) ∙ none
