-- One element after the other.
use Rattle.std.proofs.Common.{◌≡◌, ℕ, zero, suc, ◌+◌, ◌-◌, ◌<◌, ◌≤◌, List, [], ◌∷◌, ◌++◌, length, take, drop, refl, sym, ap, ◌∙◌, drop-drop, arith, append_assoc, append-nil}
use Rattle.std.proofs.lemmas.List.{at_drop_all}
use Rattle.bj_token.specs.declared.token.Token.{Token as Lexeme}
use Rattle.bj_token.specs.declared.token.TokenKind.{TokenKind}
use Rattle.bj_lex.specs.declared.place.Place.{Place}
use Rattle.bj_lex.specs.declared.element.Element.TheVariants.{Blank, Token, Fault}
use Rattle.bj_base.specs.declared.fault.FaultCode.{FaultCode}
use Rattle.bj_lex.specs.Elements.{element_of}
use Rattle.bj_lex.specs.Places.{next_place, place_after}
use Rattle.bj_lex.specs.Texts.{Reading, Read, Stopped, after_token, after_tokens, token_at, from_element, read_after, read, GoesOn}

after_tokens-append : (ts : List Lexeme) (t : Lexeme) (r : Reading) → after_tokens (ts ++ t ∷ []) r ≡ after_tokens ts (after_token t r)
after_tokens-append ts t (Read us p) = ap (λ vs. Read vs p) (append_assoc ts (t ∷ []) us)
after_tokens-append ts t (Stopped at p code) = refl

pub read_nil : (at : ℕ) (p : Place) → read_after 0 at p [] ≡ Read [] p
unfolding read_after
read_nil at p = refl

read_skip : (n at : ℕ) (p : Place) (us : List ℕ) → n ≤ length us → read_after n at p us ≡ read_after 0 (at + n) (place_after p (take n us)) (drop n us)
unfolding read_after place_after
read_skip zero at p us h = ap (λ k. read_after 0 k p us) (omega arith)
read_skip (suc n) at p [] h = absurd (omega arith)
read_skip (suc n) at p (u ∷ us) h =
    read_skip n (at + 1) (next_place p u) us (omega arith) ∙ ap (λ k. read_after 0 k (place_after (next_place p u) (take n us)) (drop n us)) (omega arith)

read_cons : (at : ℕ) (p : Place) (u : ℕ) (us : List ℕ) → read_after 0 at p (u ∷ us) ≡ from_element at p (u ∷ us) (λ n. read_after (n - 1) (at + 1) (next_place p u) us) (element_of (u ∷ us))
unfolding read_after
read_cons at p u us = refl

rest_is : (n at : ℕ) (p : Place) (u : ℕ) (us : List ℕ) → 1 ≤ n → read_after (n - 1) (at + 1) (next_place p u) us ≡ read_after n at p (u ∷ us)
unfolding read_after
rest_is zero at p u us low = absurd (omega arith)
rest_is (suc n) at p u us low = ap (λ k. read_after k (at + 1) (next_place p u) us) (omega arith)

module _ (at : ℕ) (p : Place) where
  pub blank : (us : List ℕ) (n : ℕ) → 0 < length us → Blank n ≡ element_of us → 1 ≤ n → n ≤ length us
      → read_after 0 (at + n) (place_after p (take n us)) (drop n us) ≡ read_after 0 at p us
  blank [] n some e low high = absurd (omega arith)
  blank (u ∷ us) n some e low high = sym (read_cons at p u us
      ∙ ap (from_element at p (u ∷ us) (λ k. read_after (k - 1) (at + 1) (next_place p u) us)) (sym e) ∙ rest_is n at p u us low ∙ read_skip n at p (u ∷ us) high)

  pub token : (us : List ℕ) (kind : TokenKind) (n : ℕ) → 0 < length us → Token kind n ≡ element_of us → 1 ≤ n → n ≤ length us
      → after_token (token_at kind p (take n us)) (read_after 0 (at + n) (place_after p (take n us)) (drop n us)) ≡ read_after 0 at p us
  token [] kind n some e low high = absurd (omega arith)
  token (u ∷ us) kind n some e low high = sym (read_cons at p u us
      ∙ ap (from_element at p (u ∷ us) (λ k. read_after (k - 1) (at + 1) (next_place p u) us)) (sym e)
      ∙ ap (after_token (token_at kind p (take n (u ∷ us)))) (rest_is n at p u us low ∙ read_skip n at p (u ∷ us) high))

  pub fault_stops : (us : List ℕ) (code : FaultCode) → 0 < length us → Fault code ≡ element_of us → read_after 0 at p us ≡ Stopped at p code
  fault_stops [] code some e = absurd (omega arith)
  fault_stops (u ∷ us) code some e = read_cons at p u us ∙ ap (from_element at p (u ∷ us) (λ k. read_after (k - 1) (at + 1) (next_place p u) us)) (sym e)

  pub blank_goes_on : (ts : List Lexeme) (us : List ℕ) (n : ℕ) → 0 < length us → Blank n ≡ element_of us → 1 ≤ n → n ≤ length us → GoesOn ts ts at p us n
  blank_goes_on ts us n some e low high = (low, high, ap (after_tokens ts) (blank us n some e low high))

  pub token_goes_on : (ts new : List Lexeme) (us : List ℕ) (kind : TokenKind) (n : ℕ) (t : Lexeme) → 0 < length us → Token kind n ≡ element_of us → 1 ≤ n → n ≤ length us
      → t ≡ token_at kind p (take n us) → new ≡ ts ++ t ∷ [] → GoesOn ts new at p us n
  token_goes_on ts new us kind n t some e low high is m =
      let rest = read_after 0 (at + n) (place_after p (take n us)) (drop n us) in
      (low, high, ap (λ vs. after_tokens vs rest) m ∙ after_tokens-append ts t rest ∙ ap (λ v. after_tokens ts (after_token v rest)) is ∙ ap (after_tokens ts) (token us kind n some e low high))

pub read_more : (items new : List Lexeme) (at n : ℕ) (p q : Place) (units rest front : List ℕ) → rest ≡ drop at units → GoesOn items new at p rest n → front ≡ take n rest → q ≡ place_after p front
    → after_tokens items (read_after 0 at p (drop at units)) ≡ read units → after_tokens new (read_after 0 (at + n) q (drop (at + n) units)) ≡ read units
read_more items new at n p q units rest front r g f e h =
    let there : q ≡ place_after p (take n rest) = e ∙ ap (place_after p) f in
    let more : drop (at + n) units ≡ drop n rest = sym (drop-drop n at units) ∙ ap (drop n) (sym r) in
    ap (λ k. after_tokens new (read_after 0 (at + n) k (drop (at + n) units))) there
    ∙ ap (λ us. after_tokens new (read_after 0 (at + n) (place_after p (take n rest)) us)) more ∙ g.2 ∙ ap (λ us. after_tokens items (read_after 0 at p us)) r ∙ h

pub read_done : (items : List Lexeme) (at : ℕ) (p : Place) (units : List ℕ) → length units ≤ at → after_tokens items (read_after 0 at p (drop at units)) ≡ read units → read units ≡ Read items p
read_done items at p units le h =
    sym h ∙ ap (after_tokens items) (at_drop_all (read_after 0 at p) units at le ∙ read_nil at p) ∙ ap (λ ts. Read ts p) (append-nil items)
