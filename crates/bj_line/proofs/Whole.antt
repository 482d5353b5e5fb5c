-- What a reader comes to on all tokens of a text, from its laws.
use Rattle.std.proofs.Common.{◌≡◌, ℕ, zero, suc, ◌+◌, ◌<◌, ◌≤◌, ◌⊎◌, inl, inr, List, [], ◌∷◌, Option, Some, length, refl, sym, ap, ◌∙◌, subst, arith, le_refl}
use Rattle.std.proofs.lemmas.Bool.{cases_lt, both_ways}
use Rattle.bj_token.specs.declared.token.Token.{Token}
use Rattle.bj_grammar.specs.declared.terminal.Terminal.{Terminal}
use Rattle.bj_grammar.specs.declared.terminal.Terminal.TheVariants as t
use Rattle.bj_grammar.specs.Terminal.{terminal}
use Rattle.bj_grammar.specs.Reader.{Text, Answer, Found, Wrong, Over, Parser}
use Rattle.bj_base.specs.declared.span.Span.{Span}
use Rattle.bj_grammar.specs.Given.{text_of, IsDeepAt}
use Rattle.bj_grammar.proofs.Terminals.{is_token}
use Rattle.bj_grammar.proofs.Laws.{Rel, Laws, Outcome, stop, reached, halted}
use Rattle.bj_grammar.proofs.TextLemmas.{end_other}
use Rattle.bj_line.specs.Line.{SameBefore, IsStuck, DeepAt}

-- ---- a text as a list

tokens_to : Text → ℕ → ℕ → List Token
tokens_to s from zero = []
tokens_to s from (suc n) = s from ∷ tokens_to s (suc from) n

tokens_at : (s : Text) (from n x : ℕ) → x < n → text_of (tokens_to s from n) x ≡ s (from + x)
unfolding text_of tokens_to
tokens_at s from zero x h = absurd (omega arith)
tokens_at s from (suc n) zero h = ap s (let e : from ≡ from + 0 = omega arith in e)
tokens_at s from (suc n) (suc x) h = tokens_at s (suc from) n x (omega arith) ∙ ap s (let e : suc from + x ≡ from + suc x = omega arith in e)

tokens_length : (s : Text) (from n : ℕ) → length (tokens_to s from n) ≡ n
unfolding tokens_to
tokens_length s from zero = refl
tokens_length s from (suc n) = ap suc (tokens_length s (suc from) n)

module _ {A : Type 0} (p : Parser A) (D : Rel A) (E : A → Terminal → Type 0) (T : Span → A → Type 0) (tokens : List Token) (u : Laws (suc (length tokens)) p D E T) (at_end : (a : A) → E a t.Other) where
  abbrev answer : Answer A
  answer = p (text_of tokens) 0

  -- what stands is found, or the limit is passed
  known : (others : List Token) (a : A) → D (text_of others) a 0 (length others) → Outcome (suc (length tokens)) T (p (text_of others) 0) a 0 (length others)
  known others a d = u.complete (text_of others) 0 a (length others) d (subst (E a) (sym (end_other others (length others) (le_refl (length others)))) (at_end a))

  -- the reader does not go past the end
  reached_end : reached answer ≤ length tokens
  reached_end = of (cases_lt (length tokens) (reached answer))
    where
      of : (length tokens < reached answer) ⊎ (reached answer ≤ length tokens) → reached answer ≤ length tokens
      of (inr h) = h
      of (inl h) = absurd (both_ways (is_token (terminal (text_of tokens (length tokens)))) (ap is_token (end_other tokens (length tokens) (le_refl (length tokens)))) (u.inside (text_of tokens) 0 (length tokens) (omega arith) h))

  pub not_past : (a : A) (at : ℕ) → answer ≡ Found a at → at ≤ length tokens
  not_past a at e = subst (λ (r : Answer A). reached r ≤ length tokens) e reached_end

  as_list : (s : Text) (a : A) (m : ℕ) → D s a 0 m → (others : List Token) × (length others ≡ m) × ((x : ℕ) → x < m → text_of others x ≡ s x) × D (text_of others) a 0 (length others)
  as_list s a m d =
      let others = tokens_to s 0 m in
      let same_to : (x : ℕ) → x < m → text_of others x ≡ s x = λ x h. tokens_at s 0 m x h ∙ ap s (let e : 0 + x ≡ x = omega arith in e) in
      (others, tokens_length s 0 m, same_to, subst (λ (n : ℕ). D (text_of others) a 0 n) (sym (tokens_length s 0 m)) (u.shape.frame s (text_of others) a 0 m same_to d))

  -- ---- where it stops

  none_same : (k : ℕ) → IsStuck tokens answer k → (others : List Token) (a : A) → SameBefore tokens others (suc k) → D (text_of others) a 0 (length others) → ⊥
  none_same k (inl wrong) others a same d =
      clash (p (text_of others) 0) (u.local (text_of tokens) (text_of others) 0 (λ x h. (same x (let le = subst (λ (m : ℕ). x ≤ m) (ap stop wrong) h in omega arith)).1) ∙ wrong) (known others a d)
    where
      clash : (r : Answer A) → r ≡ Wrong k → Outcome (suc (length tokens)) T r a 0 (length others) → ⊥
      clash r e (inl h) = absurd (cc)
      clash r e (inr h) = let is = h.is in absurd (cc)
  none_same k (inr w) others a same d =
      clash (p (text_of others) 0) (u.local (text_of tokens) (text_of others) 0 (λ x h. (same x (let le = subst (λ (m : ℕ). x ≤ m) (ap stop w.1) h in omega arith)).1) ∙ w.1) (known others a d)
    where
      longer : k < length others
      longer = (same k (omega arith)).0 w.2

      clash : (r : Answer A) → r ≡ Found w.0 k → Outcome (suc (length tokens)) T r a 0 (length others) → ⊥
      clash r e (inl h) = let at : k ≡ length others = ap stop (sym e ∙ h) in let l = longer in absurd (omega arith)
      clash r e (inr h) = let is = h.is in absurd (cc)

  -- no tokens that are the same up to there, or further, stand
  pub none_more : (k at : ℕ) → k ≤ at → IsStuck tokens answer k → (others : List Token) (a : A) → SameBefore tokens others (suc at) → D (text_of others) a 0 (length others) → ⊥
  none_more k at le stuck others a same d = none_same k stuck others a (λ x h. same x (omega arith)) d

  -- where no tree is found, some tokens that are the same before stand
  pub halted_begins : (k : ℕ) → halted answer ≡ Some k → (others : List Token) × (k ≤ length others) × SameBefore tokens others k × ((a : A) × D (text_of others) a 0 (length others))
  halted_begins k is =
      let c = u.viable (text_of tokens) 0 k is in
      let beyond : k ≤ c.after = c.beyond in
      let l = as_list c.text c.tree c.after c.stands in
      let n = l.1 in
      (l.0, (let h : k ≤ length l.0 = omega arith in h), (λ x h. ((λ low. (let z : x < length l.0 = omega arith in z)), l.2 x (omega arith) ∙ c.same x h)), (c.tree, l.3))

  -- some that are the same before the place where it is stuck do
  pub some_begin : (k : ℕ) → IsStuck tokens answer k → (others : List Token) × (k ≤ length others) × SameBefore tokens others k × ((a : A) × D (text_of others) a 0 (length others))
  some_begin k (inl wrong) = halted_begins k (ap halted wrong)
  some_begin k (inr w) =
      let l = as_list (text_of tokens) w.0 k (u.sound (text_of tokens) 0 w.0 k w.1) in
      let n = l.1 in
      (l.0, (let h : k ≤ length l.0 = omega arith in h), (λ x h. ((λ low. (let z : x < length l.0 = omega arith in z)), l.2 x (omega arith))), (w.0, l.3))

  -- ---- all of it

  pub stands : (a : A) → answer ≡ Found a (length tokens) → D (text_of tokens) a 0 (length tokens)
  stands a e = u.sound (text_of tokens) 0 a (length tokens) e

  -- no reader takes so many tokens
  endless : (x : ℕ) → reached answer ≡ x → suc (length tokens) + 0 ≤ x → ⊥
  endless x is h = let e = reached_end in absurd (omega arith)

  pub found : (a : A) → D (text_of tokens) a 0 (length tokens) → ((at : Span) → T at a → ⊥) → answer ≡ Found a (length tokens)
  found a d low = of (known tokens a d)
    where
      of : Outcome (suc (length tokens)) T answer a 0 (length tokens) → answer ≡ Found a (length tokens)
      of (inl e) = e
      of (inr x) = elim (x.why) [ inl y ↦ absurd (low x.node y) | inr y ↦ absurd (endless x.place (ap reached x.is) y) ]

  -- where it passes its limit, the node is too deep in each tree that goes on from there
  deep : (k : ℕ) (at : Span) → answer ≡ Over k at → (others : List Token) (a : A) → SameBefore tokens others (5 + k) → D (text_of others) a 0 (length others) → T at a
  deep k at over others a same d =
      of (u.local (text_of tokens) (text_of others) 0 (λ x h. (same x (let le = subst (λ (m : ℕ). x ≤ m) (ap stop over) h in omega arith)).1) ∙ over) (known others a d)
    where
      of : p (text_of others) 0 ≡ Over k at → Outcome (suc (length tokens)) T (p (text_of others) 0) a 0 (length others) → T at a
      of e (inl h) = absurd (cc)
      of e (inr x) =
          let same_node : x.node ≡ at = (let is = x.is in cc) in
          let same_place : x.place ≡ k = (let is = x.is in cc) in
          elim (x.why) [ inl y ↦ subst (λ (z : Span). T z a) same_node y | inr y ↦ absurd (endless k (ap reached over) (subst (λ (m : ℕ). suc (length tokens) + 0 ≤ m) same_place y)) ]

  -- a reader that passes its limit does so at a place
  over_at : (at : Span) (r : Answer A) → IsDeepAt at r → (k : ℕ) × (r ≡ Over k at)
  over_at at (Found a j) h = absurd h
  over_at at (Wrong k) h = absurd h
  over_at at (Over k node) h = (k, ap (Over k) h)

  pub deep_at : (at : Span) → IsDeepAt at answer → DeepAt (λ others a. D (text_of others) a 0 (length others)) T tokens at
  deep_at at h =
      let w = over_at at answer h in
      record { place = w.0; begins = halted_begins w.0 (ap halted w.1); deep = deep w.0 at w.1 }

  -- in particular in each tree that the tokens are
  pub each_is_deep : (at : Span) → IsDeepAt at answer → (a : A) → D (text_of tokens) a 0 (length tokens) → T at a
  each_is_deep at h a d = let w = over_at at answer h in deep w.0 at w.1 tokens a (λ x below. ((λ low. low), refl)) d

  -- a stuck reader finds nothing
  pub stuck_none : (k : ℕ) → IsStuck tokens answer k → (a : A) → D (text_of tokens) a 0 (length tokens) → ⊥
  stuck_none k stuck a d = none_same k stuck tokens a (λ x h. ((λ low. low), refl)) d

  pub one_tree : (a b : A) → answer ≡ Found a (length tokens) → answer ≡ Found b (length tokens) → a ≡ b
  one_tree a b e h = of answer e h
    where
      of : (r : Answer A) → r ≡ Found a (length tokens) → r ≡ Found b (length tokens) → a ≡ b
      of (Found c j) e h = cc
      of (Wrong k) e h = absurd (cc)
      of (Over k at) e h = absurd (cc)

  -- a tree that is not too deep is the one that is read
  pub whole_is : (a b : A) → answer ≡ Found b (length tokens) → D (text_of tokens) a 0 (length tokens) → ((at : Span) → T at a → ⊥) → b ≡ a
  whole_is a b e d low = one_tree b a e (found a d low)
