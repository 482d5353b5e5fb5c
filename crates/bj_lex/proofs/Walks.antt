-- From element to element, along the rules of the grammar.
use Rattle.std.proofs.Common.{◌≡◌, ℕ, ◌+◌, ◌≤◌, cond, List, [], ◌∷◌, ◌++◌, length, take, refl, sym, ap, ◌∙◌, subst, arith, append_assoc, length-append, Option, Some, None}
use Rattle.bj_token.specs.declared.token.TokenKind.{TokenKind}
use Rattle.bj_token.specs.declared.token.TokenKind.TheVariants.{Word, Keyword, CharText, StringText, Sign}
use Rattle.bj_lex.specs.declared.place.Place.{Place}
use Rattle.bj_lex.specs.declared.element.Element.{Element}
use Rattle.bj_lex.specs.declared.element.Element.TheVariants.{Blank, Token, Fault}
use Rattle.bj_base.specs.declared.fault.FaultCode.TheVariants.{Profile, Open}
use Rattle.bj_lex.specs.Numerals.{is_float, numeral_of, number_kind, numeral_element}
use Rattle.bj_lex.specs.Signs.{sign_len}
use Rattle.bj_lex.specs.Words.{is_keyword, is_left_out}
use Rattle.bj_lex.specs.Elements.{element_of}
use Rattle.bj_lex.specs.Places.{place_after}
use Rattle.bj_lex.specs.Grammar.{Spelled, IsOneLine, IsAtLineEnd, HasNoEnd, quote, Leads, here, white_space, end_of_line_comment, traditional_comment, identifier, keyword, integer, character, string, sign}
use Rattle.bj_lex.proofs.WordRuns.{run_is_longest}
use Rattle.bj_lex.proofs.LongestSigns.{sign_some, longest_is_read}
use Rattle.bj_lex.proofs.Sound.{rest_of, units_of}
use Rattle.bj_lex.proofs.Chain.{if_true, if_false, el_white, el_line, el_block, line_len_is, block_len_is, two_units, other_second, word_element_of, word_some, number_element_of, number_some, sign_element_of, string_element_of, char_element_of, quote_size, quote_split}

-- a property of texts with their tokens, their number of units before and their place: it holds where the tokens stop, and of a text
-- with an element at the front where it holds of the rest
module _ (stop : List ℕ) (P : List ℕ → List Spelled → ℕ → Place → Type 0) (on_here : (at : ℕ) (p : Place) → P stop [] at p)
    (on_blank : (us units rest : List ℕ) (n at : ℕ) (p : Place) → 1 ≤ n → us ≡ units ++ rest → length units ≡ n → (tokens : List Spelled) → element_of us ≡ Blank n
    → P rest tokens (at + n) (place_after p (take n us)) → P us tokens at p)
    (on_token : (us units rest : List ℕ) (n at : ℕ) (p : Place) → 1 ≤ n → us ≡ units ++ rest → length units ≡ n → (tokens ts : List Spelled) (kind : TokenKind) → element_of us ≡ Token kind n
    → tokens ≡ (kind, units) ∷ ts → P rest ts (at + n) (place_after p (take n us)) → P us tokens at p) where
  line_step : (comment rest : List ℕ) (tokens : List Spelled) (at : ℕ) (p : Place) → IsOneLine comment → IsAtLineEnd rest
      → ((m : ℕ) (q : Place) → P rest tokens m q) → P (47 ∷ 47 ∷ (comment ++ rest)) tokens at p
  line_step comment rest tokens at p free ends f =
      let us = comment ++ rest in
      let n = length comment + 2 in
      on_blank (47 ∷ 47 ∷ us) (47 ∷ 47 ∷ comment) rest n at p (omega arith) refl (omega arith) tokens
      (el_line 47 (47 ∷ us) refl (two_units 47 us 47 refl) ∙ ap (λ k. Blank (k + 2)) (line_len_is comment rest free ends)) (f (at + n) _)

  block_step : (comment rest : List ℕ) (tokens : List Spelled) (at : ℕ) (p : Place) → HasNoEnd comment (42 ∷ 47 ∷ rest)
      → ((m : ℕ) (q : Place) → P rest tokens m q) → P (47 ∷ 42 ∷ (comment ++ (42 ∷ 47 ∷ rest))) tokens at p
  block_step comment rest tokens at p free f =
      let us = comment ++ (42 ∷ 47 ∷ rest) in
      let n = length comment + 2 + 2 in
      let e = ap (λ (o : Option ℕ). elim o as (λ _. Element) [ None ↦ Fault Open | Some k ↦ Blank (k + 2) ]) (block_len_is comment rest free) in
      on_blank (47 ∷ 42 ∷ us) (47 ∷ 42 ∷ (comment ++ (42 ∷ 47 ∷ []))) rest n at p (omega arith) (ap (λ t. 47 ∷ 42 ∷ t) (sym (append_assoc comment (42 ∷ 47 ∷ []) rest)))
      (omega (arith, length-append comment (42 ∷ 47 ∷ []))) tokens (el_block 47 (42 ∷ us) refl (other_second 42 us 47 refl) (two_units 42 us 42 refl) ∙ e) (f (at + n) _)

  pub walk : (text : List ℕ) (tokens : List Spelled) → Leads stop text tokens → (at : ℕ) (p : Place) → P text tokens at p
  walk text tokens (here _ _ is none) at p = subst (λ t. P t tokens at p) (sym is) (subst (λ ts. P stop ts at p) (sym none) (on_here at p))
  walk text tokens (white_space _ _ u rest is white l) at p =
      on_blank text (u ∷ []) rest 1 at p (omega arith) is refl tokens (ap element_of is ∙ el_white u rest white) (walk rest tokens l (at + 1) (place_after p (take 1 text)))
  walk text tokens (end_of_line_comment _ _ comment rest is free ends l) at p =
      subst (λ t. P t tokens at p) (sym is) (line_step comment rest tokens at p free ends (walk rest tokens l))
  walk text tokens (traditional_comment _ _ comment rest is free l) at p =
      subst (λ t. P t tokens at p) (sym is) (block_step comment rest tokens at p free (walk rest tokens l))
  walk text tokens (identifier _ _ word rest ts is run begins kept free same l) at p =
      let n = length word in
      let size = run_is_longest text word rest is run in
      on_token text word rest n at p (word_some text n size begins) is refl tokens ts Word
      (word_element_of text word n size (units_of text word rest n is refl) begins ∙ if_false (is_left_out word) (Fault Profile) (cond (is_keyword word) (Token Keyword n) (Token Word n)) kept
      ∙ if_false (is_keyword word) (Token Keyword n) (Token Word n) free)
      same (walk rest ts l (at + n) (place_after p (take n text)))
  walk text tokens (keyword _ _ word rest ts is run begins kept key same l) at p =
      let n = length word in
      let size = run_is_longest text word rest is run in
      on_token text word rest n at p (word_some text n size begins) is refl tokens ts Keyword
      (word_element_of text word n size (units_of text word rest n is refl) begins ∙ if_false (is_left_out word) (Fault Profile) (cond (is_keyword word) (Token Keyword n) (Token Word n)) kept
      ∙ if_true (is_keyword word) (Token Keyword n) (Token Word n) key)
      same (walk rest ts l (at + n) (place_after p (take n text)))
  walk text tokens (integer _ _ run rest ts v is longest word digit whole number same l) at p =
      let n = length run in
      let size = run_is_longest text run rest is longest in
      on_token text run rest n at p (number_some text n size digit) is refl tokens ts (number_kind run)
      (number_element_of text run rest n size (units_of text run rest n is refl) (rest_of text run rest n is refl) word digit
      ∙ if_false (is_float run rest) (Fault Profile) (numeral_element run (numeral_of run)) whole ∙ ap (numeral_element run) number)
      same (walk rest ts l (at + n) (place_after p (take n text)))
  walk text tokens (character _ _ content rest units ts is free means one same l) at p =
      let n = length content + 2 in
      on_token text (quote 39 content) rest n at p (omega arith) (is ∙ quote_split 39 content rest) (quote_size 39 content) tokens ts CharText
      (ap element_of is ∙ char_element_of content rest units free means one) same (walk rest ts l (at + n) (place_after p (take n text)))
  walk text tokens (string _ _ content rest units ts is free means same l) at p =
      let n = length content + 2 in
      on_token text (quote 34 content) rest n at p (omega arith) (is ∙ quote_split 34 content rest) (quote_size 34 content) tokens ts StringText
      (ap element_of is ∙ string_element_of content rest units free means) same (walk rest ts l (at + n) (place_after p (take n text)))
  walk text tokens (sign _ _ units rest ts is longest alone kept same l) at p =
      let n = length units in
      let low = sign_some text units rest is longest in
      let size = longest_is_read text units rest is longest in
      let some : sign_len text ≡ 0 → ⊥ = λ z. absurd (omega (arith, z, size, low)) in
      on_token text units rest n at p low is refl tokens ts Sign (sign_element_of text some alone kept ∙ ap (Token Sign) (sym size)) same (walk rest ts l (at + n) (place_after p (take n text)))
