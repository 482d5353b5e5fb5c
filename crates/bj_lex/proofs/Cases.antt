-- The cases of a token at the front.
use Rattle.std.proofs.Common.{◌≡◌, ℕ, ◌≤◌, true, false, cond, eqb, List, length, take, drop, sym, ap, ◌∙◌, arith}
use Rattle.std.proofs.lemmas.List.{length-take-le}
use borrow.Author.Tests.{ne_eqb}
use Rattle.bj_lex.specs.declared.element.Element.{Element}
use Rattle.bj_lex.specs.declared.element.Element.TheVariants.{Blank, Token, Fault}
use Rattle.bj_lex.specs.Characters.{begins_word, parts_len}
use Rattle.bj_lex.specs.Words.{word_element}
use Rattle.bj_lex.specs.Numerals.{is_digit_in, number_element}
use Rattle.bj_lex.specs.Elements.{token_element, marked_element, IsCounted}

pub IsCounted-more : (m n : ℕ) (e : Element) → m ≤ n → IsCounted m e → IsCounted n e
IsCounted-more m n (Blank k) le h = (h.0, omega (arith, h.1))
IsCounted-more m n (Token kind k) le h = (h.0, omega (arith, h.1))
IsCounted-more m n (Fault code) le h = tt

some : (n : ℕ) → (n ≡ 0 → ⊥) → eqb n 0 ≡ false
some n h = ne_eqb n 0 h

module _ (c : ℕ) (us : List ℕ) (h : parts_len us ≡ 0 → ⊥) where
  pub word_token : begins_word us ≡ true → token_element c us ≡ word_element (parts_len us) (take (parts_len us) us)
  word_token e =
      let word = word_element (parts_len us) (take (parts_len us) us) in
      let number = cond (is_digit_in 10 c) (number_element (take (parts_len us) us) (drop (parts_len us) us)) (marked_element c us) in
      ap (λ b. cond b (marked_element c us) (cond (begins_word us) word number)) (some (parts_len us) h) ∙ ap (λ b. cond b word number) e

  pub number_token : begins_word us ≡ false → is_digit_in 10 c ≡ true → token_element c us ≡ number_element (take (parts_len us) us) (drop (parts_len us) us)
  number_token e f =
      let word = word_element (parts_len us) (take (parts_len us) us) in
      let number = number_element (take (parts_len us) us) (drop (parts_len us) us) in
      ap (λ b. cond b (marked_element c us) (cond (begins_word us) word (cond (is_digit_in 10 c) number (marked_element c us)))) (some (parts_len us) h)
      ∙ ap (λ b. cond b word (cond (is_digit_in 10 c) number (marked_element c us))) e ∙ ap (λ b. cond b number (marked_element c us)) f

pub word_case : (c : ℕ) (us word : List ℕ) (n : ℕ) (e : Element) → n ≡ parts_len us → n ≤ length us → (n ≡ 0 → ⊥) → begins_word us ≡ true
    → word ≡ take n us → e ≡ word_element (length word) word → e ≡ token_element c us
word_case c us word n e is fits h b w v =
    let size : length word ≡ n = ap length w ∙ length-take-le n us fits in
    v ∙ ap (λ k. word_element k word) size ∙ ap (word_element n) w ∙ ap (λ k. word_element k (take k us)) is ∙ sym (word_token c us (λ z. h (is ∙ z)) b)

pub number_case : (c : ℕ) (us run after : List ℕ) (n : ℕ) (e : Element) → n ≡ parts_len us → (n ≡ 0 → ⊥) → begins_word us ≡ false → is_digit_in 10 c ≡ true
    → run ≡ take n us → after ≡ drop n us → e ≡ number_element run after → e ≡ token_element c us
number_case c us run after n e is h b d r a v =
    v ∙ ap (λ t. number_element t after) r ∙ ap (number_element (take n us)) a ∙ ap (λ k. number_element (take k us) (drop k us)) is ∙ sym (number_token c us (λ z. h (is ∙ z)) b d)
