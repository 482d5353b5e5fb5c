-- The reader of tokens, one byte at a time.
use Rattle.std.proofs.Common.{◌≡◌, ℕ, suc, ◌+◌, ◌-◌, ◌<◌, Bool, true, false, cond, ◌==◌, List, [], ◌∷◌, ◌++◌, length, drop, get_or, drop-cons, Option, Some, None, sym, ap, ◌∙◌, add-one}
use Rattle.bj_sum.specs.declared.lex.Numeral.{Numeral}
use Rattle.bj_sum.specs.declared.token.Sort.{Sort}
use Rattle.bj_sum.specs.declared.token.Token.{Token}
use Rattle.bj_sum.specs.Lexical.{token, sign_of}
use Rattle.bj_sum.specs.Lexing.{is_digit, is_doubled, begun, behind, apart, with_sign, with_numeral, tokens_from}

module _ (text : List ℕ) (before : Option (List Token)) (tokens : List Token) (n : Option Numeral) (i : ℕ) (below : i < length text)
    (so_far : before ≡ tokens_from tokens n (suc i) (drop i text)) where
  opened : before ≡ tokens_from tokens n (suc i) (get_or text i 0 ∷ drop (i + 1) text)
  opened = so_far ∙ ap (λ (r : List ℕ). tokens_from tokens n (suc i) r) (drop-cons text i 0 below ∙ ap (λ (j : ℕ). get_or text i 0 ∷ drop j text) (sym (add-one i)))

  column : suc i ≡ i + 1
  column = sym (add-one i)

  pub digit : is_digit (get_or text i 0) ≡ true
      → before ≡ with_numeral (begun n (i + 1) (get_or text i 0 - 48)) (λ m. tokens_from tokens (Some m) (suc (i + 1)) (drop (i + 1) text))
  digit e = opened
      ∙ (ap (λ (c : ℕ). tokens_from tokens n c (get_or text i 0 ∷ drop (i + 1) text)) column
      ∙ ap (λ (b : Bool). cond b (with_numeral (begun n (i + 1) (get_or text i 0 - 48)) (λ m. tokens_from tokens (Some m) (suc (i + 1)) (drop (i + 1) text)))
      (apart (behind tokens n) (i + 1) (get_or text i 0) (drop (i + 1) text) (λ all. tokens_from all None (suc (i + 1)) (drop (i + 1) text)))) e)

  pub other : is_digit (get_or text i 0) ≡ false
      → before ≡ apart (behind tokens n) (i + 1) (get_or text i 0) (drop (i + 1) text) (λ all. tokens_from all None (suc (i + 1)) (drop (i + 1) text))
  other e = opened
      ∙ (ap (λ (c : ℕ). tokens_from tokens n c (get_or text i 0 ∷ drop (i + 1) text)) column
      ∙ ap (λ (b : Bool). cond b (with_numeral (begun n (i + 1) (get_or text i 0 - 48)) (λ m. tokens_from tokens (Some m) (suc (i + 1)) (drop (i + 1) text)))
      (apart (behind tokens n) (i + 1) (get_or text i 0) (drop (i + 1) text) (λ all. tokens_from all None (suc (i + 1)) (drop (i + 1) text)))) e)

  pub digit_more : (m : Numeral) → is_digit (get_or text i 0) ≡ true → begun n (i + 1) (get_or text i 0 - 48) ≡ Some m
      → before ≡ tokens_from tokens (Some m) (suc (i + 1)) (drop (i + 1) text)
  digit_more m e is = digit e ∙ ap (λ (o : Option Numeral). with_numeral o (λ m. tokens_from tokens (Some m) (suc (i + 1)) (drop (i + 1) text))) is

  pub sign_more : (s : Sort) → is_digit (get_or text i 0) ≡ false → (get_or text i 0 == 32) ≡ false → is_doubled (get_or text i 0) (drop (i + 1) text) ≡ false
      → sign_of (get_or text i 0) ≡ Some s
      → before ≡ tokens_from (behind tokens n ++ token (i + 1) s ∷ []) None (suc (i + 1)) (drop (i + 1) text)
  sign_more s e space alone is = other e
      ∙ (ap (λ (b : Bool). cond b (go (behind tokens n)) (cond (is_doubled (get_or text i 0) (drop (i + 1) text)) None (with_sign (sign_of (get_or text i 0)) (i + 1) (behind tokens n) go))) space
      ∙ (ap (λ (b : Bool). cond b None (with_sign (sign_of (get_or text i 0)) (i + 1) (behind tokens n) go)) alone
      ∙ ap (λ (o : Option Sort). with_sign o (i + 1) (behind tokens n) go) is))
    where
      go : List Token → Option (List Token)
      go all = tokens_from all None (suc (i + 1)) (drop (i + 1) text)
