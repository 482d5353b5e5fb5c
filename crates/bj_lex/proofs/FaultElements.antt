-- What a rule calls a fault is read as one.
use Rattle.std.proofs.Common.{◌≡◌, ℕ, suc, ◌+◌, ◌<◌, Bool, true, false, cond, eqb, List, [], ◌∷◌, ◌++◌, length, take, get_or, refl, sym, ap, ◌∙◌, subst, arith, append-nil, length-append, Option, Some, None, option_map, Result, Ok, Err, ◌⊎◌, inl, inr}
use borrow.Author.Tests.{ne_eqb}
use Rattle.bj_text.specs.Unescape.{unescaped}
use Rattle.bj_lex.specs.declared.element.Element.{Element}
use Rattle.bj_lex.specs.declared.element.Element.TheVariants.{Blank, Token, Fault}
use Rattle.bj_token.specs.declared.token.TokenKind.TheVariants.{Word, Keyword, CharText}
use Rattle.bj_base.specs.declared.fault.FaultCode.{FaultCode}
use Rattle.bj_base.specs.declared.fault.FaultCode.TheVariants.{Char, Open, Profile}
use Rattle.bj_lex.specs.Characters.{begins_word}
use Rattle.bj_lex.specs.Comments.{block_len, is_comment_end}
use Rattle.bj_lex.specs.Literals.{closes, escapes, closing, closed, string_token, char_token}
use Rattle.bj_lex.specs.Numerals.{is_digit_in, is_float, numeral_of, numeral_element, number_element}
use Rattle.bj_lex.specs.Words.{is_keyword, is_left_out}
use Rattle.bj_lex.specs.Elements.{element_of}
use Rattle.bj_lex.specs.Grammar.{HasNoEnd, IsAtLineEnd, IsContent, IsUnclosed, IsRun, IsFaulty, unended_comment, word_left_out, floating_point, no_numeral, too_wide, unclosed, bad_escape, not_one_unit, sign_left_out, no_token}
use Rattle.bj_lex.proofs.Runs.{block_len-cons, block_len-nil, closing-cons, closing-nil}
use Rattle.bj_lex.proofs.WordRuns.{run_is_longest}
use Rattle.bj_lex.proofs.LongestSigns.{sign_some, longest_is_read, none_read}
use Rattle.bj_lex.proofs.Letters.{no_parts}
use Rattle.bj_lex.proofs.Sound.{rest_of, units_of}
use Rattle.bj_lex.proofs.Chain.{if_true, if_false, el_block, closing_is, two_units, other_second, word_element_of, number_element_of, left_out_element_of, no_sign_element_of, quote_element}

no_block : (us : List ℕ) → HasNoEnd us [] → block_len us ≡ None
no_block [] free = block_len-nil
no_block (u ∷ us) free =
    block_len-cons u us ∙ ap (λ b. cond b (Some 2) (option_map suc (block_len us))) (ap (λ t. is_comment_end u (get_or t 0 0)) (sym (append-nil us)) ∙ free.0)
    ∙ ap (option_map suc) (no_block us free.1)

not_closed : (mark : ℕ) (escaped : Bool) (content rest : List ℕ) → IsUnclosed mark escaped content → IsAtLineEnd rest → closing mark escaped (content ++ rest) ≡ None
not_closed mark escaped [] [] free ends = closing-nil mark escaped
not_closed mark escaped [] (u ∷ us) free ends =
    closing-cons mark escaped u us ∙ ap (λ b. cond b None (cond (closes mark escaped u) (Some 0) (option_map suc (closing mark (escapes escaped u) us)))) ends
not_closed mark escaped (c ∷ cs) rest free ends =
    let us = cs ++ rest in
    closing-cons mark escaped c us
    ∙ ap (λ b. cond b None (cond (closes mark escaped c) (Some 0) (option_map suc (closing mark (escapes escaped c) us)))) free.0
    ∙ ap (λ b. cond b (Some 0) (option_map suc (closing mark (escapes escaped c) us))) free.1
    ∙ ap (option_map suc) (not_closed mark (escapes escaped c) cs rest free.2 ends)

string_open : (content rest : List ℕ) → IsUnclosed 34 false content → IsAtLineEnd rest → element_of (34 ∷ (content ++ rest)) ≡ Fault Open
string_open content rest free ends =
    let us = content ++ rest in
    quote_element 34 us (no_parts 34 us (omega arith) refl) refl refl ∙ ap (closed (λ n. string_token n (unescaped (take n us)))) (not_closed 34 false content rest free ends)

char_open : (content rest : List ℕ) → IsUnclosed 39 false content → IsAtLineEnd rest → element_of (39 ∷ (content ++ rest)) ≡ Fault Open
char_open content rest free ends =
    let us = content ++ rest in
    quote_element 39 us (no_parts 39 us (omega arith) refl) refl refl ∙ ap (closed (λ n. char_token n (unescaped (take n us)))) (not_closed 39 false content rest free ends)

string_bad : (content rest : List ℕ) (at : ℕ) → IsContent 34 false content → unescaped content ≡ Err at → element_of (34 ∷ (content ++ 34 ∷ rest)) ≡ Fault Char
string_bad content rest at h e =
    let us = content ++ 34 ∷ rest in
    quote_element 34 us (no_parts 34 us (omega arith) refl) refl refl ∙ ap (closed (λ n. string_token n (unescaped (take n us)))) (closing_is 34 false content rest refl h)
    ∙ ap (λ t. string_token (length content) (unescaped t)) (units_of us content (34 ∷ rest) (length content) refl refl) ∙ ap (string_token (length content)) e

module _ (content rest : List ℕ) (h : IsContent 39 false content) where
  char_closed : (r : Result (List ℕ) ℕ) → unescaped content ≡ r → element_of (39 ∷ (content ++ 39 ∷ rest)) ≡ char_token (length content) r
  char_closed r e =
      let us = content ++ 39 ∷ rest in
      quote_element 39 us (no_parts 39 us (omega arith) refl) refl refl ∙ ap (closed (λ n. char_token n (unescaped (take n us)))) (closing_is 39 false content rest refl h)
      ∙ ap (λ t. char_token (length content) (unescaped t)) (units_of us content (39 ∷ rest) (length content) refl refl) ∙ ap (char_token (length content)) e

  char_many : (units : List ℕ) → unescaped content ≡ Ok units → (length units ≡ 1 → ⊥) → element_of (39 ∷ (content ++ 39 ∷ rest)) ≡ Fault Char
  char_many units e other = char_closed (Ok units) e ∙ if_false (eqb (length units) 1) (Token CharText (length content + 2)) (Fault Char) (ne_eqb (length units) 1 other)

-- the mark is the one or the other
by_mark : (mark : ℕ) (P : ℕ → Type 0) → (mark ≡ 34) ⊎ (mark ≡ 39) → ((mark ≡ 34) → P 34) → ((mark ≡ 39) → P 39) → P mark
by_mark mark P (inl e) f g = subst P (sym e) (f e)
by_mark mark P (inr e) f g = subst P (sym e) (g e)

number_at : (text run rest : List ℕ) → text ≡ run ++ rest → IsRun run rest → begins_word text ≡ false → is_digit_in 10 (get_or text 0 0) ≡ true → element_of text ≡ number_element run rest
number_at text run rest is longest word digit =
    let n = length run in
    number_element_of text run rest n (run_is_longest text run rest is longest) (units_of text run rest n is refl) (rest_of text run rest n is refl) word digit

pub faulty_element : (text : List ℕ) (code : FaultCode) → IsFaulty text code → element_of text ≡ Fault code
faulty_element text code (unended_comment _ comment is free) =
    ap element_of is ∙ el_block 47 (42 ∷ comment) refl (other_second 42 comment 47 refl) (two_units 42 comment 42 refl)
    ∙ ap (λ (o : Option ℕ). elim o as (λ _. Element) [ None ↦ Fault Open | Some k ↦ Blank (k + 2) ]) (no_block comment free)
faulty_element text code (word_left_out _ word rest is run begins out) =
    let n = length word in
    word_element_of text word n (run_is_longest text word rest is run) (units_of text word rest n is refl) begins
    ∙ if_true (is_left_out word) (Fault Profile) (cond (is_keyword word) (Token Keyword n) (Token Word n)) out
faulty_element text code (floating_point _ run rest is longest word digit float) =
    number_at text run rest is longest word digit ∙ if_true (is_float run rest) (Fault Profile) (numeral_element run (numeral_of run)) float
faulty_element text code (no_numeral _ run rest is longest word digit whole number) =
    number_at text run rest is longest word digit ∙ if_false (is_float run rest) (Fault Profile) (numeral_element run (numeral_of run)) whole ∙ ap (numeral_element run) number
faulty_element text code (too_wide _ run rest is longest word digit whole number) =
    number_at text run rest is longest word digit ∙ if_false (is_float run rest) (Fault Profile) (numeral_element run (numeral_of run)) whole ∙ ap (numeral_element run) number
faulty_element text code (unclosed _ mark content rest which is free ends) =
    ap element_of is ∙ by_mark mark (λ m. IsUnclosed m false content → element_of (m ∷ (content ++ rest)) ≡ Fault Open) which
    (λ _ f. string_open content rest f ends) (λ _ f. char_open content rest f ends) free
faulty_element text code (bad_escape _ mark content rest at which is held bad) =
    ap element_of is ∙ by_mark mark (λ m. IsContent m false content → element_of (m ∷ (content ++ m ∷ rest)) ≡ Fault Char) which
    (λ _ h. string_bad content rest at h bad) (λ _ h. char_closed content rest h (Err at) bad) held
faulty_element text code (not_one_unit _ content rest units is held means other) = ap element_of is ∙ char_many content rest held units means other
faulty_element text code (sign_left_out _ units rest is longest alone out) =
    let low = sign_some text units rest is longest in
    let size = longest_is_read text units rest is longest in
    left_out_element_of text (λ z. absurd (omega (arith, z, size, low))) alone out
faulty_element text code (no_token _ some alone none) = no_sign_element_of text some (none_read text some none) alone

word_some_units : (text : List ℕ) → begins_word text ≡ true → 0 < length text
word_some_units [] begins = cc
word_some_units (c ∷ us) begins = omega arith

digit_some_units : (text : List ℕ) → is_digit_in 10 (get_or text 0 0) ≡ true → 0 < length text
digit_some_units [] digit = cc
digit_some_units (c ∷ us) digit = omega arith

-- the end of a text is no fault
pub faulty_some : (text : List ℕ) (code : FaultCode) → IsFaulty text code → 0 < length text
faulty_some text code (unended_comment _ comment is free) = omega (arith, ap length is)
faulty_some text code (word_left_out _ word rest is run begins out) = word_some_units text begins
faulty_some text code (floating_point _ run rest is longest word digit float) = digit_some_units text digit
faulty_some text code (no_numeral _ run rest is longest word digit whole number) = digit_some_units text digit
faulty_some text code (too_wide _ run rest is longest word digit whole number) = digit_some_units text digit
faulty_some text code (unclosed _ mark content rest which is free ends) = omega (arith, ap length is)
faulty_some text code (bad_escape _ mark content rest at which is held bad) = omega (arith, ap length is)
faulty_some text code (not_one_unit _ content rest units is held means other) = omega (arith, ap length is)
faulty_some text code (sign_left_out _ units rest is longest alone out) = omega (arith, ap length is ∙ length-append units rest, sign_some text units rest is longest)
faulty_some text code (no_token _ some alone none) = some
