-- The element at the front of a text, by what stands there.
use Rattle.std.proofs.Common.{◌≡◌, ℕ, suc, ◌+◌, ◌<◌, ◌≤◌, Bool, true, false, not, ◌&&◌, cond, eqb, ltb, List, [], ◌∷◌, ◌++◌, length, take, drop, get_or, refl, sym, ap, ◌∙◌, arith, append_assoc, length-append, Some, None, option_map, Ok}
use borrow.Author.Tests.{eq-eqb, ne_eqb, lt-ltb}
use Rattle.bj_text.specs.Unescape.{unescaped}
use Rattle.bj_token.specs.declared.token.TokenKind.TheVariants.{CharText, StringText, Sign}
use Rattle.bj_lex.specs.declared.element.Element.TheVariants.{Blank, Token, Fault}
use Rattle.bj_base.specs.declared.fault.FaultCode.TheVariants.{Char, Profile}
use Rattle.bj_lex.specs.Characters.{is_line_end, is_white, begins_word, parts_len}
use Rattle.bj_lex.specs.Comments.{line_len, block_len, line_element, block_element}
use Rattle.bj_lex.specs.Literals.{closes, escapes, closing, closed, string_token, char_token, string_element, char_element}
use Rattle.bj_lex.specs.Numerals.{is_digit_in, number_element}
use Rattle.bj_lex.specs.Signs.{sign_len, is_left_out_sign, sign_element}
use Rattle.bj_lex.specs.Words.{word_element}
use Rattle.bj_lex.specs.Elements.{begins_comment, marked_element, token_element, element_of}
use Rattle.bj_lex.specs.Grammar.{IsOneLine, IsAtLineEnd, HasNoEnd, IsContent, quote, begins_other}
use Rattle.bj_lex.proofs.Runs.{line_len-cons, line_len-nil, block_len-cons, closing-cons}
use Rattle.bj_lex.proofs.Cases.{word_token, number_token}
use Rattle.bj_lex.proofs.Letters.{or_none, word_has_parts, word_not_white, word_no_comment, digit_has_parts, digit_not_white, digit_no_comment, no_parts}
use Rattle.bj_lex.proofs.Sound.{units_of}

pub if_true : {A : Type 0} (b : Bool) (x y : A) → b ≡ true → cond b x y ≡ x
if_true b x y e = ap (λ t. cond t x y) e

pub if_false : {A : Type 0} (b : Bool) (x y : A) → b ≡ false → cond b x y ≡ y
if_false b x y e = ap (λ t. cond t x y) e

pub if_same : {A : Type 0} (b : Bool) (x : A) → cond b x x ≡ x
if_same true x = refl
if_same false x = refl

-- the chain of elements
module _ (c : ℕ) (us : List ℕ) where
  pub el_white : is_white c ≡ true → element_of (c ∷ us) ≡ Blank 1
  el_white e = if_true (is_white c) (Blank 1) (cond (begins_comment 47 (c ∷ us)) (line_element (drop 1 us)) (cond (begins_comment 42 (c ∷ us)) (block_element (drop 1 us)) (token_element c (c ∷ us)))) e

  pub el_line : is_white c ≡ false → begins_comment 47 (c ∷ us) ≡ true → element_of (c ∷ us) ≡ line_element (drop 1 us)
  el_line w e = if_false (is_white c) (Blank 1) (cond (begins_comment 47 (c ∷ us)) (line_element (drop 1 us)) (cond (begins_comment 42 (c ∷ us)) (block_element (drop 1 us)) (token_element c (c ∷ us)))) w
      ∙ if_true (begins_comment 47 (c ∷ us)) (line_element (drop 1 us)) (cond (begins_comment 42 (c ∷ us)) (block_element (drop 1 us)) (token_element c (c ∷ us))) e

  pub el_rest : is_white c ≡ false → begins_comment 47 (c ∷ us) ≡ false → element_of (c ∷ us) ≡ cond (begins_comment 42 (c ∷ us)) (block_element (drop 1 us)) (token_element c (c ∷ us))
  el_rest w e = if_false (is_white c) (Blank 1) (cond (begins_comment 47 (c ∷ us)) (line_element (drop 1 us)) (cond (begins_comment 42 (c ∷ us)) (block_element (drop 1 us)) (token_element c (c ∷ us)))) w
      ∙ if_false (begins_comment 47 (c ∷ us)) (line_element (drop 1 us)) (cond (begins_comment 42 (c ∷ us)) (block_element (drop 1 us)) (token_element c (c ∷ us))) e

  pub el_block : is_white c ≡ false → begins_comment 47 (c ∷ us) ≡ false → begins_comment 42 (c ∷ us) ≡ true → element_of (c ∷ us) ≡ block_element (drop 1 us)
  el_block w e f = el_rest w e ∙ if_true (begins_comment 42 (c ∷ us)) (block_element (drop 1 us)) (token_element c (c ∷ us)) f

  pub el_token : is_white c ≡ false → begins_comment 47 (c ∷ us) ≡ false → begins_comment 42 (c ∷ us) ≡ false → element_of (c ∷ us) ≡ token_element c (c ∷ us)
  el_token w e f = el_rest w e ∙ if_false (begins_comment 42 (c ∷ us)) (block_element (drop 1 us)) (token_element c (c ∷ us)) f

  pub el_marked : begins_word (c ∷ us) ≡ false → is_digit_in 10 c ≡ false → token_element c (c ∷ us) ≡ marked_element c (c ∷ us)
  el_marked w d =
      let n = parts_len (c ∷ us) in
      let marked = marked_element c (c ∷ us) in
      let word = word_element n (take n (c ∷ us)) in
      let number = number_element (take n (c ∷ us)) (drop n (c ∷ us)) in
      ap (λ x. cond (eqb n 0) marked x) (if_false (begins_word (c ∷ us)) word (cond (is_digit_in 10 c) number marked) w ∙ if_false (is_digit_in 10 c) number marked d) ∙ if_same (eqb n 0) marked

-- comments and literals, as far as they go
pub line_len_is : (comment rest : List ℕ) → IsOneLine comment → IsAtLineEnd rest → line_len (comment ++ rest) ≡ length comment
line_len_is [] [] free ends = line_len-nil
line_len_is [] (u ∷ us) free ends = line_len-cons u us ∙ ap (λ b. cond b 0 (suc (line_len us))) ends
line_len_is (u ∷ comment) rest free ends =
    line_len-cons u (comment ++ rest) ∙ ap (λ b. cond b 0 (suc (line_len (comment ++ rest)))) free.0 ∙ ap suc (line_len_is comment rest free.1 ends)

pub block_len_is : (comment rest : List ℕ) → HasNoEnd comment (42 ∷ 47 ∷ rest) → block_len (comment ++ (42 ∷ 47 ∷ rest)) ≡ Some (length comment + 2)
block_len_is [] rest free = block_len-cons 42 (47 ∷ rest)
block_len_is (u ∷ comment) rest free =
    let us = comment ++ (42 ∷ 47 ∷ rest) in
    block_len-cons u us ∙ ap (λ b. cond b (Some 2) (option_map suc (block_len us))) free.0 ∙ ap (option_map suc) (block_len_is comment rest free.1) ∙ ap Some (omega arith)

pub closing_is : (mark : ℕ) (escaped : Bool) (content rest : List ℕ) → is_line_end mark ≡ false → IsContent mark escaped content → closing mark escaped (content ++ (mark ∷ rest)) ≡ Some (length content)
closing_is mark escaped [] rest line h =
    closing-cons mark escaped mark rest
    ∙ ap (λ b. cond b None (cond (closes mark escaped mark) (Some 0) (option_map suc (closing mark (escapes escaped mark) rest)))) line
    ∙ ap (λ b. cond b (Some 0) (option_map suc (closing mark (escapes escaped mark) rest))) (ap (λ b. not b && eqb mark mark) h ∙ eq-eqb mark mark refl)
closing_is mark escaped (c ∷ cs) rest line h =
    let us = cs ++ (mark ∷ rest) in
    closing-cons mark escaped c us
    ∙ ap (λ b. cond b None (cond (closes mark escaped c) (Some 0) (option_map suc (closing mark (escapes escaped c) us)))) h.0
    ∙ ap (λ b. cond b (Some 0) (option_map suc (closing mark (escapes escaped c) us))) h.1
    ∙ ap (option_map suc) (closing_is mark (escapes escaped c) cs rest line h.2)

-- a slash, and what stands behind it
pub two_units : (v : ℕ) (us : List ℕ) (second : ℕ) → eqb v second ≡ true → begins_comment second (47 ∷ v ∷ us) ≡ true
two_units v us second e = ap (λ b. (b && true) && eqb v second) (lt-ltb 1 (length (47 ∷ v ∷ us)) (omega arith)) ∙ e

pub other_second : (v : ℕ) (us : List ℕ) (second : ℕ) → eqb v second ≡ false → begins_comment second (47 ∷ v ∷ us) ≡ false
other_second v us second e = ap (λ b. (b && true) && eqb v second) (lt-ltb 1 (length (47 ∷ v ∷ us)) (omega arith)) ∙ e

pub no_slash : (c : ℕ) (us : List ℕ) (second : ℕ) → eqb c 47 ≡ false → begins_comment second (c ∷ us) ≡ false
no_slash c us second e = mid (ltb 1 (length (c ∷ us))) (eqb c 47) (eqb (get_or (c ∷ us) 1 0) second) e
  where
    mid : (a b d : Bool) → b ≡ false → ((a && b) && d) ≡ false
    mid true b d e = ap (λ t. t && d) e
    mid false b d e = refl

-- the element of a word
pub word_element_of : (text : List ℕ) (word : List ℕ) (n : ℕ) → n ≡ parts_len text → take n text ≡ word → begins_word text ≡ true → element_of text ≡ word_element n word
word_element_of [] word n is w begins = cc
word_element_of (c ∷ us) word n is w begins =
    el_token c us (word_not_white c us begins) (word_no_comment 47 c us begins) (word_no_comment 42 c us begins)
    ∙ word_token c (c ∷ us) (word_has_parts (c ∷ us) begins) begins ∙ ap (λ k. word_element k (take k (c ∷ us))) (sym is) ∙ ap (word_element n) w

pub word_some : (text : List ℕ) (n : ℕ) → n ≡ parts_len text → begins_word text ≡ true → 1 ≤ n
word_some text n is begins = let some = word_has_parts text begins in omega arith

pub number_element_of : (text run rest : List ℕ) (n : ℕ) → n ≡ parts_len text → take n text ≡ run → drop n text ≡ rest → begins_word text ≡ false → is_digit_in 10 (get_or text 0 0) ≡ true
    → element_of text ≡ number_element run rest
number_element_of [] run rest n is r d word digit = cc
number_element_of (c ∷ us) run rest n is r d word digit =
    el_token c us (digit_not_white c digit) (digit_no_comment 47 c us digit) (digit_no_comment 42 c us digit)
    ∙ number_token c (c ∷ us) (digit_has_parts c us digit) word digit ∙ ap (λ k. number_element (take k (c ∷ us)) (drop k (c ∷ us))) (sym is)
    ∙ ap (λ t. number_element t (drop n (c ∷ us))) r ∙ ap (number_element run) d

pub number_some : (text : List ℕ) (n : ℕ) → n ≡ parts_len text → is_digit_in 10 (get_or text 0 0) ≡ true → 1 ≤ n
number_some [] n is digit = cc
number_some (c ∷ us) n is digit = let some = digit_has_parts c us digit in omega arith

-- where nothing else begins, a sign is looked for
pub sign_chain : (text : List ℕ) → 0 < length text → begins_other text ≡ false → element_of text ≡ sign_element text
sign_chain [] some alone = absurd (omega arith)
sign_chain (c ∷ us) some alone =
    let a = or_none _ (eqb c 39) alone in
    let b = or_none _ (eqb c 34) a.0 in
    let d = or_none _ (is_digit_in 10 c) b.0 in
    let e = or_none _ (begins_word (c ∷ us)) d.0 in
    let f = or_none _ (begins_comment 42 (c ∷ us)) e.0 in
    let g = or_none (is_white c) (begins_comment 47 (c ∷ us)) f.0 in
    el_token c us g.0 g.1 f.1 ∙ el_marked c us e.1 d.1
    ∙ if_false (eqb c 34) (string_element us) (cond (eqb c 39) (char_element us) (sign_element (c ∷ us))) b.1 ∙ if_false (eqb c 39) (char_element us) (sign_element (c ∷ us)) a.1

sign_some_units : (text : List ℕ) → (sign_len text ≡ 0 → ⊥) → 0 < length text
sign_some_units [] some = absurd (some refl)
sign_some_units (c ∷ us) some = omega arith

pub sign_element_of : (text : List ℕ) → (sign_len text ≡ 0 → ⊥) → begins_other text ≡ false → is_left_out_sign text ≡ false → element_of text ≡ Token Sign (sign_len text)
sign_element_of text some alone kept =
    let n = sign_len text in
    sign_chain text (sign_some_units text some) alone
    ∙ if_false (eqb n 0) (Fault Char) (cond (is_left_out_sign text) (Fault Profile) (Token Sign n)) (ne_eqb n 0 some) ∙ if_false (is_left_out_sign text) (Fault Profile) (Token Sign n) kept

pub left_out_element_of : (text : List ℕ) → (sign_len text ≡ 0 → ⊥) → begins_other text ≡ false → is_left_out_sign text ≡ true → element_of text ≡ Fault Profile
left_out_element_of text some alone out =
    let n = sign_len text in
    sign_chain text (sign_some_units text some) alone
    ∙ if_false (eqb n 0) (Fault Char) (cond (is_left_out_sign text) (Fault Profile) (Token Sign n)) (ne_eqb n 0 some) ∙ if_true (is_left_out_sign text) (Fault Profile) (Token Sign n) out

pub no_sign_element_of : (text : List ℕ) → 0 < length text → sign_len text ≡ 0 → begins_other text ≡ false → element_of text ≡ Fault Char
no_sign_element_of text some none alone =
    let n = sign_len text in
    sign_chain text some alone ∙ if_true (eqb n 0) (Fault Char) (cond (is_left_out_sign text) (Fault Profile) (Token Sign n)) (eq-eqb n 0 none)

-- a literal in quotation marks: the unit is no part of a word, no digit, no white space and no slash
pub quote_element : (c : ℕ) (us : List ℕ) → parts_len (c ∷ us) ≡ 0 → is_white c ≡ false → eqb c 47 ≡ false → element_of (c ∷ us) ≡ marked_element c (c ∷ us)
quote_element c us none white slash =
    let n = parts_len (c ∷ us) in
    el_token c us white (no_slash c us 47 slash) (no_slash c us 42 slash)
    ∙ if_true (eqb n 0) (marked_element c (c ∷ us)) (cond (begins_word (c ∷ us)) (word_element n (take n (c ∷ us))) (cond (is_digit_in 10 c) (number_element (take n (c ∷ us)) (drop n (c ∷ us))) (marked_element c (c ∷ us))))
    (eq-eqb n 0 none)

pub string_element_of : (content rest units : List ℕ) → IsContent 34 false content → unescaped content ≡ Ok units → element_of (34 ∷ (content ++ 34 ∷ rest)) ≡ Token StringText (length content + 2)
string_element_of content rest units h e =
    let us = content ++ 34 ∷ rest in
    quote_element 34 us (no_parts 34 us (omega arith) refl) refl refl ∙ ap (closed (λ n. string_token n (unescaped (take n us)))) (closing_is 34 false content rest refl h)
    ∙ ap (λ t. string_token (length content) (unescaped t)) (units_of us content (34 ∷ rest) (length content) refl refl) ∙ ap (string_token (length content)) e

pub char_element_of : (content rest units : List ℕ) → IsContent 39 false content → unescaped content ≡ Ok units → length units ≡ 1 → element_of (39 ∷ (content ++ 39 ∷ rest)) ≡ Token CharText (length content + 2)
char_element_of content rest units h e one =
    let us = content ++ 39 ∷ rest in
    quote_element 39 us (no_parts 39 us (omega arith) refl) refl refl ∙ ap (closed (λ n. char_token n (unescaped (take n us)))) (closing_is 39 false content rest refl h)
    ∙ ap (λ t. char_token (length content) (unescaped t)) (units_of us content (39 ∷ rest) (length content) refl refl) ∙ ap (char_token (length content)) e
    ∙ if_true (eqb (length units) 1) (Token CharText (length content + 2)) (Fault Char) (eq-eqb (length units) 1 one)

pub quote_size : (mark : ℕ) (content : List ℕ) → length (quote mark content) ≡ length content + 2
quote_size mark content = omega (arith, length-append content (mark ∷ []))

pub quote_split : (mark : ℕ) (content rest : List ℕ) → (mark ∷ (content ++ mark ∷ rest)) ≡ quote mark content ++ rest
quote_split mark content rest = ap (λ t. mark ∷ t) (sym (append_assoc content (mark ∷ []) rest))
