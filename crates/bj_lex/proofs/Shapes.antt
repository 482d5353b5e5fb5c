-- Each element is derived by a rule of the grammar.
use Rattle.std.proofs.Common.{◌≡◌, ℕ, zero, suc, ◌+◌, ◌-◌, ◌<◌, ◌≤◌, Bool, true, false, not, ◌&&◌, cond, eqb, ltb, List, [], ◌∷◌, ◌++◌, length, take, drop, get_or, length-append, append-nil, ◌⊎◌, inl, inr, refl, sym, ap, ◌∙◌, subst, arith, append_assoc, Option, Some, None, option_map, Result, Ok, Err}
use borrow.Author.Tests.{eqb-true, eqb-false}
use Rattle.std.proofs.lemmas.List.{take-append-drop, length-take-le}
use Rattle.bj_text.specs.Unescape.{unescaped}
use Rattle.bj_token.specs.declared.token.TokenKind.{TokenKind}
use Rattle.bj_token.specs.declared.token.TokenKind.TheVariants.{Word, Keyword, CharText, StringText, Sign}
use Rattle.bj_lex.specs.declared.element.Element.{Element}
use Rattle.bj_lex.specs.declared.element.Element.TheVariants.{Blank, Token, Fault}
use Rattle.bj_lex.specs.declared.numbers.Numeral.{Numeral}
use Rattle.bj_lex.specs.declared.numbers.Numeral.TheVariants.{Malformed, TooWide, Value}
use Rattle.bj_base.specs.declared.fault.FaultCode.TheVariants.{Char, Profile, Open}
use Rattle.bj_lex.specs.Characters.{is_line_end, is_white, begins_word, begins_part, front_width, parts_len, parts_after}
use Rattle.bj_lex.specs.Comments.{is_comment_end, line_len, block_len, line_element, block_element}
use Rattle.bj_lex.specs.Literals.{closes, escapes, closing, closed, string_token, char_token, string_element, char_element}
use Rattle.bj_lex.specs.Numerals.{is_digit_in, is_float, numeral_of, number_kind, number_element, numeral_element}
use Rattle.bj_lex.specs.Signs.{sign_len, is_left_out_sign, sign_element}
use Rattle.bj_lex.specs.Words.{is_keyword, is_left_out, word_element}
use Rattle.bj_lex.specs.Elements.{begins_comment, marked_element, token_element, element_of}
use Rattle.bj_lex.specs.Grammar.{Spelled, IsOneLine, IsAtLineEnd, HasNoEnd, IsContent, IsUnclosed, quote, begins_other, Leads, IsFaulty, unended_comment, word_left_out, floating_point, no_numeral, too_wide, unclosed, bad_escape, not_one_unit, sign_left_out, no_token, white_space, end_of_line_comment, traditional_comment, identifier, keyword, integer, character, string, sign}
use Rattle.bj_lex.proofs.WordRuns.{taken_is_run}
use Rattle.bj_lex.proofs.LongestSigns.{taken_is_longest, sign_within, no_sign}
use Rattle.bj_lex.proofs.Letters.{or_false, word_has_parts, digit_has_parts}
use Rattle.bj_lex.proofs.Runs.{line_len-cons, line_len-nil, block_len-cons, block_len-nil, closing-cons, closing-nil}

-- a text is the units of an element and the rest, and what is derived of the rest, with these tokens before it, is derived of the text
pub record Split (us : List ℕ) (n : ℕ) (more : List ℕ → List Spelled → List Spelled) : Type 0 where
  pub units : List ℕ
  pub rest : List ℕ
  pub is : us ≡ units ++ rest
  pub size : length units ≡ n
  pub some : 1 ≤ n
  pub derives : (stop : List ℕ) (ts : List Spelled) → Leads stop rest ts → Leads stop us (more units ts)

abbrev pub Shape : List ℕ → Element → Type 0
Shape us (Blank n) = Split us n (λ units ts. ts)
Shape us (Token kind n) = Split us n (λ units ts. (kind, units) ∷ ts)
Shape us (Fault code) = IsFaulty us code

by_case : (us : List ℕ) (b : Bool) (x y : Element) → (b ≡ true → Shape us x) → (b ≡ false → Shape us y) → Shape us (cond b x y)
by_case us true x y f g = f refl
by_case us false x y f g = g refl

and_true : (a b : Bool) → (a && b) ≡ true → (a ≡ true) × (b ≡ true)
and_true true b e = (refl, e)
and_true false b e = cc

-- comments
record LineSplit (us : List ℕ) (n : ℕ) : Type 0 where
  comment : List ℕ
  rest : List ℕ
  is : us ≡ comment ++ rest
  size : length comment ≡ n
  free : IsOneLine comment
  ends : IsAtLineEnd rest

line_split : (us : List ℕ) → LineSplit us (line_len us)
line_split [] = record { comment = []; rest = []; is = refl; size = sym line_len-nil; free = tt; ends = tt }
line_split (u ∷ us) = at_unit u us (is_line_end u) refl (line_split us)
  where
    at_unit : (u : ℕ) (us : List ℕ) (t : Bool) → is_line_end u ≡ t → LineSplit us (line_len us) → LineSplit (u ∷ us) (line_len (u ∷ us))
    at_unit u us true e s = record { comment = []; rest = u ∷ us; is = refl; size = sym (line_len-cons u us ∙ ap (λ b. cond b 0 (suc (line_len us))) e); free = tt; ends = e }
    at_unit u us false e s = record {
      comment = u ∷ s.comment;
      rest = s.rest;
      is = ap (λ t. u ∷ t) s.is;
      size = ap suc s.size ∙ sym (line_len-cons u us ∙ ap (λ b. cond b 0 (suc (line_len us))) e);
      free = (e, s.free);
      ends = s.ends;
    }

suc_of : (o : Option ℕ) (n : ℕ) → option_map suc o ≡ Some n → (m : ℕ) × ((o ≡ Some m) × (n ≡ suc m))
suc_of None n e = cc
suc_of (Some m) n e = (m, (refl, cc))

record BlockSplit (us : List ℕ) (n : ℕ) : Type 0 where
  comment : List ℕ
  rest : List ℕ
  is : us ≡ comment ++ (42 ∷ 47 ∷ rest)
  size : length comment + 2 ≡ n
  free : HasNoEnd comment (42 ∷ 47 ∷ rest)

ends_here : (u : ℕ) (us : List ℕ) (n : ℕ) → is_comment_end u (get_or us 0 0) ≡ true → n ≡ 2 → BlockSplit (u ∷ us) n
ends_here u [] n e two = let parts = and_true (eqb u 42) (eqb 0 47) e in cc
ends_here u (v ∷ us) n e two =
    let parts = and_true (eqb u 42) (eqb v 47) e in
    let star = eqb-true u 42 parts.0 in
    let slash = eqb-true v 47 parts.1 in
    record { comment = []; rest = us; is = (λ i. star i ∷ slash i ∷ us); size = omega arith; free = tt }

block_split : (us : List ℕ) (n : ℕ) → block_len us ≡ Some n → BlockSplit us n
block_split [] n e = let none = block_len-nil in cc
block_split (u ∷ us) n e = at_unit u us n (is_comment_end u (get_or us 0 0)) refl e (block_split us)
  where
    at_unit : (u : ℕ) (us : List ℕ) (n : ℕ) (t : Bool) → is_comment_end u (get_or us 0 0) ≡ t → block_len (u ∷ us) ≡ Some n → ((m : ℕ) → block_len us ≡ Some m → BlockSplit us m) → BlockSplit (u ∷ us) n
    at_unit u us n true e f ih =
        let two : ◌≡◌ {A = Option ℕ} (Some 2) (Some n) = sym (block_len-cons u us ∙ ap (λ b. cond b (Some 2) (option_map suc (block_len us))) e) ∙ f in
        ends_here u us n e cc
    at_unit u us n false e f ih =
        let s = suc_of (block_len us) n (sym (block_len-cons u us ∙ ap (λ b. cond b (Some 2) (option_map suc (block_len us))) e) ∙ f) in
        let b = ih s.0 s.1.0 in
        record {
          comment = u ∷ b.comment;
          rest = b.rest;
          is = ap (λ t. u ∷ t) b.is;
          size = omega (arith, b.size, s.1.1);
          free = (ap (λ t. is_comment_end u (get_or t 0 0)) (sym b.is) ∙ e, b.free);
        }

none_of : (o : Option ℕ) → option_map suc o ≡ None → o ≡ None
none_of None e = refl
none_of (Some m) e = cc

no_end : (us : List ℕ) → block_len us ≡ None → HasNoEnd us []
no_end [] e = tt
no_end (u ∷ us) e = at_unit (is_comment_end u (get_or us 0 0)) refl (sym (block_len-cons u us) ∙ e) (no_end us)
  where
    at_unit : (t : Bool) → is_comment_end u (get_or us 0 0) ≡ t → cond (is_comment_end u (get_or us 0 0)) (Some 2) (option_map suc (block_len us)) ≡ None
        → (block_len us ≡ None → HasNoEnd us []) → HasNoEnd (u ∷ us) []
    at_unit true e f ih =
        let some : ◌≡◌ {A = Option ℕ} (Some 2) None = sym (ap (λ b. cond b (Some 2) (option_map suc (block_len us))) e) ∙ f in cc
    at_unit false e f ih =
        (ap (λ t. is_comment_end u (get_or t 0 0)) (append-nil us) ∙ e, ih (none_of (block_len us) (sym (ap (λ b. cond b (Some 2) (option_map suc (block_len us))) e) ∙ f)))

second_of : (second u v : ℕ) (us : List ℕ) → begins_comment second (u ∷ v ∷ us) ≡ true → (u ≡ 47) × (v ≡ second)
second_of second u v us e =
    let ab = and_true (ltb 1 (length (u ∷ v ∷ us)) && eqb u 47) (eqb v second) e in
    let a = and_true (ltb 1 (length (u ∷ v ∷ us))) (eqb u 47) ab.0 in
    (eqb-true u 47 a.1, eqb-true v second ab.1)

no_second : (second u : ℕ) → begins_comment second (u ∷ []) ≡ true → ⊥
no_second second u e = cc

line_shape : (u v : ℕ) (us : List ℕ) → u ≡ 47 → v ≡ 47 → Shape (u ∷ v ∷ us) (line_element us)
line_shape u v us e f =
    let s = line_split us in
    record {
      units = u ∷ v ∷ s.comment;
      rest = s.rest;
      is = ap (λ t. u ∷ v ∷ t) s.is;
      size = omega (arith, s.size);
      some = omega arith;
      derives = λ stop ts l. end_of_line_comment (u ∷ v ∷ us) ts s.comment s.rest (λ i. e i ∷ f i ∷ s.is i) s.free s.ends l;
    }

block_shape : (u v : ℕ) (us : List ℕ) → u ≡ 47 → v ≡ 42 → Shape (u ∷ v ∷ us) (block_element us)
block_shape u v us e f = found (block_len us) refl
  where
    found : (o : Option ℕ) → block_len us ≡ o → Shape (u ∷ v ∷ us) (elim o [ None ↦ Fault Open | Some n ↦ Blank (n + 2) ])
    found None is = unended_comment (u ∷ v ∷ us) us (λ i. e i ∷ f i ∷ us) (no_end us is)
    found (Some n) is =
        let s = block_split us n is in
        record {
          units = u ∷ v ∷ (s.comment ++ (42 ∷ 47 ∷ []));
          rest = s.rest;
          is = ap (λ t. u ∷ v ∷ t) (s.is ∙ sym (append_assoc s.comment (42 ∷ 47 ∷ []) s.rest));
          size = omega (arith, s.size, length-append s.comment (42 ∷ 47 ∷ []));
          some = omega arith;
          derives = λ stop ts l. traditional_comment (u ∷ v ∷ us) ts s.comment s.rest (λ i. e i ∷ f i ∷ s.is i) s.free l;
        }

-- words and numbers
parts_within : (n : ℕ) (us : List ℕ) → parts_after n us ≤ length us
unfolding parts_after
parts_within n [] = omega arith
parts_within (suc n) (u ∷ us) = omega (arith, parts_within n us)
parts_within zero (u ∷ us) = at_front (begins_part (u ∷ us)) (parts_after (front_width (u ∷ us) - 1) us) (length us) (parts_within (front_width (u ∷ us) - 1) us)
  where
    at_front : (b : Bool) (n m : ℕ) → n ≤ m → cond b (suc n) 0 ≤ suc m
    at_front true n m h = omega arith
    at_front false n m h = omega arith

-- the first n units as a token
taken : (us : List ℕ) (n : ℕ) (kind : TokenKind) → n ≤ length us → (n ≡ 0 → ⊥) → ((stop : List ℕ) (ts : List Spelled) → Leads stop (drop n us) ts → Leads stop us ((kind, take n us) ∷ ts)) → Shape us (Token kind n)
taken us n kind fits some derives = record {
  units = take n us;
  rest = drop n us;
  is = sym (take-append-drop n us);
  size = length-take-le n us fits;
  some = omega arith;
  derives = derives;
}

word_shape : (us : List ℕ) → (parts_len us ≡ 0 → ⊥) → begins_word us ≡ true → Shape us (word_element (parts_len us) (take (parts_len us) us))
word_shape us some begins =
    let n = parts_len us in
    let word = take n us in
    let fits = parts_within 0 us in
    let is = sym (take-append-drop n us) in
    let run = taken_is_run us in
    by_case us (is_left_out word) (Fault Profile) (cond (is_keyword word) (Token Keyword n) (Token Word n)) (λ out. word_left_out us word (drop n us) is run begins out)
    (λ kept. by_case us (is_keyword word) (Token Keyword n) (Token Word n)
    (λ key. taken us n Keyword fits some (λ stop ts l. keyword us ((Keyword, word) ∷ ts) word (drop n us) ts is run begins kept key refl l))
    (λ free. taken us n Word fits some (λ stop ts l. identifier us ((Word, word) ∷ ts) word (drop n us) ts is run begins kept free refl l)))

number_shape : (us : List ℕ) → (parts_len us ≡ 0 → ⊥) → begins_word us ≡ false → is_digit_in 10 (get_or us 0 0) ≡ true
    → Shape us (number_element (take (parts_len us) us) (drop (parts_len us) us))
number_shape us some begins digit =
    by_case us (is_float run after) (Fault Profile) (numeral_element run (numeral_of run)) (λ float. floating_point us run after is (taken_is_run us) begins digit float) (λ whole. of_numeral (numeral_of run) refl whole)
  where
    n : ℕ
    n = parts_len us

    run : List ℕ
    run = take (parts_len us) us

    after : List ℕ
    after = drop (parts_len us) us

    is : us ≡ run ++ after
    is = sym (take-append-drop (parts_len us) us)

    of_numeral : (m : Numeral) → numeral_of run ≡ m → is_float run after ≡ false → Shape us (numeral_element run m)
    of_numeral Malformed e whole = no_numeral us run after is (taken_is_run us) begins digit whole e
    of_numeral TooWide e whole = too_wide us run after is (taken_is_run us) begins digit whole e
    of_numeral (Value v) e whole =
        let fits = parts_within 0 us in
        let size = length-take-le (parts_len us) us fits in
        record {
          units = run;
          rest = after;
          is = is;
          size = refl;
          some = omega (arith, size, some);
          derives = λ stop ts l. integer us ((number_kind run, run) ∷ ts) run after ts v is (taken_is_run us) begins digit whole e refl l;
        }

-- literals in quotation marks
record ClosedSplit (mark : ℕ) (escaped : Bool) (us : List ℕ) (n : ℕ) : Type 0 where
  rest : List ℕ
  is : us ≡ take n us ++ (mark ∷ rest)
  size : length (take n us) ≡ n
  content : IsContent mark escaped (take n us)

closed_split : (mark : ℕ) (escaped : Bool) (us : List ℕ) (n : ℕ) → closing mark escaped us ≡ Some n → ClosedSplit mark escaped us n
closed_split mark escaped [] n e = let none = closing-nil mark escaped in cc
closed_split mark escaped (c ∷ cs) n e = at_line mark escaped c cs n (is_line_end c) refl (closes mark escaped c) refl (sym (closing-cons mark escaped c cs) ∙ e) (closed_split mark (escapes escaped c) cs)
  where
    open_mark : (escaped t : Bool) → (not escaped && t) ≡ true → (escaped ≡ false) × (t ≡ true)
    open_mark false t e = (refl, e)
    open_mark true t e = cc

    at_line : (mark : ℕ) (escaped : Bool) (c : ℕ) (cs : List ℕ) (n : ℕ) (t : Bool) → is_line_end c ≡ t → (s : Bool) → closes mark escaped c ≡ s
        → cond (is_line_end c) None (cond (closes mark escaped c) (Some 0) (option_map suc (closing mark (escapes escaped c) cs))) ≡ Some n
        → ((m : ℕ) → closing mark (escapes escaped c) cs ≡ Some m → ClosedSplit mark (escapes escaped c) cs m) → ClosedSplit mark escaped (c ∷ cs) n
    at_line mark escaped c cs n true e s f g ih =
        let none : ◌≡◌ {A = Option ℕ} None (Some n) = sym (ap (λ b. cond b None (cond (closes mark escaped c) (Some 0) (option_map suc (closing mark (escapes escaped c) cs)))) e) ∙ g in cc
    at_line mark escaped c cs n false e true f g ih =
        let zero_is : ◌≡◌ {A = Option ℕ} (Some 0) (Some n) = sym (ap (λ b. cond b None (cond (closes mark escaped c) (Some 0) (option_map suc (closing mark (escapes escaped c) cs)))) e
        ∙ ap (λ b. cond b (Some 0) (option_map suc (closing mark (escapes escaped c) cs))) f) ∙ g in
        let is : 0 ≡ n = cc in
        let parts = open_mark escaped (eqb c mark) f in
        let same = eqb-true c mark parts.1 in
        subst (λ (m : ℕ). ClosedSplit mark escaped (c ∷ cs) m) is (record { rest = cs; is = ap (λ u. u ∷ cs) same; size = refl; content = parts.0 })
    at_line mark escaped c cs n false e false f g ih =
        let s = suc_of (closing mark (escapes escaped c) cs) n (sym (ap (λ b. cond b None (cond (closes mark escaped c) (Some 0) (option_map suc (closing mark (escapes escaped c) cs)))) e
        ∙ ap (λ b. cond b (Some 0) (option_map suc (closing mark (escapes escaped c) cs))) f) ∙ g) in
        let r = ih s.0 s.1.0 in
        subst (λ (m : ℕ). ClosedSplit mark escaped (c ∷ cs) m) (sym s.1.1) (record { rest = r.rest; is = ap (λ t. c ∷ t) r.is; size = ap suc r.size; content = (e, f, r.content) })

record OpenSplit (mark : ℕ) (escaped : Bool) (us : List ℕ) : Type 0 where
  content : List ℕ
  rest : List ℕ
  is : us ≡ content ++ rest
  unclosed : IsUnclosed mark escaped content
  ends : IsAtLineEnd rest

open_split : (mark : ℕ) (escaped : Bool) (us : List ℕ) → closing mark escaped us ≡ None → OpenSplit mark escaped us
open_split mark escaped [] e = record { content = []; rest = []; is = refl; unclosed = tt; ends = tt }
open_split mark escaped (c ∷ cs) e = at_unit (is_line_end c) refl (closes mark escaped c) refl (sym (closing-cons mark escaped c cs) ∙ e) (open_split mark (escapes escaped c) cs)
  where
    at_unit : (t : Bool) → is_line_end c ≡ t → (s : Bool) → closes mark escaped c ≡ s
        → cond (is_line_end c) None (cond (closes mark escaped c) (Some 0) (option_map suc (closing mark (escapes escaped c) cs))) ≡ None
        → (closing mark (escapes escaped c) cs ≡ None → OpenSplit mark (escapes escaped c) cs) → OpenSplit mark escaped (c ∷ cs)
    at_unit true e s f g ih = record { content = []; rest = c ∷ cs; is = refl; unclosed = tt; ends = e }
    at_unit false e true f g ih =
        let some : ◌≡◌ {A = Option ℕ} (Some 0) None = sym (ap (λ b. cond b None (cond (closes mark escaped c) (Some 0) (option_map suc (closing mark (escapes escaped c) cs)))) e
        ∙ ap (λ b. cond b (Some 0) (option_map suc (closing mark (escapes escaped c) cs))) f) ∙ g in cc
    at_unit false e false f g ih =
        let r = ih (none_of (closing mark (escapes escaped c) cs) (sym (ap (λ b. cond b None (cond (closes mark escaped c) (Some 0) (option_map suc (closing mark (escapes escaped c) cs)))) e
        ∙ ap (λ b. cond b (Some 0) (option_map suc (closing mark (escapes escaped c) cs))) f) ∙ g)) in
        record { content = c ∷ r.content; rest = r.rest; is = ap (λ t. c ∷ t) r.is; unclosed = (e, f, r.unclosed); ends = r.ends }

open_literal : (mark c : ℕ) (us : List ℕ) → (mark ≡ 34) ⊎ (mark ≡ 39) → c ≡ mark → closing mark false us ≡ None → IsFaulty (c ∷ us) Open
open_literal mark c us which is e =
    let s = open_split mark false us e in unclosed (c ∷ us) mark s.content s.rest which (λ i. is i ∷ s.is i) s.unclosed s.ends

string_shape : (c : ℕ) (us : List ℕ) → c ≡ 34 → Shape (c ∷ us) (string_element us)
string_shape c us is = found (closing 34 false us) refl
  where
    found : (o : Option ℕ) → closing 34 false us ≡ o → Shape (c ∷ us) (closed (λ n. string_token n (unescaped (take n us))) o)
    found None e = open_literal 34 c us (inl refl) is e
    found (Some n) e = meant (unescaped (take n us)) refl
      where
        meant : (r : Result (List ℕ) ℕ) → unescaped (take n us) ≡ r → Shape (c ∷ us) (string_token n r)
        meant (Err at) f =
            let s = closed_split 34 false us n e in
            bad_escape (c ∷ us) 34 (take n us) s.rest at (inl refl) (λ i. is i ∷ s.is i) s.content f
        meant (Ok units) f =
            let s = closed_split 34 false us n e in
            let whole : c ∷ us ≡ 34 ∷ (take n us ++ (34 ∷ s.rest)) = (λ i. is i ∷ s.is i) in
            record {
              units = quote 34 (take n us);
              rest = s.rest;
              is = whole ∙ ap (λ t. 34 ∷ t) (sym (append_assoc (take n us) (34 ∷ []) s.rest));
              size = omega (arith, s.size, length-append (take n us) (34 ∷ []));
              some = omega arith;
              derives = λ stop ts l. string (c ∷ us) ((StringText, quote 34 (take n us)) ∷ ts) (take n us) s.rest units ts whole s.content f refl l;
            }

char_shape : (c : ℕ) (us : List ℕ) → c ≡ 39 → Shape (c ∷ us) (char_element us)
char_shape c us is = found (closing 39 false us) refl
  where
    found : (o : Option ℕ) → closing 39 false us ≡ o → Shape (c ∷ us) (closed (λ n. char_token n (unescaped (take n us))) o)
    found None e = open_literal 39 c us (inr refl) is e
    found (Some n) e = meant (unescaped (take n us)) refl
      where
        meant : (r : Result (List ℕ) ℕ) → unescaped (take n us) ≡ r → Shape (c ∷ us) (char_token n r)
        meant (Err at) f =
            let s = closed_split 39 false us n e in
            bad_escape (c ∷ us) 39 (take n us) s.rest at (inr refl) (λ i. is i ∷ s.is i) s.content f
        meant (Ok units) f =
            let s = closed_split 39 false us n e in
            let whole : c ∷ us ≡ 39 ∷ (take n us ++ (39 ∷ s.rest)) = (λ i. is i ∷ s.is i) in
            by_case (c ∷ us) (eqb (length units) 1) (Token CharText (n + 2)) (Fault Char)
            (λ one. record {
              units = quote 39 (take n us);
              rest = s.rest;
              is = whole ∙ ap (λ t. 39 ∷ t) (sym (append_assoc (take n us) (39 ∷ []) s.rest));
              size = omega (arith, s.size, length-append (take n us) (39 ∷ []));
              some = omega arith;
              derives = λ stop ts l. character (c ∷ us) ((CharText, quote 39 (take n us)) ∷ ts) (take n us) s.rest units ts whole s.content f (eqb-true (length units) 1 one) refl l;
            })
            (λ other. not_one_unit (c ∷ us) (take n us) s.rest units whole s.content f (eqb-false (length units) 1 other))

-- signs
sign_shape : (us : List ℕ) → 0 < length us → begins_other us ≡ false → Shape us (sign_element us)
sign_shape us some alone =
    let n = sign_len us in
    let fits = sign_within us some in
    by_case us (eqb n 0) (Fault Char) (cond (is_left_out_sign us) (Fault Profile) (Token Sign n)) (λ none. no_token us some alone (no_sign us (eqb-true n 0 none)))
    (λ ne. by_case us (is_left_out_sign us) (Fault Profile) (Token Sign n)
    (λ out. sign_left_out us (take n us) (drop n us) (sym (take-append-drop n us)) (taken_is_longest us some (eqb-false n 0 ne)) alone out)
    (λ kept. taken us n Sign fits (eqb-false n 0 ne)
    (λ stop ts l. sign us ((Sign, take n us) ∷ ts) (take n us) (drop n us) ts (sym (take-append-drop n us)) (taken_is_longest us some (eqb-false n 0 ne)) alone kept refl l)))

-- neither white space nor a comment begins
record IsPlain (c : ℕ) (us : List ℕ) : Type 0 where
  white : is_white c ≡ false
  line : begins_comment 47 (c ∷ us) ≡ false
  block : begins_comment 42 (c ∷ us) ≡ false

marked_shape : (c : ℕ) (us : List ℕ) → IsPlain c us → begins_word (c ∷ us) ≡ false → is_digit_in 10 c ≡ false → Shape (c ∷ us) (marked_element c (c ∷ us))
marked_shape c us plain word digit =
    by_case (c ∷ us) (eqb c 34) (string_element us) (cond (eqb c 39) (char_element us) (sign_element (c ∷ us))) (λ e. string_shape c us (eqb-true c 34 e))
    (λ double. by_case (c ∷ us) (eqb c 39) (char_element us) (sign_element (c ∷ us)) (λ e. char_shape c us (eqb-true c 39 e))
    (λ single. sign_shape (c ∷ us) (omega arith) (or_false _ (eqb c 39) (or_false _ (eqb c 34) (or_false _ (is_digit_in 10 c)
    (or_false _ (begins_word (c ∷ us)) (or_false _ (begins_comment 42 (c ∷ us)) (or_false (is_white c) (begins_comment 47 (c ∷ us)) plain.white plain.line) plain.block) word) digit) double) single)))

is_false : (b : Bool) → (b ≡ true → ⊥) → b ≡ false
is_false true h = absurd (h refl)
is_false false h = refl

token_shape : (c : ℕ) (us : List ℕ) → IsPlain c us → Shape (c ∷ us) (token_element c (c ∷ us))
token_shape c us plain =
    let n = parts_len (c ∷ us) in
    let word = word_element n (take n (c ∷ us)) in
    let number = number_element (take n (c ∷ us)) (drop n (c ∷ us)) in
    let marked = marked_element c (c ∷ us) in
    by_case (c ∷ us) (eqb n 0) marked (cond (begins_word (c ∷ us)) word (cond (is_digit_in 10 c) number marked))
    (λ none. marked_shape c us plain (is_false (begins_word (c ∷ us)) (λ e. word_has_parts (c ∷ us) e (eqb-true n 0 none))) (is_false (is_digit_in 10 c) (λ e. digit_has_parts c us e (eqb-true n 0 none))))
    (λ some. by_case (c ∷ us) (begins_word (c ∷ us)) word (cond (is_digit_in 10 c) number marked) (λ begins. word_shape (c ∷ us) (eqb-false n 0 some) begins)
    (λ other. by_case (c ∷ us) (is_digit_in 10 c) number marked (λ digit. number_shape (c ∷ us) (eqb-false n 0 some) other digit) (λ digit. marked_shape c us plain other digit)))

blank_shape : (c : ℕ) (us : List ℕ) → is_white c ≡ true → Shape (c ∷ us) (Blank 1)
blank_shape c us e = record { units = c ∷ []; rest = us; is = refl; size = refl; some = omega arith; derives = λ stop ts l. white_space (c ∷ us) ts c us refl e l }

pub shape_of : (c : ℕ) (us : List ℕ) → Shape (c ∷ us) (element_of (c ∷ us))
shape_of c us =
    let line = line_element (drop 1 us) in
    let block = block_element (drop 1 us) in
    let other = token_element c (c ∷ us) in
    by_case (c ∷ us) (is_white c) (Blank 1) (cond (begins_comment 47 (c ∷ us)) line (cond (begins_comment 42 (c ∷ us)) block other)) (blank_shape c us)
    (λ white. by_case (c ∷ us) (begins_comment 47 (c ∷ us)) line (cond (begins_comment 42 (c ∷ us)) block other) (line_case us)
    (λ no_line. by_case (c ∷ us) (begins_comment 42 (c ∷ us)) block other (block_case us)
    (λ no_block. token_shape c us (record { white = white; line = no_line; block = no_block }))))
  where
    line_case : (us : List ℕ) → begins_comment 47 (c ∷ us) ≡ true → Shape (c ∷ us) (line_element (drop 1 us))
    line_case [] e = absurd (no_second 47 c e)
    line_case (v ∷ us) e = let s = second_of 47 c v us e in line_shape c v us s.0 s.1

    block_case : (us : List ℕ) → begins_comment 42 (c ∷ us) ≡ true → Shape (c ∷ us) (block_element (drop 1 us))
    block_case [] e = absurd (no_second 42 c e)
    block_case (v ∷ us) e = let s = second_of 42 c v us e in block_shape c v us s.0 s.1
