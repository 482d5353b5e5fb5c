-- What a token is, by its kind, wherever it stands.
use Rattle.std.proofs.Common.{◌≡◌, ℕ, Bool, true, false, ◌&&◌, cond, ltb, List, [], ◌∷◌, ◌++◌, length, get_or, refl, sym, ap, ◌∙◌, subst, arith, Some, Ok, inl, inr}
use borrow.Author.Tests.{ltb-true, leb-true}
use Rattle.std.specs.List.{list_all}
use Rattle.std.specs.Char.Utf16.{surrogate_pair_char, lone_unit_char, is_high_surrogate, is_low_surrogate, utf16_chars}
use Rattle.std.proofs.str.Utf16.{lone_unit_char_surrogate}
use Rattle.bj_text.specs.Unescape.{unescaped}
use Rattle.bj_token.specs.declared.token.TokenKind.{TokenKind}
use Rattle.bj_token.specs.declared.token.TokenKind.TheVariants.{Word, Keyword, Number, LongNumber, CharText, StringText, Sign}
use Rattle.bj_lex.specs.declared.numbers.Numeral.TheVariants.{Value}
use Rattle.bj_lex.specs.Characters.{is_pair, front_char, passes, is_part_char, is_letter_char, begins_word}
use Rattle.bj_lex.specs.Numerals.{is_digit_in, is_long, is_float, numeral_of, number_kind}
use Rattle.bj_lex.specs.Signs.{is_sign, is_left_out_sign}
use Rattle.bj_lex.specs.Words.{is_keyword, is_left_out}
use Rattle.bj_lex.specs.Grammar.{Spelled, IsContent, IsParts, IsRun, quote, begins_other, Leads, here, white_space, end_of_line_comment, traditional_comment, identifier, keyword, integer, character, string, sign}
use Rattle.bj_lex.proofs.Letters.{word_has_parts, digit_has_parts}
use Rattle.bj_lex.proofs.Runs.{parts_stop}
use Rattle.bj_writer.specs.Tokens.{StandsIn}
use Rattle.bj_writer.proofs.Conditions.{and_true}

pub record IsWord (units : List ℕ) : Type 0 where
  pub parts : IsParts units
  pub begins : begins_word units ≡ true
  pub kept : is_left_out units ≡ false

pub record IsNumber (units : List ℕ) : Type 0 where
  pub parts : IsParts units
  pub no_word : begins_word units ≡ false
  pub digit : is_digit_in 10 (get_or units 0 0) ≡ true
  -- what it stood before
  pub before : List ℕ
  pub whole : is_float units before ≡ false
  pub value : ℕ
  pub stands_for : numeral_of units ≡ Value value

pub record IsQuoted (mark : ℕ) (units : List ℕ) : Type 0 where
  pub content : List ℕ
  pub is : units ≡ quote mark content
  pub inside : IsContent mark false content
  pub meant : List ℕ
  pub means : unescaped content ≡ Ok meant

pub record IsMarkSign (units : List ℕ) : Type 0 where
  pub is : is_sign units ≡ true
  -- what it stood before
  pub before : List ℕ
  pub alone : begins_other (units ++ before) ≡ false
  pub kept : is_left_out_sign (units ++ before) ≡ false

pub record IsCharacter (units : List ℕ) : Type 0 where
  pub quoted : IsQuoted 39 units
  pub one : length quoted.meant ≡ 1

abbrev pub IsMark : TokenKind → List ℕ → Type 0
IsMark Word units = IsWord units × (is_keyword units ≡ false)
IsMark Keyword units = IsWord units × (is_keyword units ≡ true)
IsMark Number units = IsNumber units × (number_kind units ≡ Number)
IsMark LongNumber units = IsNumber units × (number_kind units ≡ LongNumber)
IsMark CharText units = IsCharacter units
IsMark StringText units = IsQuoted 34 units
IsMark Sign units = IsMarkSign units

chars_lone : (u : ℕ) → utf16_chars (u ∷ []) ≡ lone_unit_char u ∷ []
unfolding utf16_chars
chars_lone u = refl

-- a unit that is a letter or digit alone is no half of a pair
no_half : (u v : ℕ) → passes is_part_char (lone_unit_char u) ≡ true → is_pair u v ≡ false
no_half u v part = of_high (is_high_surrogate u) refl
  where
    of_high : (t : Bool) → is_high_surrogate u ≡ t → is_pair u v ≡ false
    of_high false e = ap (λ b. b && is_low_surrogate v) e
    of_high true e =
        let range = and_true _ (ltb u 0xDC00) e in
        let low = leb-true 0xD800 u range.0 in
        let high = ltb-true u 0xDC00 range.1 in
        let none = ap (passes is_part_char) (lone_unit_char_surrogate u low (omega arith)) in
        cc

-- the first character of a run does not depend on what follows it
pub same_front : (u : ℕ) (word rest : List ℕ) → IsParts (u ∷ word) → front_char (u ∷ (word ++ rest)) ≡ front_char (u ∷ word)
same_front u [] rest parts =
    let part = (and_true (passes is_part_char (lone_unit_char u)) true (ap (list_all (passes is_part_char)) (sym (chars_lone u)) ∙ parts)).0 in
    ap (λ b. cond b (Some (surrogate_pair_char u (get_or rest 0 0))) (lone_unit_char u)) (no_half u (get_or rest 0 0) part) ∙ sym (ap (λ b. cond b (Some (surrogate_pair_char u 0)) (lone_unit_char u)) (no_half u 0 part))
same_front u (v ∷ word) rest parts = refl

-- a run that begins with a letter or a digit has a unit
pub word_front : (word rest : List ℕ) → IsRun word rest → begins_word (word ++ rest) ≡ true → begins_word word ≡ true
word_front [] rest run begins = absurd (word_has_parts rest begins (parts_stop rest run.1))
word_front (u ∷ word) rest run begins = ap (passes is_letter_char) (sym (same_front u word rest run.0)) ∙ begins

pub digit_front : (run rest : List ℕ) → IsRun run rest → is_digit_in 10 (get_or (run ++ rest) 0 0) ≡ true → (is_digit_in 10 (get_or run 0 0) ≡ true) × (begins_word (run ++ rest) ≡ begins_word run)
digit_front [] [] run digit = cc
digit_front [] (u ∷ rest) run digit = absurd (digit_has_parts u rest digit (parts_stop (u ∷ rest) run.1))
digit_front (u ∷ word) rest run digit = (digit, ap (passes is_letter_char) (same_front u word rest run.0))

number_mark : (run : List ℕ) → IsNumber run → IsMark (number_kind run) run
number_mark run number = by_test (is_long run) refl
  where
    by_test : (t : Bool) → is_long run ≡ t → IsMark (number_kind run) run
    by_test true e = let kind = ap (λ b. cond b LongNumber Number) e in subst (λ (k : TokenKind). IsMark k run) (sym kind) (number, kind)
    by_test false e = let kind = ap (λ b. cond b LongNumber Number) e in subst (λ (k : TokenKind). IsMark k run) (sym kind) (number, kind)

-- a token at the front, or one behind it
module _ (t : Spelled) where
  first_or : (tokens : List Spelled) (kind : TokenKind) (units : List ℕ) (ts : List Spelled) → tokens ≡ (kind, units) ∷ ts → IsMark kind units → (StandsIn t ts → IsMark t.0 t.1) → StandsIn t tokens → IsMark t.0 t.1
  first_or tokens kind units ts is mark more stands = elim (subst (StandsIn t) is stands) [
    | inl e ↦ subst (λ (s : Spelled). IsMark s.0 s.1) (sym e) mark
    | inr later ↦ more later
  ]

  pub mark_of : (stop text : List ℕ) (tokens : List Spelled) → Leads stop text tokens → StandsIn t tokens → IsMark t.0 t.1
  mark_of stop text tokens (here _ _ is none) stands = absurd (subst (StandsIn t) none stands)
  mark_of stop text tokens (white_space _ _ u rest is white l) stands = mark_of stop rest tokens l stands
  mark_of stop text tokens (end_of_line_comment _ _ comment rest is free ends l) stands = mark_of stop rest tokens l stands
  mark_of stop text tokens (traditional_comment _ _ comment rest is free l) stands = mark_of stop rest tokens l stands
  mark_of stop text tokens (identifier _ _ word rest ts is run begins kept free same l) stands =
      let known : IsWord word = record { parts = run.0; begins = word_front word rest run (ap begins_word (sym is) ∙ begins); kept = kept } in
      first_or tokens Word word ts same (known, free) (mark_of stop rest ts l) stands
  mark_of stop text tokens (keyword _ _ word rest ts is run begins kept key same l) stands =
      let known : IsWord word = record { parts = run.0; begins = word_front word rest run (ap begins_word (sym is) ∙ begins); kept = kept } in
      first_or tokens Keyword word ts same (known, key) (mark_of stop rest ts l) stands
  mark_of stop text tokens (integer _ _ run rest ts v is longest no_word digit whole number same l) stands =
      let front = digit_front run rest longest (ap (λ us. is_digit_in 10 (get_or us 0 0)) (sym is) ∙ digit) in
      let known : IsNumber run = record { parts = longest.0; no_word = sym front.1 ∙ ap begins_word (sym is) ∙ no_word; digit = front.0; before = rest; whole = whole; value = v; stands_for = number } in
      first_or tokens (number_kind run) run ts same (number_mark run known) (mark_of stop rest ts l) stands
  mark_of stop text tokens (character _ _ content rest units ts is free means one same l) stands =
      first_or tokens CharText (quote 39 content) ts same (record { quoted = record { content = content; is = refl; inside = free; meant = units; means = means }; one = one }) (mark_of stop rest ts l) stands
  mark_of stop text tokens (string _ _ content rest units ts is free means same l) stands =
      first_or tokens StringText (quote 34 content) ts same (record { content = content; is = refl; inside = free; meant = units; means = means }) (mark_of stop rest ts l) stands
  mark_of stop text tokens (sign _ _ units rest ts is longest alone kept same l) stands =
      first_or tokens Sign units ts same (record { is = longest.0; before = rest; alone = ap begins_other (sym is) ∙ alone; kept = ap is_left_out_sign (sym is) ∙ kept }) (mark_of stop rest ts l) stands
