-- The lexical grammar as a relation: a text, and the kinds and spellings of its tokens. A constructor is a rule of the JLS, chapter 3.
use Rattle.std.specs.Prelude.{◌≡◌, ℕ, Bool, true, false, ◌||◌, ◌==◌, List, [], ◌∷◌, ◌++◌, ◌<◌, ◌≤◌, ◌⊎◌, length, slice_index, Ok, Err}
use Rattle.std.specs.List.{list_all}
use Rattle.std.specs.Char.Utf16.{utf16_chars}
use Rattle.bj_text.specs.Unescape.{unescaped}
use Rattle.bj_token.specs.declared.token.TokenKind.{TokenKind}
use Rattle.bj_token.specs.declared.token.TokenKind.TheVariants.{Word, Keyword, CharText, StringText, Sign}
use Rattle.bj_token.specs.declared.token.Token.{Token as Lexeme}
use Rattle.bj_lex.specs.declared.place.Place.{Place}
use Rattle.bj_lex.specs.Texts.{Read, read}
use Rattle.bj_lex.specs.Places.{start, place_after}
use Rattle.bj_base.specs.declared.fault.FaultCode.{FaultCode}
use Rattle.bj_base.specs.declared.fault.FaultCode.TheVariants.{Char, Open, Wide, Profile}
use Rattle.bj_lex.specs.declared.numbers.Numeral.TheVariants.{Malformed, TooWide, Value}
use Rattle.bj_lex.specs.Characters.{is_line_end, is_white, passes, is_part_char, begins_word, begins_part}
use Rattle.bj_lex.specs.Comments.{is_comment_end}
use Rattle.bj_lex.specs.Elements.{begins_comment}
use Rattle.bj_lex.specs.Literals.{closes, escapes}
use Rattle.bj_lex.specs.Numerals.{is_digit_in, is_float, numeral_of, number_kind}
use Rattle.bj_lex.specs.Signs.{is_sign, is_left_out_sign}
use Rattle.bj_lex.specs.Words.{is_keyword, is_left_out}

-- a token's kind and its units
abbrev pub Spelled : Type 0
Spelled = TokenKind × List ℕ

abbrev pub spelled : List Lexeme → List Spelled
spelled [] = []
spelled (t ∷ ts) = (t.kind, t.text) ∷ spelled ts

-- no line ends among the units
abbrev pub IsOneLine : List ℕ → Type 0
IsOneLine [] = Unit {0}
IsOneLine (u ∷ us) = (is_line_end u ≡ false) × IsOneLine us

-- a line end follows, or nothing
abbrev pub IsAtLineEnd : List ℕ → Type 0
IsAtLineEnd [] = Unit {0}
IsAtLineEnd (u ∷ us) = is_line_end u ≡ true

-- no `*/` begins among the units, before what follows
abbrev pub HasNoEnd : List ℕ → List ℕ → Type 0
HasNoEnd [] after = Unit {0}
HasNoEnd (u ∷ us) after = (is_comment_end u (slice_index (us ++ after) 0) ≡ false) × HasNoEnd us after

-- no line end and no quotation mark but an escaped one stands among the units, and a backslash does not escape what follows
abbrev pub IsContent : ℕ → Bool → List ℕ → Type 0
IsContent mark escaped [] = escaped ≡ false
IsContent mark escaped (c ∷ cs) = (is_line_end c ≡ false) × (closes mark escaped c ≡ false) × IsContent mark (escapes escaped c) cs

-- a literal in quotation marks
abbrev pub quote : ℕ → List ℕ → List ℕ
quote mark content = mark ∷ (content ++ mark ∷ [])

-- white space, a comment, a word, a number or a literal in quotation marks begins
abbrev pub begins_other : List ℕ → Bool
begins_other us = let c = slice_index us 0 in
    is_white c || begins_comment 47 us || begins_comment 42 us || begins_word us || is_digit_in 10 c || (c == 34) || (c == 39)

-- the units spell Java letters and digits, and nothing else
abbrev pub IsParts : List ℕ → Type 0
IsParts us = list_all (passes is_part_char) (utf16_chars us) ≡ true

-- Java letters and digits, behind which no further one stands
abbrev pub IsRun : List ℕ → List ℕ → Type 0
IsRun word rest = IsParts word × (begins_part rest ≡ false)

-- a sign stands at the front, and no longer one does
abbrev pub IsLongestSign : List ℕ → List ℕ → Type 0
IsLongestSign text units = (is_sign units ≡ true) × ((longer rest : List ℕ) → text ≡ longer ++ rest → is_sign longer ≡ true → length longer ≤ length units)

-- a text begins with these tokens, and white space and comments between them, up to a rest of it
pub data Leads (stop : List ℕ) : List ℕ → List Spelled → Type 0 where
  here : (text : List ℕ) (tokens : List Spelled) → text ≡ stop → tokens ≡ [] → Leads stop text tokens
  -- [3.6] WhiteSpace
  white_space : (text : List ℕ) (tokens : List Spelled) (u : ℕ) (rest : List ℕ) → text ≡ u ∷ rest → is_white u ≡ true → Leads stop rest tokens → Leads stop text tokens
  -- [3.7] EndOfLineComment
  end_of_line_comment : (text : List ℕ) (tokens : List Spelled) (comment rest : List ℕ) → text ≡ 47 ∷ 47 ∷ (comment ++ rest) → IsOneLine comment → IsAtLineEnd rest
      → Leads stop rest tokens → Leads stop text tokens
  -- [3.7] TraditionalComment, to the first `*/`
  traditional_comment : (text : List ℕ) (tokens : List Spelled) (comment rest : List ℕ) → text ≡ 47 ∷ 42 ∷ (comment ++ (42 ∷ 47 ∷ rest)) → HasNoEnd comment (42 ∷ 47 ∷ rest)
      → Leads stop rest tokens → Leads stop text tokens
  -- [3.8] Identifier: the longest run of Java letters and digits that begins with a letter, and is no keyword
  identifier : (text : List ℕ) (tokens : List Spelled) (word rest : List ℕ) (ts : List Spelled) → text ≡ word ++ rest → IsRun word rest → begins_word text ≡ true
      → is_left_out word ≡ false → is_keyword word ≡ false → tokens ≡ (Word, word) ∷ ts → Leads stop rest ts → Leads stop text tokens
  -- [3.9, 3.10.3, 3.10.7] Keyword, BooleanLiteral, NullLiteral
  keyword : (text : List ℕ) (tokens : List Spelled) (word rest : List ℕ) (ts : List Spelled) → text ≡ word ++ rest → IsRun word rest → begins_word text ≡ true
      → is_left_out word ≡ false → is_keyword word ≡ true → tokens ≡ (Keyword, word) ∷ ts → Leads stop rest ts → Leads stop text tokens
  -- [3.10.1] IntegerLiteral, where no floating-point literal is longer
  integer : (text : List ℕ) (tokens : List Spelled) (run rest : List ℕ) (ts : List Spelled) (v : ℕ) → text ≡ run ++ rest → IsRun run rest → begins_word text ≡ false
      → is_digit_in 10 (slice_index text 0) ≡ true → is_float run rest ≡ false → numeral_of run ≡ Value v → tokens ≡ (number_kind run, run) ∷ ts → Leads stop rest ts → Leads stop text tokens
  -- [3.10.4] CharacterLiteral
  character : (text : List ℕ) (tokens : List Spelled) (content rest units : List ℕ) (ts : List Spelled) → text ≡ 39 ∷ (content ++ 39 ∷ rest) → IsContent 39 false content
      → unescaped content ≡ Ok units → length units ≡ 1 → tokens ≡ (CharText, quote 39 content) ∷ ts → Leads stop rest ts → Leads stop text tokens
  -- [3.10.5] StringLiteral
  string : (text : List ℕ) (tokens : List Spelled) (content rest units : List ℕ) (ts : List Spelled) → text ≡ 34 ∷ (content ++ 34 ∷ rest) → IsContent 34 false content
      → unescaped content ≡ Ok units → tokens ≡ (StringText, quote 34 content) ∷ ts → Leads stop rest ts → Leads stop text tokens
  -- [3.11, 3.12] Separator, Operator, and `@`: the longest, where no other element begins
  sign : (text : List ℕ) (tokens : List Spelled) (units rest : List ℕ) (ts : List Spelled) → text ≡ units ++ rest → IsLongestSign text units → begins_other text ≡ false
      → is_left_out_sign text ≡ false → tokens ≡ (Sign, units) ∷ ts → Leads stop rest ts → Leads stop text tokens

-- [3.5] the tokens of the whole input
abbrev pub Lexes : List ℕ → List Spelled → Type 0
Lexes text tokens = Leads [] text tokens

-- no line end and no quotation mark but an escaped one stands among the units
abbrev pub IsUnclosed : ℕ → Bool → List ℕ → Type 0
IsUnclosed mark escaped [] = Unit {0}
IsUnclosed mark escaped (c ∷ cs) = (is_line_end c ≡ false) × (closes mark escaped c ≡ false) × IsUnclosed mark (escapes escaped c) cs

-- what stands at the front of a text is a fault with this code
pub data IsFaulty : List ℕ → FaultCode → Type 0 where
  -- a comment that no `*/` ends
  unended_comment : (text comment : List ℕ) → text ≡ 47 ∷ 42 ∷ comment → HasNoEnd comment [] → IsFaulty text Open
  -- a keyword that the profile leaves out
  word_left_out : (text word rest : List ℕ) → text ≡ word ++ rest → IsRun word rest → begins_word text ≡ true → is_left_out word ≡ true → IsFaulty text Profile
  -- a FloatingPointLiteral
  floating_point : (text run rest : List ℕ) → text ≡ run ++ rest → IsRun run rest → begins_word text ≡ false → is_digit_in 10 (slice_index text 0) ≡ true
      → is_float run rest ≡ true → IsFaulty text Profile
  -- a run that begins with a digit and is no literal
  no_numeral : (text run rest : List ℕ) → text ≡ run ++ rest → IsRun run rest → begins_word text ≡ false → is_digit_in 10 (slice_index text 0) ≡ true
      → is_float run rest ≡ false → numeral_of run ≡ Malformed → IsFaulty text Char
  -- an IntegerLiteral past the range of its type
  too_wide : (text run rest : List ℕ) → text ≡ run ++ rest → IsRun run rest → begins_word text ≡ false → is_digit_in 10 (slice_index text 0) ≡ true
      → is_float run rest ≡ false → numeral_of run ≡ TooWide → IsFaulty text Wide
  -- a literal in quotation marks that is not closed on its line
  unclosed : (text : List ℕ) (mark : ℕ) (content rest : List ℕ) → (mark ≡ 34) ⊎ (mark ≡ 39) → text ≡ mark ∷ (content ++ rest) → IsUnclosed mark false content
      → IsAtLineEnd rest → IsFaulty text Open
  -- one in which a backslash begins no escape sequence
  bad_escape : (text : List ℕ) (mark : ℕ) (content rest : List ℕ) (at : ℕ) → (mark ≡ 34) ⊎ (mark ≡ 39) → text ≡ mark ∷ (content ++ mark ∷ rest)
      → IsContent mark false content → unescaped content ≡ Err at → IsFaulty text Char
  -- a CharacterLiteral of no unit, or of more than one
  not_one_unit : (text content rest units : List ℕ) → text ≡ 39 ∷ (content ++ 39 ∷ rest) → IsContent 39 false content → unescaped content ≡ Ok units
      → (length units ≡ 1 → ⊥) → IsFaulty text Char
  -- a sign that the profile leaves out, or the point of a FloatingPointLiteral
  sign_left_out : (text units rest : List ℕ) → text ≡ units ++ rest → IsLongestSign text units → begins_other text ≡ false → is_left_out_sign text ≡ true
      → IsFaulty text Profile
  -- a character that begins no token
  no_token : (text : List ℕ) → 0 < length text → begins_other text ≡ false → ((units rest : List ℕ) → text ≡ units ++ rest → is_sign units ≡ true → ⊥) → IsFaulty text Char

-- the first fault of a text: tokens lead to a place, and what stands there is a fault
abbrev pub IsFaultAt : List ℕ → ℕ → Place → FaultCode → Type 0
IsFaultAt text at place code = (front rest : List ℕ) × (tokens : List Spelled) × (text ≡ front ++ rest) × (length front ≡ at) × (place ≡ place_after start front)
    × Leads rest text tokens × IsFaulty rest code

-- the text is read as tokens that are spelled so
abbrev pub IsReadAs : List ℕ → List Spelled → Type 0
IsReadAs text tokens = (ts : List Lexeme) × (end : Place) × (read text ≡ Read ts end) × (spelled ts ≡ tokens)
