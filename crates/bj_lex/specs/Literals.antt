-- Character and string literals [JLS 3.10.4 to 3.10.6].
use Rattle.std.specs.Prelude.{ℕ, suc, ◌+◌, Bool, false, not, ◌&&◌, List, [], ◌∷◌, Option, Some, None, Result, Ok, Err, option_map, ◌==◌, if◌then◌else◌, length, take}
use Rattle.bj_text.specs.Unescape.{unescaped}
use Rattle.bj_lex.specs.Characters.{is_line_end}
use Rattle.bj_lex.specs.declared.element.Element.{Element}
use Rattle.bj_lex.specs.declared.element.Element.TheVariants.{Token, Fault}
use Rattle.bj_token.specs.declared.token.TokenKind.TheVariants.{CharText, StringText}
use Rattle.bj_base.specs.declared.fault.FaultCode.TheVariants.{Char, Open}

-- the unit is the quotation mark, and the unit is a backslash, where the one before it was a backslash that escapes it or not
abbrev pub closes : ℕ → Bool → ℕ → Bool
closes mark escaped c = not escaped && (c == mark)

abbrev pub escapes : Bool → ℕ → Bool
escapes escaped c = not escaped && (c == 92)

-- how many units stand before the quotation mark that closes the literal on its line, where the unit before was a backslash or not
unfoldable pub closing : ℕ → Bool → List ℕ → Option ℕ
closing mark escaped [] = None
closing mark escaped (c ∷ cs) = if is_line_end c then None
    else (if closes mark escaped c then Some 0 else option_map suc (closing mark (escapes escaped c) cs))

-- a literal of n units within its quotes, by what these stand for
abbrev pub string_token : ℕ → Result (List ℕ) ℕ → Element
string_token n (Err at) = Fault Char
string_token n (Ok units) = Token StringText (n + 2)

abbrev pub char_token : ℕ → Result (List ℕ) ℕ → Element
char_token n (Err at) = Fault Char
char_token n (Ok units) = if length units == 1 then Token CharText (n + 2) else Fault Char

abbrev pub closed : (ℕ → Element) → Option ℕ → Element
closed token None = Fault Open
closed token (Some n) = token n

-- a StringLiteral, and a CharacterLiteral, behind its first quotation mark
abbrev pub string_element : List ℕ → Element
string_element us = closed (λ n. string_token n (unescaped (take n us))) (closing 34 false us)

abbrev pub char_element : List ℕ → Element
char_element us = closed (λ n. char_token n (unescaped (take n us))) (closing 39 false us)
