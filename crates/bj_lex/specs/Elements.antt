-- The element of the input at the front of a text: white space, a comment or a token [JLS 3.5], or a fault there.
use Rattle.std.specs.Prelude.{ℕ, Bool, ◌&&◌, List, ◌==◌, if◌then◌else◌, slice_index, nat_lt, take, drop, length, ◌≤◌}
use Rattle.bj_lex.specs.Characters.{is_white, begins_word, parts_len}
use Rattle.bj_lex.specs.Comments.{line_element, block_element}
use Rattle.bj_lex.specs.Words.{word_element}
use Rattle.bj_lex.specs.Numerals.{is_digit_in, number_element}
use Rattle.bj_lex.specs.Literals.{string_element, char_element}
use Rattle.bj_lex.specs.Signs.{sign_element}
use Rattle.bj_lex.specs.declared.element.Element.{Element}
use Rattle.bj_lex.specs.declared.element.Element.TheVariants.{Blank, Token, Fault}

-- a token that is neither a word nor a number
abbrev pub marked_element : ℕ → List ℕ → Element
marked_element c us = if c == 34 then string_element (drop 1 us) else (if c == 39 then char_element (drop 1 us) else sign_element us)

-- a token
abbrev pub token_element : ℕ → List ℕ → Element
token_element c us = if parts_len us == 0 then marked_element c us
    else (if begins_word us then word_element (parts_len us) (take (parts_len us) us)
    else (if is_digit_in 10 c then number_element (take (parts_len us) us) (drop (parts_len us) us) else marked_element c us))

-- a comment begins with `//` or `/*`
abbrev pub begins_comment : ℕ → List ℕ → Bool
begins_comment second us = nat_lt 1 (length us) && (slice_index us 0 == 47) && (slice_index us 1 == second)

abbrev pub element_of : List ℕ → Element
element_of us = let c = slice_index us 0 in
    if is_white c then Blank 1
    else (if begins_comment 47 us then line_element (drop 2 us)
    else (if begins_comment 42 us then block_element (drop 2 us) else token_element c us))

-- an element of one unit at least, and of so many at most
abbrev pub IsCounted : ℕ → Element → Type 0
IsCounted most (Blank n) = (1 ≤ n) × (n ≤ most)
IsCounted most (Token kind n) = (1 ≤ n) × (n ≤ most)
IsCounted most (Fault code) = Unit {0}

-- an element that stands within the text
abbrev pub IsWithin : List ℕ → Element → Type 0
IsWithin us element = IsCounted (length us) element
