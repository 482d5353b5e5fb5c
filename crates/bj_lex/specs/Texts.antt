-- The tokens of a text, or its first fault.
use Rattle.std.specs.Prelude.{◌≡◌, ℕ, zero, suc, ◌+◌, ◌-◌, List, [], ◌∷◌, ◌++◌, ◌≤◌, drop, length, take, nat_lt, if◌then◌else◌}
use Rattle.std.specs.Str.{is_utf8}
use Rattle.std.specs.Str.Lossy.{utf8_lossy, utf8_valid_len}
use Rattle.bj_text.specs.Utf16.{units_of}
use Rattle.bj_base.specs.declared.span.Span.{Span}
use Rattle.bj_base.specs.declared.fault.FaultCode.{FaultCode}
use Rattle.bj_base.specs.declared.fault.FaultCode.TheVariants.{Char}
use Rattle.bj_base.specs.declared.fault.Refusal.{Refusal}
use Rattle.bj_base.specs.declared.fault.Refusal.TheVariants.{Fault as Refused, NoMemory}
use Rattle.bj_lex.specs.declared.reading.Stop.{Stop}
use Rattle.bj_lex.specs.declared.reading.Stop.TheVariants.{Fault as StopFault, NoMemory as StopNoMemory}
use Rattle.bj_token.specs.declared.token.Token.{Token as Lexeme}
use Rattle.bj_token.specs.declared.token.TokenKind.{TokenKind}
use Rattle.bj_lex.specs.declared.place.Place.{Place}
use Rattle.bj_lex.specs.declared.element.Element.{Element}
use Rattle.bj_lex.specs.declared.element.Element.TheVariants.{Blank, Token, Fault}
use Rattle.bj_lex.specs.Elements.{element_of}
use Rattle.bj_lex.specs.Places.{start, next_place, place_after, span_of}

-- the tokens of a text and the place where it ends, or its first fault, with how many units stand before it
pub data Reading : Type 0 where
  Read : List Lexeme → Place → Reading
  Stopped : ℕ → Place → FaultCode → Reading

-- a token before those of the rest
abbrev pub after_token : Lexeme → Reading → Reading
after_token t (Read ts p) = Read (t ∷ ts) p
after_token t (Stopped at p code) = Stopped at p code

-- tokens before those of the rest
abbrev pub after_tokens : List Lexeme → Reading → Reading
after_tokens ts (Read us p) = Read (ts ++ us) p
after_tokens ts (Stopped at p code) = Stopped at p code

abbrev pub token_at : TokenKind → Place → List ℕ → Lexeme
token_at kind p us = record { kind = kind; at = span_of p; text = us }

-- how a text goes on, from the element at its front; rest gives what follows so many of its units
abbrev pub from_element : ℕ → Place → List ℕ → (ℕ → Reading) → Element → Reading
from_element at p us rest (Blank n) = rest n
from_element at p us rest (Token kind n) = after_token (token_at kind p (take n us)) (rest n)
from_element at p us rest (Fault code) = Stopped at p code

-- the reading of the units from a place on, at units before it, behind n units of an element that was read
unfoldable pub read_after : ℕ → ℕ → Place → List ℕ → Reading
read_after n at p [] = Read [] p
read_after (suc n) at p (u ∷ us) = read_after n (at + 1) (next_place p u) us
read_after zero at p (u ∷ us) = from_element at p (u ∷ us) (λ n. read_after (n - 1) (at + 1) (next_place p u) us) (element_of (u ∷ us))

-- n units of an element at the front were read: the tokens so far, with those that are left, are those before, with those that were left
abbrev pub GoesOn : List Lexeme → List Lexeme → ℕ → Place → List ℕ → ℕ → Type 0
GoesOn old new at p us n = (1 ≤ n) × (n ≤ length us) × (after_tokens new (read_after 0 (at + n) (place_after p (take n us)) (drop n us)) ≡ after_tokens old (read_after 0 at p us))

abbrev pub read : List ℕ → Reading
read units = read_after 0 0 start units

-- the text of bytes, with U+FFFD, which begins no token, for each sequence that is not UTF-8
abbrev pub text_of : List ℕ → List ℕ
text_of bytes = units_of (utf8_lossy bytes)

-- the text before the first byte that is not UTF-8
abbrev pub front_of : List ℕ → List ℕ
front_of bytes = units_of (take (utf8_valid_len bytes) bytes)

-- Char at the first byte that is not UTF-8, behind these units, unless a fault stands before it
abbrev pub bad_byte : List ℕ → Reading
bad_byte front = Stopped (length front) (place_after start front) Char

abbrev pub before_bad_byte : List ℕ → Reading → Reading
before_bad_byte front (Read ts p) = bad_byte front
before_bad_byte front (Stopped at p code) = if nat_lt at (length front) then Stopped at p code else bad_byte front

-- the reading of bytes
abbrev pub read_bytes : List ℕ → Reading
read_bytes bytes = if is_utf8 bytes then read (text_of bytes) else before_bad_byte (front_of bytes) (read (text_of bytes))

-- the reading stops so
abbrev pub IsStopOf : Reading → Stop → Type 0
IsStopOf reading (StopFault at p code) = reading ≡ Stopped at p code
IsStopOf reading StopNoMemory = Unit {0}

-- the refusal is of this fault
abbrev pub IsRefusalAt : List ℕ → Place → FaultCode → Refusal → Type 0
IsRefusalAt class p code (Refused fault) = (fault.class ≡ class) × (fault.at ≡ span_of p) × (fault.code ≡ code)
IsRefusalAt class p code NoMemory = Unit {0}

-- the bytes read as these tokens, and the text ends at this place
abbrev pub ReadsAs : List ℕ → List Lexeme → Span → Type 0
ReadsAs bytes tokens end = (p : Place) × (read_bytes bytes ≡ Read tokens p) × (end ≡ span_of p)

-- the bytes of the class have this first fault
abbrev pub IsFirstFault : List ℕ → List ℕ → Refusal → Type 0
IsFirstFault class bytes (Refused fault) = (at : ℕ) × (p : Place) × (read_bytes bytes ≡ Stopped at p fault.code) × (fault.at ≡ span_of p) × (fault.class ≡ class)
IsFirstFault class bytes NoMemory = Unit {0}
