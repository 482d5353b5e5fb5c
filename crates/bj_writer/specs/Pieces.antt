-- Tokens and white space, and the text that they are written as [JLS 3.5, 3.6].
use Rattle.std.specs.Prelude.{◌≡◌, ℕ, zero, suc, ◌-◌, Bool, true, false, ◌&&◌, ◌||◌, List, [], ◌∷◌, ◌++◌, Option, Some, None, length, codes, ◌==◌, if◌then◌else◌, slice_index}
use Rattle.bj_token.specs.declared.token.TokenKind.{TokenKind}
use Rattle.bj_token.specs.declared.token.TokenKind.TheVariants as kinds
use Rattle.bj_lex.specs.Numerals.{is_digit_in}
use Rattle.bj_lex.specs.Signs.{is_one_of, is_double}
use Rattle.bj_lex.specs.Grammar.{Spelled}
use Rattle.bj_writer.specs.declared.writer.Last.{Last}
use Rattle.bj_writer.specs.declared.writer.Writer.{Writer}

pub data Piece : Type 0 where
  -- a token
  Mark : TokenKind → List ℕ → Piece
  Space : Piece
  -- a line end, and so many spaces
  Line : ℕ → Piece

-- the tokens among pieces
abbrev pub tokens_of : List Piece → List Spelled
tokens_of [] = []
tokens_of (Mark kind units ∷ rest) = (kind, units) ∷ tokens_of rest
tokens_of (Space ∷ rest) = tokens_of rest
tokens_of (Line n ∷ rest) = tokens_of rest

-- runs of letters and digits, which grow together [JLS 3.8, 3.9, 3.10.1]
abbrev pub is_run : TokenKind → Bool
is_run kinds.Word = true
is_run kinds.Keyword = true
is_run kinds.Number = true
is_run kinds.LongNumber = true
is_run _ = false

abbrev pub is_number : TokenKind → Bool
is_number kinds.Number = true
is_number kinds.LongNumber = true
is_number _ = false

abbrev pub is_sign : TokenKind → Bool
is_sign kinds.Sign = true
is_sign _ = false

-- the units, side by side, may stand in one sign [JLS 3.11, 3.12], begin a comment [JLS 3.7] or a fraction [JLS 3.10.2]
abbrev pub signs_join : ℕ → ℕ → Bool
signs_join u v = is_double u v || (((u == 46) && ((v == 46) || is_digit_in 10 v)) || ((u == 47) && ((v == 47) || (v == 42))))

-- whether a token that begins with a unit would not be the next one directly behind another
abbrev pub joins : Last → TokenKind → ℕ → Bool
joins last kind unit = (is_run last.kind && is_run kind) || ((is_number last.kind && is_one_of (codes ".+-") unit) || (is_sign last.kind && signs_join last.unit unit))

-- a space stands where two tokens would join
abbrev pub gap : Option Last → TokenKind → List ℕ → List ℕ
gap None kind units = []
gap (Some last) kind units = if joins last kind (slice_index units 0) then 32 ∷ [] else []

abbrev pub last_of : TokenKind → List ℕ → Last
last_of kind units = record { kind = kind; unit = slice_index units (length units - 1) }

abbrev pub spaces : ℕ → List ℕ
spaces zero = []
spaces (suc n) = 32 ∷ spaces n

-- what pieces are written as, directly behind a token if there is one
unfoldable pub written : Option Last → List Piece → List ℕ
written last [] = []
written last (Mark kind units ∷ rest) = gap last kind units ++ (units ++ written (Some (last_of kind units)) rest)
written last (Space ∷ rest) = 32 ∷ written None rest
written last (Line n ∷ rest) = 10 ∷ (spaces n ++ written None rest)

-- the token at the end, if one is
unfoldable pub last_after : Option Last → List Piece → Option Last
last_after last [] = last
last_after last (Mark kind units ∷ rest) = last_after (Some (last_of kind units)) rest
last_after last (Space ∷ rest) = last_after None rest
last_after last (Line n ∷ rest) = last_after None rest

-- the pieces were written behind what stood there
pub record Wrote (old new : Writer) (pieces : List Piece) : Type 0 where
  pub text : new.text ≡ old.text ++ written old.last pieces
  pub last : new.last ≡ last_after old.last pieces
