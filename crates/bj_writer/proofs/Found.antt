-- What a token of a text in UTF-8 is.
use Rattle.std.proofs.Common.{◌≡◌, ℕ, Bool, true, false, cond, ltb, length, List, [], ◌∷◌, refl, IsUtf8}
use Rattle.std.specs.Str.{is_utf8}
use Rattle.std.proofs.lemmas.Str.{IsUtf8-from_is_utf8}
use Rattle.bj_token.specs.declared.token.Token.{Token as Lexeme}
use Rattle.bj_lex.specs.declared.place.Place.{Place}
use Rattle.bj_lex.specs.Places.{start, place_after}
use Rattle.bj_base.specs.declared.fault.FaultCode.{FaultCode}
use Rattle.bj_base.specs.declared.fault.FaultCode.TheVariants.{Char}
use Rattle.bj_lex.specs.Texts.{Reading, Read, Stopped, read, read_bytes, text_of, front_of, before_bad_byte}
use Rattle.bj_lex.specs.Grammar.{Spelled, spelled, Lexes}
use Rattle.bj_lex.proofs.Sound.{sound}
use Rattle.bj_writer.specs.Tokens.{IsToken, AreTokens}
use Rattle.bj_writer.proofs.Marks.{IsMark, mark_of}
use Rattle.bj_writer.proofs.Derived.{AreMarks}

-- bytes that have tokens are UTF-8
pub record IsRead (bytes : List ℕ) (tokens : List Lexeme) (end : Place) : Type 0 where
  pub utf8 : IsUtf8 bytes
  pub read_is : read (text_of bytes) ≡ Read tokens end

one_stops : (t : Bool) (at front : ℕ) (p q : Place) (code other : FaultCode) (tokens : List Lexeme) (end : Place) → cond t (Stopped at p code) (Stopped front q other) ≡ Read tokens end → ⊥
one_stops true at front p q code other tokens end e = cc
one_stops false at front p q code other tokens end e = cc

never_read : (front : List ℕ) (r : Reading) (tokens : List Lexeme) (end : Place) → before_bad_byte front r ≡ Read tokens end → ⊥
never_read front (Read ts p) tokens end e = cc
never_read front (Stopped at p code) tokens end e = one_stops (ltb at (length front)) at (length front) p (place_after start front) code Char tokens end e

pub read_of : (bytes : List ℕ) (tokens : List Lexeme) (end : Place) → read_bytes bytes ≡ Read tokens end → IsRead bytes tokens end
read_of bytes tokens end e = by_test (is_utf8 bytes) refl e
  where
    by_test : (t : Bool) → is_utf8 bytes ≡ t → cond t (read (text_of bytes)) (before_bad_byte (front_of bytes) (read (text_of bytes))) ≡ Read tokens end → IsRead bytes tokens end
    by_test true f e = record { utf8 = IsUtf8-from_is_utf8 bytes f; read_is = e }
    by_test false f e = absurd (never_read (front_of bytes) (read (text_of bytes)) tokens end e)

-- the text that a token stands in has it
pub text_lexes : (t : Spelled) (token : IsToken t) → Lexes (text_of token.bytes) (spelled token.tokens)
text_lexes t token = let r = read_of token.bytes token.tokens token.reads.0 token.reads.1 in sound (text_of token.bytes) token.tokens token.reads.0 r.read_is

pub token_mark : (t : Spelled) → IsToken t → IsMark t.0 t.1
token_mark t token = mark_of t [] (text_of token.bytes) (spelled token.tokens) (text_lexes t token) token.stands

pub token_marks : (tokens : List Spelled) → AreTokens tokens → AreMarks tokens
token_marks [] each = tt
token_marks (t ∷ rest) each = (token_mark t each.0, token_marks rest each.1)
