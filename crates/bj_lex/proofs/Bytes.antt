-- On bytes that are not UTF-8, and how long a text is.
use Rattle.std.proofs.Common.{◌≡◌, ℕ, zero, suc, Bool, true, false, cond, List, length, take, refl, ap, subst, IsUtf8}
use Rattle.std.specs.Str.{is_utf8}
use Rattle.std.specs.Str.Lossy.{utf8_valid_len, valid_len_up_to}
use Rattle.std.proofs.lemmas.Str.{IsUtf8-nil, IsUtf8-from_is_utf8, is_utf8-from_IsUtf8, utf8_lossy-IsUtf8}
use Rattle.bj_text.specs.Utf16.{units_of}
use Rattle.bj_lex.specs.Texts.{text_of, front_of, read, read_bytes, before_bad_byte}

-- the front that is UTF-8
by_test : (bs front : List ℕ) (n : ℕ) (rest : ℕ) (t : Bool) → is_utf8 front ≡ t → front ≡ take n bs → IsUtf8 (take rest bs) → IsUtf8 (take (cond t n rest) bs)
by_test bs front n rest true e f h = subst IsUtf8 f (IsUtf8-from_is_utf8 front e)
by_test bs front n rest false e f h = h

valid_up_to : (bs : List ℕ) (n : ℕ) → IsUtf8 (take (valid_len_up_to bs n) bs)
valid_up_to bs zero = IsUtf8-nil
valid_up_to bs (suc n) = by_test bs (take (suc n) bs) (suc n) (valid_len_up_to bs n) (is_utf8 (take (suc n) bs)) refl refl (valid_up_to bs n)

pub front_is_utf8 : (bs : List ℕ) → IsUtf8 (take (utf8_valid_len bs) bs)
unfolding utf8_valid_len
front_is_utf8 bs = valid_up_to bs (length bs)

pub front_text : (bs : List ℕ) → text_of (take (utf8_valid_len bs) bs) ≡ front_of bs
front_text bs = ap units_of (utf8_lossy-IsUtf8 (take (utf8_valid_len bs) bs) (front_is_utf8 bs))

denied : (bs : List ℕ) (t : Bool) → is_utf8 bs ≡ t → (IsUtf8 bs → ⊥) → t ≡ false
denied bs false e h = refl
denied bs true e h = absurd (h (IsUtf8-from_is_utf8 bs e))

pub good_bytes : (bs : List ℕ) → IsUtf8 bs → read_bytes bs ≡ read (text_of bs)
good_bytes bs u = ap (λ t. cond t (read (text_of bs)) (before_bad_byte (front_of bs) (read (text_of bs)))) (is_utf8-from_IsUtf8 bs u)

pub bad_bytes : (bs : List ℕ) → (IsUtf8 bs → ⊥) → read_bytes bs ≡ before_bad_byte (front_of bs) (read (text_of bs))
bad_bytes bs h = ap (λ t. cond t (read (text_of bs)) (before_bad_byte (front_of bs) (read (text_of bs)))) (denied bs (is_utf8 bs) refl h)
