-- A text has no more units than bytes.
use Rattle.std.proofs.Common.{◌≡◌, ℕ, zero, suc, ◌+◌, ◌≤◌, Bool, true, false, List, [], ◌∷◌, ◌++◌, length, take, drop, refl, sym, ap, ◌∙◌, subst, arith, length-append, length-drop, length-take, IsUtf8, encode_utf8_all, append_assoc, eqb}
use Rattle.std.specs.Str.Lossy.{utf8_lossy, utf8_valid_len, utf8_invalid_len, after_first_chunk, replacement_bytes}
use Rattle.std.specs.Str.{chars}
use Rattle.std.specs.Char.{len_utf8}
use Rattle.std.specs.Char.Escape.{encode_utf16}
use Rattle.std.proofs.lemmas.Bool.Decides.{nat_tests}
use Rattle.std.proofs.lemmas.Str.{utf8_valid_len_le, utf8_lossy-IsUtf8, utf8_lossy_step, chars-append, length-encode, encodes-chars, IsUtf8-encode}
use Rattle.std.proofs.str.Lossy.{utf8_invalid_len_pos, length-after_first_chunk}
use lib.Utf8.{encode}
use borrow.Author.Tests.{eqb-true, eqb-false}
use Rattle.std.proofs.Math.Seq.{take-length}
use Rattle.bj_text.specs.Utf16.{units_of, utf16_of}
use Rattle.bj_lex.specs.Texts.{text_of}
use Rattle.bj_lex.proofs.Bytes.{front_is_utf8}

utf16_of-append : (cs ds : List ℕ) → utf16_of (cs ++ ds) ≡ utf16_of cs ++ utf16_of ds
utf16_of-append [] ds = refl
utf16_of-append (c ∷ cs) ds = ap (λ t. encode_utf16 c ++ t) (utf16_of-append cs ds) ∙ sym (append_assoc (encode_utf16 c) (utf16_of cs) (utf16_of ds))

length-encode_utf16 : (c : ℕ) → length (encode_utf16 c) ≤ len_utf8 c
length-encode_utf16 c = grind (arith, nat_tests)

shorter : (cs : List ℕ) → length (utf16_of cs) ≤ length (encode_utf8_all cs)
shorter [] = omega arith
shorter (c ∷ cs) =
    omega (arith, length-append (encode_utf16 c) (utf16_of cs), length-append (encode c) (encode_utf8_all cs), length-encode c, length-encode_utf16 c, shorter cs)

text_shorter : (bs : List ℕ) → IsUtf8 bs → length (units_of bs) ≤ length bs
text_shorter bs u = omega (arith, shorter (chars bs), ap length (encodes-chars bs u))

units-append : (xs ys : List ℕ) → IsUtf8 xs → units_of (xs ++ ys) ≡ units_of xs ++ units_of ys
units-append xs ys u = ap utf16_of (chars-append xs ys u) ∙ utf16_of-append (chars xs) (chars ys)

replacement_is : encode 65533 ≡ replacement_bytes
unfolding encode
replacement_is = refl

replacement_units : length (units_of replacement_bytes) ≡ 1
unfolding chars
replacement_units = refl

replacement_is_utf8 : IsUtf8 replacement_bytes
replacement_is_utf8 = subst IsUtf8 replacement_is (IsUtf8-encode 65533 refl)

whole : (bs : List ℕ) → utf8_valid_len bs ≡ length bs → length (text_of bs) ≤ length bs
whole bs e =
    let u = subst IsUtf8 (ap (λ n. take n bs) e ∙ take-length bs) (front_is_utf8 bs) in
    omega (arith, text_shorter bs u, ap (λ t. length (units_of t)) (utf8_lossy-IsUtf8 bs u))

-- the text is the front, U+FFFD, and the text behind the bad sequence
parts : (bs : List ℕ) → (utf8_valid_len bs ≡ length bs → ⊥)
    → length (text_of bs) ≡ length (units_of (take (utf8_valid_len bs) bs)) + (1 + length (text_of (after_first_chunk bs)))
parts bs ne =
    let front = take (utf8_valid_len bs) bs in
    let rest = utf8_lossy (after_first_chunk bs) in
    ap (λ t. length (units_of t)) (utf8_lossy_step bs ne) ∙ ap length (units-append front (replacement_bytes ++ rest) (front_is_utf8 bs))
    ∙ length-append (units_of front) (units_of (replacement_bytes ++ rest))
    ∙ ap (λ n. length (units_of front) + n) (ap length (units-append replacement_bytes rest replacement_is_utf8) ∙ length-append (units_of replacement_bytes) (units_of rest) ∙ ap (λ n. n + length (units_of rest)) replacement_units)

split : (a b : ℕ) (t : Bool) → eqb a b ≡ t → (P : Type 0) → (a ≡ b → P) → ((a ≡ b → ⊥) → P) → P
split a b true e P f g = f (eqb-true a b e)
split a b false e P f g = g (eqb-false a b e)

faulty : (bs : List ℕ) → (utf8_valid_len bs ≡ length bs → ⊥) → length (text_of (after_first_chunk bs)) ≤ length (after_first_chunk bs) → length (text_of bs) ≤ length bs
faulty bs ne shorter_rest =
    let n = utf8_valid_len bs in
    let m = utf8_invalid_len (drop n bs) in
    let inside = utf8_valid_len_le bs in
    let invalid = utf8_invalid_len_pos (drop n bs) (omega (arith, length-drop n bs)) in
    omega (arith, parts bs ne, text_shorter (take n bs) (front_is_utf8 bs), length-take n bs, length-drop (n + m) bs, inside, invalid, shorter_rest)

within : (k : ℕ) (bs : List ℕ) → length bs ≤ k → length (text_of bs) ≤ length bs
within zero bs h = whole bs (omega (arith, utf8_valid_len_le bs))
within (suc k) bs h = split (utf8_valid_len bs) (length bs) (eqb (utf8_valid_len bs) (length bs)) refl (length (text_of bs) ≤ length bs) (whole bs)
    (λ ne. faulty bs ne (within k (after_first_chunk bs) (omega (arith, length-after_first_chunk bs ne))))

pub text_short : (bs : List ℕ) → length (text_of bs) ≤ length bs
text_short bs = within (length bs) bs (omega arith)
