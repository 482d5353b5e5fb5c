-- What the first unit of a word or a number is, and what it is not.
use Rattle.std.proofs.Common.{◌≡◌, ℕ, suc, ◌-◌, ◌<◌, ◌≤◌, Bool, true, false, ◌&&◌, ◌||◌, cond, eqb, ltb, leb, List, [], ◌∷◌, length, get_or, refl, sym, ap, ◌∙◌, subst, arith, Option, Some, None, ◌⊎◌, inl, inr, lit<}
use borrow.Author.Tests.{eqb-true, ltb-true, leb-true, ne_eqb, lt-leb, le-leb}
use Rattle.std.specs.Int.{is_in_range}
use Rattle.std.specs.Char.{is_ascii_alphabetic, is_ascii_alphanumeric}
use Rattle.std.specs.Char.Utf16.{surrogate_pair_char, lone_unit_char, is_low_surrogate}
use Rattle.std.proofs.str.Utf16.{lone_unit_char_low}
use Rattle.unicode_ident.specs.Ident.{is_xid_start, is_xid_continue}
use Rattle.unicode_ident.proofs.IdentLemmas.{is_xid_start-ascii, is_xid_continue-ascii, is_xid_start-is_xid_continue}
use Rattle.bj_lex.specs.Characters.{is_white, front_char, front_width, passes, is_letter_char, is_part_char, begins_word, begins_part, parts_len, parts_after}
use Rattle.bj_lex.specs.Numerals.{is_digit_in, below}
use Rattle.bj_lex.specs.Elements.{begins_comment}
use Rattle.bj_lex.proofs.Runs.{parts_stop}

pub or_split : (a b : Bool) → (a || b) ≡ true → (a ≡ true) ⊎ (b ≡ true)
or_split true b e = inl refl
or_split false b e = inr e

pub or_false : (a b : Bool) → a ≡ false → b ≡ false → (a || b) ≡ false
or_false true b e f = cc
or_false false b e f = f

pub or_none : (a b : Bool) → (a || b) ≡ false → (a ≡ false) × (b ≡ false)
or_none true b e = cc
or_none false b e = (refl, e)

and_mid : (a b c : Bool) → b ≡ false → ((a && b) && c) ≡ false
and_mid true b c e = ap (λ t. t && c) e
and_mid false b c e = refl

more : (a b x y : Bool) → (a ≡ true → b ≡ true) → ((a || x) || y) ≡ true → ((b || x) || y) ≡ true
more true b x y f e = ap (λ t. (t || x) || y) (f refl)
more false true x y f e = refl
more false false x y f e = e

part_of_letter : (o : Option ℕ) → passes is_letter_char o ≡ true → passes is_part_char o ≡ true
part_of_letter None e = e
part_of_letter (Some c) e = more (is_xid_start c) (is_xid_continue c) (eqb c 95) (eqb c 36) (is_xid_start-is_xid_continue c) e

parts_cons : (u : ℕ) (us : List ℕ) → parts_after 0 (u ∷ us) ≡ cond (begins_part (u ∷ us)) (suc (parts_after (front_width (u ∷ us) - 1) us)) 0
unfolding parts_after
parts_cons u us = refl

has_parts : (us : List ℕ) → begins_part us ≡ true → (parts_len us ≡ 0 → ⊥)
has_parts [] e = λ z. cc
has_parts (u ∷ us) e = λ z. absurd (omega (arith, z, parts_cons u us ∙ ap (λ b. cond b (suc (parts_after (front_width (u ∷ us) - 1) us)) 0) e))

pub word_has_parts : (us : List ℕ) → begins_word us ≡ true → (parts_len us ≡ 0 → ⊥)
word_has_parts us e = has_parts us (part_of_letter (front_char us) e)

ascii_front : (c : ℕ) (us : List ℕ) → c < 128 → front_char (c ∷ us) ≡ Some c
ascii_front c us h =
    ap (λ b. cond ((b && ltb c 56320) && is_low_surrogate (get_or us 0 0)) (Some (surrogate_pair_char c (get_or us 0 0))) (lone_unit_char c)) (lt-leb 55296 c (omega arith)) ∙ lone_unit_char_low c (omega arith)

no_letter : (c : ℕ) (us : List ℕ) → c < 128 → ((is_ascii_alphabetic c || eqb c 95) || eqb c 36) ≡ false → begins_word (c ∷ us) ≡ false
no_letter c us h e = ap (passes is_letter_char) (ascii_front c us h) ∙ ap (λ b. (b || eqb c 95) || eqb c 36) (is_xid_start-ascii c h) ∙ e

no_letter_at : (k c : ℕ) (us : List ℕ) → k < 128 → ((is_ascii_alphabetic k || eqb k 95) || eqb k 36) ≡ false → eqb c k ≡ true → begins_word (c ∷ us) ≡ false
no_letter_at k c us h e is = subst (λ n. begins_word (n ∷ us) ≡ false) (sym (eqb-true c k is)) (no_letter k us h e)

white_no_word : (c : ℕ) (us : List ℕ) → is_white c ≡ true → begins_word (c ∷ us) ≡ false
white_no_word c us e = elim (or_split (((eqb c 32 || eqb c 9)) || eqb c 12) (eqb c 10 || eqb c 13) e) [
  | inl a ↦ elim (or_split (eqb c 32 || eqb c 9) (eqb c 12) a) [
    | inl b ↦ elim (or_split (eqb c 32) (eqb c 9) b) [ inl is ↦ no_letter_at 32 c us (lit< tt) refl is | inr is ↦ no_letter_at 9 c us (lit< tt) refl is ]
    | inr is ↦ no_letter_at 12 c us (lit< tt) refl is
  ]
  | inr a ↦ elim (or_split (eqb c 10) (eqb c 13) a) [ inl is ↦ no_letter_at 10 c us (lit< tt) refl is | inr is ↦ no_letter_at 13 c us (lit< tt) refl is ]
]

unless : (a b : Bool) → (a ≡ true → b ≡ false) → b ≡ true → a ≡ false
unless true b f e = let no_b = f refl in cc
unless false b f e = refl

pub word_not_white : (c : ℕ) (us : List ℕ) → begins_word (c ∷ us) ≡ true → is_white c ≡ false
word_not_white c us e = unless (is_white c) (begins_word (c ∷ us)) (white_no_word c us) e

pub word_no_comment : (second c : ℕ) (us : List ℕ) → begins_word (c ∷ us) ≡ true → begins_comment second (c ∷ us) ≡ false
word_no_comment second c us e =
    and_mid (ltb 1 (length (c ∷ us))) (eqb c 47) (eqb (get_or (c ∷ us) 1 0) second) (unless (eqb c 47) (begins_word (c ∷ us)) (no_letter_at 47 c us (lit< tt) refl) e)

-- digits
digit_range : (c : ℕ) → is_digit_in 10 c ≡ true → (48 ≤ c) × (c < 58)
digit_range c e =
    range c (leb 48 c && ltb c 58) (leb 65 c && ltb c 71) (leb 97 c && ltb c 103) refl refl refl e
  where
    both : (a b : Bool) → (a && b) ≡ true → (a ≡ true) × (b ≡ true)
    both true b e = (refl, e)
    both false b e = cc

    range : (c : ℕ) (s t u : Bool) → (leb 48 c && ltb c 58) ≡ s → (leb 65 c && ltb c 71) ≡ t → (leb 97 c && ltb c 103) ≡ u
        → below 10 (cond s (Some (c - 48)) (cond t (Some (c - 55)) (cond u (Some (c - 87)) None))) ≡ true → (48 ≤ c) × (c < 58)
    range c true t u e f g h = let p = both (leb 48 c) (ltb c 58) e in (leb-true 48 c p.0, ltb-true c 58 p.1)
    range c false true u e f g h =
        let p = both (leb 65 c) (ltb c 71) f in
        let low = leb-true 65 c p.0 in
        let high = ltb-true (c - 55) 10 h in
        absurd (omega arith)
    range c false false true e f g h =
        let p = both (leb 97 c) (ltb c 103) g in
        let low = leb-true 97 c p.0 in
        let high = ltb-true (c - 87) 10 h in
        absurd (omega arith)
    range c false false false e f g h = cc

pub digit_not_white : (c : ℕ) → is_digit_in 10 c ≡ true → is_white c ≡ false
digit_not_white c e =
    let range = digit_range c e in
    or_false (((eqb c 32 || eqb c 9)) || eqb c 12) (eqb c 10 || eqb c 13)
    (or_false (eqb c 32 || eqb c 9) (eqb c 12) (or_false (eqb c 32) (eqb c 9) (ne_eqb c 32 (omega arith)) (ne_eqb c 9 (omega arith))) (ne_eqb c 12 (omega arith)))
    (or_false (eqb c 10) (eqb c 13) (ne_eqb c 10 (omega arith)) (ne_eqb c 13 (omega arith)))

pub digit_no_comment : (second c : ℕ) (us : List ℕ) → is_digit_in 10 c ≡ true → begins_comment second (c ∷ us) ≡ false
digit_no_comment second c us e =
    let range = digit_range c e in and_mid (ltb 1 (length (c ∷ us))) (eqb c 47) (eqb (get_or (c ∷ us) 1 0) second) (ne_eqb c 47 (omega arith))

pub digit_has_parts : (c : ℕ) (us : List ℕ) → is_digit_in 10 c ≡ true → (parts_len (c ∷ us) ≡ 0 → ⊥)
digit_has_parts c us e =
    let range = digit_range c e in
    let alphanumeric : is_ascii_alphanumeric c ≡ true =
    ap (λ b. ((b && leb c 57) || is_in_range 65 90 c) || is_in_range 97 122 c) (le-leb 48 c (omega arith)) ∙ ap (λ b. (b || is_in_range 65 90 c) || is_in_range 97 122 c) (le-leb c 57 (omega arith)) in
    has_parts (c ∷ us) (ap (passes is_part_char) (ascii_front c us (omega arith))
    ∙ ap (λ b. (b || eqb c 95) || eqb c 36) (is_xid_continue-ascii c (omega arith) ∙ ap (λ b. b || eqb c 95) alphanumeric))

-- a quotation mark is no part of a word
pub no_parts : (c : ℕ) (us : List ℕ) → c < 128 → (((is_ascii_alphanumeric c || eqb c 95) || eqb c 95) || eqb c 36) ≡ false → parts_len (c ∷ us) ≡ 0
no_parts c us h e = parts_stop (c ∷ us) (ap (passes is_part_char) (ascii_front c us h) ∙ ap (λ b. (b || eqb c 95) || eqb c 36) (is_xid_continue-ascii c h) ∙ e)
