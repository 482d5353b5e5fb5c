-- What may stand directly behind a token.
use Rattle.std.proofs.Common.{◌≡◌, ℕ, suc, ◌-◌, ◌<◌, Bool, true, false, not, ◌&&◌, ◌||◌, cond, eqb, ltb, List, [], ◌∷◌, length, take, drop, get_or, codes, refl, ap, ◌∙◌, arith, Some}
use borrow.Author.Tests.{eqb-true, ltb-true, lt-leb}
use Rattle.std.specs.Char.{is_ascii_alphanumeric}
use Rattle.std.specs.Char.Utf16.{surrogate_pair_char, lone_unit_char, is_low_surrogate}
use Rattle.std.proofs.str.Utf16.{lone_unit_char_low}
use Rattle.bj_lex.specs.Characters.{front_char, front_width, begins_part, parts_len, parts_after}
use Rattle.bj_lex.specs.Signs.{is_one_of, is_double}
use Rattle.bj_lex.specs.Numerals.{is_digit_in, is_digits, digits_len, is_float, is_float_tail, is_exponent, is_exponent_mark, is_last_suffix, begins_exponent, is_hex_float, is_decimal_float, is_digits_or_none, has_hex_mark, is_suffixed, is_sign as is_plus_or_minus}
use Rattle.bj_lex.proofs.Letters.{or_false, or_none, no_parts}
use Rattle.bj_writer.specs.declared.writer.Last.{Last}
use Rattle.bj_writer.specs.Pieces.{is_run, is_number, is_sign, signs_join}
use Rattle.bj_writer.proofs.Conditions.{and_true, and_same, or_same, if_same, no_left, no_right}
use Rattle.bj_writer.proofs.Joining.{is_mark_unit}

pub record Behind (last : Last) (rest : List ℕ) : Type 0 where
  -- a run does not go on
  pub stops : is_run last.kind ≡ true → begins_part rest ≡ false
  -- neither a fraction nor an exponent follows a number
  pub whole : is_number last.kind ≡ true → is_one_of (codes ".+-") (get_or rest 0 0) ≡ false
  -- a sign does not go on
  pub apart : is_sign last.kind ≡ true → signs_join last.unit (get_or rest 0 0) ≡ false

-- the character of a unit of ASCII, whatever follows
pub ascii_front : (c : ℕ) (us : List ℕ) → c < 128 → front_char (c ∷ us) ≡ Some c
ascii_front c us h =
    ap (λ b. cond ((b && ltb c 56320) && is_low_surrogate (get_or us 0 0)) (Some (surrogate_pair_char c (get_or us 0 0))) (lone_unit_char c)) (lt-leb 55296 c (omega arith)) ∙ lone_unit_char_low c (omega arith)

not_true : (b : Bool) → not b ≡ true → b ≡ false
not_true true e = cc
not_true false e = refl

pub is_ascii : (u : ℕ) → is_mark_unit u ≡ true → u < 128
is_ascii u e = ltb-true u 128 (and_true (ltb u 128) (not (((is_ascii_alphanumeric u || eqb u 95) || eqb u 95) || eqb u 36)) e).0

none_begins : (b : Bool) (n : ℕ) → cond b (suc n) 0 ≡ 0 → b ≡ false
none_begins true n e = absurd (omega arith)
none_begins false n e = refl

no_part : (u : ℕ) (us : List ℕ) → parts_len (u ∷ us) ≡ 0 → begins_part (u ∷ us) ≡ false
unfolding parts_after
no_part u us e = none_begins (begins_part (u ∷ us)) (parts_after (front_width (u ∷ us) - 1) us) e

pub mark_no_part : (u : ℕ) (us : List ℕ) → is_mark_unit u ≡ true → begins_part (u ∷ us) ≡ false
mark_no_part u us e =
    no_part u us (no_parts u us (is_ascii u e) (not_true _ (and_true (ltb u 128) (not (((is_ascii_alphanumeric u || eqb u 95) || eqb u 95) || eqb u 36)) e).1))

-- a unit that is in no sign
equal_at : (u v : ℕ) (p : ℕ → Bool) → p v ≡ false → (eqb u v && p u) ≡ false
equal_at u v p e = by_test (eqb u v) refl
  where
    by_test : (t : Bool) → eqb u v ≡ t → (t && p u) ≡ false
    by_test true f = ap p (eqb-true u v f) ∙ e
    by_test false f = refl

module _ (v : ℕ) (equals : eqb v 61 ≡ false) (greater : eqb v 62 ≡ false) (in_none : is_one_of (codes "&|+-<>:") v ≡ false) (fraction : (eqb v 46 || is_digit_in 10 v) ≡ false) (comment : (eqb v 47 || eqb v 42) ≡ false) where
  pub no_join : (u : ℕ) → signs_join u v ≡ false
  no_join u =
      or_false (is_double u v) _
      (or_false _ (eqb u 45 && eqb v 62) (or_false (eqb v 61 && is_one_of (codes "=><!+-*/&|^%") u) (eqb u v && is_one_of (codes "&|+-<>:") u) (no_left (eqb v 61) _ equals) (equal_at u v (is_one_of (codes "&|+-<>:")) in_none))
      (no_right (eqb u 45) (eqb v 62) greater))
      (or_false (eqb u 46 && (eqb v 46 || is_digit_in 10 v)) (eqb u 47 && (eqb v 47 || eqb v 42)) (no_right (eqb u 46) _ fraction) (no_right (eqb u 47) _ comment))

pub behind_end : (last : Last) → Behind last []
behind_end last = record { stops = λ _. refl; whole = λ _. refl; apart = λ _. no_join 0 refl refl refl refl refl last.unit }

pub behind_space : (last : Last) (rest : List ℕ) → Behind last (32 ∷ rest)
behind_space last rest = record { stops = λ _. mark_no_part 32 rest refl; whole = λ _. refl; apart = λ _. no_join 32 refl refl refl refl refl last.unit }

pub behind_line : (last : Last) (rest : List ℕ) → Behind last (10 ∷ rest)
behind_line last rest = record { stops = λ _. mark_no_part 10 rest refl; whole = λ _. refl; apart = λ _. no_join 10 refl refl refl refl refl last.unit }

-- a number is as whole before other units
module _ (before after : List ℕ) (apart : is_one_of (codes ".+-") (get_or after 0 0) ≡ false) where
  no_point : eqb (get_or after 0 0) 46 ≡ false
  no_point = (or_none (eqb (get_or after 0 0) 46) _ apart).0

  no_sign : is_plus_or_minus (get_or after 0 0) ≡ false
  no_sign =
      let u = get_or after 0 0 in
      let signs = (or_none (eqb u 46) (eqb u 43 || (eqb u 45 || false)) apart).1 in
      let minus = (or_none (eqb u 43) (eqb u 45 || false) signs).1 in
      or_false (eqb u 43) (eqb u 45) (or_none (eqb u 43) (eqb u 45 || false) signs).0 (or_none (eqb u 45) false minus).0

  exponent_whole : (us : List ℕ) → is_exponent us before ≡ false → is_exponent us after ≡ false
  exponent_whole us e = if_same (eqb (length us) 0) _ (is_suffixed us) _ (is_suffixed us) (λ _. no_left (is_plus_or_minus (get_or after 0 0)) _ no_sign) (λ f. f) e

  tail_whole : (base : ℕ) (tail : List ℕ) → is_float_tail base tail before ≡ false → is_float_tail base tail after ≡ false
  tail_whole base tail e =
      if_same (eqb (length tail) 0) _ (begins_exponent base tail before || is_last_suffix base tail) _ (begins_exponent base tail after || is_last_suffix base tail) (λ _. no_point)
      (or_same (begins_exponent base tail before) (begins_exponent base tail after) (is_last_suffix base tail)
      (and_same (is_exponent_mark base (get_or tail 0 0)) (is_exponent (drop 1 tail) before) (is_exponent (drop 1 tail) after) (exponent_whole (drop 1 tail)))) e

  pub number_whole : (run : List ℕ) → is_float run before ≡ false → is_float run after ≡ false
  number_whole run e =
      let hex = drop 2 run in
      let m = digits_len 16 hex in
      let n = digits_len 10 run in
      if_same (has_hex_mark run) (is_hex_float hex before) (is_decimal_float run before) (is_hex_float hex after) (is_decimal_float run after)
      (and_same (is_digits_or_none (take m hex)) (is_float_tail 16 (drop m hex) before) (is_float_tail 16 (drop m hex) after) (tail_whole 16 (drop m hex)))
      (and_same (is_digits 10 (take n run)) (is_float_tail 10 (drop n run) before) (is_float_tail 10 (drop n run) after) (tail_whole 10 (drop n run))) e
