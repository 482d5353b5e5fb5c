-- What stands at the front of a text, one unit at a time.
use Rattle.std.proofs.Common.{◌≡◌, ℕ, zero, suc, ◌+◌, ◌-◌, ◌<◌, ◌≤◌, Bool, true, false, cond, List, [], ◌∷◌, length, length-drop, take, drop, get_or, get_or-drop, refl, sym, ap, ◌∙◌, subst, arith, Option, Some, None, option_map, drop-drop}
use Rattle.std.proofs.Math.Seq.{take-length}
use Rattle.std.proofs.lemmas.List.{at_drop_more, at_drop_all}
use Rattle.bj_text.specs.Unescape.{hex_of}
use Rattle.bj_lex.specs.Characters.{is_line_end, begins_part, front_width, parts_after}
use Rattle.bj_lex.specs.Comments.{line_len, block_len, is_comment_end}
use Rattle.bj_lex.specs.Literals.{closing, closes, escapes}
use Rattle.bj_lex.specs.declared.place.Place.{Place}
use Rattle.bj_lex.specs.Places.{next_place, place_after}
use Rattle.bj_lex.specs.Numerals.{digits_len, is_digit_or_underscore, value_after, with_digit}

-- the slice from a place to the end
pub from_place : (units : List ℕ) (k : ℕ) → take (length units - k) (drop k units) ≡ drop k units
from_place units k = ap (λ n. take n (drop k units)) (sym (length-drop k units)) ∙ take-length (drop k units)

-- a number in an option, raised
abbrev pub raised : ℕ → Option ℕ → Option ℕ
raised n o = option_map (λ k. n + k) o

pub raised-zero : (o : Option ℕ) → raised 0 o ≡ o
raised-zero None = refl
raised-zero (Some k) = ap Some (omega arith)

pub two_more : (n : ℕ) → ◌≡◌ {A = Option ℕ} (Some (n + 2)) (raised n (Some 2))
two_more n = refl

pub at_zero : (n : ℕ) → ◌≡◌ {A = Option ℕ} (Some n) (raised n (Some 0))
at_zero n = ap Some (omega arith)

pub raised-suc : (n : ℕ) (o : Option ℕ) → raised n (option_map suc o) ≡ raised (n + 1) o
raised-suc n None = refl
raised-suc n (Some k) = ap Some (omega arith)

next_unit : (xs : List ℕ) (at : ℕ) → get_or (drop (at + 1) xs) 0 0 ≡ get_or xs (at + 1) 0
next_unit xs at = get_or-drop (at + 1) xs 0 0 ∙ ap (λ n. get_or xs n 0) {x = at + 1 + 0} {y = at + 1} (omega arith)

pub line_len-cons : (u : ℕ) (us : List ℕ) → line_len (u ∷ us) ≡ cond (is_line_end u) 0 (suc (line_len us))
unfolding line_len
line_len-cons u us = refl

pub line_len-nil : line_len [] ≡ 0
unfolding line_len
line_len-nil = refl

pub block_len-cons : (u : ℕ) (us : List ℕ) → block_len (u ∷ us) ≡ cond (is_comment_end u (get_or us 0 0)) (Some 2) (option_map suc (block_len us))
unfolding block_len
block_len-cons u us = refl

pub block_len-nil : block_len [] ≡ None
unfolding block_len
block_len-nil = refl

digits_len-cons : (base u : ℕ) (us : List ℕ) → digits_len base (u ∷ us) ≡ cond (is_digit_or_underscore base u) (suc (digits_len base us)) 0
unfolding digits_len
digits_len-cons base u us = refl

digits_len-nil : (base : ℕ) → digits_len base [] ≡ 0
unfolding digits_len
digits_len-nil base = refl

pub closing-cons : (mark : ℕ) (escaped : Bool) (u : ℕ) (us : List ℕ) → closing mark escaped (u ∷ us)
    ≡ cond (is_line_end u) None (cond (closes mark escaped u) (Some 0) (option_map suc (closing mark (escapes escaped u) us)))
unfolding closing
closing-cons mark escaped u us = refl

pub closing-nil : (mark : ℕ) (escaped : Bool) → closing mark escaped [] ≡ None
unfolding closing
closing-nil mark escaped = refl

pub value_after-cons : (base n u : ℕ) (us : List ℕ) → value_after base n (u ∷ us) ≡ value_after base (with_digit base n (hex_of u)) us
unfolding value_after
value_after-cons base n u us = refl

pub value_after-nil : (base n : ℕ) → value_after base n [] ≡ n
unfolding value_after
value_after-nil base n = refl

module _ (xs : List ℕ) (at : ℕ) where
  pub line_stop : at < length xs → is_line_end (get_or xs at 0) ≡ true → line_len (drop at xs) ≡ 0
  line_stop lt e = at_drop_more line_len xs at 0 lt ∙ line_len-cons (get_or xs at 0) (drop (at + 1) xs) ∙ ap (λ b. cond b 0 (suc (line_len (drop (at + 1) xs)))) e

  pub line_more : at < length xs → is_line_end (get_or xs at 0) ≡ false → line_len (drop at xs) ≡ suc (line_len (drop (at + 1) xs))
  line_more lt e = at_drop_more line_len xs at 0 lt ∙ line_len-cons (get_or xs at 0) (drop (at + 1) xs) ∙ ap (λ b. cond b 0 (suc (line_len (drop (at + 1) xs)))) e

  pub line_end : length xs ≤ at → line_len (drop at xs) ≡ 0
  line_end le = at_drop_all line_len xs at le ∙ line_len-nil

  pub digits_stop : (base : ℕ) → at < length xs → is_digit_or_underscore base (get_or xs at 0) ≡ false → digits_len base (drop at xs) ≡ 0
  digits_stop base lt e = at_drop_more (digits_len base) xs at 0 lt ∙ digits_len-cons base (get_or xs at 0) (drop (at + 1) xs) ∙ ap (λ b. cond b (suc (digits_len base (drop (at + 1) xs))) 0) e

  pub digits_more : (base : ℕ) → at < length xs → is_digit_or_underscore base (get_or xs at 0) ≡ true → digits_len base (drop at xs) ≡ suc (digits_len base (drop (at + 1) xs))
  digits_more base lt e = at_drop_more (digits_len base) xs at 0 lt ∙ digits_len-cons base (get_or xs at 0) (drop (at + 1) xs) ∙ ap (λ b. cond b (suc (digits_len base (drop (at + 1) xs))) 0) e

  pub digits_end : (base : ℕ) → length xs ≤ at → digits_len base (drop at xs) ≡ 0
  digits_end base le = at_drop_all (digits_len base) xs at le ∙ digits_len-nil base

  pub block_at : at < length xs → block_len (drop at xs) ≡ cond (is_comment_end (get_or xs at 0) (get_or xs (at + 1) 0)) (Some 2) (option_map suc (block_len (drop (at + 1) xs)))
  block_at lt = at_drop_more block_len xs at 0 lt ∙ block_len-cons (get_or xs at 0) (drop (at + 1) xs)
      ∙ ap (λ v. cond (is_comment_end (get_or xs at 0) v) (Some 2) (option_map suc (block_len (drop (at + 1) xs)))) (next_unit xs at)

  pub block_stop : at < length xs → is_comment_end (get_or xs at 0) (get_or xs (at + 1) 0) ≡ true → block_len (drop at xs) ≡ Some 2
  block_stop lt e = block_at lt ∙ ap (λ b. cond b (Some 2) (option_map suc (block_len (drop (at + 1) xs)))) e

  pub block_more : at < length xs → is_comment_end (get_or xs at 0) (get_or xs (at + 1) 0) ≡ false → raised at (block_len (drop at xs)) ≡ raised (at + 1) (block_len (drop (at + 1) xs))
  block_more lt e = ap (raised at) (block_at lt ∙ ap (λ b. cond b (Some 2) (option_map suc (block_len (drop (at + 1) xs)))) e) ∙ raised-suc at (block_len (drop (at + 1) xs))

  pub block_end : length xs ≤ at → block_len (drop at xs) ≡ None
  block_end le = at_drop_all block_len xs at le ∙ block_len-nil

  pub closing_at : (mark : ℕ) (escaped : Bool) → at < length xs → closing mark escaped (drop at xs)
      ≡ cond (is_line_end (get_or xs at 0)) None (cond (closes mark escaped (get_or xs at 0)) (Some 0) (option_map suc (closing mark (escapes escaped (get_or xs at 0)) (drop (at + 1) xs))))
  closing_at mark escaped lt = at_drop_more (closing mark escaped) xs at 0 lt ∙ closing-cons mark escaped (get_or xs at 0) (drop (at + 1) xs)

  pub closing_line : (mark : ℕ) (escaped : Bool) → at < length xs → is_line_end (get_or xs at 0) ≡ true → closing mark escaped (drop at xs) ≡ None
  closing_line mark escaped lt e = closing_at mark escaped lt
      ∙ ap (λ b. cond b None (cond (closes mark escaped (get_or xs at 0)) (Some 0) (option_map suc (closing mark (escapes escaped (get_or xs at 0)) (drop (at + 1) xs))))) e

  pub closing_mark : (mark : ℕ) (escaped : Bool) → at < length xs → is_line_end (get_or xs at 0) ≡ false → closes mark escaped (get_or xs at 0) ≡ true → closing mark escaped (drop at xs) ≡ Some 0
  closing_mark mark escaped lt e f = closing_at mark escaped lt
      ∙ ap (λ b. cond b None (cond (closes mark escaped (get_or xs at 0)) (Some 0) (option_map suc (closing mark (escapes escaped (get_or xs at 0)) (drop (at + 1) xs))))) e
      ∙ ap (λ b. cond b (Some 0) (option_map suc (closing mark (escapes escaped (get_or xs at 0)) (drop (at + 1) xs)))) f

  pub closing_more : (mark : ℕ) (escaped next : Bool) → at < length xs → is_line_end (get_or xs at 0) ≡ false → closes mark escaped (get_or xs at 0) ≡ false → next ≡ escapes escaped (get_or xs at 0)
      → raised at (closing mark escaped (drop at xs)) ≡ raised (at + 1) (closing mark next (drop (at + 1) xs))
  closing_more mark escaped next lt e f g = ap (raised at) (closing_at mark escaped lt
      ∙ ap (λ b. cond b None (cond (closes mark escaped (get_or xs at 0)) (Some 0) (option_map suc (closing mark (escapes escaped (get_or xs at 0)) (drop (at + 1) xs))))) e
      ∙ ap (λ b. cond b (Some 0) (option_map suc (closing mark (escapes escaped (get_or xs at 0)) (drop (at + 1) xs)))) f)
      ∙ raised-suc at (closing mark (escapes escaped (get_or xs at 0)) (drop (at + 1) xs))
      ∙ ap (λ b. raised (at + 1) (closing mark b (drop (at + 1) xs))) (sym g)

  pub closing_end : (mark : ℕ) (escaped : Bool) → length xs ≤ at → closing mark escaped (drop at xs) ≡ None
  closing_end mark escaped le = at_drop_all (closing mark escaped) xs at le ∙ closing-nil mark escaped

  pub value_at : (base n : ℕ) → at < length xs → value_after base n (drop at xs) ≡ value_after base (with_digit base n (hex_of (get_or xs at 0))) (drop (at + 1) xs)
  value_at base n lt = at_drop_more (value_after base n) xs at 0 lt ∙ value_after-cons base n (get_or xs at 0) (drop (at + 1) xs)

  pub value_end : (base n : ℕ) → length xs ≤ at → value_after base n (drop at xs) ≡ n
  value_end base n le = at_drop_all (value_after base n) xs at le ∙ value_after-nil base n

-- the run of letters and digits
parts_skip : (n : ℕ) (us : List ℕ) → n ≤ length us → parts_after n us ≡ n + parts_after 0 (drop n us)
unfolding parts_after
parts_skip zero us h = omega arith
parts_skip (suc n) [] h = absurd (omega arith)
parts_skip (suc n) (u ∷ us) h = ap suc (parts_skip n us (omega arith)) ∙ omega arith

parts-nil : (n : ℕ) → parts_after n [] ≡ 0
unfolding parts_after
parts-nil zero = refl
parts-nil (suc n) = refl

pub parts_stop : (us : List ℕ) → begins_part us ≡ false → parts_after 0 us ≡ 0
unfolding parts_after
parts_stop [] e = refl
parts_stop (u ∷ us) e = ap (λ b. cond b (suc (parts_after (front_width (u ∷ us) - 1) us)) 0) e

pub parts_more : (us : List ℕ) → begins_part us ≡ true → 1 ≤ front_width us → front_width us ≤ length us → parts_after 0 us ≡ front_width us + parts_after 0 (drop (front_width us) us)
unfolding parts_after
parts_more [] e low high = absurd (omega arith)
parts_more (u ∷ us) e low high =
    let w = front_width (u ∷ us) - 1 in
    let is : front_width (u ∷ us) ≡ suc w = omega arith in
    ap (λ b. cond b (suc (parts_after w us)) 0) e ∙ ap suc (parts_skip w us (omega arith))
    ∙ sym (ap (λ n. n + parts_after 0 (drop n (u ∷ us))) is ∙ omega arith)

pub parts_more_at : (us : List ℕ) (at w : ℕ) → begins_part (drop at us) ≡ true → w ≡ front_width (drop at us) → 1 ≤ w → w ≤ length (drop at us)
    → at + parts_after 0 (drop at us) ≡ at + w + parts_after 0 (drop (at + w) us)
parts_more_at us at w e is low high =
    let step = parts_more (drop at us) e (subst (λ (n : ℕ). 1 ≤ n) is low) (subst (λ (n : ℕ). n ≤ length (drop at us)) is high) in
    let there = ap (λ n. n + parts_after 0 (drop n (drop at us))) (sym is) ∙ ap (λ t. w + parts_after 0 t) (drop-drop w at us) in
    omega (arith, step, there)

pub parts_end : (us : List ℕ) (at : ℕ) → length us ≤ at → parts_after 0 (drop at us) ≡ 0
parts_end us at le = at_drop_all (parts_after 0) us at le ∙ parts-nil 0

place_after-cons : (p : Place) (u : ℕ) (us : List ℕ) → place_after p (u ∷ us) ≡ place_after (next_place p u) us
unfolding place_after
place_after-cons p u us = refl

pub place_after-nil : (p : Place) → place_after p [] ≡ p
unfolding place_after
place_after-nil p = refl

pub place_at : (us : List ℕ) (at : ℕ) (p : Place) → at < length us → place_after p (drop at us) ≡ place_after (next_place p (get_or us at 0)) (drop (at + 1) us)
place_at us at p lt = at_drop_more (place_after p) us at 0 lt ∙ place_after-cons p (get_or us at 0) (drop (at + 1) us)

pub place_end : (us : List ℕ) (at : ℕ) (p : Place) → length us ≤ at → place_after p (drop at us) ≡ p
place_end us at p le = at_drop_all (place_after p) us at le ∙ place_after-nil p
