-- Runs of letters and digits: unit by unit, and as the characters that they spell.
use Rattle.std.proofs.Common.{◌≡◌, ℕ, zero, suc, ◌+◌, ◌≤◌, Bool, true, false, ◌&&◌, cond, leb, ltb, List, [], ◌∷◌, ◌++◌, length, take, drop, get_or, refl, sym, ap, ◌∙◌, arith, Some}
use borrow.Author.Tests.{ltb-true, leb-true}
use Rattle.std.specs.List.{list_all}
use Rattle.std.specs.Char.Utf16.{surrogate_pair_char, lone_unit_char, is_high_surrogate, is_low_surrogate, utf16_chars}
use Rattle.std.proofs.str.Utf16.{lone_unit_char_surrogate}
use Rattle.std.proofs.Math.Seq.{drop-append_seam, take-append_seam}
use Rattle.bj_lex.specs.Characters.{is_pair, front_width, passes, is_part_char, begins_part, parts_len, parts_after}
use Rattle.bj_lex.specs.Grammar.{IsParts, IsRun}
use Rattle.bj_lex.proofs.Runs.{parts_stop, parts_more}

both : (a b : Bool) → (a && b) ≡ true → (a ≡ true) × (b ≡ true)
both true b e = (refl, e)
both false b e = cc

no_half : (a : Bool) → (a && false) ≡ false
no_half true = refl
no_half false = refl

chars_nil : utf16_chars [] ≡ []
unfolding utf16_chars
chars_nil = refl

chars_pair : (u v : ℕ) (us : List ℕ) → is_pair u v ≡ true → utf16_chars (u ∷ v ∷ us) ≡ Some (surrogate_pair_char u v) ∷ utf16_chars us
unfolding utf16_chars
chars_pair u v us e = ap (λ t. cond t (Some (surrogate_pair_char u v) ∷ utf16_chars us) (lone_unit_char u ∷ utf16_chars (v ∷ us))) e

chars_lone : (u : ℕ) (us : List ℕ) → is_pair u (get_or us 0 0) ≡ false → utf16_chars (u ∷ us) ≡ lone_unit_char u ∷ utf16_chars us
unfolding utf16_chars
chars_lone u [] e = refl
chars_lone u (v ∷ us) e = ap (λ t. cond t (Some (surrogate_pair_char u v) ∷ utf16_chars us) (lone_unit_char u ∷ utf16_chars (v ∷ us))) e

-- whether the character at the front is a letter or digit, by whether it is a pair
abbrev begins_if : Bool → ℕ → ℕ → Bool
begins_if pair u v = passes is_part_char (cond pair (Some (surrogate_pair_char u v)) (lone_unit_char u))

-- one character more of a run
pair_more : (u v : ℕ) (us : List ℕ) → is_pair u v ≡ true → begins_part (u ∷ v ∷ us) ≡ true → parts_after 0 (u ∷ v ∷ us) ≡ 2 + parts_after 0 us
pair_more u v us e part =
    let width : front_width (u ∷ v ∷ us) ≡ 2 = ap (λ b. cond b 2 1) e in
    parts_more (u ∷ v ∷ us) part (omega (arith, width)) (omega (arith, width)) ∙ ap (λ n. n + parts_after 0 (drop n (u ∷ v ∷ us))) width

lone_more : (u : ℕ) (us : List ℕ) → is_pair u (get_or us 0 0) ≡ false → begins_part (u ∷ us) ≡ true → parts_after 0 (u ∷ us) ≡ 1 + parts_after 0 us
lone_more u us e part =
    let width : front_width (u ∷ us) ≡ 1 = ap (λ b. cond b 2 1) e in
    parts_more (u ∷ us) part (omega (arith, width)) (omega (arith, width)) ∙ ap (λ n. n + parts_after 0 (drop n (u ∷ us))) width

-- a text cut behind its longest run
record Cut (us : List ℕ) : Type 0 where
  word : List ℕ
  rest : List ℕ
  is : us ≡ word ++ rest
  size : length word ≡ parts_after 0 us
  parts : IsParts word
  stops : begins_part rest ≡ false

same_front : (u : ℕ) (us word rest : List ℕ) → us ≡ word ++ rest → is_pair u (get_or us 0 0) ≡ false → is_pair u (get_or word 0 0) ≡ false
same_front u us [] rest is e = no_half (is_high_surrogate u)
same_front u us (v ∷ word) rest is e = ap (λ t. is_pair u (get_or t 0 0)) (sym is) ∙ e

cut_empty : (us : List ℕ) → begins_part us ≡ false → Cut us
cut_empty us e = record { word = []; rest = us; is = refl; size = sym (parts_stop us e); parts = ap (list_all (passes is_part_char)) chars_nil; stops = e }

cut_pair : (u v : ℕ) (us : List ℕ) → is_pair u v ≡ true → begins_part (u ∷ v ∷ us) ≡ true → Cut us → Cut (u ∷ v ∷ us)
cut_pair u v us e part c = record {
  word = u ∷ v ∷ c.word;
  rest = c.rest;
  is = ap (λ t. u ∷ v ∷ t) c.is;
  size = omega (arith, c.size, pair_more u v us e part);
  parts = ap (list_all (passes is_part_char)) (chars_pair u v c.word e)
      ∙ ap (λ b. b && list_all (passes is_part_char) (utf16_chars c.word)) (ap (λ t. begins_if t u v) (sym e) ∙ part) ∙ c.parts;
  stops = c.stops;
}

cut_lone : (u : ℕ) (us : List ℕ) → is_pair u (get_or us 0 0) ≡ false → begins_part (u ∷ us) ≡ true → Cut us → Cut (u ∷ us)
cut_lone u us e part c = record {
  word = u ∷ c.word;
  rest = c.rest;
  is = ap (λ t. u ∷ t) c.is;
  size = omega (arith, c.size, lone_more u us e part);
  parts = ap (list_all (passes is_part_char)) (chars_lone u c.word (same_front u us c.word c.rest c.is e))
      ∙ ap (λ b. b && list_all (passes is_part_char) (utf16_chars c.word)) (ap (λ t. begins_if t u (get_or us 0 0)) (sym e) ∙ part) ∙ c.parts;
  stops = c.stops;
}

module _ (k u : ℕ) (shorter : (us : List ℕ) → length us ≤ k → Cut us) where
  cut_by : (us : List ℕ) → length us ≤ k → begins_part (u ∷ us) ≡ true → (t : Bool) → is_pair u (get_or us 0 0) ≡ t → Cut (u ∷ us)
  cut_by us h part false e = cut_lone u us e part (shorter us h)
  cut_by [] h part true e = let none = no_half (is_high_surrogate u) in cc
  cut_by (v ∷ us) h part true e = cut_pair u v us e part (shorter us (omega arith))

  cut_at : (us : List ℕ) → length us ≤ k → (t : Bool) → begins_part (u ∷ us) ≡ t → Cut (u ∷ us)
  cut_at us h false e = cut_empty (u ∷ us) e
  cut_at us h true e = cut_by us h e (is_pair u (get_or us 0 0)) refl

cut_within : (k : ℕ) (us : List ℕ) → length us ≤ k → Cut us
cut_within k [] h = cut_empty [] refl
cut_within zero (u ∷ us) h = absurd (omega arith)
cut_within (suc k) (u ∷ us) h = cut_at k u (cut_within k) us (omega arith) (begins_part (u ∷ us)) refl

-- the longest run at the front is one
pub taken_is_run : (us : List ℕ) → IsRun (take (parts_len us) us) (drop (parts_len us) us)
taken_is_run us =
    let c = cut_within (length us) us (omega arith) in
    let word : take (parts_len us) us ≡ c.word = ap (take (parts_len us)) c.is ∙ ap (λ k. take k (c.word ++ c.rest)) (sym c.size) ∙ take-append_seam c.word c.rest in
    let rest : drop (parts_len us) us ≡ c.rest = ap (drop (parts_len us)) c.is ∙ ap (λ k. drop k (c.word ++ c.rest)) (sym c.size) ∙ drop-append_seam c.word c.rest in
    (ap (λ w. list_all (passes is_part_char) (utf16_chars w)) word ∙ c.parts, ap begins_part rest ∙ c.stops)

-- a unit that is a letter or digit alone is no half of a pair
no_high : (u v : ℕ) → passes is_part_char (lone_unit_char u) ≡ true → is_pair u v ≡ false
no_high u v part = of_high (is_high_surrogate u) refl
  where
    of_high : (t : Bool) → is_high_surrogate u ≡ t → is_pair u v ≡ false
    of_high false e = ap (λ b. b && is_low_surrogate v) e
    of_high true e =
        let range = both (leb 0xD800 u) (ltb u 0xDC00) e in
        let low = leb-true 0xD800 u range.0 in
        let high = ltb-true u 0xDC00 range.1 in
        let none = ap (passes is_part_char) (lone_unit_char_surrogate u low (omega arith)) in
        cc

module _ (k u : ℕ) (rest : List ℕ) (shorter : (word : List ℕ) → length word ≤ k → IsParts word → parts_after 0 (word ++ rest) ≡ length word) where
  run_by : (word : List ℕ) → length word ≤ k → IsParts (u ∷ word) → (t : Bool) → is_pair u (get_or word 0 0) ≡ t → parts_after 0 (u ∷ (word ++ rest)) ≡ suc (length word)
  run_by word h parts false e =
      let each = both (passes is_part_char (lone_unit_char u)) (list_all (passes is_part_char) (utf16_chars word)) (ap (list_all (passes is_part_char)) (sym (chars_lone u word e)) ∙ parts) in
      let alone = no_high u (get_or (word ++ rest) 0 0) each.0 in
      omega (arith, lone_more u (word ++ rest) alone (ap (λ t. begins_if t u (get_or (word ++ rest) 0 0)) alone ∙ each.0), shorter word h each.1)
  run_by [] h parts true e = let none = no_half (is_high_surrogate u) in cc
  run_by (v ∷ word) h parts true e =
      let each = both (passes is_part_char (Some (surrogate_pair_char u v))) (list_all (passes is_part_char) (utf16_chars word)) (ap (list_all (passes is_part_char)) (sym (chars_pair u v word e)) ∙ parts) in
      omega (arith, pair_more u v (word ++ rest) e (ap (λ t. begins_if t u v) e ∙ each.0), shorter word (omega arith) each.1)

run_within : (k : ℕ) (rest word : List ℕ) → begins_part rest ≡ false → length word ≤ k → IsParts word → parts_after 0 (word ++ rest) ≡ length word
run_within k rest [] stops h parts = parts_stop rest stops
run_within zero rest (u ∷ word) stops h parts = absurd (omega arith)
run_within (suc k) rest (u ∷ word) stops h parts =
    run_by k u rest (λ w short p. run_within k rest w stops short p) word (omega arith) parts (is_pair u (get_or word 0 0)) refl

-- a run is as long as the longest one at the front
pub run_is_longest : (us word rest : List ℕ) → us ≡ word ++ rest → IsRun word rest → length word ≡ parts_len us
run_is_longest us word rest is run = sym (ap parts_len is ∙ run_within (length word) rest word run.1 (omega arith) run.0)
