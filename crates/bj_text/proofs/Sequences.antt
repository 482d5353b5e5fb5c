-- On what a text stands for, as far as it is read.
use Rattle.std.proofs.Common.{◌≡◌, ℕ, zero, suc, ◌+◌, ◌<◌, ◌≤◌, List, [], ◌∷◌, ◌++◌, length, ◌-◌, drop, take, get_or, drop-drop, length-drop, refl, sym, ap, ◌∙◌, arith, append_assoc, append-nil, Result, Ok, Err, Option, Some, None, cond, eqb}
use Rattle.std.proofs.Math.Seq.{take-length}
use Rattle.std.proofs.lemmas.Bool.Decides.{nat_tests}
use Rattle.std.proofs.lemmas.List.{at_drop_more, at_drop_all}
use Rattle.bj_text.specs.Unescape.{unescaped_after, before_units, sequence_of}

-- the slice from a place to the end
pub rest_from : (units : List ℕ) (k : ℕ) → take (length units - k) (drop k units) ≡ drop k units
rest_from units k = ap (λ n. take n (drop k units)) (sym (length-drop k units)) ∙ take-length (drop k units)

pub before_units-append : (us vs : List ℕ) (r : Result (List ℕ) ℕ) → before_units us (before_units vs r) ≡ before_units (us ++ vs) r
before_units-append us vs (Ok ws) = ap Ok (sym (append_assoc us vs ws))
before_units-append us vs (Err at) = refl

pub skips : (n at : ℕ) (us : List ℕ) → n ≤ length us → unescaped_after n at us ≡ unescaped_after 0 (at + n) (drop n us)
unfolding unescaped_after
skips zero at us h = ap (λ k. unescaped_after 0 k us) (omega arith)
skips (suc n) at [] h = absurd (omega arith)
skips (suc n) at (u ∷ us) h = skips n (at + 1) us (omega arith) ∙ ap (λ k. unescaped_after 0 k (drop n us)) (omega arith)

pub stands_for_itself : (at u : ℕ) (us : List ℕ) → (u ≡ 92 → ⊥) → unescaped_after 0 at (u ∷ us) ≡ before_units (u ∷ []) (unescaped_after 0 (at + 1) us)
unfolding unescaped_after
stands_for_itself at u us h = grind (arith, nat_tests)

pub begins_none : (at : ℕ) (us : List ℕ) → sequence_of us ≡ None → unescaped_after 0 at (92 ∷ us) ≡ Err at
unfolding unescaped_after
begins_none at us h = rw h

pub begins_one : (at n v : ℕ) (us : List ℕ) → sequence_of us ≡ Some (n, v) → unescaped_after 0 at (92 ∷ us) ≡ before_units (v ∷ []) (unescaped_after n (at + 1) us)
unfolding unescaped_after
begins_one at n v us h = rw h

ends : (at : ℕ) → unescaped_after 0 at [] ≡ Ok []
unfolding unescaped_after
ends at = refl

-- a step of the reading, where the text so far is followed by the units from the place at on
module _ (text more units : List ℕ) (at : ℕ) (whole : Result (List ℕ) ℕ) (so_far : before_units text (unescaped_after 0 at (drop at units)) ≡ whole) where
  pub plain_step : at < length units → (get_or units at 0 ≡ 92 → ⊥) → more ≡ text ++ get_or units at 0 ∷ [] → before_units more (unescaped_after 0 (at + 1) (drop (at + 1) units)) ≡ whole
  plain_step lt plain m =
      let u = get_or units at 0 in
      let rest = unescaped_after 0 (at + 1) (drop (at + 1) units) in
      ap (λ t. before_units t rest) m ∙ sym (before_units-append text (u ∷ []) rest)
      ∙ ap (before_units text) (sym (at_drop_more (unescaped_after 0 at) units at 0 lt ∙ stands_for_itself at u (drop (at + 1) units) plain)) ∙ so_far

  at_backslash : at < length units → get_or units at 0 ≡ 92 → unescaped_after 0 at (drop at units) ≡ unescaped_after 0 at (92 ∷ drop (at + 1) units)
  at_backslash lt is = at_drop_more (unescaped_after 0 at) units at 0 lt ∙ ap (λ u. unescaped_after 0 at (u ∷ drop (at + 1) units)) is

  pub sequence_step : (n v : ℕ) → at < length units → get_or units at 0 ≡ 92 → sequence_of (drop (at + 1) units) ≡ Some (n, v) → n ≤ length (drop (at + 1) units) → more ≡ text ++ v ∷ []
      → before_units more (unescaped_after 0 (at + (1 + n)) (drop (at + (1 + n)) units)) ≡ whole
  sequence_step n v lt is s fits m =
      let rest = unescaped_after 0 (at + (1 + n)) (drop (at + (1 + n)) units) in
      let tail : unescaped_after n (at + 1) (drop (at + 1) units) ≡ rest =
      skips n (at + 1) (drop (at + 1) units) fits ∙ ap (λ us. unescaped_after 0 (at + 1 + n) us) (drop-drop n (at + 1) units) ∙ ap (λ k. unescaped_after 0 k (drop k units)) {x = at + 1 + n} {y = at + (1 + n)} (omega arith) in
      ap (λ t. before_units t rest) m ∙ sym (before_units-append text (v ∷ []) rest)
      ∙ ap (before_units text) (sym (at_backslash lt is ∙ begins_one at n v (drop (at + 1) units) s ∙ ap (before_units (v ∷ [])) tail)) ∙ so_far

  pub bad_step : at < length units → get_or units at 0 ≡ 92 → sequence_of (drop (at + 1) units) ≡ None → whole ≡ Err at
  bad_step lt is s = sym so_far ∙ ap (before_units text) (at_backslash lt is ∙ begins_none at (drop (at + 1) units) s)

  pub end_step : length units ≤ at → whole ≡ Ok text
  end_step le = sym so_far ∙ ap (before_units text) (at_drop_all (unescaped_after 0 at) units at le ∙ ends at) ∙ ap Ok (append-nil text)
