-- One turn of a loop over checked parts, as the code makes it.
use Rattle.std.proofs.Common.{◌≡◌, ℕ, zero, suc, ◌+◌, ◌-◌, ◌<◌, ◌≤◌, Bool, true, false, cond, List, [], ◌∷◌, ◌++◌, Option, sym, ap, ◌∙◌, subst, refl, arith}
use Rattle.bj_rules.specs.declared.misfit.Misfit.{Misfit}
use Rattle.bj_grammar.specs.declared.stop.Stop.{Stop}
use Rattle.bj_grammar.specs.declared.stop.Stop.TheVariants as f
use Rattle.bj_grammar.specs.declared.terminal.Terminal.{Terminal}
use Rattle.bj_grammar.specs.Terminal.{terminal}
use Rattle.bj_grammar.specs.Reader.{Text, Found, Wrong, Over, Parser, over, nowhere}
use Rattle.bj_parse.specs.declared.halt.Halt.{Halt}
use Rattle.bj_parse.specs.declared.halt.Halt.TheVariants as halts
use Rattle.bj_parse.specs.Checked.{Checked, Reads, Misfits, then_checked, checked_part, checked_items, IsDeepChecked, HaltsAs}

-- what stops a part stops the whole
pub halts_then : {A B : Type 0} (e : Halt) (r : Checked A) (g : A → ℕ → Checked B) → HaltsAs e r → HaltsAs e (then_checked r g)
halts_then (halts.Stopped f.Memory) r g h = tt
halts_then (halts.Stopped (f.Syntax at)) r g h = ap (λ (x : Checked _). then_checked x g) h
halts_then (halts.Stopped (f.Deep at)) (Reads (Found a j)) g h = absurd h
halts_then (halts.Stopped (f.Deep at)) (Reads (Wrong k)) g h = absurd h
halts_then (halts.Stopped (f.Deep at)) (Reads (Over k d)) g h = h
halts_then (halts.Stopped (f.Deep at)) (Misfits x) g h = absurd h
halts_then (halts.Unfit x) r g h = ap (λ (y : Checked _). then_checked y g) h

pub halts_same : {A : Type 0} (e : Halt) (r q : Checked A) → q ≡ r → HaltsAs e r → HaltsAs e q
halts_same e r q is h = subst (λ (x : Checked _). HaltsAs e x) (sym is) h

-- what a loop of the code says that has taken all its turns
pub out_halts : {A : Type 0} {e : Stop} (r : Checked A) → e ≡ f.Deep nowhere → IsDeepChecked nowhere r → HaltsAs (halts.Stopped e) r
out_halts r is h = subst (λ (x : Stop). HaltsAs (halts.Stopped x) r) (sym is) h

module _ {A : Type 0} (test : Terminal → Bool) (item : Parser A) (check : A → ℕ → Checked A) (early : ℕ → ℕ → Option Misfit) (s : Text) where
  abbrev run : ℕ → List A → ℕ → Checked (List A)
  run n b i = checked_items test item check early s n b i

  -- one part behind others
  abbrev turn_of : List A → ℕ → Checked (List A)
  turn_of b i = then_checked (checked_part check (early i) (item s i)) (λ a j. Reads (Found (b ++ a ∷ []) j))

  run_stop : (n : ℕ) (b : List A) (i : ℕ) → test (terminal (s i)) ≡ false → run n b i ≡ Reads (Found b i)
  unfolding checked_items
  run_stop zero b i e = ap (λ (c : Bool). cond c (Reads (over {A = List A} (λ _. nowhere) s i)) (Reads (Found b i))) e
  run_stop (suc n) b i e = ap (λ (c : Bool). cond c (then_checked (checked_part check (early i) (item s i)) (λ a j. run n (b ++ a ∷ []) j)) (Reads (Found b i))) e

  run_turn : (n : ℕ) (b : List A) (i : ℕ) → test (terminal (s i)) ≡ true → run (suc n) b i ≡ then_checked (turn_of b i) (λ c j. run n c j)
  unfolding checked_items
  run_turn n b i e = ap (λ (c : Bool). cond c (then_checked (checked_part check (early i) (item s i)) (λ a j. run n (b ++ a ∷ []) j)) (Reads (Found b i))) e ∙ joined (checked_part check (early i) (item s i))
    where
      joined : (r : Checked A) → then_checked r (λ a j. checked_items test item check early s n (b ++ a ∷ []) j) ≡ then_checked (then_checked r (λ a j. Reads (Found (b ++ a ∷ []) j))) (λ c j. checked_items test item check early s n c j)
      joined (Reads (Found a j)) = refl
      joined (Reads (Wrong k)) = refl
      joined (Reads (Over k at)) = refl
      joined (Misfits x) = refl

  run_over : (b : List A) (i : ℕ) → test (terminal (s i)) ≡ true → IsDeepChecked nowhere (run 0 b i)
  unfolding checked_items
  run_over b i e = subst (λ (c : Bool). IsDeepChecked nowhere (cond c (Reads (over {A = List A} (λ _. nowhere) s i)) (Reads (Found b i)))) (sym e) refl

  pub run_start : (most : ℕ) (b : List A) (i : ℕ) → run most b i ≡ run (most - 0) b i
  run_start most b i = let e : most ≡ most - 0 = omega arith in ap (λ (n : ℕ). run n b i) e

  module _ (before : Checked (List A)) (most turn : ℕ) (b : List A) (at : ℕ) (so_far : before ≡ run (most - turn) b at) where
    pub stops : test (terminal (s at)) ≡ false → before ≡ Reads (Found b at)
    stops no_turn = so_far ∙ run_stop (most - turn) b at no_turn

    one_turn : turn < most → test (terminal (s at)) ≡ true → before ≡ then_checked (turn_of b at) (λ c j. run (most - (turn + 1)) c j)
    one_turn below is_one = so_far ∙ (ap (λ (n : ℕ). run n b at) (let e : most - turn ≡ suc (most - (turn + 1)) = omega arith in e) ∙ run_turn (most - (turn + 1)) b at is_one)

    pub goes : turn < most → test (terminal (s at)) ≡ true → (c : List A) (j : ℕ) → turn_of b at ≡ Reads (Found c j) → before ≡ run (most - (turn + 1)) c j
    goes below is_one c j found = one_turn below is_one ∙ ap (λ (r : Checked (List A)). then_checked r (λ c j. run (most - (turn + 1)) c j)) found

    pub fails : turn < most → test (terminal (s at)) ≡ true → (e : Halt) → HaltsAs e (turn_of b at) → HaltsAs e before
    fails below is_one e h = halts_same e _ before (one_turn below is_one) (halts_then e (turn_of b at) _ h)

    pub overs : most ≤ turn → test (terminal (s at)) ≡ true → IsDeepChecked nowhere before
    overs above is_one = subst (IsDeepChecked nowhere) (sym (so_far ∙ ap (λ (n : ℕ). run n b at) (let e : most - turn ≡ 0 = omega arith in e))) (run_over b at is_one)
