-- One turn of a loop, as the code makes it.
use Rattle.std.proofs.Common.{◌≡◌, ℕ, zero, suc, ◌+◌, ◌-◌, ◌<◌, ◌≤◌, Result, Bool, true, false, cond, refl, sym, ap, ◌∙◌, subst, arith}
use Rattle.bj_grammar.specs.declared.terminal.Terminal.{Terminal}
use Rattle.bj_grammar.specs.declared.stop.Stop.{Stop}
use Rattle.bj_grammar.specs.declared.stop.Stop.TheVariants as f
use Rattle.bj_grammar.specs.Terminal.{terminal}
use Rattle.bj_grammar.specs.Reader.{Text, Answer, Found, Wrong, Over, Parser, and_then, ◌>>=◌, over, nowhere, loop}
use Rattle.bj_grammar.specs.Given.{IsDeepAt, Fails, Gives}

-- a fault of a part is a fault of the whole
pub fails_then : {A B : Type 0} (e : Stop) (r : Answer A) (g : A → ℕ → Answer B) → Fails e r → Fails e (and_then r g)
fails_then f.Memory r g h = tt
fails_then (f.Syntax at) r g h = ap (λ (x : Answer _). and_then x g) h
fails_then (f.Deep at) (Found a j) g h = absurd h
fails_then (f.Deep at) (Wrong k) g h = absurd h
fails_then (f.Deep at) (Over k d) g h = h

pub fails_same : {A : Type 0} (e : Stop) (r r' : Answer A) → r' ≡ r → Fails e r → Fails e r'
fails_same e r r' is h = subst (λ (x : Answer _). Fails e x) (sym is) h

-- what a loop of the code says that has taken all its turns
pub out_fails : {A : Type 0} {e : Stop} (r : Answer A) → e ≡ f.Deep nowhere → IsDeepAt nowhere r → Fails e r
out_fails r is h = subst (λ (x : Stop). Fails x r) (sym is) h

pub gives_same : {A : Type 0} (r : Result (A × ℕ) Stop) (x y : Answer A) → y ≡ x → Gives r x → Gives r y
gives_same r x y e h = subst (λ (o : Answer _). Gives r o) (sym e) h

module _ {A : Type 0} (test : Terminal → Bool) (step : A → Parser A) where
  loop_stop : (n : ℕ) (a : A) (s : Text) (i : ℕ) → test (terminal (s i)) ≡ false → loop n test step a s i ≡ Found a i
  unfolding loop
  loop_stop zero a s i no_turn = ap (λ (b : Bool). cond b (over (λ _. nowhere) s i) (Found a i)) no_turn
  loop_stop (suc n) a s i no_turn = ap (λ (b : Bool). cond b ((step a >>= loop n test step) s i) (Found a i)) no_turn

  loop_turn : (n : ℕ) (a : A) (s : Text) (i : ℕ) → test (terminal (s i)) ≡ true → loop (suc n) test step a s i ≡ and_then (step a s i) (λ b j. loop n test step b s j)
  unfolding loop
  loop_turn n a s i turn = ap (λ (b : Bool). cond b ((step a >>= loop n test step) s i) (Found a i)) turn

  loop_over : (a : A) (s : Text) (i : ℕ) → test (terminal (s i)) ≡ true → IsDeepAt nowhere (loop 0 test step a s i)
  unfolding loop
  loop_over a s i turn = subst (λ (b : Bool). IsDeepAt nowhere (cond b (over (λ _. nowhere) s i) (Found a i))) (sym turn) refl

one_more : {X : Type 0} {x : X} (f : ℕ → X) (n at : ℕ) → at < n → x ≡ f (n - at) → x ≡ f (suc (n - (at + 1)))
one_more f n at below e = let turn : n - at ≡ suc (n - (at + 1)) = omega arith in e ∙ ap f turn

no_more : {X : Type 0} {x : X} (f : ℕ → X) (n at : ℕ) → n ≤ at → x ≡ f (n - at) → x ≡ f 0
no_more f n at done e = let none : n - at ≡ 0 = omega arith in e ∙ ap f none

pub loop_start : {A : Type 0} (test : Terminal → Bool) (step : A → Parser A) (most : ℕ) (a : A) (s : Text) (i : ℕ) → loop most test step a s i ≡ loop (most - 0) test step a s i
loop_start test step most a s i = let e : most ≡ most - 0 = omega arith in ap (λ (n : ℕ). loop n test step a s i) e

pub deeper : {X : Type 0} (f : ℕ → X) (n : ℕ) → 0 < n → f n ≡ f (suc (n - 1))
deeper f n some = let e : n ≡ suc (n - 1) = omega arith in ap f e

-- ---- any loop of the code, whose turn is a function of its own

module _ {A : Type 0} (test : Terminal → Bool) (step : A → Parser A) (s : Text) (before : Answer A) (most turn : ℕ) (a : A) (at : ℕ) (so_far : before ≡ loop (most - turn) test step a s at) where
  pub stops : test (terminal (s at)) ≡ false → before ≡ Found a at
  stops no_turn = so_far ∙ loop_stop test step (most - turn) a s at no_turn

  one_turn : turn < most → test (terminal (s at)) ≡ true → before ≡ and_then (step a s at) (λ b j. loop (most - (turn + 1)) test step b s j)
  one_turn below is_one = one_more (λ n. loop n test step a s at) most turn below so_far ∙ loop_turn test step (most - (turn + 1)) a s at is_one

  pub goes : turn < most → test (terminal (s at)) ≡ true → (b : A) (j : ℕ) → step a s at ≡ Found b j → before ≡ loop (most - (turn + 1)) test step b s j
  goes below is_one b j found = one_turn below is_one ∙ ap (λ (r : Answer A). and_then r (λ b j. loop (most - (turn + 1)) test step b s j)) found

  pub fails : turn < most → test (terminal (s at)) ≡ true → (e : Stop) → Fails e (step a s at) → Fails e before
  fails below is_one e h = fails_same e _ before (one_turn below is_one) (fails_then e (step a s at) _ h)

  pub overs : most ≤ turn → test (terminal (s at)) ≡ true → IsDeepAt nowhere before
  overs above is_one = subst (IsDeepAt nowhere) (sym (no_more (λ n. loop n test step a s at) most turn above so_far)) (loop_over test step a s at is_one)

-- ---- one level of depth

pub kind_of : (test : Terminal → Bool) {b : Bool} (x y : Terminal) → b ≡ test x → x ≡ y → test y ≡ b
kind_of test x y e f = sym (e ∙ ap test f)
