-- Parts that are read one after another, each checked as it stands.
use Rattle.std.proofs.Common.{◌≡◌, ℕ, zero, suc, ◌⊎◌, inl, inr, Bool, true, false, cond, List, [], ◌∷◌, ◌++◌, Option, Some, None, refl, sym, ap, ◌∙◌, subst}
use Rattle.bj_base.specs.declared.span.Span.{Span}
use Rattle.bj_rules.specs.declared.misfit.Misfit.{Misfit}
use Rattle.bj_grammar.specs.declared.terminal.Terminal.{Terminal}
use Rattle.bj_grammar.specs.Terminal.{terminal}
use Rattle.bj_grammar.specs.Reader.{Text, Answer, Found, Wrong, Over, Parser, and_then, ◌>>=◌, pure, over, nowhere, loop}
use Rattle.bj_grammar.proofs.Laws as laws_of
use Rattle.bj_grammar.proofs.Laws.{Rel, Laws, Then, Same, Passed, Outcome, Steps, done, more}
use Rattle.bj_stmt.proofs.Small.{Any}
use Rattle.bj_parse.specs.Checked.{Checked, Reads, Misfits, then_checked, unless_early, checked_part, checked_items}

-- reading ends with a misfit, or passes a limit
abbrev pub IsHalted : {A : Type 0} → Checked A → Type 0
IsHalted (Reads (Found a j)) = ⊥
IsHalted (Reads (Wrong k)) = ⊥
IsHalted (Reads (Over k at)) = Unit {0}
IsHalted (Misfits x) = Unit {0}

pub then_halted : {A B : Type 0} (r : Checked A) (g : A → ℕ → Checked B) → IsHalted r → IsHalted (then_checked r g)
then_halted (Reads (Found a j)) g h = absurd h
then_halted (Reads (Wrong k)) g h = absurd h
then_halted (Reads (Over k at)) g h = tt
then_halted (Misfits x) g h = tt

pub reads_is : {A : Type 0} (r q : Answer A) → Reads r ≡ Reads q → r ≡ q
reads_is r q e = cc

-- what passes a limit does not go wrong, and is no misfit
pub over_no_wrong : {A : Type 0} (r : Answer A) (k n : ℕ) (at : Span) → r ≡ Over k at → r ≡ Wrong n → ⊥
over_no_wrong r k n at e h = absurd (cc)

over_no_misfit : {A : Type 0} (r : Checked A) (k : ℕ) (at : Span) (x : Misfit) → r ≡ Reads (Over k at) → r ≡ Misfits x → ⊥
over_no_misfit r k at x e h = absurd (cc)

-- what a whole that goes on behind a part says of the part
pub then_found : {A B : Type 0} (r : Checked A) (g : A → ℕ → Checked B) (b : B) (j : ℕ) → then_checked r g ≡ Reads (Found b j) → (a : A) × (m : ℕ) × (r ≡ Reads (Found a m)) × (g a m ≡ Reads (Found b j))
then_found (Reads (Found a m)) g b j e = (a, m, refl, e)
then_found (Reads (Wrong k)) g b j e = absurd (cc)
then_found (Reads (Over k at)) g b j e = absurd (cc)
then_found (Misfits x) g b j e = absurd (cc)

pub then_wrong : {A B : Type 0} (r : Checked A) (g : A → ℕ → Checked B) (k : ℕ) → then_checked r g ≡ Reads (Wrong k) → ((a : A) × (m : ℕ) × (r ≡ Reads (Found a m)) × (g a m ≡ Reads (Wrong k))) ⊎ (r ≡ Reads (Wrong k))
then_wrong (Reads (Found a m)) g k e = inl (a, m, refl, e)
then_wrong (Reads (Wrong i)) g k e = let same : i ≡ k = cc in inr (ap (λ (n : ℕ). Reads (Wrong n)) same)
then_wrong (Reads (Over i at)) g k e = absurd (cc)
then_wrong (Misfits x) g k e = absurd (cc)

pub then_over : {A B : Type 0} (r : Checked A) (g : A → ℕ → Checked B) (k : ℕ) (at : Span) → then_checked r g ≡ Reads (Over k at) → ((a : A) × (m : ℕ) × (r ≡ Reads (Found a m)) × (g a m ≡ Reads (Over k at))) ⊎ (r ≡ Reads (Over k at))
then_over (Reads (Found a m)) g k at e = inl (a, m, refl, e)
then_over (Reads (Wrong i)) g k at e = absurd (cc)
then_over (Reads (Over i d)) g k at e = let place : i ≡ k = cc in let node : d ≡ at = cc in inr (ap (λ (n : ℕ). Reads (Over n d)) place ∙ ap (λ (z : Span). Reads (Over k z)) node)
then_over (Misfits x) g k at e = absurd (cc)

pub then_misfit : {A B : Type 0} (r : Checked A) (g : A → ℕ → Checked B) (x : Misfit) → then_checked r g ≡ Misfits x → ((a : A) × (m : ℕ) × (r ≡ Reads (Found a m)) × (g a m ≡ Misfits x)) ⊎ (r ≡ Misfits x)
then_misfit (Reads (Found a m)) g x e = inl (a, m, refl, e)
then_misfit (Reads (Wrong i)) g x e = absurd (cc)
then_misfit (Reads (Over i at)) g x e = absurd (cc)
then_misfit (Misfits y) g x e = let same : y ≡ x = cc in inr (ap Misfits same)

-- ---- a part that is checked, or asked for a misfit where the grammar stops it

unless_found : {A : Type 0} (o : Option Misfit) (k : ℕ) (a : A) (j : ℕ) → unless_early o k ≡ Reads (Found a j) → ⊥
unless_found None k a j e = absurd (cc)
unless_found (Some y) k a j e = absurd (cc)

unless_wrong : {A : Type 0} (o : Option Misfit) (n k : ℕ) → unless_early {A = A} o n ≡ Reads (Wrong k) → n ≡ k
unless_wrong None n k e = cc
unless_wrong (Some y) n k e = absurd (cc)

unless_over : {A : Type 0} (o : Option Misfit) (n k : ℕ) (at : Span) → unless_early {A = A} o n ≡ Reads (Over k at) → ⊥
unless_over None n k at e = absurd (cc)
unless_over (Some y) n k at e = absurd (cc)

unless_told : {A : Type 0} (o : Option Misfit) (k : ℕ) (x : Misfit) → unless_early {A = A} o k ≡ Misfits x → o ≡ Some x
unless_told None k x e = absurd (cc)
unless_told (Some y) k x e = let same : y ≡ x = cc in ap Some same

-- what the check of a part says of the part
pub part_found : {A : Type 0} (check : A → ℕ → Checked A) (early : ℕ → Option Misfit) (r : Answer A) (a : A) (j : ℕ) → checked_part check early r ≡ Reads (Found a j)
    → (c : A) × (m : ℕ) × (r ≡ Found c m) × (check c m ≡ Reads (Found a j))
part_found check early (Found c m) a j e = (c, m, refl, e)
part_found check early (Wrong k) a j e = absurd (unless_found (early k) k a j e)
part_found check early (Over k at) a j e = absurd (cc)

pub part_wrong : {A : Type 0} (check : A → ℕ → Checked A) (early : ℕ → Option Misfit) (r : Answer A) (k : ℕ) → checked_part check early r ≡ Reads (Wrong k)
    → ((c : A) × (m : ℕ) × (check c m ≡ Reads (Wrong k))) ⊎ (r ≡ Wrong k)
part_wrong check early (Found c m) k e = inl (c, m, e)
part_wrong check early (Wrong n) k e = inr (ap Wrong (unless_wrong (early n) n k e))
part_wrong check early (Over n at) k e = absurd (cc)

-- a misfit is that of a part that stands, or is told of one that the grammar stops
pub part_misfit : {A : Type 0} (check : A → ℕ → Checked A) (early : ℕ → Option Misfit) (r : Answer A) (x : Misfit) → checked_part check early r ≡ Misfits x
    → ((c : A) × (m : ℕ) × (r ≡ Found c m) × (check c m ≡ Misfits x)) ⊎ ((k : ℕ) × (r ≡ Wrong k) × (early k ≡ Some x))
part_misfit check early (Found c m) x e = inl (c, m, refl, e)
part_misfit check early (Wrong k) x e = inr (k, refl, unless_told (early k) k x e)
part_misfit check early (Over k at) x e = absurd (cc)

pub part_over : {A : Type 0} (check : A → ℕ → Checked A) (early : ℕ → Option Misfit) (r : Answer A) (k : ℕ) (at : Span) → checked_part check early r ≡ Reads (Over k at)
    → ((c : A) × (m : ℕ) × (check c m ≡ Reads (Over k at))) ⊎ (r ≡ Over k at)
part_over check early (Found c m) k at e = inl (c, m, e)
part_over check early (Wrong n) k at e = absurd (unless_over (early n) n k at e)
part_over check early (Over n d) k at e = inr (reads_is _ _ e)

pub passed_halted : {A : Type 0} {n : ℕ} {T : Span → A → Type 0} (check : A → ℕ → Checked A) (early : ℕ → Option Misfit) (r : Answer A) (a : A) (i : ℕ) → Passed n T r a i → IsHalted (checked_part check early r)
passed_halted check early r a i x = subst (λ (q : Answer _). IsHalted (checked_part check early q)) (sym x.is) tt

-- a part halts, if its check does and a misfit is told where the grammar stops it
pub part_halted : {A : Type 0} (check : A → ℕ → Checked A) (early : ℕ → Option Misfit) (r : Answer A) → ((a : A) (j : ℕ) → r ≡ Found a j → IsHalted (check a j))
    → ((k : ℕ) → r ≡ Wrong k → (y : Misfit) × (early k ≡ Some y)) → IsHalted (checked_part check early r)
part_halted check early (Found a j) whole told = whole a j refl
part_halted {A} check early (Wrong k) whole told = subst (λ (o : Option Misfit). IsHalted (unless_early {A = A} o k)) (sym (told k refl).1) tt
part_halted check early (Over k at) whole told = tt

-- ---- parts of one kind

-- `Begun i x` is what is known where the misfit x was told early of a part that begins at i.
pub record Items {A : Type 0} (most : ℕ) (test : Terminal → Bool) (item : Parser A) (check : A → ℕ → Checked A) (early : ℕ → ℕ → Option Misfit) (s : Text) (Q : Rel A) (T : Span → A → Type 0)
    (Stand : List A → ℕ → Type 0) (Fit : A → Type 0) (FitAll : List A → Type 0) (Mis : A → Misfit → Type 0) (Begun : ℕ → Misfit → Type 0) : Type 1 where
  pub laws : Laws most item Q Any T
  pub begins : (a : A) (i j : ℕ) → Q s a i j → test (terminal (s i)) ≡ true
  pub next : (b : List A) (a : A) (i j : ℕ) → Stand b i → Q s a i j → Stand (b ++ a ∷ []) j
  pub check_found : (a b : A) (j k : ℕ) → check a j ≡ Reads (Found b k) → (b ≡ a) × (k ≡ j) × Fit a
  pub check_wrong : (a : A) (j k : ℕ) → check a j ≡ Reads (Wrong k) → ⊥
  pub check_misfit : (a : A) (j : ℕ) (x : Misfit) → check a j ≡ Misfits x → Mis a x
  pub check_over : (a : A) (j k : ℕ) (at : Span) → check a j ≡ Reads (Over k at) → ⊥
  pub check_fit : (a : A) (j : ℕ) → Fit a → check a j ≡ Reads (Found a j)
  pub check_met : (a : A) (j : ℕ) (x : Misfit) → Mis a x → IsHalted (check a j)
  pub fit_end : (b : List A) (a : A) → FitAll b → Fit a → FitAll (b ++ a ∷ [])
  pub fit_before : (b : List A) (a : A) → FitAll (b ++ a ∷ []) → FitAll b
  pub fit_last : (b : List A) (a : A) → FitAll (b ++ a ∷ []) → Fit a
  pub early_is : (i k : ℕ) (x : Misfit) → item s i ≡ Wrong k → early i k ≡ Some x → Begun i x
  pub begun_met : (i k : ℕ) (x : Misfit) → Begun i x → item s i ≡ Wrong k → (y : Misfit) × (early i k ≡ Some y)
  pub begun_whole : (i : ℕ) (a : A) (j : ℕ) (x : Misfit) → Begun i x → Q s a i j → (y : Misfit) × Mis a y
  pub begun_begins : (i : ℕ) (x : Misfit) → Begun i x → test (terminal (s i)) ≡ true

module _ {A : Type 0} (most : ℕ) (test : Terminal → Bool) (item : Parser A) (check : A → ℕ → Checked A) (early : ℕ → ℕ → Option Misfit) (s : Text) (Q : Rel A) (T : Span → A → Type 0)
    (Stand : List A → ℕ → Type 0) (Fit : A → Type 0) (FitAll : List A → Type 0) (Mis : A → Misfit → Type 0) (Begun : ℕ → Misfit → Type 0)
    (u : Items most test item check early s Q T Stand Fit FitAll Mis Begun) where
  -- one part behind others
  abbrev pub step : List A → Parser (List A)
  step b = item >>= λ c. pure (b ++ c ∷ [])

  abbrev run : ℕ → List A → ℕ → Checked (List A)
  run n b i = checked_items test item check early s n b i

  abbrev plain : ℕ → List A → ℕ → Answer (List A)
  plain n b i = loop n test step b s i

  abbrev one : ℕ → Checked A
  one i = checked_part check (early i) (item s i)

  abbrev rest : ℕ → List A → A → ℕ → Checked (List A)
  rest n b a j = run n (b ++ a ∷ []) j

  -- a turn, or none
  run_turn : (n : ℕ) (b : List A) (i : ℕ) → test (terminal (s i)) ≡ true → run (suc n) b i ≡ then_checked (one i) (rest n b)
  unfolding checked_items
  run_turn n b i e = ap (λ (c : Bool). cond c (then_checked (one i) (rest n b)) (Reads (Found b i))) e

  run_stop : (n : ℕ) (b : List A) (i : ℕ) → test (terminal (s i)) ≡ false → run n b i ≡ Reads (Found b i)
  unfolding checked_items
  run_stop zero b i e = ap (λ (c : Bool). cond c (Reads (over {A = List A} (λ _. nowhere) s i)) (Reads (Found b i))) e
  run_stop (suc n) b i e = ap (λ (c : Bool). cond c (then_checked (one i) (rest n b)) (Reads (Found b i))) e

  run_zero : (b : List A) (i : ℕ) → test (terminal (s i)) ≡ true → run 0 b i ≡ Reads (Over i nowhere)
  unfolding checked_items
  run_zero b i e = ap (λ (c : Bool). cond c (Reads (over {A = List A} (λ _. nowhere) s i)) (Reads (Found b i))) e

  plain_turn : (n : ℕ) (b : List A) (i : ℕ) → test (terminal (s i)) ≡ true → plain (suc n) b i ≡ and_then (item s i) (λ a j. plain n (b ++ a ∷ []) j)
  unfolding loop
  plain_turn n b i e = ap (λ (c : Bool). cond c ((step b >>= loop n test step) s i) (Found b i)) e ∙ joined (item s i)
    where
      joined : (r : Answer A) → and_then (and_then r (λ a j. Found (b ++ a ∷ []) j)) (λ c j. loop n test step c s j) ≡ and_then r (λ a j. loop n test step (b ++ a ∷ []) s j)
      joined (Found a j) = refl
      joined (Wrong k) = refl
      joined (Over k at) = refl

  plain_stop : (n : ℕ) (b : List A) (i : ℕ) → test (terminal (s i)) ≡ false → plain n b i ≡ Found b i
  unfolding loop
  plain_stop zero b i e = ap (λ (c : Bool). cond c (over {A = List A} (λ _. nowhere) s i) (Found b i)) e
  plain_stop (suc n) b i e = ap (λ (c : Bool). cond c ((step b >>= loop n test step) s i) (Found b i)) e

  plain_zero : (b : List A) (i : ℕ) → test (terminal (s i)) ≡ true → plain 0 b i ≡ Over i nowhere
  unfolding loop
  plain_zero b i e = ap (λ (c : Bool). cond c (over {A = List A} (λ _. nowhere) s i) (Found b i)) e

  cases_of : (b : Bool) → (b ≡ true) ⊎ (b ≡ false)
  cases_of true = inl refl
  cases_of false = inr refl

  -- what one part comes to
  one_found : (i : ℕ) (a : A) (j : ℕ) → one i ≡ Reads (Found a j) → (item s i ≡ Found a j) × Fit a
  one_found i a j e = of (part_found check (early i) (item s i) a j e)
    where
      of : (c : A) × (m : ℕ) × (item s i ≡ Found c m) × (check c m ≡ Reads (Found a j)) → (item s i ≡ Found a j) × Fit a
      of w =
          let k = u.check_found w.0 a w.1 j w.3 in
          (w.2 ∙ (ap (λ (c : A). Found c w.1) (sym k.0) ∙ ap (Found a) (sym k.1)), subst Fit (sym k.0) k.2)

  one_wrong : (i k : ℕ) → one i ≡ Reads (Wrong k) → item s i ≡ Wrong k
  one_wrong i k e = of (part_wrong check (early i) (item s i) k e)
    where
      of : ((c : A) × (m : ℕ) × (check c m ≡ Reads (Wrong k))) ⊎ (item s i ≡ Wrong k) → item s i ≡ Wrong k
      of (inl w) = absurd (u.check_wrong w.0 w.1 k w.2)
      of (inr e) = e

  one_over : (i k : ℕ) (at : Span) → one i ≡ Reads (Over k at) → item s i ≡ Over k at
  one_over i k at e = of (part_over check (early i) (item s i) k at e)
    where
      of : ((c : A) × (m : ℕ) × (check c m ≡ Reads (Over k at))) ⊎ (item s i ≡ Over k at) → item s i ≡ Over k at
      of (inl w) = absurd (u.check_over w.0 w.1 k at w.2)
      of (inr e) = e

  -- ---- found

  pub found : (n : ℕ) (b : List A) (i : ℕ) (c : List A) (j : ℕ) → FitAll b → run n b i ≡ Reads (Found c j) → (plain n b i ≡ Found c j) × FitAll c
  found zero b i c j fit e = of (cases_of (test (terminal (s i))))
    where
      of : (test (terminal (s i)) ≡ true) ⊎ (test (terminal (s i)) ≡ false) → (plain zero b i ≡ Found c j) × FitAll c
      of (inl t) = let clash : Over i nowhere ≡ Found c j = reads_is _ _ (sym (run_zero b i t) ∙ e) in absurd (cc)
      of (inr t) =
          let same : Found b i ≡ Found c j = reads_is _ _ (sym (run_stop zero b i t) ∙ e) in
          (plain_stop zero b i t ∙ same, (let is : b ≡ c = cc in subst FitAll is fit))
  found (suc n) b i c j fit e = of (λ b i c j fit e. found n b i c j fit e) (cases_of (test (terminal (s i))))
    where
      of : ((b : List A) (i : ℕ) (c : List A) (j : ℕ) → FitAll b → run n b i ≡ Reads (Found c j) → (plain n b i ≡ Found c j) × FitAll c) → (test (terminal (s i)) ≡ true) ⊎ (test (terminal (s i)) ≡ false) → (plain (suc n) b i ≡ Found c j) × FitAll c
      of again (inl t) =
          let w = then_found (one i) (rest n b) c j (sym (run_turn n b i t) ∙ e) in
          let k = one_found i w.0 w.1 w.2 in
          let r = again (b ++ w.0 ∷ []) w.1 c j (u.fit_end b w.0 fit k.1) w.3 in
          (plain_turn n b i t ∙ (ap (λ (x : Answer A). and_then x (λ a j. plain n (b ++ a ∷ []) j)) k.0 ∙ r.0), r.1)
      of again (inr t) =
          let same : Found b i ≡ Found c j = reads_is _ _ (sym (run_stop (suc n) b i t) ∙ e) in
          (plain_stop (suc n) b i t ∙ same, (let is : b ≡ c = cc in subst FitAll is fit))

  -- ---- stopped by the grammar

  pub wrong : (n : ℕ) (b : List A) (i k : ℕ) → run n b i ≡ Reads (Wrong k) → plain n b i ≡ Wrong k
  wrong zero b i k e = of (cases_of (test (terminal (s i))))
    where
      of : (test (terminal (s i)) ≡ true) ⊎ (test (terminal (s i)) ≡ false) → plain zero b i ≡ Wrong k
      of (inl t) = absurd (over_no_wrong (plain zero b i) i k nowhere (plain_zero b i t) (plain_zero b i t ∙ reads_is _ _ (sym (run_zero b i t) ∙ e)))
      of (inr t) = let same : Found b i ≡ Wrong k = reads_is _ _ (sym (run_stop zero b i t) ∙ e) in absurd (cc)
  wrong (suc n) b i k e = of (λ b i k e. wrong n b i k e) (cases_of (test (terminal (s i))))
    where
      joined : ((b : List A) (i k : ℕ) → run n b i ≡ Reads (Wrong k) → plain n b i ≡ Wrong k) → ((a : A) × (m : ℕ) × (one i ≡ Reads (Found a m)) × (rest n b a m ≡ Reads (Wrong k))) ⊎ (one i ≡ Reads (Wrong k)) → and_then (item s i) (λ a j. plain n (b ++ a ∷ []) j) ≡ Wrong k
      joined again (inl w) = ap (λ (x : Answer A). and_then x (λ a j. plain n (b ++ a ∷ []) j)) (one_found i w.0 w.1 w.2).0 ∙ again (b ++ w.0 ∷ []) w.1 k w.3
      joined again (inr e) = ap (λ (x : Answer A). and_then x (λ a j. plain n (b ++ a ∷ []) j)) (one_wrong i k e)

      of : ((b : List A) (i k : ℕ) → run n b i ≡ Reads (Wrong k) → plain n b i ≡ Wrong k) → (test (terminal (s i)) ≡ true) ⊎ (test (terminal (s i)) ≡ false) → plain (suc n) b i ≡ Wrong k
      of again (inl t) = plain_turn n b i t ∙ joined again (then_wrong (one i) (rest n b) k (sym (run_turn n b i t) ∙ e))
      of again (inr t) = let same : Found b i ≡ Wrong k = reads_is _ _ (sym (run_stop (suc n) b i t) ∙ e) in absurd (cc)

  -- ---- a misfit

  -- a part that stands, and is a misfit
  pub record Whole (at : ℕ) (x : Misfit) : Type 0 where
    pub part : A
    pub end : ℕ
    pub is_part : Q s part at end
    pub mis : Mis part x

  -- behind parts that fit, one that stands is a misfit, or one was told early
  pub record Met (x : Misfit) : Type 0 where
    pub before : List A
    pub at : ℕ
    pub stand : Stand before at
    pub fit : FitAll before
    pub how : Whole at x ⊎ Begun at x

  one_misfit : (b : List A) (i : ℕ) (x : Misfit) → Stand b i → FitAll b → one i ≡ Misfits x → Met x
  one_misfit b i x st fit e = record { before = b; at = i; stand = st; fit = fit; how = of (part_misfit check (early i) (item s i) x e) }
    where
      of : ((c : A) × (m : ℕ) × (item s i ≡ Found c m) × (check c m ≡ Misfits x)) ⊎ ((k : ℕ) × (item s i ≡ Wrong k) × (early i k ≡ Some x)) → Whole i x ⊎ Begun i x
      of (inl w) = inl (record { part = w.0; end = w.1; is_part = u.laws.sound s i w.0 w.1 w.2; mis = u.check_misfit w.0 w.1 x w.3 })
      of (inr w) = inr (u.early_is i w.0 x w.1 w.2)

  pub misfit : (n : ℕ) (b : List A) (i : ℕ) (x : Misfit) → Stand b i → FitAll b → run n b i ≡ Misfits x → Met x
  misfit zero b i x st fit e = of (cases_of (test (terminal (s i))))
    where
      of : (test (terminal (s i)) ≡ true) ⊎ (test (terminal (s i)) ≡ false) → Met x
      of (inl t) = absurd (over_no_misfit (run zero b i) i nowhere x (run_zero b i t) e)
      of (inr t) = let same : Reads (Found b i) ≡ Misfits x = sym (run_stop zero b i t) ∙ e in absurd (cc)
  misfit (suc n) b i x st fit e = of (λ b i st fit e. misfit n b i x st fit e) (cases_of (test (terminal (s i))))
    where
      turn : ((b : List A) (i : ℕ) → Stand b i → FitAll b → run n b i ≡ Misfits x → Met x) → ((a : A) × (m : ℕ) × (one i ≡ Reads (Found a m)) × (rest n b a m ≡ Misfits x)) ⊎ (one i ≡ Misfits x) → Met x
      turn again (inl w) =
          let k = one_found i w.0 w.1 w.2 in
          again (b ++ w.0 ∷ []) w.1 (u.next b w.0 i w.1 st (u.laws.sound s i w.0 w.1 k.0)) (u.fit_end b w.0 fit k.1) w.3
      turn again (inr e) = one_misfit b i x st fit e

      of : ((b : List A) (i : ℕ) → Stand b i → FitAll b → run n b i ≡ Misfits x → Met x) → (test (terminal (s i)) ≡ true) ⊎ (test (terminal (s i)) ≡ false) → Met x
      of again (inl t) = turn again (then_misfit (one i) (rest n b) x (sym (run_turn n b i t) ∙ e))
      of again (inr t) = let same : Reads (Found b i) ≡ Misfits x = sym (run_stop (suc n) b i t) ∙ e in absurd (cc)

  -- ---- too deep

  -- where the checked reading passes a limit, the other passes it, too
  pub over_limit : (n : ℕ) (b : List A) (i k : ℕ) (at : Span) → run n b i ≡ Reads (Over k at) → plain n b i ≡ Over k at
  over_limit zero b i k at e = of (cases_of (test (terminal (s i))))
    where
      of : (test (terminal (s i)) ≡ true) ⊎ (test (terminal (s i)) ≡ false) → plain zero b i ≡ Over k at
      of (inl t) = plain_zero b i t ∙ reads_is _ _ (sym (run_zero b i t) ∙ e)
      of (inr t) = let clash : Found b i ≡ Over k at = reads_is _ _ (sym (run_stop zero b i t) ∙ e) in absurd (cc)
  over_limit (suc n) b i k at e = of (λ b i e. over_limit n b i k at e) (cases_of (test (terminal (s i))))
    where
      joined : ((b : List A) (i : ℕ) → run n b i ≡ Reads (Over k at) → plain n b i ≡ Over k at) → ((a : A) × (m : ℕ) × (one i ≡ Reads (Found a m)) × (rest n b a m ≡ Reads (Over k at))) ⊎ (one i ≡ Reads (Over k at))
          → and_then (item s i) (λ a j. plain n (b ++ a ∷ []) j) ≡ Over k at
      joined again (inl w) = ap (λ (x : Answer A). and_then x (λ a j. plain n (b ++ a ∷ []) j)) (one_found i w.0 w.1 w.2).0 ∙ again (b ++ w.0 ∷ []) w.1 w.3
      joined again (inr e) = ap (λ (x : Answer A). and_then x (λ a j. plain n (b ++ a ∷ []) j)) (one_over i k at e)

      of : ((b : List A) (i : ℕ) → run n b i ≡ Reads (Over k at) → plain n b i ≡ Over k at) → (test (terminal (s i)) ≡ true) ⊎ (test (terminal (s i)) ≡ false) → plain (suc n) b i ≡ Over k at
      of again (inl t) = plain_turn n b i t ∙ joined again (then_over (one i) (rest n b) k at (sym (run_turn n b i t) ∙ e))
      of again (inr t) = let clash : Found b i ≡ Over k at = reads_is _ _ (sym (run_stop (suc n) b i t) ∙ e) in absurd (cc)

  -- ---- all fit

  back_fits : (n : ℕ) (b : List A) (i : ℕ) (c : List A) (j : ℕ) → plain n b i ≡ Found c j → FitAll c → FitAll b
  back_fits zero b i c j e h = of (cases_of (test (terminal (s i))))
    where
      of : (test (terminal (s i)) ≡ true) ⊎ (test (terminal (s i)) ≡ false) → FitAll b
      of (inl t) = let clash : Over i nowhere ≡ Found c j = sym (plain_zero b i t) ∙ e in absurd (cc)
      of (inr t) = let same : Found b i ≡ Found c j = sym (plain_stop zero b i t) ∙ e in let is : c ≡ b = cc in subst FitAll is h
  back_fits (suc n) b i c j e h = of (λ b i e h. back_fits n b i c j e h) (cases_of (test (terminal (s i))))
    where
      of : ((b : List A) (i : ℕ) → plain n b i ≡ Found c j → FitAll c → FitAll b) → (test (terminal (s i)) ≡ true) ⊎ (test (terminal (s i)) ≡ false) → FitAll b
      of again (inl t) = let w = laws_of.and_then_found (item s i) (λ a j. plain n (b ++ a ∷ []) j) c j (sym (plain_turn n b i t) ∙ e) in u.fit_before b w.0 (again (b ++ w.0 ∷ []) w.1 w.3 h)
      of again (inr t) = let same : Found b i ≡ Found c j = sym (plain_stop (suc n) b i t) ∙ e in let is : c ≡ b = cc in subst FitAll is h

  -- what is read and fits is read with its checks, too
  pub all_fit : (n : ℕ) (b : List A) (i : ℕ) (c : List A) (j : ℕ) → plain n b i ≡ Found c j → FitAll c → run n b i ≡ Reads (Found c j)
  all_fit zero b i c j e h = of (cases_of (test (terminal (s i))))
    where
      of : (test (terminal (s i)) ≡ true) ⊎ (test (terminal (s i)) ≡ false) → run zero b i ≡ Reads (Found c j)
      of (inl t) = let clash : Over i nowhere ≡ Found c j = sym (plain_zero b i t) ∙ e in absurd (cc)
      of (inr t) = run_stop zero b i t ∙ ap Reads (sym (plain_stop zero b i t) ∙ e)
  all_fit (suc n) b i c j e h = of (λ b i e h. all_fit n b i c j e h) (cases_of (test (terminal (s i))))
    where
      of : ((b : List A) (i : ℕ) → plain n b i ≡ Found c j → FitAll c → run n b i ≡ Reads (Found c j)) → (test (terminal (s i)) ≡ true) ⊎ (test (terminal (s i)) ≡ false) → run (suc n) b i ≡ Reads (Found c j)
      of again (inl t) =
          let w = laws_of.and_then_found (item s i) (λ a j. plain n (b ++ a ∷ []) j) c j (sym (plain_turn n b i t) ∙ e) in
          let fits = u.fit_last b w.0 (back_fits n (b ++ w.0 ∷ []) w.1 c j w.3 h) in
          run_turn n b i t
          ∙ (ap (λ (r : Answer A). then_checked (checked_part check (early i) r) (rest n b)) w.2
          ∙ (ap (λ (r : Checked A). then_checked r (rest n b)) (u.check_fit w.0 w.1 fits)
          ∙ again (b ++ w.0 ∷ []) w.1 w.3 h))
      of again (inr t) = run_stop (suc n) b i t ∙ ap Reads (sym (plain_stop (suc n) b i t) ∙ e)

  -- ---- a part that does not fit is met

  abbrev pub Item : List A → Rel (List A)
  Item b = Then Q (λ c. Same (b ++ c ∷ []))

  -- a part that stands is read, or the limit is passed
  one_stands : (a : A) (i j : ℕ) → Q s a i j → Outcome most T (item s i) a i j
  one_stands a i j d = u.laws.complete s i a j d tt

  halted_over : (a : A) (i : ℕ) → Passed most T (item s i) a i → IsHalted (one i)
  halted_over a i x = passed_halted check (early i) (item s i) a i x

  zero_halted : (b : List A) (i : ℕ) → test (terminal (s i)) ≡ true → IsHalted (run 0 b i)
  zero_halted b i t = subst IsHalted (sym (run_zero b i t)) tt

  -- where parts stand, and behind them one begins that halts, the whole halts
  halting : (n : ℕ) (b c : List A) (i m : ℕ) → Steps Item s b c i m → test (terminal (s m)) ≡ true → IsHalted (one m) → IsHalted (run n b i)
  halting zero b c i m (done e at) t h = zero_halted b i (subst (λ (k : ℕ). test (terminal (s k)) ≡ true) at t)
  halting zero b c i m (more {y} {m = k} q r) t h = zero_halted b i (u.begins q.part i q.at q.first)
  halting (suc n) b c i m (done e at) t h = subst IsHalted (sym (run_turn n b i (subst (λ (k : ℕ). test (terminal (s k)) ≡ true) at t)))
      (then_halted (one i) (rest n b) (subst (λ (k : ℕ). IsHalted (one k)) at h))
  halting (suc n) b c i m (more {y} {m = k} q r) t h = subst IsHalted (sym (run_turn n b i (u.begins q.part i q.at q.first)))
      (of (subst (λ (z : ℕ). IsHalted (run n (b ++ q.part ∷ []) z)) q.rest.at (subst (λ (z : List A). IsHalted (run n z k)) q.rest.tree (halting n y c k m r t h))) (one_stands q.part i q.at q.first))
    where
      checked : IsHalted (rest n b q.part q.at) → (r : Checked A) → check q.part q.at ≡ r → IsHalted (then_checked r (rest n b))
      checked later (Reads (Found z l)) e =
          let w = u.check_found q.part z q.at l e in
          subst (λ (l : ℕ). IsHalted (rest n b z l)) (sym w.1) (subst (λ (z : A). IsHalted (rest n b z q.at)) (sym w.0) later)
      checked later (Reads (Wrong l)) e = absurd (u.check_wrong q.part q.at l e)
      checked later (Reads (Over l d)) e = tt
      checked later (Misfits z) e = tt

      of : IsHalted (rest n b q.part q.at) → Outcome most T (item s i) q.part i q.at → IsHalted (then_checked (one i) (rest n b))
      of later (inl is) = subst (λ (r : Answer A). IsHalted (then_checked (checked_part check (early i) r) (rest n b))) (sym is) (checked later (check q.part q.at) refl)
      of later (inr o) = then_halted (one i) (rest n b) (halted_over q.part i o)

  pub met : (n : ℕ) (b c : List A) (a : A) (i m j : ℕ) (x : Misfit) → Steps Item s b c i m → Q s a m j → Mis a x → IsHalted (run n b i)
  met n b c a i m j x steps d mis = halting n b c i m steps (u.begins a m j d) (of (one_stands a m j d))
    where
      of : Outcome most T (item s m) a m j → IsHalted (one m)
      of (inl is) = subst (λ (r : Answer A). IsHalted (checked_part check (early m) r)) (sym is) (u.check_met a j x mis)
      of (inr o) = halted_over a m o

  pub begun : (n : ℕ) (b c : List A) (i m : ℕ) (x : Misfit) → Steps Item s b c i m → Begun m x → IsHalted (run n b i)
  begun n b c i m x steps h = halting n b c i m steps (u.begun_begins m x h) (part_halted check (early m) (item s m)
      (λ a j is. (let w = u.begun_whole m a j x h (u.laws.sound s m a j is) in u.check_met a j w.0 w.1)) (λ k is. u.begun_met m k x h is))
