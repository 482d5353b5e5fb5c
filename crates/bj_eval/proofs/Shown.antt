-- The variables that are assigned, and the parameters with their values, one more.
use Rattle.std.proofs.Common.{◌≡◌, ℕ, zero, suc, ◌+◌, ◌<◌, ◌≤◌, Option, Bor, List, [], ◌∷◌, ◌++◌, length, take, get_or, Some, None, refl, sym, ap, ◌∙◌, append_assoc, append-nil, arith}
use Rattle.std.specs.Prelude.{MatchOption, HoldsAt, option_copied, slice_get}
use Rattle.std.proofs.lemmas.Option.{slice_get_past, slice_get-get_or}
use Rattle.std.proofs.Math.Seq.{take-suc}
use Rattle.bj_core.specs.declared.types.Val.{Val}
use Rattle.bj_core.specs.declared.frame.Local.{Local}
use Rattle.bj_eval.specs.declared.activation.Variable.{Variable}
use Rattle.bj_eval.specs.Frames.{assigned, parameters, shown_with}

assigned_append : (vs ws : List Variable) → assigned (vs ++ ws) ≡ assigned vs ++ assigned ws
assigned_append [] ws = refl
assigned_append (v ∷ vs) ws = ap (λ l. shown_with v v.value ++ l) (assigned_append vs ws) ∙ sym (append_assoc (shown_with v v.value) (assigned vs) (assigned ws))

one_more : (vs : List Variable) (i : ℕ) (v : Variable) → v ≡ get_or vs i v → i < length vs → assigned (take (i + 1) vs) ≡ assigned (take i vs) ++ shown_with v v.value
one_more vs i v e lt =
    let n : i + 1 ≡ suc i = omega arith in
    ap (λ k. assigned (take k vs)) n ∙ ap assigned (take-suc vs i v lt) ∙ ap (λ w. assigned (take i vs ++ w ∷ [])) (sym e)
    ∙ assigned_append (take i vs) (v ∷ []) ∙ ap (λ l. assigned (take i vs) ++ l) (append-nil (shown_with v v.value))

pub shown : (vs : List Variable) (i : ℕ) (v : Variable) (value : Val) (ls ls' : List Local) → v ≡ get_or vs i v → i < length vs → v.value ≡ Some value → ls ≡ assigned (take i vs)
    → ls' ≡ ls ++ record { name = v.name; value = value } ∷ [] → ls' ≡ assigned (take (i + 1) vs)
shown vs i v value ls ls' e lt some inv push =
    push ∙ ap (λ l. l ++ record { name = v.name; value = value } ∷ []) inv ∙ sym (ap (λ o. assigned (take i vs) ++ shown_with v o) some) ∙ sym (one_more vs i v e lt)

pub hidden : (vs : List Variable) (i : ℕ) (v : Variable) (ls : List Local) → v ≡ get_or vs i v → i < length vs → v.value ≡ None → ls ≡ assigned (take i vs) → ls ≡ assigned (take (i + 1) vs)
hidden vs i v ls e lt none inv = inv ∙ sym (append-nil (assigned (take i vs))) ∙ sym (ap (λ o. assigned (take i vs) ++ shown_with v o) none) ∙ sym (one_more vs i v e lt)

next_passed : (names : List (List ℕ)) (xs : List Val) (i : ℕ) (name : List ℕ) → name ≡ get_or names i name → i < length names
    → parameters (take (suc i) names) xs ≡ parameters (take i names) xs ++ record { name = name; value = slice_get xs i } ∷ []
next_passed [] xs i name e lt = absurd (omega (arith, lt))
next_passed (n ∷ names) [] zero name e lt = ap (λ n. record { name = n; value = None } ∷ []) (sym e)
next_passed (n ∷ names) (x ∷ xs) zero name e lt = ap (λ n. record { name = n; value = Some x } ∷ []) (sym e)
next_passed (n ∷ names) [] (suc i) name e lt = ap (λ l. record { name = n; value = None } ∷ l) (next_passed names [] i name e (omega (arith, lt)))
next_passed (n ∷ names) (x ∷ xs) (suc i) name e lt = ap (λ l. record { name = n; value = Some x } ∷ l) (next_passed names xs i name e (omega (arith, lt)))

pub passed : (names : List (List ℕ)) (xs : List Val) (i : ℕ) (name : List ℕ) (vs vs' : List Variable) → name ≡ get_or names i name → i < length names → vs ≡ parameters (take i names) xs
    → vs' ≡ vs ++ record { name = name; value = slice_get xs i } ∷ [] → vs' ≡ parameters (take (i + 1) names) xs
passed names xs i name vs vs' e lt inv push =
    let n : suc i ≡ i + 1 = omega arith in
    push ∙ ap (λ l. l ++ record { name = name; value = slice_get xs i } ∷ []) inv ∙ sym (next_passed names xs i name e lt) ∙ ap (λ k. parameters (take k names) xs) n

-- a value that is read where there may be none
pub read_is : (xs : List Val) (i : ℕ) (o : Option (Bor Val)) → MatchOption o (length xs ≤ i) (λ x. (i < length xs) × HoldsAt (λ y. x.now ≡ y) xs i) → option_copied o ≡ slice_get xs i
read_is xs i None past = sym (slice_get_past xs i past)
read_is xs i (Some x) at = ap Some (at.1 x.now) ∙ sym (slice_get-get_or xs i x.now at.0)
