-- The misfit of modifiers is of the first one that does not fit those before it.
use Rattle.std.proofs.Common.{◌≡◌, ◌⊎◌, inl, inr, Bool, true, false, Option, None, Some, List, [], ◌∷◌, ◌++◌, refl, sym, ap, ◌∙◌, subst}
use Rattle.std.proofs.lemmas.List.{append_assoc}
use Rattle.std.proofs.lemmas.Map.Views.{Contains-from_any, list_any-from_Contains}
use Rattle.std.specs.Prelude.{not, if◌then◌else◌}
use Rattle.std.specs.List.{list_any, AllByRecursion, Contains}
use Rattle.bj_base.specs.declared.fault.FaultCode.TheVariants as codes
use Rattle.bj_tree.specs.declared.class.Modifier.{Modifier}
use Rattle.bj_tree.specs.declared.class.ModifierKind.{ModifierKind}
use Rattle.bj_rules.specs.declared.misfit.Misfit.{Misfit}
use Rattle.bj_rules.specs.declared.place.Place.{Place}
use Rattle.bj_rules.specs.Misfits.{first}
use Rattle.bj_rules.specs.Modifiers.{same_kind, among, allowed, exclude, fits, is_left_out, modifier_misfit, misfit_behind, modifiers_misfit, NoTwo, AreFit, IsFirst}
use Rattle.bj_rules.proofs.ModifierLaws.{both, both_are, not_so, not_one, neither, or_none, same_is, apart, free, other_kind, not_bound, same_equivalence, first_none, all_fit}

-- ---- a list with one more at its end

all_before : {X : Type 0} (P : X → Type 0) (xs : List X) (x : X) → AllByRecursion P (xs ++ x ∷ []) → P x
all_before P [] x h = h.0
all_before P (y ∷ ys) x h = all_before P ys x h.1

all_with : {X : Type 0} (P : X → Type 0) (xs : List X) (x : X) → AllByRecursion P xs → P x → AllByRecursion P (xs ++ x ∷ [])
all_with P [] x h k = (k, tt)
all_with P (y ∷ ys) x h k = (h.0, all_with P ys x h.1 k)

two_before : (So : ModifierKind → ModifierKind → Type 0) (xs : List Modifier) (x : Modifier) → NoTwo So (xs ++ x ∷ []) → AllByRecursion (λ (y : Modifier). So y.kind x.kind → ⊥) xs
two_before So [] x h = tt
two_before So (y ∷ ys) x h = (all_before (λ (z : Modifier). So y.kind z.kind → ⊥) ys x h.0, two_before So ys x h.1)

two_with : (So : ModifierKind → ModifierKind → Type 0) (xs : List Modifier) (x : Modifier) → NoTwo So xs → AllByRecursion (λ (y : Modifier). So y.kind x.kind → ⊥) xs → NoTwo So (xs ++ x ∷ [])
two_with So [] x h k = (tt, tt)
two_with So (y ∷ ys) x h k = (all_with (λ (z : Modifier). So y.kind z.kind → ⊥) ys x h.0 k.0, two_with So ys x h.1 k.1)

none_from : {X : Type 0} (test : X → Bool) {P : X → Type 0} → ((x : X) → P x → test x ≡ false) → (xs : List X) → AllByRecursion P xs → list_any test xs ≡ false
none_from test f [] h = refl
none_from test f (x ∷ xs) h = or_none (test x) (list_any test xs) (f x h.0) (none_from test f xs h.1)

all_from : {X : Type 0} (test : X → Bool) {P : X → Type 0} → ((x : X) → test x ≡ false → P x) → (xs : List X) → list_any test xs ≡ false → AllByRecursion P xs
all_from test f [] h = tt
all_from test f (x ∷ xs) h = let now = neither (test x) (list_any test xs) h in (f x now.0, all_from test f xs now.1)

-- ---- a modifier behind those before it

fits_last : (place : Place) (before : List Modifier) (one : Modifier) → AreFit place (before ++ one ∷ []) → fits place before one.kind ≡ true
fits_last place before one fit =
    let fresh = none_from (λ (x : Modifier). same_kind one.kind x.kind) (λ x h. other_kind x.kind one.kind h) before (two_before (λ a b. a ≡ b) before one fit.distinct) in
    let taken = list_any-from_Contains same_equivalence one.kind (allowed place) (all_before (λ (x : Modifier). Contains (allowed place) x.kind) before one fit.taken) in
    let open_ones = none_from (λ (x : Modifier). exclude place one.kind x.kind) (λ x h. not_bound place x.kind one.kind h) before (two_before (λ a b. exclude place a b ≡ true) before one fit.together) in
    both_are (not (list_any (λ (x : Modifier). same_kind one.kind x.kind) before)) _ (not_one _ fresh) (both_are (among (allowed place) one.kind) _ taken (not_one _ open_ones))

fit_with : (place : Place) (before : List Modifier) (one : Modifier) → AreFit place before → fits place before one.kind ≡ true → AreFit place (before ++ one ∷ [])
fit_with place before one fit e =
    let tests = both (not (list_any (λ (x : Modifier). same_kind one.kind x.kind) before)) _ e in
    let others = both (among (allowed place) one.kind) (not (list_any (λ (x : Modifier). exclude place one.kind x.kind) before)) tests.1 in
    record {
      taken = all_with (λ (x : Modifier). Contains (allowed place) x.kind) before one fit.taken (Contains-from_any same_is one.kind (allowed place) others.0);
      distinct = two_with (λ a b. a ≡ b) before one fit.distinct (all_from (λ (x : Modifier). same_kind one.kind x.kind) (λ x h. apart x.kind one.kind h) before (not_so _ tests.0));
      together = two_with (λ a b. exclude place a b ≡ true) before one fit.together (all_from (λ (x : Modifier). exclude place one.kind x.kind) (λ x h. free place x.kind one.kind h) before (not_so _ others.1));
    }

-- ---- the first one

record Found (place : Place) (before modifiers : List Modifier) (misfit : Misfit) : Type 0 where
  front : List Modifier
  one : Modifier
  rest : List Modifier
  parts : modifiers ≡ front ++ (one ∷ rest)
  none_before : misfit_behind place before front ≡ None
  own : modifier_misfit place (before ++ front) one ≡ Some misfit

append_none : {X : Type 0} (xs : List X) → xs ≡ xs ++ []
append_none [] = refl
append_none (x ∷ xs) = ap (λ ys. x ∷ ys) (append_none xs)

found : (place : Place) (before modifiers : List Modifier) (misfit : Misfit) → misfit_behind place before modifiers ≡ Some misfit → Found place before modifiers misfit
found place before [] misfit e = absurd (cc)
found place before (one ∷ rest) misfit e = of (found place (before ++ one ∷ []) rest misfit) (modifier_misfit place before one) refl e
  where
    later : modifier_misfit place before one ≡ None → Found place (before ++ one ∷ []) rest misfit → Found place before (one ∷ rest) misfit
    later none f = record {
      front = one ∷ f.front;
      one = f.one;
      rest = f.rest;
      parts = ap (λ (xs : List Modifier). one ∷ xs) f.parts;
      none_before = first_none (modifier_misfit place before one) (misfit_behind place (before ++ one ∷ []) f.front) none f.none_before;
      own = subst (λ (xs : List Modifier). modifier_misfit place xs f.one ≡ Some misfit) (append_assoc before (one ∷ []) f.front) f.own;
    }

    second : (o : Option Misfit) → first (None ∷ o ∷ []) ≡ Some misfit → o ≡ Some misfit
    second None e = e
    second (Some m) e = e

    of : (misfit_behind place (before ++ one ∷ []) rest ≡ Some misfit → Found place (before ++ one ∷ []) rest misfit) → (o : Option Misfit) → modifier_misfit place before one ≡ o → first (o ∷ misfit_behind place (before ++ one ∷ []) rest ∷ []) ≡ Some misfit → Found place before (one ∷ rest) misfit
    of more None is e = later is (more (second (misfit_behind place (before ++ one ∷ []) rest) e))
    of more (Some m) is e = record {
      front = [];
      one = one;
      rest = rest;
      parts = refl;
      none_before = refl;
      own = subst (λ (xs : List Modifier). modifier_misfit place xs one ≡ Some misfit) (append_none before) (is ∙ e);
    }

-- what is wrong with one modifier
own_of : (fit left_out : Bool) (a b m : Misfit) → (if not fit then Some a else if left_out then Some b else None) ≡ Some m → ((fit ≡ false) × (a ≡ m)) ⊎ ((fit ≡ true) × (left_out ≡ true) × (b ≡ m))
own_of false left_out a b m e = inl (refl, let h : a ≡ m = cc in h)
own_of true true a b m e = inr (refl, refl, let h : b ≡ m = cc in h)
own_of true false a b m e = absurd (cc)

pub is_first : (place : Place) (modifiers : List Modifier) (misfit : Misfit) → modifiers_misfit place modifiers ≡ Some misfit → IsFirst place modifiers misfit
is_first place modifiers misfit e = of (own_of (fits place f.front f.one.kind) (is_left_out place f.one.kind) _ _ misfit f.own)
  where
    f : Found place [] modifiers misfit
    f = found place [] modifiers misfit e

    of : ((fits place f.front f.one.kind ≡ false) × (record { at = f.one.at; code = codes.Syntax } ≡ misfit)) ⊎ ((fits place f.front f.one.kind ≡ true) × (is_left_out place f.one.kind ≡ true) × (record { at = f.one.at; code = codes.Profile } ≡ misfit)) → IsFirst place modifiers misfit
    of (inl h) = record {
      before = f.front;
      one = f.one;
      rest = f.rest;
      parts = f.parts;
      none_before = f.none_before;
      at = ap (λ (m : Misfit). m.at) (sym h.1);
      coded = inl (ap (λ (m : Misfit). m.code) (sym h.1), λ fit. let all = fits_last place f.front f.one fit in absurd (cc));
    }
    of (inr h) = record {
      before = f.front;
      one = f.one;
      rest = f.rest;
      parts = f.parts;
      none_before = f.none_before;
      at = ap (λ (m : Misfit). m.at) (sym h.2);
      coded = inr (ap (λ (m : Misfit). m.code) (sym h.2), fit_with place f.front f.one (all_fit place f.front f.none_before) h.0, h.1);
    }
