-- Modifiers without a misfit are fit, and modifiers that are fit have none.
use Rattle.std.proofs.Common.{◌≡◌, Bool, true, false, Option, None, Some, List, [], ◌∷◌, ◌++◌, refl, sym, ◌∙◌}
use Rattle.std.proofs.Math.Bool.{or_comm}
use Rattle.std.proofs.lemmas.Cmp.{nat_eq_equiv}
use Rattle.std.proofs.lemmas.Map.Views.{Contains-from_any, list_any-from_Contains}
use Rattle.std.specs.Cmp.{IsEquivalence, on_equiv}
use Rattle.std.specs.Prelude.{◌&&◌, ◌||◌, not, if◌then◌else◌}
use Rattle.std.specs.List.{list_any, AllByRecursion}
use denote.Enum.Bare.{same_true, same_false, false_same}
use denote.Enum.Declared.{tag_of}
use Rattle.bj_tree.specs.declared.class.Modifier.{Modifier}
use Rattle.bj_tree.specs.declared.class.ModifierKind.{ModifierKind}
use Rattle.bj_tree.specs.contracts.class.ModifierKind.{the_type}
use Rattle.bj_rules.specs.declared.misfit.Misfit.{Misfit}
use Rattle.bj_rules.specs.declared.place.Place.{Place}
use Rattle.bj_rules.specs.Misfits.{first}
use Rattle.bj_rules.specs.Modifiers.{same_kind, among, allowed, is_access, is_pair, exclude, fits, is_left_out, modifier_misfit, misfit_behind, modifiers_misfit, AreFit}

-- ---- truth values

pub both : (a b : Bool) → (a && b) ≡ true → (a ≡ true) × (b ≡ true)
both true true e = (refl, refl)
both true false e = absurd (cc)
both false b e = absurd (cc)

pub neither : (a b : Bool) → (a || b) ≡ false → (a ≡ false) × (b ≡ false)
neither true b e = absurd (cc)
neither false b e = (refl, e)

pub or_none : (a b : Bool) → a ≡ false → b ≡ false → (a || b) ≡ false
or_none true b e h = absurd (cc)
or_none false b e h = h

pub not_so : (a : Bool) → not a ≡ true → a ≡ false
not_so true e = absurd (cc)
not_so false e = refl

swapped : (a b p q : Bool) → (a && b || (p || q)) ≡ (b && a || (q || p))
swapped true true p q = refl
swapped true false p q = or_comm p q
swapped false true p q = or_comm p q
swapped false false p q = or_comm p q

-- ---- lists

each : {X : Type 0} {P Q : X → Type 0} → ((x : X) → P x → Q x) → (xs : List X) → AllByRecursion P xs → AllByRecursion Q xs
each f [] h = tt
each f (x ∷ xs) h = (f x h.0, each f xs h.1)

-- no element passes a test, nor does one behind them
none_of : {X : Type 0} (test : X → Bool) (xs : List X) (x : X) → list_any test (xs ++ x ∷ []) ≡ false → (list_any test xs ≡ false) × (test x ≡ false)
none_of test [] x e = (refl, (neither (test x) false e).0)
none_of test (y ∷ ys) x e =
    let now = neither (test y) (list_any test (ys ++ x ∷ [])) e in
    let rest = none_of test ys x now.1 in
    (or_none (test y) (list_any test ys) now.0 rest.0, rest.1)

-- ---- modifiers

pub same_is : (a b : ModifierKind) → same_kind a b ≡ true → a ≡ b
unfolding same_kind
same_is a b e = same_true the_type tt a b e

pub apart : (a b : ModifierKind) → same_kind b a ≡ false → a ≡ b → ⊥
unfolding same_kind
apart a b e h = same_false the_type b a e (sym h)

pub free : (place : Place) (a b : ModifierKind) → exclude place b a ≡ false → exclude place a b ≡ true → ⊥
free place a b e h =
    let swap : exclude place a b ≡ exclude place b a = swapped (is_access a) (is_access b) (is_pair place a b) (is_pair place b a) in
    absurd (cc)

none_first : (a b : Option Misfit) → first (a ∷ b ∷ []) ≡ None → (a ≡ None) × (b ≡ None)
none_first None None e = (refl, refl)
none_first None (Some m) e = absurd (cc)
none_first (Some m) b e = absurd (cc)

fit_of : (fit left_out : Bool) (a b : Misfit) → (if not fit then Some a else if left_out then Some b else None) ≡ None → fit ≡ true
fit_of true left_out a b e = refl
fit_of false left_out a b e = absurd (cc)

-- modifiers that are fit, of which none is one of those before them, or excluded by one of these
record Behind (place : Place) (before modifiers : List Modifier) : Type 0 where
  are_fit : AreFit place modifiers
  fresh : AllByRecursion (λ (one : Modifier). list_any (λ (other : Modifier). same_kind one.kind other.kind) before ≡ false) modifiers
  free : AllByRecursion (λ (one : Modifier). list_any (λ (other : Modifier). exclude place one.kind other.kind) before ≡ false) modifiers

behind : (place : Place) (before modifiers : List Modifier) → misfit_behind place before modifiers ≡ None → Behind place before modifiers
behind place before [] e = record { are_fit = record { taken = tt; distinct = tt; together = tt }; fresh = tt; free = tt }
behind place before (one ∷ rest) e =
    let parts = none_first (modifier_misfit place before one) (misfit_behind place (before ++ one ∷ []) rest) e in
    let fit = fit_of (fits place before one.kind) (is_left_out place one.kind) _ _ parts.0 in
    let tests = both (not (list_any (λ (other : Modifier). same_kind one.kind other.kind) before)) _ fit in
    let others = both (among (allowed place) one.kind) (not (list_any (λ (other : Modifier). exclude place one.kind other.kind) before)) tests.1 in
    let more = behind place (before ++ one ∷ []) rest parts.1 in
    record {
      are_fit = record {
        taken = (Contains-from_any same_is one.kind (allowed place) others.0, more.are_fit.taken);
        distinct = (each (λ other h. apart one.kind other.kind (none_of (λ (b : Modifier). same_kind other.kind b.kind) before one h).1) rest more.fresh, more.are_fit.distinct);
        together = (each (λ other h. free place one.kind other.kind (none_of (λ (b : Modifier). exclude place other.kind b.kind) before one h).1) rest more.free, more.are_fit.together);
      };
      fresh = (not_so _ tests.0, each (λ other h. (none_of (λ (b : Modifier). same_kind other.kind b.kind) before one h).0) rest more.fresh);
      free = (not_so _ others.1, each (λ other h. (none_of (λ (b : Modifier). exclude place other.kind b.kind) before one h).0) rest more.free);
    }

pub all_fit : (place : Place) (modifiers : List Modifier) → modifiers_misfit place modifiers ≡ None → AreFit place modifiers
all_fit place modifiers e = (behind place [] modifiers e).are_fit

-- ---- the other way round

pub both_are : (a b : Bool) → a ≡ true → b ≡ true → (a && b) ≡ true
both_are true b e h = h
both_are false b e h = absurd (cc)

pub not_one : (a : Bool) → a ≡ false → not a ≡ true
not_one true e = absurd (cc)
not_one false e = refl

never : (a : Bool) → (a ≡ true → ⊥) → a ≡ false
never true h = absurd (h refl)
never false h = refl

all_of : {X : Type 0} {P : X → Type 0} → ((x : X) → P x) → (xs : List X) → AllByRecursion P xs
all_of f [] = tt
all_of f (x ∷ xs) = (f x, all_of f xs)

each_both : {X : Type 0} {P Q R : X → Type 0} → ((x : X) → P x → Q x → R x) → (xs : List X) → AllByRecursion P xs → AllByRecursion Q xs → AllByRecursion R xs
each_both f [] h k = tt
each_both f (x ∷ xs) h k = (f x h.0 k.0, each_both f xs h.1 k.1)

none_with : {X : Type 0} (test : X → Bool) (xs : List X) (x : X) → list_any test xs ≡ false → test x ≡ false → list_any test (xs ++ x ∷ []) ≡ false
none_with test [] x e h = or_none (test x) false h refl
none_with test (y ∷ ys) x e h =
    let now = neither (test y) (list_any test ys) e in
    or_none (test y) (list_any test (ys ++ x ∷ [])) now.0 (none_with test ys x now.1 h)

pub same_equivalence : IsEquivalence same_kind
unfolding same_kind
same_equivalence = on_equiv (tag_of the_type) nat_eq_equiv

pub other_kind : (a b : ModifierKind) → (a ≡ b → ⊥) → same_kind b a ≡ false
unfolding same_kind
other_kind a b h = false_same the_type tt b a (λ e. h (sym e))

pub not_bound : (place : Place) (a b : ModifierKind) → (exclude place a b ≡ true → ⊥) → exclude place b a ≡ false
not_bound place a b h =
    let swap : exclude place a b ≡ exclude place b a = swapped (is_access a) (is_access b) (is_pair place a b) (is_pair place b a) in
    never (exclude place b a) (λ e. h (swap ∙ e))

pub first_none : (a b : Option Misfit) → a ≡ None → b ≡ None → first (a ∷ b ∷ []) ≡ None
first_none None None e h = refl
first_none None (Some m) e h = absurd (cc)
first_none (Some m) b e h = absurd (cc)

none_of_fit : (fit left_out : Bool) (a b : Misfit) → fit ≡ true → left_out ≡ false → (if not fit then Some a else if left_out then Some b else None) ≡ None
none_of_fit true true a b e h = absurd (cc)
none_of_fit true false a b e h = refl
none_of_fit false left_out a b e h = absurd (cc)

-- none of the modifiers is left out of the profile
abbrev AreKept : Place → List Modifier → Type 0
AreKept place modifiers = AllByRecursion (λ (one : Modifier). is_left_out place one.kind ≡ false) modifiers

clear : (place : Place) (before modifiers : List Modifier) → Behind place before modifiers → AreKept place modifiers → misfit_behind place before modifiers ≡ None
clear place before [] b kept = refl
clear place before (one ∷ rest) b kept =
    let others = both_are (among (allowed place) one.kind) (not (list_any (λ (other : Modifier). exclude place one.kind other.kind) before)) (list_any-from_Contains same_equivalence one.kind (allowed place) b.are_fit.taken.0) (not_one _ b.free.0) in
    let fit = both_are (not (list_any (λ (other : Modifier). same_kind one.kind other.kind) before)) _ (not_one _ b.fresh.0) others in
    let more : Behind place (before ++ one ∷ []) rest = record {
      are_fit = record { taken = b.are_fit.taken.1; distinct = b.are_fit.distinct.1; together = b.are_fit.together.1 };
      fresh = each_both (λ other h k. none_with (λ (x : Modifier). same_kind other.kind x.kind) before one h (other_kind one.kind other.kind k)) rest b.fresh.1 b.are_fit.distinct.0;
      free = each_both (λ other h k. none_with (λ (x : Modifier). exclude place other.kind x.kind) before one h (not_bound place one.kind other.kind k)) rest b.free.1 b.are_fit.together.0;
    } in
    first_none (modifier_misfit place before one) (misfit_behind place (before ++ one ∷ []) rest) (none_of_fit (fits place before one.kind) (is_left_out place one.kind) _ _ fit kept.0) (clear place (before ++ one ∷ []) rest more kept.1)

pub no_misfit : (place : Place) (modifiers : List Modifier) → AreFit place modifiers → AreKept place modifiers → modifiers_misfit place modifiers ≡ None
no_misfit place modifiers fit kept = clear place [] modifiers (record { are_fit = fit; fresh = all_of (λ one. refl) modifiers; free = all_of (λ one. refl) modifiers }) kept
