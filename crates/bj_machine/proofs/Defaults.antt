-- A default value of a class's fields is that of the type of the field in its slot.
use Rattle.std.proofs.Common.{◌≡◌, ◌≢◌, ℕ, zero, suc, Bool, true, false, cond, List, [], ◌∷◌, ◌++◌, length, map, Option, Some, None, refl, sym, ap, ◌∙◌, subst}
use Rattle.std.specs.Prelude.{slice_get, filter, not, All}
use Rattle.std.proofs.lemmas.List.{map-append}
use Rattle.std.proofs.lemmas.List.Elements.{All-head, All-tail}
use Rattle.bj_core.specs.declared.types.Ty.{Ty}
use Rattle.bj_core.specs.declared.types.Ty.TheVariants as ty
use Rattle.bj_core.specs.declared.types.Val.{Val}
use Rattle.bj_core.specs.declared.types.Val.TheVariants as val
use Rattle.bj_core.specs.declared.program.Class.{Class}
use Rattle.bj_core.specs.declared.program.Field.{Field}
use Rattle.bj_core.specs.declared.program.Program.{Program}
use Rattle.bj_eval.specs.Fields.{of_objects, fields_from, fields_with, fields_to, field_at, HasVal}
use Rattle.bj_store.specs.Kinds.{kind_of}
use Rattle.bj_store.specs.Objects.{default_of, own_defaults, above_defaults, class_defaults, defaults}
use Rattle.bj_machine.specs.Shown.{is_field, HasFields}

abbrev default_in : Field → Val
default_in f = default_of f.ty

keep_one : (f : Field) (b : Bool) (xs ys : List Field) → xs ≡ ys → cond (not b) (f ∷ xs) xs ≡ cond b ys (f ∷ ys)
keep_one f true xs ys e = e
keep_one f false xs ys e = ap (◌∷◌ f) e

own_fields : (fs : List Field) → filter (λ (f : Field). not f.is_static) fs ≡ of_objects fs
own_fields [] = refl
own_fields (f ∷ fs) = keep_one f f.is_static (filter (λ (f : Field). not f.is_static) fs) (of_objects fs) (own_fields fs)

from_above : (up : ℕ → List Val) (above : ℕ → List Field) (o : Option ℕ) → ((k : ℕ) → up k ≡ map default_in (above k)) → above_defaults up o ≡ map default_in (fields_from above o)
from_above up above None h = refl
from_above up above (Some class) h = h class

with_own : (up : ℕ → List Val) (above : ℕ → List Field) (o : Option Class) → ((k : ℕ) → up k ≡ map default_in (above k)) → class_defaults up o ≡ map default_in (fields_with above o)
with_own up above None h = refl
with_own up above (Some c) h =
    ap (λ (vs : List Val). vs ++ own_defaults c.fields) (from_above up above c.above h)
    ∙ (ap (λ (fs : List Field). map default_in (fields_from above c.above) ++ map default_in fs) (own_fields c.fields)
    ∙ sym (map-append default_in (fields_from above c.above) (of_objects c.fields)))

defaults_map : (n : ℕ) (classes : List Class) (class : ℕ) → defaults n classes class ≡ map default_in (fields_to n classes class)
defaults_map zero classes class = refl
defaults_map (suc n) classes class = with_own (defaults n classes) (fields_to n classes) (slice_get classes class) (defaults_map n classes)

-- ---- the field in a slot

abbrev AtSlot : List Field → ℕ → Val → Type 0
AtSlot fs slot d = (f : Field) × (slice_get fs slot ≡ Some f) × (default_of f.ty ≡ d)

at_slot : (fs : List Field) (slot : ℕ) (d : Val) → slice_get (map default_in fs) slot ≡ Some d → AtSlot fs slot d
at_slot [] slot d e = absurd (cc)
at_slot (f ∷ fs) zero d e = let same : default_of f.ty ≡ d = cc in (f, refl, same)
at_slot (f ∷ fs) (suc slot) d e = at_slot fs slot d e

pub field_of_default : (p : Program) (class slot : ℕ) (d : Val) → slice_get (defaults (length p.classes) p.classes class) slot ≡ Some d
    → (f : Field) × (field_at p class slot ≡ Some f) × (default_of f.ty ≡ d)
field_of_default p class slot d e =
    at_slot (fields_to (length p.classes) p.classes class) slot d (ap (λ (vs : List Val). slice_get vs slot) (sym (defaults_map (length p.classes) p.classes class)) ∙ e)

-- ---- no field is void

abbrev Each : List Field → Type 0
Each [] = Unit {0}
Each (f ∷ fs) = is_field f × Each fs

each_of : (fs : List Field) → All is_field fs → Each fs
each_of [] h = tt
each_of (f ∷ fs) h = (All-head is_field f fs h, each_of fs (All-tail is_field f fs h))

each_more : (xs ys : List Field) → Each xs → Each ys → Each (xs ++ ys)
each_more [] ys h k = k
each_more (x ∷ xs) ys h k = (h.0, each_more xs ys h.1 k)

keep_is : (f : Field) (b : Bool) (fs : List Field) → is_field f → Each fs → Each (cond b fs (f ∷ fs))
keep_is f true fs h k = k
keep_is f false fs h k = (h, k)

own_are : (fs : List Field) → Each fs → Each (of_objects fs)
own_are [] h = tt
own_are (f ∷ fs) h = keep_is f f.is_static (of_objects fs) h.0 (own_are fs h.1)

from_are : (above : ℕ → List Field) (o : Option ℕ) → ((k : ℕ) → Each (above k)) → Each (fields_from above o)
from_are above None h = tt
from_are above (Some class) h = h class

abbrev FieldsAre : Option Class → Type 0
FieldsAre None = Unit {0}
FieldsAre (Some c) = Each c.fields

abbrev has_fields : Class → Type 0
has_fields c = All is_field c.fields

class_are : (classes : List Class) (class : ℕ) → All has_fields classes → FieldsAre (slice_get classes class)
class_are [] class h = tt
class_are (c ∷ cs) zero h = each_of c.fields (All-head has_fields c cs h)
class_are (c ∷ cs) (suc class) h = class_are cs class (All-tail has_fields c cs h)

with_are : (above : ℕ → List Field) (o : Option Class) → ((k : ℕ) → Each (above k)) → FieldsAre o → Each (fields_with above o)
with_are above None h good = tt
with_are above (Some c) h good = each_more (fields_from above c.above) (of_objects c.fields) (from_are above c.above h) (own_are c.fields good)

to_are : (n : ℕ) (classes : List Class) (class : ℕ) → All has_fields classes → Each (fields_to n classes class)
to_are zero classes class h = tt
to_are (suc n) classes class h = with_are (fields_to n classes) (slice_get classes class) (λ k. to_are n classes k h) (class_are classes class h)

field_is : (fs : List Field) (slot : ℕ) (f : Field) → Each fs → slice_get fs slot ≡ Some f → is_field f
field_is [] slot f h e = absurd (cc)
field_is (g ∷ fs) zero f h e = let same : g ≡ f = cc in subst is_field same h.0
field_is (g ∷ fs) (suc slot) f h e = field_is fs slot f h.1 e

pub at_is_field : (p : Program) (class slot : ℕ) (f : Field) → HasFields p → field_at p class slot ≡ Some f → is_field f
at_is_field p class slot f h e = field_is (fields_to (length p.classes) p.classes class) slot f (to_are (length p.classes) p.classes class h) e

-- a value of the kind of a type's default value is one of the type
pub has_val : (p : Program) (t : Ty) (x : Val) → t ≢ ty.Void → kind_of x ≡ kind_of (default_of t) → HasVal p t x
has_val p ty.Int (val.Int n) h e = tt
has_val p ty.Long (val.Long n) h e = tt
has_val p ty.Bool (val.Bool b) h e = tt
has_val p ty.Char (val.Char u) h e = tt
has_val p ty.Null val.Null h e = tt
has_val p (ty.Class class) val.Null h e = tt
has_val p (ty.Array elem dims) val.Null h e = tt
has_val p ty.Void x h e = absurd (h refl)
has_val p t x h e = absurd (cc)
