-- Values of types, and variables that hold them.
use Rattle.std.proofs.Common.{◌≡◌, ℕ, zero, suc, ℤ, List, [], ◌∷◌, ◌++◌, length, Some, ◌⊎◌, inl, inr, refl, ap, subst}
use Rattle.std.specs.Prelude.{map, slice_get}
use Rattle.bj_core.specs.declared.types.Ty.{Ty}
use Rattle.bj_core.specs.declared.types.Ty.TheVariants as types
use Rattle.bj_core.specs.declared.types.Val.{Val}
use Rattle.bj_core.specs.declared.types.Val.TheVariants as v
use Rattle.bj_core.specs.declared.frame.Local.{Local}
use Rattle.bj_core.specs.declared.program.Program.{Program}
use Rattle.bj_eval.specs.declared.activation.Variable.{Variable}
use Rattle.bj_eval.specs.Fields.{HasVal, itself}
use Rattle.bj_eval.specs.Frames.{given, parameters}
use Rattle.bj_eval.specs.Typed.{Scope, IsPrimitive, ArePrimitive, type_of}

-- a variable that is assigned a value of this type
abbrev pub IsHeld : Ty → Variable → Type 0
IsHeld ty x = (value : Val) × (x.value ≡ Some value) × (type_of value ≡ ty)

-- each variable of the scope is assigned a value of its type
pub record Holds (scope : Scope) (vs : List Variable) : Type 0 where
  pub each : (slot : ℕ) (ty : Ty) → slice_get scope.variables slot ≡ Some ty → (x : Variable) × (slice_get vs slot ≡ Some x) × IsHeld ty x

pub holds_given : (ls : List Local) (slot : ℕ) (ty : Ty) → slice_get (map (λ l. type_of l.value) ls) slot ≡ Some ty → (x : Variable) × (slice_get (map given ls) slot ≡ Some x) × IsHeld ty x
holds_given [] zero ty e = absurd (cc)
holds_given [] (suc slot) ty e = absurd (cc)
holds_given (l ∷ ls) zero ty e = let same : type_of l.value ≡ ty = cc in (given l, refl, (l.value, refl, same))
holds_given (l ∷ ls) (suc slot) ty e = holds_given ls slot ty e

module _ (program : Program) where
  -- a value of the type, or one of a name whose type is of no use
  abbrev pub Is : Ty → Val → Type 0
  Is ty x = HasVal program ty x ⊎ (ty ≡ types.Void)

  abbrev pub Are : List Ty → List Val → Type 0
  Are [] [] = Unit {0}
  Are [] (x ∷ xs) = ⊥
  Are (ty ∷ tys) [] = ⊥
  Are (ty ∷ tys) (x ∷ xs) = Is ty x × Are tys xs

  pub one_more : (tys : List Ty) (xs : List Val) (ty : Ty) (x : Val) → Are tys xs → Is ty x → Are (tys ++ ty ∷ []) (xs ++ x ∷ [])
  one_more [] [] ty x are is_ty = (is_ty, tt)
  one_more [] (y ∷ xs) ty x are is_ty = absurd are
  one_more (a ∷ tys) [] ty x are is_ty = absurd are
  one_more (a ∷ tys) (y ∷ xs) ty x are is_ty = (are.0, one_more tys xs ty x are.1 is_ty)

  -- a value has its own type
  own : (x : Val) → Is (type_of x) x
  own (v.Int n) = inl tt
  own (v.Long n) = inl tt
  own (v.Bool b) = inl tt
  own (v.Char u) = inl tt
  own v.Null = inl tt
  own (v.Ref object types.Int) = inr refl
  own (v.Ref object types.Long) = inr refl
  own (v.Ref object types.Bool) = inr refl
  own (v.Ref object types.Char) = inr refl
  own (v.Ref object types.Null) = inr refl
  own (v.Ref object types.Void) = inr refl
  own (v.Ref object (types.Class k)) = inl (itself refl)
  own (v.Ref object (types.Array elem dims)) = inl refl

  pub has_own : (x : Val) (ty : Ty) → type_of x ≡ ty → Is ty x
  has_own x ty e = subst (λ ty. Is ty x) e (own x)

  pub int_of : (x : Val) → Is types.Int x → (n : ℤ) × (x ≡ v.Int n)
  int_of (v.Int n) h = (n, refl)
  int_of (v.Long n) (inl h) = absurd h
  int_of (v.Bool b) (inl h) = absurd h
  int_of (v.Char u) (inl h) = absurd h
  int_of v.Null (inl h) = absurd h
  int_of (v.Ref object of) (inl h) = absurd h
  int_of (v.Long n) (inr e) = absurd (cc)
  int_of (v.Bool b) (inr e) = absurd (cc)
  int_of (v.Char u) (inr e) = absurd (cc)
  int_of v.Null (inr e) = absurd (cc)
  int_of (v.Ref object of) (inr e) = absurd (cc)

  -- no value has the type void
  pub no_void : (x : Val) → HasVal program types.Void x → ⊥
  no_void x h = h

  -- the type of a primitive value is its own
  pub of_primitive : (ty : Ty) (x : Val) → IsPrimitive ty → HasVal program ty x → type_of x ≡ ty
  of_primitive types.Int (v.Int n) p h = refl
  of_primitive types.Int (v.Long n) p h = absurd h
  of_primitive types.Int (v.Bool b) p h = absurd h
  of_primitive types.Int (v.Char u) p h = absurd h
  of_primitive types.Int v.Null p h = absurd h
  of_primitive types.Int (v.Ref object of) p h = absurd h
  of_primitive types.Long (v.Int n) p h = absurd h
  of_primitive types.Long (v.Long n) p h = refl
  of_primitive types.Long (v.Bool b) p h = absurd h
  of_primitive types.Long (v.Char u) p h = absurd h
  of_primitive types.Long v.Null p h = absurd h
  of_primitive types.Long (v.Ref object of) p h = absurd h
  of_primitive types.Bool (v.Int n) p h = absurd h
  of_primitive types.Bool (v.Long n) p h = absurd h
  of_primitive types.Bool (v.Bool b) p h = refl
  of_primitive types.Bool (v.Char u) p h = absurd h
  of_primitive types.Bool v.Null p h = absurd h
  of_primitive types.Bool (v.Ref object of) p h = absurd h
  of_primitive types.Char (v.Int n) p h = absurd h
  of_primitive types.Char (v.Long n) p h = absurd h
  of_primitive types.Char (v.Bool b) p h = absurd h
  of_primitive types.Char (v.Char u) p h = refl
  of_primitive types.Char v.Null p h = absurd h
  of_primitive types.Char (v.Ref object of) p h = absurd h
  of_primitive types.Null x p h = absurd p
  of_primitive types.Void x p h = absurd p
  of_primitive (types.Class k) x p h = absurd p
  of_primitive (types.Array elem dims) x p h = absurd p

  held_by : (ty : Ty) (name : List ℕ) (x : Val) → IsPrimitive ty → Is ty x → IsHeld ty (record { name = name; value = Some x })
  held_by ty name x p (inl h) = (x, refl, of_primitive ty x p h)
  held_by ty name x p (inr e) = absurd (subst IsPrimitive e p)

  -- the parameters of a body hold the values that are passed
  pub holds_passed : (params : List (List ℕ)) (tys : List Ty) (xs : List Val) → length params ≡ length tys → ArePrimitive tys → Are tys xs
      → (slot : ℕ) (ty : Ty) → slice_get tys slot ≡ Some ty → (x : Variable) × (slice_get (parameters params xs) slot ≡ Some x) × IsHeld ty x
  holds_passed params [] xs same p are zero ty e = absurd (cc)
  holds_passed params [] xs same p are (suc slot) ty e = absurd (cc)
  holds_passed [] (a ∷ tys) xs same p are slot ty e = absurd (cc)
  holds_passed (name ∷ params) (a ∷ tys) [] same p are slot ty e = absurd are
  holds_passed (name ∷ params) (a ∷ tys) (x ∷ xs) same p are zero ty e =
      let of : a ≡ ty = cc in
      (record { name = name; value = Some x }, refl, subst (λ ty. IsHeld ty (record { name = name; value = Some x })) of (held_by a name x p.0 are.0))
  holds_passed (name ∷ params) (a ∷ tys) (x ∷ xs) same p are (suc slot) ty e =
      let fewer : length params ≡ length tys = cc in
      holds_passed params tys xs fewer p.1 are.1 slot ty e

pub each_primitive : (tys : List Ty) → ArePrimitive tys → (slot : ℕ) (ty : Ty) → slice_get tys slot ≡ Some ty → IsPrimitive ty
each_primitive [] p zero ty e = absurd (cc)
each_primitive [] p (suc slot) ty e = absurd (cc)
each_primitive (a ∷ tys) p zero ty e = let of : a ≡ ty = cc in subst IsPrimitive of p.0
each_primitive (a ∷ tys) p (suc slot) ty e = each_primitive tys p.1 slot ty e

pub object_of : (x : Val) (class : ℕ) → type_of x ≡ types.Class class → (object : ℕ) × (x ≡ v.Ref object (types.Class class))
object_of (v.Int n) k e = absurd (cc)
object_of (v.Long n) k e = absurd (cc)
object_of (v.Bool b) k e = absurd (cc)
object_of (v.Char u) k e = absurd (cc)
object_of v.Null k e = absurd (cc)
object_of (v.Ref object types.Int) k e = absurd (cc)
object_of (v.Ref object types.Long) k e = absurd (cc)
object_of (v.Ref object types.Bool) k e = absurd (cc)
object_of (v.Ref object types.Char) k e = absurd (cc)
object_of (v.Ref object types.Null) k e = absurd (cc)
object_of (v.Ref object types.Void) k e = absurd (cc)
object_of (v.Ref object (types.Class j)) k e = (object, ap (v.Ref object) e)
object_of (v.Ref object (types.Array elem dims)) k e = absurd (cc)
