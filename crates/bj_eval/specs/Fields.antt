-- The instance fields of a class, and the values of a type.
use Rattle.std.specs.Prelude.{◌≡◌, ℕ, zero, suc, List, [], ◌∷◌, ◌++◌, length, Option, Some, None, if◌then◌else◌, slice_get}
use Rattle.bj_core.specs.declared.types.Ty.{Ty}
use Rattle.bj_core.specs.declared.types.Ty.TheVariants as t
use Rattle.bj_core.specs.declared.types.Val.{Val}
use Rattle.bj_core.specs.declared.types.Val.TheVariants as v
use Rattle.bj_core.specs.declared.program.Class.{Class}
use Rattle.bj_core.specs.declared.program.Field.{Field}
use Rattle.bj_core.specs.declared.program.Program.{Program}

-- those fields of a class that its objects have, in source order
abbrev pub of_objects : List Field → List Field
of_objects [] = []
of_objects (f ∷ fs) = if f.is_static then of_objects fs else f ∷ of_objects fs

abbrev pub fields_from : (ℕ → List Field) → Option ℕ → List Field
fields_from above None = []
fields_from above (Some class) = above class

abbrev pub fields_with : (ℕ → List Field) → Option Class → List Field
fields_with above None = []
fields_with above (Some c) = fields_from above c.above ++ of_objects c.fields

-- the same of a class and of at most n classes above it, the uppermost class first
abbrev pub fields_to : ℕ → List Class → ℕ → List Field
fields_to zero classes class = []
fields_to (suc n) classes class = fields_with (fields_to n classes) (slice_get classes class)

-- the field in a slot of a class's objects
abbrev pub field_at : Program → ℕ → ℕ → Option Field
field_at program class slot = slice_get (fields_to (length program.classes) program.classes class) slot

-- a class is another, or leads up to it [JLS 4.10.2]
pub data IsBelow (program : Program) (above : ℕ) : ℕ → Type 0 where
  itself : {class : ℕ} → class ≡ above → IsBelow program above class
  by_super : {class next : ℕ} (c : Class) → slice_get program.classes class ≡ Some c → c.above ≡ Some next → IsBelow program above next → IsBelow program above class

-- an object of one type is a value of another
abbrev pub GoesTo : Program → Ty → Ty → Type 0
GoesTo program (t.Class a) (t.Class b) = IsBelow program b a
GoesTo program a b = a ≡ b

-- a value of a type: of a primitive type one of that type, of a reference type null or a
-- reference [JLS 4.12.2]; no value has the type void
abbrev pub HasVal : Program → Ty → Val → Type 0
HasVal program t.Int (v.Int n) = Unit {0}
HasVal program t.Long (v.Long n) = Unit {0}
HasVal program t.Bool (v.Bool b) = Unit {0}
HasVal program t.Char (v.Char u) = Unit {0}
HasVal program t.Void x = ⊥
HasVal program t.Null v.Null = Unit {0}
HasVal program (t.Class class) v.Null = Unit {0}
HasVal program (t.Class class) (v.Ref object of) = GoesTo program of (t.Class class)
HasVal program (t.Array elem dims) v.Null = Unit {0}
HasVal program (t.Array elem dims) (v.Ref object of) = of ≡ t.Array elem dims
HasVal program ty x = ⊥
