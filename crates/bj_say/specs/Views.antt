-- What an inspector shows of an object: its fields, those of the superclass first, in source order.
use Rattle.std.specs.Prelude.{ℕ, zero, suc, if◌then◌else◌, List, [], ◌∷◌, ◌++◌, length, Option, Some, None, slice_get, codes}
use Rattle.bj_core.specs.declared.program.Class.{Class}
use Rattle.bj_core.specs.declared.program.Field.{Field}
use Rattle.bj_core.specs.declared.program.Program.{Program}
use Rattle.bj_core.specs.declared.types.Ty.{Ty}
use Rattle.bj_core.specs.declared.types.Ty.TheVariants as ty
use Rattle.bj_core.specs.declared.types.Val.{Val}
use Rattle.bj_core.specs.declared.types.Val.TheVariants as val
use Rattle.bj_eval.specs.Fields.{fields_to, fields_from}
use Rattle.bj_heap.specs.Objects.{cell}
use Rattle.bj_store.specs.State.{State}
use Rattle.bj_say.specs.Texts.{class_name, type_text, value_text}

-- a field of an object: the class that declares it, its name, its type, and its value
pub record FieldRow : Type 0 where
  pub class : ℕ
  pub name : List ℕ
  pub ty : Ty
  pub value : Val

abbrev pub row_of : ℕ → Field → Option Val → List FieldRow
row_of class f None = []
row_of class f (Some v) = record { class = class; name = f.name; ty = f.ty; value = v } ∷ []

-- the fields that a class declares, of which the first has this slot in its objects
abbrev pub own_rows : State → ℕ → ℕ → ℕ → List Field → List FieldRow
own_rows s object class slot [] = []
own_rows s object class slot (f ∷ rest) =
    if f.is_static then own_rows s object class slot rest
    else row_of class f (cell s.heap.objects object slot) ++ own_rows s object class (suc slot) rest

-- how many fields the classes above declare
abbrev pub slots_above : ℕ → List Class → Option ℕ → ℕ
slots_above n classes above = length (fields_from (fields_to n classes) above)

abbrev pub rows_above : (ℕ → List FieldRow) → Option ℕ → List FieldRow
rows_above above None = []
rows_above above (Some class) = above class

abbrev pub rows_with : ℕ → List Class → State → ℕ → ℕ → (ℕ → List FieldRow) → Option Class → List FieldRow
rows_with n classes s object class above None = []
rows_with n classes s object class above (Some c) = rows_above above c.above ++ own_rows s object class (slots_above n classes c.above) c.fields

-- the fields of an object of a class, with those of at most n classes above it
abbrev pub rows_to : ℕ → List Class → State → ℕ → ℕ → List FieldRow
rows_to zero classes s object class = []
rows_to (suc n) classes s object class = rows_with n classes s object class (rows_to n classes s object) (slice_get classes class)

abbrev pub rows_of_type : Program → State → ℕ → Ty → List FieldRow
rows_of_type program s object (ty.Class class) = rows_to (length program.classes) program.classes s object class
rows_of_type program s object of = []

-- the fields of what a value refers to, in a state
abbrev pub view : Program → State → Val → List FieldRow
view program s (val.Ref object of) = rows_of_type program s object of
view program s v = []

-- a line for each field
abbrev pub row_text : Program → FieldRow → List ℕ
row_text program r =
    codes "\n= " ++ type_text program r.ty ++ codes " " ++ class_name program r.class ++ codes "." ++ r.name ++ codes " = " ++ value_text program r.value

abbrev pub rows_text : Program → List FieldRow → List ℕ
rows_text program [] = []
rows_text program (r ∷ rest) = row_text program r ++ rows_text program rest

-- the reply of an inspection: the name with its value, and a line for each field
abbrev pub inspection : Program → State → List ℕ → Val → List ℕ
inspection program s name v = codes "= " ++ name ++ codes " " ++ value_text program v ++ rows_text program (view program s v)
