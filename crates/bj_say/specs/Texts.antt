-- How values and types are written.
use Rattle.std.specs.Prelude.{ℕ, if◌then◌else◌, List, [], ◌++◌, Option, Some, None, slice_get, codes, decimal}
use Rattle.std.specs.Fmt.{signed_decimal}
use Rattle.bj_core.specs.declared.program.Class.{Class}
use Rattle.bj_core.specs.declared.program.Program.{Program}
use Rattle.bj_core.specs.declared.types.Ty.{Ty}
use Rattle.bj_core.specs.declared.types.Ty.TheVariants as ty
use Rattle.bj_core.specs.declared.types.Val.{Val}
use Rattle.bj_core.specs.declared.types.Val.TheVariants as val

abbrev pub name_of : Option Class → List ℕ
name_of None = []
name_of (Some c) = c.name

abbrev pub class_name : Program → ℕ → List ℕ
class_name program class = name_of (slice_get program.classes class)

-- a type; arrays are not built
abbrev pub type_text : Program → Ty → List ℕ
type_text program ty.Int = codes "int"
type_text program ty.Long = codes "long"
type_text program ty.Bool = codes "boolean"
type_text program ty.Char = codes "char"
type_text program ty.Void = codes "void"
type_text program ty.Null = codes "Object"
type_text program (ty.Class class) = class_name program class
type_text program (ty.Array elem dims) = []

-- an object of a class
abbrev pub object_text : Program → ℕ → Ty → List ℕ
object_text program object (ty.Class class) = codes "<" ++ class_name program class ++ codes " " ++ decimal object ++ codes ">"
object_text program object of = []

-- a value; characters and arrays are not built
abbrev pub value_text : Program → Val → List ℕ
value_text program (val.Int n) = signed_decimal n
value_text program (val.Long n) = signed_decimal n
value_text program (val.Bool b) = if b then codes "true" else codes "false"
value_text program (val.Char u) = []
value_text program val.Null = codes "null"
value_text program (val.Ref object of) = object_text program object of
