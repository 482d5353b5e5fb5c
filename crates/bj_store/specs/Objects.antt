-- The objects of a program, as they are made.
use Rattle.std.specs.Prelude.{ℕ, zero, suc, ◌+◌, false, if◌then◌else◌, List, [], ◌∷◌, ◌++◌, length, Option, Some, None, slice_get, pos, codes, map, filter, not, nat_le}
use Rattle.std.specs.Str.{bytes_eq}
use Rattle.bj_core.specs.declared.types.Ty.{Ty}
use Rattle.bj_core.specs.declared.types.Ty.TheVariants as ty
use Rattle.bj_core.specs.declared.types.Val.{Val}
use Rattle.bj_core.specs.declared.types.Val.TheVariants as val
use Rattle.bj_core.specs.declared.program.Class.{Class}
use Rattle.bj_core.specs.declared.program.Field.{Field}
use Rattle.bj_heap.specs.Objects.{Object}

-- the default value of a variable of a type [JLS 4.12.5]
abbrev pub default_of : Ty → Val
default_of ty.Int = val.Int (pos 0)
default_of ty.Long = val.Long (pos 0)
default_of ty.Bool = val.Bool false
default_of ty.Char = val.Char 0
default_of _ = val.Null

-- the instance fields that a class declares, in source order
abbrev pub own_defaults : List Field → List Val
own_defaults fields = map (λ f. default_of f.ty) (filter (λ f. not f.is_static) fields)

abbrev pub above_defaults : (ℕ → List Val) → Option ℕ → List Val
above_defaults up None = []
above_defaults up (Some class) = up class

abbrev pub class_defaults : (ℕ → List Val) → Option Class → List Val
class_defaults up None = []
class_defaults up (Some c) = above_defaults up c.above ++ own_defaults c.fields

-- The values of a new object's fields: those of the superclass first. No chain of superclasses has more classes than there are.
abbrev pub defaults : ℕ → List Class → ℕ → List Val
defaults zero classes class = []
defaults (suc n) classes class = class_defaults (defaults n classes) (slice_get classes class)

abbrev pub new_object : List Class → ℕ → Object
new_object classes class = record { own = ty.Class class; cells = defaults (length classes) classes class }

-- the first class of a name from a number on, or 4294967295, which is no class's number
abbrev pub class_from : ℕ → List Class → List ℕ → ℕ
class_from n [] name = 4294967295
class_from n (c ∷ rest) name = if nat_le 4294967295 n then 4294967295 else if bytes_eq c.name name then n else class_from (n + 1) rest name

abbrev pub class_named : List Class → List ℕ → ℕ
class_named classes name = class_from 0 classes name

abbrev pub object_named : List Class → List ℕ → Object
object_named classes name = new_object classes (class_named classes name)

-- object 1 is the Thread of `main`, 2 is System.out, 3 is System.in, and 4 is a spare OutOfMemoryError
abbrev pub first_objects : List Class → List Object
first_objects classes =
    object_named classes (codes "Thread")
    ∷ (object_named classes (codes "PrintStream") ∷ (object_named classes (codes "InputStream") ∷ (object_named classes (codes "OutOfMemoryError") ∷ [])))
