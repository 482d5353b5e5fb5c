-- What holds of the state of a store, whatever was done since it was made.
use Rattle.std.specs.Prelude.{◌≡◌, ℕ, length, map, Some}
use Rattle.bj_core.specs.declared.types.Ty.TheVariants as ty
use Rattle.bj_core.specs.declared.program.Program.{Program}
use Rattle.bj_heap.specs.Objects.{Object, object_at}
use Rattle.bj_store.specs.Objects.{defaults}
use Rattle.bj_store.specs.Kinds.{kind_of}
use Rattle.bj_store.specs.State.{State}

-- the object is of a class, and each of its cells holds a value of the kind of its field's default value [JLS 4.12.5]
pub record IsOfClass (p : Program) (o : Object) : Type 0 where
  pub class : ℕ
  pub own : o.own ≡ ty.Class class
  pub cells : map kind_of o.cells ≡ map kind_of (defaults (length p.classes) p.classes class)

-- each object is of a class, and has that class's fields
pub record IsKept (p : Program) (s : State) : Type 0 where
  pub objects : (number : ℕ) (o : Object) → object_at s.heap.objects number ≡ Some o → IsOfClass p o
