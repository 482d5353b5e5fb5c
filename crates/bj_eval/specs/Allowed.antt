-- Which answers a store may give.
use Rattle.std.specs.Prelude.{◌≡◌, ℕ, List, [], ◌∷◌, ◌++◌, Some, None}
use Rattle.bj_core.specs.declared.frame.Term.{Term}
use Rattle.bj_core.specs.declared.program.Field.{Field}
use Rattle.bj_core.specs.declared.program.Program.{Program}
use Rattle.bj_core.specs.declared.types.Ty.TheVariants as t
use Rattle.bj_core.specs.declared.types.Val.TheVariants as v
use Rattle.bj_core.specs.declared.action.Action.{Action}
use Rattle.bj_core.specs.declared.action.Action.TheVariants as act
use Rattle.bj_core.specs.declared.action.Answer.{Answer}
use Rattle.bj_core.specs.declared.action.Answer.TheVariants as answer
use Rattle.bj_eval.specs.Fields.{field_at, HasVal}
use Rattle.bj_eval.specs.Next.{Asked, next_of}

-- an answer to an action: a read of a field gives a value of its type, a new object is of its class, and what is raised is an
-- object
abbrev pub Allows : Program → Action → Answer → Type 0
Allows program (act.Point p) x = x ≡ answer.Done
Allows program (act.Get (v.Ref object (t.Class class)) slot) (answer.Value x) = (f : Field) × (field_at program class slot ≡ Some f) × HasVal program f.ty x
Allows program (act.Put object slot value) x = x ≡ answer.Done
Allows program (act.Make class) (answer.Value (v.Ref object of)) = of ≡ t.Class class
Allows program (act.Make class) (answer.Thrown k) = Unit {0}
Allows program (act.InitBegin class) answer.Ready = Unit {0}
Allows program (act.InitBegin class) answer.Go = Unit {0}
Allows program (act.InitEnd class ok) x = x ≡ answer.Done
Allows program (act.Raise class None) (answer.Value (v.Ref object of)) = Unit {0}
Allows program a x = ⊥

-- each answer of a list, the oldest first, is one to the action that the term then wants
pub data IsAllowed (program : Program) (limit : ℕ) (term : Term) : List Answer → Type 0 where
  nothing : {xs : List Answer} → xs ≡ [] → IsAllowed program limit term xs
  one_more : {xs front : List Answer} (x : Answer) (a : Asked) → IsAllowed program limit term front → next_of program limit term front ≡ Some a
      → Allows program a.action x → xs ≡ front ++ x ∷ [] → IsAllowed program limit term xs
