-- What the entries of a history print.
use Rattle.std.specs.Prelude.{ℕ, List, [], ◌∷◌, ◌++◌, Option, Some, None, codes}
use Rattle.std.specs.Fmt.{signed_decimal}
use Rattle.bj_core.specs.declared.action.Action.{Action}
use Rattle.bj_core.specs.declared.action.Action.TheVariants.{End}
use Rattle.bj_core.specs.declared.action.Done.{Done}
use Rattle.bj_core.specs.declared.action.Done.TheVariants.{Nothing, Value, Threw}
use Rattle.bj_core.specs.declared.entry.Reason.{Reason}
use Rattle.bj_core.specs.declared.entry.Reason.TheVariants.{Idle, Halted, Stuck, Spent, Still, Jobs}
use Rattle.bj_core.specs.declared.program.Program.{Program}
use Rattle.bj_core.specs.declared.types.Ty.{Ty}
use Rattle.bj_core.specs.declared.types.Ty.TheVariants as ty
use Rattle.bj_core.specs.declared.types.Val.{Val}
use Rattle.bj_core.specs.declared.types.Val.TheVariants as val
use Rattle.bj_say.specs.declared.wait.Wait.{Wait}
use Rattle.bj_say.specs.declared.wait.Wait.TheVariants.{Silent, Told}
use Rattle.bj_say.specs.Texts.{class_name, value_text}

-- a value with its type; values of other types are not built
abbrev pub value_event : Val → List ℕ
value_event (val.Int n) = codes "! " ++ signed_decimal n ++ codes " (int)\n"
value_event v = []

-- a name that was bound, with what it stands for
abbrev pub name_event : Program → List ℕ → Val → List ℕ
name_event program name v = codes "! " ++ name ++ codes " " ++ value_text program v ++ codes "\n"

-- a throwable of a class, which has no message yet
abbrev pub throw_event : Program → Ty → List ℕ
throw_event program (ty.Class class) = codes "! threw " ++ class_name program class ++ codes "\n"
throw_event program of = []

abbrev pub threw_event : Program → Val → List ℕ
threw_event program (val.Ref object of) = throw_event program of
threw_event program v = []

abbrev pub result_event : Program → Option (List ℕ) → Val → List ℕ
result_event program None v = value_event v
result_event program (Some name) v = name_event program name v

-- the end of a term, which binds a name or none
abbrev pub done_event : Program → Option (List ℕ) → Done → List ℕ
done_event program name Nothing = codes "! done\n"
done_event program name (Value v) = result_event program name v
done_event program name (Threw v) = threw_event program v

-- the event of an action that is done: a term that ends tells its result
abbrev pub act_event : Program → Option (List ℕ) → Option Action → List ℕ
act_event program name (Some (End done)) = done_event program name done
act_event program name a = []

-- why a wait ends
abbrev pub reason_event : Reason → List ℕ
reason_event Idle = codes "! idle\n"
reason_event Halted = codes "! halted\n"
reason_event Stuck = codes "! stuck\n"
reason_event Spent = codes "! spent\n"
reason_event Still = codes "! still\n"
reason_event Jobs = codes "! jobs\n"

-- the end of a wait, of which nothing is written where it was silent
abbrev pub woke_event : Option Wait → Reason → List ℕ
woke_event None reason = []
woke_event (Some Silent) reason = []
woke_event (Some Told) reason = reason_event reason

-- a reply as it is written: a line, but nothing where it is empty
abbrev pub written_line : List ℕ → List ℕ
written_line [] = []
written_line (b ∷ bs) = (b ∷ bs) ++ 10 ∷ []

-- the event of the end of a term, if it has ended
abbrev pub end_event : Program → Option (List ℕ) → Option Done → List ℕ
end_event program name None = []
end_event program name (Some done) = done_event program name done
