-- The names on the bench.
use Rattle.std.specs.Prelude.{ℕ, ◌≡◌, ◌||◌, Bool, true, false, not, nat_le, if◌then◌else◌, List, [], ◌∷◌, ◌++◌, length, Option, Some, None, is_some}
use Rattle.std.specs.Str.{bytes_eq}
use Rattle.bj_core.specs.declared.action.Action.{Action}
use Rattle.bj_core.specs.declared.action.Action.TheVariants.{End}
use Rattle.bj_core.specs.declared.action.Done.TheVariants.{Value}
use Rattle.bj_core.specs.declared.frame.TermKind.{TermKind}
use Rattle.bj_core.specs.declared.frame.TermKind.TheVariants as kind
use Rattle.bj_core.specs.declared.program.Class.{Class}
use Rattle.bj_core.specs.declared.program.Program.{Program}
use Rattle.bj_core.specs.declared.types.Val.{Val}
use Rattle.bj_sum.specs.Cells.{is_letter}
use Rattle.bj_bench.specs.declared.names.BoundName.{BoundName}

abbrev pub bound_name : List ℕ → Val → BoundName
bound_name name value = record { name = name; value = value }

-- what a name stands for
abbrev pub value_in : List BoundName → List ℕ → Option Val
value_in [] name = None
value_in (b ∷ rest) name = if bytes_eq b.name name then Some b.value else value_in rest name

-- the bench has room for 1,000 names
abbrev pub is_full : List BoundName → Bool
is_full names = nat_le 1000 (length names)

-- the name stands for an object, or no other name has room
abbrev pub is_taken : List BoundName → List ℕ → Bool
is_taken names name = is_some (value_in names name) || is_full names

abbrev pub is_class_in : List Class → List ℕ → Bool
is_class_in [] name = false
is_class_in (c ∷ rest) name = if bytes_eq c.name name then true else is_class_in rest name

abbrev pub are_letters : List ℕ → Bool
are_letters [] = true
are_letters (b ∷ bs) = if is_letter b then are_letters bs else false

-- a name that is built: ASCII letters, and no class has it
abbrev pub is_plain : Program → List ℕ → Bool
is_plain program name = if are_letters name then not (is_class_in program.classes name) else false

-- the name that a term binds
abbrev pub binds : TermKind → Option (List ℕ)
binds (kind.New name) = Some name
binds kind = None

-- the names after an action of a term that binds this one: where it ends with a value, the name stands for it
abbrev pub names_after : Option (List ℕ) → Option Action → List BoundName → List BoundName
names_after (Some name) (Some (End (Value v))) names = names ++ bound_name name v ∷ []
names_after name a names = names

-- no two names are the same
abbrev pub AreApart : List BoundName → Type 0
AreApart [] = Unit {0}
AreApart (b ∷ rest) = (value_in rest b.name ≡ None) × AreApart rest
