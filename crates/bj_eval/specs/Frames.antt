-- The frame that a debugger shows of a body that runs, and where a body begins.
use Rattle.std.specs.Prelude.{ℕ, List, [], ◌∷◌, ◌++◌, map, Option, Some, None}
use Rattle.bj_core.specs.declared.types.Val.{Val}
use Rattle.bj_core.specs.declared.types.Val.TheVariants.{Null}
use Rattle.bj_core.specs.declared.frame.Frame.{Frame}
use Rattle.bj_core.specs.declared.frame.Local.{Local}
use Rattle.bj_core.specs.declared.frame.Term.{Term}
use Rattle.bj_eval.specs.declared.activation.Variable.{Variable}
use Rattle.bj_eval.specs.declared.activation.Activation.{Activation}
use Rattle.bj_eval.specs.declared.invocation.Invocation.{Invocation}

-- the number that stands for no class and no method: those of a term
abbrev pub no_class : ℕ
no_class = 4294967295

-- a variable is shown if it is assigned
abbrev pub shown_with : Variable → Option Val → List Local
shown_with v None = []
shown_with v (Some value) = record { name = v.name; value = value } ∷ []

-- the variables that are assigned
abbrev pub assigned : List Variable → List Local
assigned [] = []
assigned (v ∷ vs) = shown_with v v.value ++ assigned vs

abbrev pub frame_of : Invocation → Activation → Frame
frame_of i a = record { class = i.class; method = i.method; line = a.line; this = i.this; locals = assigned a.variables }

-- a name around a term is a variable that is assigned
abbrev pub given : Local → Variable
given l = record { name = l.name; value = Some l.value }

abbrev pub invocation_of_term : Invocation
invocation_of_term = record { class = no_class; method = no_class; this = Null }

-- where a term begins
abbrev pub start_of : Term → Activation
start_of t = record { line = 1; variables = map given t.scope }

-- the parameters of a body, each with its value, if there is one for it
abbrev pub parameters : List (List ℕ) → List Val → List Variable
parameters [] vs = []
parameters (name ∷ names) [] = record { name = name; value = None } ∷ parameters names []
parameters (name ∷ names) (v ∷ vs) = record { name = name; value = Some v } ∷ parameters names vs

-- where a body of a class begins, at the line, whose parameters have these values
abbrev pub activation : ℕ → List (List ℕ) → List Val → Activation
activation line names vs = record { line = line; variables = parameters names vs }
