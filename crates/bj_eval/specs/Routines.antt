-- What runs when a body of a class is called.
use Rattle.std.specs.Prelude.{ℕ, List, [], ◌∷◌, length, Option, Some, None, Bool, false, nat_eq, if◌then◌else◌, slice_get, codes}
use Rattle.std.specs.Str.{bytes_eq}
use Rattle.bj_core.specs.declared.program.Body.{Body}
use Rattle.bj_core.specs.declared.program.Body.TheVariants as body
use Rattle.bj_core.specs.declared.program.Class.{Class}
use Rattle.bj_core.specs.declared.program.Method.{Method}
use Rattle.bj_core.specs.declared.program.Program.{Program}
use Rattle.bj_core.specs.declared.tree.Stmt.{Stmt}
use Rattle.bj_core.specs.declared.tree.Stmt.TheVariants as s

-- a body: the names of its parameters, the line of its entry, its statements, and the line of its closing brace; what
-- initializes a class has no step point at its entry and none at its end
pub record Routine : Type 0 where
  pub params : List (List ℕ)
  pub entry : ℕ
  pub body : List Stmt
  pub end : Option ℕ

-- a constructor is a method of this name [JLS 8.8]
abbrev pub is_constructor : Method → Bool
is_constructor m = bytes_eq m.name (codes "<init>")

-- the instance initializers run in the frame of the constructor, before its body [JLS 12.5]
abbrev pub body_of : Class → Method → Stmt → List Stmt
body_of c m st = if is_constructor m then c.instance_start ∷ (st ∷ []) else st ∷ []

abbrev pub routine_with : Class → Method → Body → Option Routine
routine_with c m (body.Code st) = Some (record { params = m.params; entry = m.at.line; body = body_of c m st; end = Some m.end_line })
routine_with c m (body.Native number) = None
routine_with c m body.Missing = None

-- the line of the class's name
abbrev pub line_of : Stmt → ℕ
line_of (s.Block' at shape row) = at.line
line_of (s.Expression at e) = at.line
line_of (s.Return at value) = at.line

-- what initializes a class [JLS 12.4.2]
abbrev pub start_of_class : Class → Routine
start_of_class c = record { params = []; entry = line_of c.static_start; body = c.static_start ∷ []; end = None }

-- it stands behind the methods
abbrev pub routine_at : Class → ℕ → Option Method → Option Routine
routine_at c method (Some m) = routine_with c m m.body
routine_at c method None = if nat_eq method (length c.methods) then Some (start_of_class c) else None

abbrev pub routine_in : Option Class → ℕ → Option Routine
routine_in None method = None
routine_in (Some c) method = routine_at c method (slice_get c.methods method)

abbrev pub routine_of : Program → ℕ → ℕ → Option Routine
routine_of program class method = routine_in (slice_get program.classes class) method

-- the number of what initializes a class
abbrev pub start_in : Option Class → ℕ
start_in None = 0
start_in (Some c) = length c.methods

abbrev pub start_number : Program → ℕ → ℕ
start_number program class = start_in (slice_get program.classes class)

-- a class of the prelude is initialized from the start
abbrev pub is_ready_in : Option Class → Bool
is_ready_in None = false
is_ready_in (Some c) = c.is_prelude

abbrev pub is_ready : Program → ℕ → Bool
is_ready program class = is_ready_in (slice_get program.classes class)
