-- The program that is loaded until folders are read: the classes of the prelude, and `Cell`, as this source reads:
--
-- class Cell {
--     private int n;
--     Cell(int a) { n = a; }
--     int add(int b) { n = n + b; return n; }
--     int get() { return n; }
-- }
use Rattle.std.specs.Prelude.{ℕ, List, [], ◌∷◌, Option, Some, None, true, false, codes}
use Rattle.bj_base.specs.declared.span.Span.{Span}
use Rattle.bj_core.specs.declared.types.Ty.{Ty}
use Rattle.bj_core.specs.declared.types.Ty.TheVariants as t
use Rattle.bj_base.specs.declared.op.Op.TheVariants.{Add}
use Rattle.bj_core.specs.declared.tree.Expr.{Expr}
use Rattle.bj_core.specs.declared.tree.Expr.TheVariants as e
use Rattle.bj_core.specs.declared.tree.Stmt.{Stmt}
use Rattle.bj_core.specs.declared.tree.Stmt.TheVariants.{Block, Expression, Return}
use Rattle.bj_core.specs.declared.program.Access.TheVariants.{Private, Package}
use Rattle.bj_core.specs.declared.program.Body.TheVariants.{Code}
use Rattle.bj_core.specs.declared.program.Class.{Class}
use Rattle.bj_core.specs.declared.program.Field.{Field}
use Rattle.bj_core.specs.declared.program.Marks.{Marks}
use Rattle.bj_core.specs.declared.program.Method.{Method}
use Rattle.bj_core.specs.declared.program.Program.{Program}

-- a place in the source above
abbrev pub spot : ℕ → ℕ → Span
spot line column = record { line = line; column = column }

-- what initializes a class where nothing is to be done
abbrev pub no_start : Span → Stmt
no_start at = Block at []

-- ---- the prelude: no source of it is read, so that its places are the first one

-- a class without members
abbrev pub prelude_class : List ℕ → Option ℕ → Class
prelude_class name above = record {
  name = name;
  is_interface = false;
  is_abstract = false;
  is_final = false;
  above = above;
  interfaces = [];
  fields = [];
  methods = [];
  static_start = no_start (spot 1 1);
  instance_start = no_start (spot 1 1);
  is_prelude = true;
}

abbrev pub object_class : Class
object_class = prelude_class (codes "Object") None

abbrev pub thread_class : Class
thread_class = prelude_class (codes "Thread") (Some 0)

abbrev pub print_stream_class : Class
print_stream_class = prelude_class (codes "PrintStream") (Some 0)

abbrev pub input_stream_class : Class
input_stream_class = prelude_class (codes "InputStream") (Some 0)

abbrev pub out_of_memory_class : Class
out_of_memory_class = prelude_class (codes "OutOfMemoryError") (Some 0)

-- ---- Cell

-- `private int n;`
abbrev pub n_field : Field
n_field = record { name = codes "n"; ty = t.Int; is_static = false; is_final = false; is_volatile = false; access = Private; constant = None }

-- `n`, which is `this.n` [JLS 6.5.6.1]
abbrev pub read_n : Span → Expr
read_n at = e.Field at (e.This at) 0

-- `n = value;`
abbrev pub assign_n : Span → Expr → Stmt
assign_n at value = Expression at (e.SetField at (e.This at) 0 value)

-- `return n;`, and the place of its `n`
abbrev pub return_n : Span → Span → Stmt
return_n at inside = Return at (Some (read_n inside))

-- a parameter of the method
abbrev pub parameter : Span → Expr
parameter at = e.Local at 0

abbrev pub no_marks : Marks
no_marks = record { test = false; expected = None; before = false; after = false }

-- a method without modifiers that stands on one line
abbrev pub plain_method : List ℕ → List Ty → List (List ℕ) → Ty → Stmt → Span → Method
plain_method name takes params gives body at = record {
  name = name;
  takes = takes;
  params = params;
  gives = gives;
  is_static = false;
  is_abstract = false;
  is_synchronized = false;
  access = Package;
  throws = [];
  marks = no_marks;
  body = Code body;
  end_line = at.line;
  at = at;
}

-- `{ n = a; }`
abbrev pub init_body : Stmt
init_body = Block (spot 3 17) (assign_n (spot 3 19) (parameter (spot 3 23)) ∷ [])

-- `Cell(int a) { n = a; }`
abbrev pub init_method : Method
init_method = plain_method (codes "<init>") (t.Int ∷ []) (codes "a" ∷ []) t.Void init_body (spot 3 5)

-- `n + b`
abbrev pub sum : Expr
sum = e.IntBinary (spot 4 26) Add (read_n (spot 4 26)) (parameter (spot 4 30))

-- `{ n = n + b; return n; }`
abbrev pub add_body : Stmt
add_body = Block (spot 4 20) (assign_n (spot 4 22) sum ∷ return_n (spot 4 33) (spot 4 40) ∷ [])

-- `int add(int b) { n = n + b; return n; }`
abbrev pub add_method : Method
add_method = plain_method (codes "add") (t.Int ∷ []) (codes "b" ∷ []) t.Int add_body (spot 4 9)

-- `{ return n; }`
abbrev pub get_body : Stmt
get_body = Block (spot 5 15) (return_n (spot 5 17) (spot 5 24) ∷ [])

-- `int get() { return n; }`
abbrev pub get_method : Method
get_method = plain_method (codes "get") [] [] t.Int get_body (spot 5 9)

abbrev pub cell_class : Class
cell_class = record {
  name = codes "Cell";
  is_interface = false;
  is_abstract = false;
  is_final = false;
  above = Some 0;
  interfaces = [];
  fields = n_field ∷ [];
  methods = init_method ∷ add_method ∷ get_method ∷ [];
  static_start = no_start (spot 1 7);
  instance_start = no_start (spot 1 7);
  is_prelude = false;
}

-- ---- the program

abbrev pub builtin : Program
builtin = record { classes = object_class ∷ thread_class ∷ print_stream_class ∷ input_stream_class ∷ out_of_memory_class ∷ cell_class ∷ [] }
