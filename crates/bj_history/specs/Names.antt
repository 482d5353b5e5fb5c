-- The name that the term of the main thread binds.
use Rattle.std.specs.Prelude.{ℕ, List, Option, Some, None}
use Rattle.bj_machine.specs.World.{Told}
use Rattle.bj_bench.specs.Names.{binds}

abbrev pub bound_by : Option Told → Option (List ℕ)
bound_by None = None
bound_by (Some told) = binds told.term.kind
