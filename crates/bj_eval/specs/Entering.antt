-- What a call does.
use Rattle.std.specs.Prelude.{ℕ, zero, suc, List, [], ◌∷◌, reverse, Option, Some, None}
use Rattle.bj_core.specs.declared.types.Val.{Val}
use Rattle.bj_core.specs.declared.action.Answer.{Answer}
use Rattle.bj_core.specs.declared.program.Program.{Program}
use Rattle.bj_core.specs.declared.tree.Stmt.{Stmt}
use Rattle.bj_eval.specs.Frames.{activation}
use Rattle.bj_eval.specs.Evaluation.{Context, Fine, Result, Went, Wrong, On, Calls, on_fine, at_point}
use Rattle.bj_eval.specs.Routines.{Routine, routine_of}
use Rattle.bj_eval.specs.Statements.{stmt}

-- one after another, while they complete normally
abbrev pub all : Context → List Stmt → On
all c [] s xs = Went Fine s xs
all c (st ∷ rest) s xs = on_fine (stmt c st s xs) (all c rest)

-- a method or constructor has a step point at its entry, and one at its closing brace if that is reached
abbrev pub between : Context → ℕ → List Stmt → Option ℕ → On
between c entry body None s xs = all c body s xs
between c entry body (Some end) s xs = at_point c entry (λ s xs. on_fine (all c body s xs) (at_point c end (Went Fine))) s xs

-- the frame of a body that is called has its parameters as variables
abbrev pub entered : Context → Option Routine → List Val → List Answer → Result
entered c None vs xs = Wrong
entered c (Some r) vs xs = between c r.entry r.body r.end (activation r.entry r.params (reverse vs)) xs

-- a call, where so many more frames may be made; that there are as many as there may be is not built yet
abbrev pub enter : ℕ → Program → Calls
enter zero program i vs outer xs = Wrong
enter (suc n) program i vs outer xs =
    entered (record { program = program; invocation = i; outer = outer; call = enter n program }) (routine_of program i.class i.method) vs xs
