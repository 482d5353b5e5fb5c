-- The code of a program.
use Rattle.std.specs.Prelude.{ℕ, suc, List, [], ◌∷◌, ◌++◌, length, Option, Some, None}
use Rattle.bj_core.specs.declared.program.Class.{Class}
use Rattle.bj_core.specs.declared.program.Method.{Method}
use Rattle.bj_core.specs.declared.program.Program.{Program}
use Rattle.bj_eval.specs.Routines.{Routine, routine_with, start_of_class}
use Rattle.bj_code.specs.declared.code.Code.{Code}
use Rattle.bj_code.specs.declared.code.CodeBody.{CodeBody}
use Rattle.bj_code.specs.declared.code.Instr.{Instr}
use Rattle.bj_code.specs.declared.code.Instr.TheVariants as i
use Rattle.bj_code.specs.TermCode.{all_code, all_depth}

-- the statements of a body of the class between the step points at its entry and at its closing brace
abbrev pub between_code : Program → ℕ → Routine → Option ℕ → List Instr
between_code p class r None = all_code p class r.body
between_code p class r (Some end) = i.Point r.entry ∷ (all_code p class r.body ++ i.Point end ∷ [])

-- a body of the class; behind its last statement it is left without a value
abbrev pub routine_code : Program → ℕ → Routine → CodeBody
routine_code p class r = record {
  steps = between_code p class r r.end ++ i.ReturnNothing ∷ [];
  handlers = [];
  locals = length r.params;
  depth = all_depth r.body;
  params = r.params;
  entry = r.entry;
}

-- a method that has no statements is never run
abbrev pub code_with : Program → ℕ → Option Routine → CodeBody
code_with p class (Some r) = routine_code p class r
code_with p class None = record { steps = []; handlers = []; locals = 0; depth = 0; params = []; entry = 0 }

abbrev pub methods_code : Program → ℕ → Class → List Method → List CodeBody
methods_code p class c [] = []
methods_code p class c (m ∷ ms) = code_with p class (routine_with c m m.body) ∷ methods_code p class c ms

-- the methods of a class by number, and behind them what initializes it
abbrev pub class_code : Program → ℕ → Class → List CodeBody
class_code p class c = methods_code p class c c.methods ++ routine_code p class (start_of_class c) ∷ []

-- classes from a number on
abbrev pub classes_code : Program → ℕ → List Class → List (List CodeBody)
classes_code p class [] = []
classes_code p class (c ∷ cs) = class_code p class c ∷ classes_code p (suc class) cs

abbrev pub program_code : Program → Code
program_code p = record { methods = classes_code p 0 p.classes }
