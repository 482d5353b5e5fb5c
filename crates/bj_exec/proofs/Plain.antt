-- The code of each body begins with an instruction that asks or leaves it.
use Rattle.std.proofs.Common.{◌≡◌, ℕ, zero, suc, List, [], ◌∷◌, ◌++◌, Option, Some, None, Bool, true, false, refl, sym, ap, ◌∙◌, subst, append_assoc}
use Rattle.std.specs.Prelude.{slice_get, nat_eq, if◌then◌else◌}
use Rattle.bj_core.specs.declared.frame.Term.{Term}
use Rattle.bj_core.specs.declared.program.Class.{Class}
use Rattle.bj_core.specs.declared.program.Method.{Method}
use Rattle.bj_core.specs.declared.program.Program.{Program}
use Rattle.bj_core.specs.declared.tree.Stmt.{Stmt, Row_of-Stmt, end_of-Stmt, more_of-Stmt}
use Rattle.bj_core.specs.declared.tree.Stmt.TheVariants as stm
use Rattle.bj_eval.specs.declared.invocation.Invocation.{Invocation}
use Rattle.bj_eval.specs.Frames.{no_class}
use Rattle.bj_eval.specs.Routines.{Routine, routine_with, start_of_class}
use Rattle.bj_code.specs.declared.code.Instr.{Instr}
use Rattle.bj_code.specs.declared.code.Instr.TheVariants as ins
use Rattle.bj_code.specs.declared.code.Code.{Code}
use Rattle.bj_code.specs.declared.code.CodeBody.{CodeBody}
use Rattle.bj_code.specs.TermCode.{stmt_code, stmts_code, all_code, term_code}
use Rattle.bj_code.specs.ProgramCode.{between_code, routine_code, code_with, methods_code, classes_code, program_code}
use Rattle.bj_exec.specs.Machine.{Loaded, method_body, body_at, plain_ahead}

mutual
  stmt_plain : (p : Program) (class : ℕ) (st : Stmt) (rest : List Instr) → plain_ahead rest ≡ 0 → plain_ahead (stmt_code p class st ++ rest) ≡ 0
  stmt_plain p class (stm.Block' sp shape row) rest h = stmts_plain p class row rest h
  stmt_plain p class (stm.Expression sp x) rest h = refl
  stmt_plain p class (stm.Return sp value) rest h = refl

  stmts_plain : {n : _} → (p : Program) (class : ℕ) (row : Row_of-Stmt n) (rest : List Instr) → plain_ahead rest ≡ 0 → plain_ahead (stmts_code p class row ++ rest) ≡ 0
  stmts_plain p class end_of-Stmt rest h = h
  stmts_plain p class (more_of-Stmt st row) rest h =
      ap plain_ahead (append_assoc (stmt_code p class st) (stmts_code p class row) rest) ∙ stmt_plain p class st (stmts_code p class row ++ rest) (stmts_plain p class row rest h)

all_plain : (p : Program) (class : ℕ) (sts : List Stmt) (rest : List Instr) → plain_ahead rest ≡ 0 → plain_ahead (all_code p class sts ++ rest) ≡ 0
all_plain p class [] rest h = h
all_plain p class (st ∷ sts) rest h = ap plain_ahead (append_assoc (stmt_code p class st) (all_code p class sts) rest) ∙ stmt_plain p class st (all_code p class sts ++ rest) (all_plain p class sts rest h)

abbrev IsPlain : CodeBody → Type 0
IsPlain b = plain_ahead b.steps ≡ 0

routine_plain : (p : Program) (class : ℕ) (r : Routine) → IsPlain (routine_code p class r)
routine_plain p class r = by_end r.end
  where
    by_end : (end : Option ℕ) → plain_ahead (between_code p class r end ++ ins.ReturnNothing ∷ []) ≡ 0
    by_end None = all_plain p class r.body (ins.ReturnNothing ∷ []) refl
    by_end (Some end) = refl

with_plain : (p : Program) (class : ℕ) (o : Option Routine) → IsPlain (code_with p class o)
with_plain p class None = refl
with_plain p class (Some r) = routine_plain p class r

methods_plain : (p : Program) (class : ℕ) (c : Class) (ms : List Method) (n : ℕ) (b : CodeBody) → slice_get (methods_code p class c ms ++ routine_code p class (start_of_class c) ∷ []) n ≡ Some b → IsPlain b
methods_plain p class c [] zero b e = let same : routine_code p class (start_of_class c) ≡ b = cc in subst IsPlain same (routine_plain p class (start_of_class c))
methods_plain p class c [] (suc n) b e = absurd (cc)
methods_plain p class c (x ∷ ms) zero b e = let same : code_with p class (routine_with c x x.body) ≡ b = cc in subst IsPlain same (with_plain p class (routine_with c x x.body))
methods_plain p class c (x ∷ ms) (suc n) b e = methods_plain p class c ms n b e

classes_plain : (p : Program) (cs : List Class) (from n k : ℕ) (b : CodeBody) → method_body (slice_get (classes_code p from cs) n) k ≡ Some b → IsPlain b
classes_plain p [] from n k b e = absurd (cc)
classes_plain p (c ∷ cs) from zero k b e = methods_plain p from c c.methods k b e
classes_plain p (c ∷ cs) from (suc n) k b e = classes_plain p cs (suc from) n k b e

-- each body that may be called is so
abbrev pub ArePlain : Loaded → Type 0
ArePlain m = (i : Invocation) (b : CodeBody) → body_at m i ≡ Some b → plain_ahead b.steps ≡ 0

pub are_plain : (program : Program) (term : Term) (code : Code) (body : CodeBody) (limit : ℕ) → code ≡ program_code program → body ≡ term_code program term → ArePlain (record { code = code; term = body; limit = limit })
are_plain program term code body limit ec eb =
    subst (λ code. ArePlain (record { code = code; term = body; limit = limit })) (sym ec) (subst (λ body. ArePlain (record { code = program_code program; term = body; limit = limit })) (sym eb) plain)
  where
    plain : ArePlain (record { code = program_code program; term = term_code program term; limit = limit })
    plain i b e = by_class (nat_eq i.class no_class) e
      where
        by_class : (q : Bool) → (if q then Some (term_code program term) else method_body (slice_get (classes_code program 0 program.classes) i.class) i.method) ≡ Some b → plain_ahead b.steps ≡ 0
        by_class true f = let same : term_code program term ≡ b = cc in subst IsPlain same (stmt_plain program no_class term.body (ins.ReturnNothing ∷ []) refl)
        by_class false f = classes_plain program program.classes 0 i.class i.method b f
