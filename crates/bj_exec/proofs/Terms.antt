-- The machine follows a term.
use Rattle.std.proofs.Common.{◌≡◌, ℕ, ◌+◌, ◌-◌, ◌≤◌, List, [], ◌∷◌, ◌++◌, length, Some, None, refl, arith}
use Rattle.bj_core.specs.declared.action.Answer.{Answer}
use Rattle.bj_core.specs.declared.frame.Term.{Term}
use Rattle.bj_core.specs.declared.program.Program.{Program}
use Rattle.bj_eval.specs.Frames.{start_of, no_class, invocation_of_term}
use Rattle.bj_eval.specs.Evaluation.{Fine, Gives, Throws, Returns, Result, Went, Wants, Wrong, Unfit}
use Rattle.bj_eval.specs.Statements.{stmt}
use Rattle.bj_eval.specs.Entering.{enter}
use Rattle.bj_eval.specs.Next.{outcome, outcome_of, outermost}
use Rattle.bj_code.specs.declared.code.Instr.TheVariants as ins
use Rattle.bj_code.specs.TermCode.{stmt_code, stmt_depth, term_code}
use Rattle.bj_code.specs.ProgramCode.{program_code}
use Rattle.bj_exec.specs.declared.run.Want.TheVariants as want
use Rattle.bj_exec.specs.declared.run.Run.{Run}
use Rattle.bj_exec.specs.Machine.{Loaded, wanting, exec}
use Rattle.bj_exec.specs.Follows.{Tells}
use Rattle.bj_exec.proofs.Runs.{front, back, Runs}
use Rattle.bj_exec.proofs.Exprs.{Place}
use Rattle.bj_exec.proofs.Stmts.{exits, stmt_runs, exits_runs}
use Rattle.bj_exec.proofs.Calls.{has_all, enter_runs}

-- where the thread of a term begins
abbrev pub begins : Term → Run
begins t = wanting want.Move (record { invocation = invocation_of_term; activation = start_of t; place = 0; operands = record { values = []; room = stmt_depth t.body } }) []

-- what a term runs
abbrev pub loaded_of : Program → ℕ → Term → Loaded
loaded_of program limit t = record { code = program_code program; term = term_code program t; limit = limit }

-- the place of a term's body
abbrev bottom : Program → ℕ → Term → Place
bottom program limit t = record { body = term_code program t; invocation = invocation_of_term; below = []; program = program; call = enter (limit - 1) program }

-- where the body of a term is left the term is over
overs : (m : Loaded) (program : Program) (limit : ℕ) (t : Term) (r : Run) (xs : List Answer) (res : Result) → Runs m r xs (exits (bottom program limit t)) res → Tells (outcome_of res) → (j : ℕ) × (exec m j r xs ≡ outcome_of res)
overs m program limit t r xs (Went Fine s []) h tells = h.by 1
overs m program limit t r xs (Went Fine s (y ∷ ys)) h tells = absurd tells
overs m program limit t r xs (Went (Gives x) s ys) h tells = absurd h
overs m program limit t r xs (Went (Throws x) s []) h tells = h.by 1
overs m program limit t r xs (Went (Throws x) s (y ∷ ys)) h tells = absurd tells
overs m program limit t r xs (Went (Returns None) s []) h tells = h.by 1
overs m program limit t r xs (Went (Returns (Some v)) s []) h tells = h.by 1
overs m program limit t r xs (Went (Returns None) s (y ∷ ys)) h tells = absurd tells
overs m program limit t r xs (Went (Returns (Some v)) s (y ∷ ys)) h tells = absurd tells
overs m program limit t r xs (Wants a fs) h tells = h
overs m program limit t r xs Wrong h tells = absurd tells
overs m program limit t r xs Unfit h tells = h

-- the code of a term does what the definition says of it
pub term_runs : (program : Program) (limit : ℕ) (t : Term) → length program.classes ≤ 4294967295 → 1 ≤ limit → (xs : List Answer) → Tells (outcome program limit t xs)
    → (j : ℕ) × (exec (loaded_of program limit t) j (begins t) xs ≡ outcome program limit t xs)
term_runs program limit t few some xs tells =
    let m = loaded_of program limit t in
    let c = bottom program limit t in
    let code = stmt_code program no_class t.body in
    let whole = has_all c.body (code ++ ins.ReturnNothing ∷ []) [] refl in
    let last = back c.body 0 code (ins.ReturnNothing ∷ []) whole in
    let calls = enter_runs program few c.body limit (limit - 1) [] (omega arith) in
    let res = stmt (outermost program limit) t.body (start_of t) xs in
    overs m program limit t (begins t) xs res
    (exits_runs m c refl calls (0 + length code) (begins t) xs res last.0 (stmt_runs m c refl calls t.body 0 (start_of t) xs (front c.body 0 code _ whole) (omega arith))) tells
