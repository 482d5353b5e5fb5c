-- The code of a program follows the calls of its bodies.
use Rattle.std.proofs.Common.{◌≡◌, ℕ, zero, suc, ◌+◌, ◌<◌, ◌≤◌, List, [], ◌∷◌, ◌++◌, length, Option, Some, None, Bool, true, false, refl, sym, ap, ◌∙◌, subst, arith, length-append, append_assoc}
use Rattle.std.specs.Prelude.{slice_get, map, reverse, nat_eq, if◌then◌else◌}
use Rattle.std.proofs.lemmas.Bool.{lt-ltb, eqb-true}
use Rattle.std.proofs.lemmas.Option.{slice_get_within}
use Rattle.bj_core.specs.declared.action.Answer.{Answer}
use Rattle.bj_core.specs.declared.program.Class.{Class}
use Rattle.bj_core.specs.declared.program.Method.{Method}
use Rattle.bj_core.specs.declared.program.Program.{Program}
use Rattle.bj_eval.specs.declared.activation.Activation.{Activation}
use Rattle.bj_eval.specs.declared.invocation.Invocation.{Invocation}
use Rattle.bj_eval.specs.Frames.{activation, no_class}
use Rattle.bj_eval.specs.Evaluation.{Fine, Gives, Throws, Returns, Result, Went, Wants, Wrong, Unfit}
use Rattle.bj_eval.specs.Routines.{Routine, routine_with, start_of_class, routine_at, routine_in, routine_of}
use Rattle.bj_eval.specs.Entering.{between, entered, enter}
use Rattle.bj_code.specs.declared.code.Instr.{Instr}
use Rattle.bj_code.specs.declared.code.Instr.TheVariants as ins
use Rattle.bj_code.specs.declared.code.CodeBody.{CodeBody}
use Rattle.bj_code.specs.declared.frame.CallFrame.{CallFrame}
use Rattle.bj_code.specs.ProgramCode.{between_code, routine_code, code_with, methods_code, class_code, classes_code, program_code}
use Rattle.bj_exec.specs.declared.run.Run.{Run}
use Rattle.bj_exec.specs.Machine.{Loaded, method_body, body_at, entering, called, frame_shown}
use Rattle.bj_exec.proofs.Runs.{HasAt, front, back, Runs}
use Rattle.bj_exec.proofs.Exprs.{Place, known, at, lefts, Starts, CallsRun}
use Rattle.bj_exec.proofs.Stmts.{exits, between_runs, exits_runs}

seam : {X : Type 0} (pre : List X) (x : X) (rest : List X) → slice_get (pre ++ x ∷ rest) (length pre) ≡ Some x
seam [] x rest = refl
seam (y ∷ pre) x rest = seam pre x rest

-- all instructions stand in their body
pub has_all : (b : CodeBody) (xs pre : List Instr) → b.steps ≡ pre ++ xs → HasAt b (length pre) xs
has_all b [] pre eq = tt
has_all b (x ∷ xs) pre eq =
    let n : length (pre ++ x ∷ []) ≡ length pre + 1 = omega (arith, length-append pre (x ∷ [])) in
    let rest = has_all b xs (pre ++ x ∷ []) (eq ∙ sym (append_assoc pre (x ∷ []) xs)) in
    (ap (λ l. slice_get l (length pre)) eq ∙ seam pre x xs, subst (λ n. HasAt b n xs) n rest)

-- ---- the code of a body by its numbers

classes_there : (p : Program) (cs : List Class) (from n : ℕ) (c : Class) → slice_get cs n ≡ Some c → slice_get (classes_code p from cs) n ≡ Some (class_code p (from + n) c)
classes_there p [] from n c e = absurd (cc)
classes_there p (d ∷ cs) from zero c e =
    let same : d ≡ c = cc in
    let z : from ≡ from + 0 = omega arith in
    ap (λ d. Some (class_code p from d)) same ∙ ap (λ n. Some (class_code p n c)) z
classes_there p (d ∷ cs) from (suc n) c e =
    let z : suc from + n ≡ from + suc n = omega arith in
    classes_there p cs (suc from) n c e ∙ ap (λ n. Some (class_code p n c)) z

methods_there : (p : Program) (class : ℕ) (c : Class) (ms : List Method) (rest : List CodeBody) (n : ℕ) (d : Method) → slice_get ms n ≡ Some d → slice_get (methods_code p class c ms ++ rest) n ≡ Some (code_with p class (routine_with c d d.body))
methods_there p class c [] rest n d e = absurd (cc)
methods_there p class c (x ∷ ms) rest zero d e = let same : x ≡ d = cc in ap (λ d. Some (code_with p class (routine_with c d d.body))) same
methods_there p class c (x ∷ ms) rest (suc n) d e = methods_there p class c ms rest n d e

methods_long : (p : Program) (class : ℕ) (c : Class) (ms : List Method) → length (methods_code p class c ms) ≡ length ms
methods_long p class c [] = refl
methods_long p class c (x ∷ ms) = ap suc (methods_long p class c ms)

-- what is a routine by its numbers has its code there
routine_there : (p : Program) (class : ℕ) (c : Class) (n : ℕ) (r : Routine) (o : Option Method) → slice_get c.methods n ≡ o → routine_at c n o ≡ Some r → slice_get (class_code p class c) n ≡ Some (routine_code p class r)
routine_there p class c n r (Some d) e er = methods_there p class c c.methods (routine_code p class (start_of_class c) ∷ []) n d e ∙ ap (λ o. Some (code_with p class o)) er
routine_there p class c n r None e er = by_number (nat_eq n (length c.methods)) refl er
  where
    by_number : (b : Bool) → nat_eq n (length c.methods) ≡ b → (if b then Some (start_of_class c) else None) ≡ Some r → slice_get (class_code p class c) n ≡ Some (routine_code p class r)
    by_number false eb es = absurd (cc)
    by_number true eb es =
        let same : start_of_class c ≡ r = cc in
        let at : n ≡ length (methods_code p class c c.methods) = eqb-true n (length c.methods) eb ∙ sym (methods_long p class c c.methods) in
        ap (λ n. slice_get (class_code p class c) n) at ∙ seam (methods_code p class c c.methods) (routine_code p class (start_of_class c)) [] ∙ ap (λ r. Some (routine_code p class r)) same

module _ (program : Program) (few : length program.classes ≤ 4294967295) (term : CodeBody) (limit : ℕ) where
  abbrev m : Loaded
  m = record { code = program_code program; term = term; limit = limit }

  routine_code_at : (i : Invocation) (r : Routine) → routine_of program i.class i.method ≡ Some r → body_at m i ≡ Some (routine_code program i.class r)
  routine_code_at i r e = by_class (slice_get program.classes i.class) refl e
    where
      by_class : (o : Option Class) → slice_get program.classes i.class ≡ o → routine_in o i.method ≡ Some r → body_at m i ≡ Some (routine_code program i.class r)
      by_class None ec er = absurd (cc)
      by_class (Some c) ec er =
          let other : i.class < length program.classes = slice_get_within program.classes i.class c ec in
          let there : slice_get (classes_code program 0 program.classes) i.class ≡ Some (class_code program i.class c) =
          classes_there program program.classes 0 i.class c ec ∙ (let z : 0 + i.class ≡ i.class = omega arith in ap (λ n. Some (class_code program n c)) z) in
          not_term (nat_eq i.class no_class) refl (omega arith) ∙ ap (λ o. method_body o i.method) there ∙ routine_there program i.class c i.method r (slice_get c.methods i.method) refl er
        where
          not_term : (b : Bool) → nat_eq i.class no_class ≡ b → i.class < 4294967295
              → (if nat_eq i.class no_class then Some term else method_body (slice_get (classes_code program 0 program.classes) i.class) i.method) ≡ method_body (slice_get (classes_code program 0 program.classes) i.class) i.method
          not_term false eb lt = ap (λ b. if b then Some term else method_body (slice_get (classes_code program 0 program.classes) i.class) i.method) eb
          not_term true eb lt = let same : i.class ≡ 4294967295 = eqb-true i.class no_class eb in absurd (omega arith)

  starts_wrong : (o : Option Run) (xs : List Answer) (g : CallFrame) (gs : List CallFrame) → Starts m o xs g gs Wrong
  starts_wrong None xs g gs = tt
  starts_wrong (Some q) xs g gs = tt

  -- the frame of a routine that is called
  abbrev place : Invocation → Routine → ℕ → List CallFrame → Place
  place i r n fs = record { body = routine_code program i.class r; invocation = i; below = fs; program = program; call = enter n program }

  -- where a body leads that is called is where its call leads
  called_lefts : (i : Invocation) (r : Routine) (n : ℕ) (g : CallFrame) (gs : List CallFrame) (q : Run) (xs : List Answer) (res : Result) → Runs m q xs (exits (place i r n (g ∷ gs))) res → Runs m q xs (lefts g gs) res
  called_lefts i r n g gs q xs (Went Fine s ys) h = h
  called_lefts i r n g gs q xs (Went (Gives x) s ys) h = absurd h
  called_lefts i r n g gs q xs (Went (Throws x) s ys) h = h
  called_lefts i r n g gs q xs (Went (Returns None) s ys) h = h
  called_lefts i r n g gs q xs (Went (Returns (Some x)) s ys) h = h
  called_lefts i r n g gs q xs (Wants a fs) h = h
  called_lefts i r n g gs q xs Wrong h = tt
  called_lefts i r n g gs q xs Unfit h = h

  -- a routine that is called does what the definition says
  routine_runs : (i : Invocation) (r : Routine) (n : ℕ) (g : CallFrame) (gs : List CallFrame) (s : Activation) (xs : List Answer) → body_at m i ≡ Some (routine_code program i.class r) → CallsRun m (enter n program) (g ∷ gs)
      → Runs m (at (place i r n (g ∷ gs)) 0 [] s) xs (lefts g gs) (between (known (place i r n (g ∷ gs))) r.entry r.body r.end s xs)
  routine_runs i r n g gs s xs there runs =
      let c = place i r n (g ∷ gs) in
      let code = between_code program i.class r r.end in
      let whole = has_all c.body (code ++ ins.ReturnNothing ∷ []) [] refl in
      let last = back c.body 0 code (ins.ReturnNothing ∷ []) whole in
      called_lefts i r n g gs (at c 0 [] s) xs (between (known c) r.entry r.body r.end s xs)
      (exits_runs m c there runs (0 + length code) (at c 0 [] s) xs (between (known c) r.entry r.body r.end s xs) last.0
      (between_runs m c there runs r r.end 0 s xs (front c.body 0 code _ whole) (omega arith)))

  -- the machine follows calls, as many deep as frames may be made
  pub enter_runs : (n : ℕ) (gs : List CallFrame) → n + length gs < limit → CallsRun m (enter n program) gs
  enter_runs zero gs lt c xs = starts_wrong (called m (Some c) gs) xs c.caller gs
  enter_runs (suc n) gs lt c xs = by_routine (routine_of program c.invocation.class c.invocation.method) refl (enter_runs n (c.caller ∷ gs) (omega arith))
    where
      by_routine : (o : Option Routine) → routine_of program c.invocation.class c.invocation.method ≡ o → CallsRun m (enter n program) (c.caller ∷ gs)
          → Starts m (called m (Some c) gs) xs c.caller gs (entered (record { program = program; invocation = c.invocation; outer = map frame_shown (c.caller ∷ gs); call = enter n program }) o c.values xs)
      by_routine None e runs = starts_wrong (called m (Some c) gs) xs c.caller gs
      by_routine (Some r) e runs =
          let there = routine_code_at c.invocation r e in
          let s = activation r.entry r.params (reverse c.values) in
          let made : called m (Some c) gs ≡ Some (at (place c.invocation r n (c.caller ∷ gs)) 0 [] s) =
          ap (λ b. if b then entering (body_at m c.invocation) c gs else None) (lt-ltb (length gs + 1) limit (omega arith)) ∙ ap (λ o. entering o c gs) there in
          subst (λ o. Starts m o xs c.caller gs (between (known (place c.invocation r n (c.caller ∷ gs))) r.entry r.body r.end s xs)) (sym made)
          (routine_runs c.invocation r n c.caller gs s xs there runs)
