-- The machine follows a statement, and the body that statements make up.
use Rattle.std.proofs.Common.{◌≡◌, ℕ, ◌+◌, ◌≤◌, List, [], ◌∷◌, ◌++◌, length, Option, Some, None, refl, sym, ap, subst, arith, length-append}
use Rattle.std.specs.Prelude.{slice_get, map}
use Rattle.std.proofs.lemmas.List.{length-map}
use Rattle.bj_core.specs.declared.types.Val.{Val}
use Rattle.bj_core.specs.declared.action.Action.{Action}
use Rattle.bj_core.specs.declared.action.Action.TheVariants as act
use Rattle.bj_core.specs.declared.action.Answer.{Answer}
use Rattle.bj_core.specs.declared.action.Answer.TheVariants as answer
use Rattle.bj_core.specs.declared.tree.Expr.{Expr}
use Rattle.bj_core.specs.declared.tree.Stmt.{Stmt, Row_of-Stmt, end_of-Stmt, more_of-Stmt}
use Rattle.bj_core.specs.declared.tree.Stmt.TheVariants as stm
use Rattle.bj_eval.specs.declared.activation.Activation.{Activation}
use Rattle.bj_eval.specs.Evaluation.{Fine, Gives, Throws, Returns, Result, Went, Wants, Wrong, Unfit, On, on_fine, ask, when_done, at_line, at_point, line_in}
use Rattle.bj_eval.specs.Expressions.{expr}
use Rattle.bj_eval.specs.Statements.{evaluated, returned, stmt, stmts}
use Rattle.bj_eval.specs.Entering.{all, between}
use Rattle.bj_eval.specs.Routines.{Routine}
use Rattle.bj_code.specs.declared.code.Instr.TheVariants as ins
use Rattle.bj_code.specs.declared.frame.CallFrame.{CallFrame}
use Rattle.bj_code.specs.TermCode.{expr_code, expr_depth, return_code, return_depth, stmt_code, stmts_code, stmt_depth, stmts_depth, all_code, all_depth}
use Rattle.bj_code.specs.ProgramCode.{between_code}
use Rattle.bj_exec.specs.declared.run.Want.TheVariants as want
use Rattle.bj_exec.specs.declared.run.Run.{Run}
use Rattle.bj_exec.specs.Machine.{Loaded, body_at, wanting, left, frame_shown}
use Rattle.bj_exec.proofs.Runs.{HasAt, front, back, Never, At, spot_of, Lands, here, one, one_spot, told, Reaches, reaches_after, Runs, after}
use Rattle.bj_exec.proofs.Exprs.{Place, known, frame, at, throws, CallsRun, Throwing, then_on, expr_runs}

left_same : (c : Place) (o : Option Val) (pc : ℕ) (vs : List Val) (s : Activation) (fs : List CallFrame) → left o (frame c pc vs s) fs ≡ left o (frame c 0 [] s) fs
left_same c o pc vs s [] = refl
left_same c None pc vs s (g ∷ gs) = refl
left_same c (Some x) pc vs s (g ∷ gs) = refl

-- where a body leads that is left
abbrev pub exits : Place → Lands
exits c Fine s = spot_of (left None (frame c 0 [] s) c.below)
exits c (Returns o) s = spot_of (left o (frame c 0 [] s) c.below)
exits c (Throws r) s = At (throws c r s)
exits c (Gives x) s = Never

module _ (m : Loaded) (c : Place) (is_body : body_at m c.invocation ≡ Some c.body) (calls_run : CallsRun m c.call c.below) where
  -- where a statement leads whose code ends at a place
  abbrev pub ends : ℕ → Lands
  ends to Fine s = At (at c to [] s)
  ends to (Returns o) s = spot_of (left o (frame c 0 [] s) c.below)
  ends to (Throws r) s = At (throws c r s)
  ends to (Gives x) s = Never

  abbrev point : ℕ → ℕ → Action
  point line depth = act.Point (record { class = c.invocation.class; line = line; depth = depth })

  -- at a step point
  abbrev asking : ℕ → ℕ → Activation → ℕ → Run
  asking line pc s depth = wanting (want.Do (point line depth)) (frame c (pc + 1) [] (at_line s line)) c.below

  point_runs : (line pc : ℕ) (f : On) (s : Activation) (xs : List Answer) (K : Lands) → slice_get c.body.steps pc ≡ Some (ins.Point line)
      → ((s : Activation) (ys : List Answer) → Runs m (at c (pc + 1) [] s) ys K (f s ys)) → Runs m (at c pc [] s) xs K (at_point (known c) line f s xs)
  point_runs line pc f s xs K st g =
      after m _ _ xs xs K (at_point (known c) line f s xs)
      (one m c.body (frame c pc [] s) c.below xs (ins.Point line) (asking line pc s (length c.below + 1)) is_body st refl)
      (by_depth (length (map frame_shown c.below) + 1) (ap (λ n. n + 1) (length-map c.below frame_shown)))
    where
      by_answer : (depth : ℕ) (xs : List Answer) → Runs m (asking line pc s depth) xs K (ask (point line depth) (known c) (at_line s line) xs (when_done (at_line s line) f))
      by_answer depth [] = (1, refl)
      by_answer depth (answer.Done ∷ xs) =
          after m _ _ (answer.Done ∷ xs) xs K (f (at_line s line) xs)
          (told m (point line depth) (frame c (pc + 1) [] (at_line s line)) c.below answer.Done xs (at c (pc + 1) [] (at_line s line)) refl refl) (g (at_line s line) xs)
      by_answer depth (answer.Value x ∷ xs) = (1, refl)
      by_answer depth (answer.Thrown k ∷ xs) = (1, refl)
      by_answer depth (answer.Normal ∷ xs) = (1, refl)
      by_answer depth (answer.Ready ∷ xs) = (1, refl)
      by_answer depth (answer.Go ∷ xs) = (1, refl)

      by_depth : (depth : ℕ) → depth ≡ length c.below + 1 → Runs m (asking line pc s (length c.below + 1)) xs K (ask (point line depth) (known c) (at_line s line) xs (when_done (at_line s line) f))
      by_depth depth e = subst (λ n. Runs m (asking line pc s n) xs K (ask (point line depth) (known c) (at_line s line) xs (when_done (at_line s line) f))) e (by_answer depth xs)

  returned_runs : (value : Option Expr) (pc to : ℕ) (s : Activation) (xs : List Answer) → HasAt c.body pc (return_code c.program value) → return_depth value ≤ c.body.depth → Runs m (at c pc [] s) xs (ends to) (returned (known c) value s xs)
  returned_runs None pc to s xs has fits = one_spot m c.body (frame c pc [] s) c.below xs ins.ReturnNothing (left None (frame c 0 [] s) c.below) is_body has.0 (left_same c None pc [] s c.below)
  returned_runs (Some x) pc to s xs has fits =
      let cx = expr_code c.program x in
      let hi = back c.body pc cx (ins.ReturnValue ∷ []) has in
      then_on m c is_body calls_run [] (pc + length cx) (at c pc [] s) xs (ends to) (expr (known c) x s xs) (λ v. Went (Returns (Some v))) (λ r s. refl)
      (λ v s ys. one_spot m c.body (frame c (pc + length cx) (v ∷ []) s) c.below ys ins.ReturnValue (left (Some v) (frame c 0 [] s) c.below) is_body hi.0 (left_same c (Some v) (pc + length cx) [] s c.below))
      (expr_runs m c is_body calls_run x pc [] s xs (front c.body pc cx _ has) (omega arith))

  evaluated_runs : (x : Expr) (pc : ℕ) (s : Activation) (xs : List Answer) → HasAt c.body pc (expr_code c.program x ++ ins.Pop ∷ []) → expr_depth x ≤ c.body.depth
      → Runs m (at c pc [] s) xs (ends (pc + length (expr_code c.program x) + 1)) (evaluated (known c) x s xs)
  evaluated_runs x pc s xs has fits =
      let cx = expr_code c.program x in
      let hi = back c.body pc cx (ins.Pop ∷ []) has in
      then_on m c is_body calls_run [] (pc + length cx) (at c pc [] s) xs (ends (pc + length cx + 1)) (expr (known c) x s xs) (λ v. Went Fine) (λ r s. refl)
      (λ v s ys. one m c.body (frame c (pc + length cx) (v ∷ []) s) c.below ys ins.Pop (at c (pc + length cx + 1) [] s) is_body hi.0 refl)
      (expr_runs m c is_body calls_run x pc [] s xs (front c.body pc cx _ has) (omega arith))

  -- the place where a statement ends, written otherwise
  ends_at : (to to' : ℕ) (r : Run) (xs : List Answer) (res : Result) → to ≡ to' → Runs m r xs (ends to) res → Runs m r xs (ends to') res
  ends_at to to' r xs res e = subst (λ to. Runs m r xs (ends to) res) e

  -- the other ways lead where they lead
  abbrev pub Leaving : Lands → Type 0
  Leaving K = (s : Activation) → (o : Option Val) → K (Returns o) s ≡ spot_of (left o (frame c 0 [] s) c.below)

  -- a statement, and what is behind it
  pub fine_on : (to : ℕ) (r : Run) (xs : List Answer) (K : Lands) (res : Result) (f : On) → Throwing m c is_body calls_run K → Leaving K
      → ((s : Activation) (ys : List Answer) → Runs m (at c to [] s) ys K (f s ys)) → Runs m r xs (ends to) res → Runs m r xs K (on_fine res f)
  fine_on to r xs K (Went Fine s ys) f p q g h = after m r (at c to [] s) xs ys K (f s ys) h (g s ys)
  fine_on to r xs K (Went (Gives x) s ys) f p q g h = absurd h
  fine_on to r xs K (Went (Throws x) s ys) f p q g h = subst (λ o. Reaches m r xs o ys) (sym (p x s)) h
  fine_on to r xs K (Went (Returns o) s ys) f p q g h = subst (λ o. Reaches m r xs o ys) (sym (q s o)) h
  fine_on to r xs K (Wants a fs) f p q g h = h
  fine_on to r xs K Wrong f p q g h = tt
  fine_on to r xs K Unfit f p q g h = h

  mutual
    pub stmt_runs : (st : Stmt) (pc : ℕ) (s : Activation) (xs : List Answer) → HasAt c.body pc (stmt_code c.program c.invocation.class st) → stmt_depth st ≤ c.body.depth
        → Runs m (at c pc [] s) xs (ends (pc + length (stmt_code c.program c.invocation.class st))) (stmt (known c) st s xs)
    stmt_runs (stm.Block' sp shape row) pc s xs has fits = row_runs row pc s xs has fits
    stmt_runs (stm.Expression sp x) pc s xs has fits =
        let cx = expr_code c.program x in
        let to = pc + length (stmt_code c.program c.invocation.class (stm.Expression sp x)) in
        ends_at (pc + 1 + length cx + 1) to _ xs _ (omega (arith, length-append cx (ins.Pop ∷ [])))
        (point_runs (line_in c.invocation.class sp) pc (evaluated (known c) x) s xs (ends (pc + 1 + length cx + 1)) has.0 (λ s ys. evaluated_runs x (pc + 1) s ys has.1 fits))
    stmt_runs (stm.Return sp value) pc s xs has fits =
        let to = pc + length (stmt_code c.program c.invocation.class (stm.Return sp value)) in
        point_runs (line_in c.invocation.class sp) pc (returned (known c) value) s xs (ends to) has.0 (λ s ys. returned_runs value (pc + 1) to s ys has.1 fits)

    row_runs : {n : _} → (row : Row_of-Stmt n) (pc : ℕ) (s : Activation) (xs : List Answer) → HasAt c.body pc (stmts_code c.program c.invocation.class row) → stmts_depth row ≤ c.body.depth
        → Runs m (at c pc [] s) xs (ends (pc + length (stmts_code c.program c.invocation.class row))) (stmts (known c) row s xs)
    row_runs end_of-Stmt pc s xs has fits =
        let z : pc ≡ pc + 0 = omega arith in
        ends_at pc (pc + 0) (at c pc [] s) xs (Went Fine s xs) z (here m (at c pc [] s) xs)
    row_runs (more_of-Stmt st rest) pc s xs has fits =
        let cs = stmt_code c.program c.invocation.class st in
        let cr = stmts_code c.program c.invocation.class rest in
        ends_at (pc + length cs + length cr) (pc + length (cs ++ cr)) _ xs _ (omega (arith, length-append cs cr))
        (fine_on (pc + length cs) (at c pc [] s) xs (ends (pc + length cs + length cr)) (stmt (known c) st s xs) (stmts (known c) rest) (λ r s. refl) (λ s o. refl)
        (λ s ys. row_runs rest (pc + length cs) s ys (back c.body pc cs cr has) (omega arith))
        (stmt_runs st pc s xs (front c.body pc cs cr has) (omega arith)))

  -- statements of a list
  pub all_runs : (sts : List Stmt) (pc : ℕ) (s : Activation) (xs : List Answer) → HasAt c.body pc (all_code c.program c.invocation.class sts) → all_depth sts ≤ c.body.depth
      → Runs m (at c pc [] s) xs (ends (pc + length (all_code c.program c.invocation.class sts))) (all (known c) sts s xs)
  all_runs [] pc s xs has fits =
      let z : pc ≡ pc + 0 = omega arith in
      ends_at pc (pc + 0) (at c pc [] s) xs (Went Fine s xs) z (here m (at c pc [] s) xs)
  all_runs (st ∷ rest) pc s xs has fits =
      let cs = stmt_code c.program c.invocation.class st in
      let cr = all_code c.program c.invocation.class rest in
      ends_at (pc + length cs + length cr) (pc + length (cs ++ cr)) _ xs _ (omega (arith, length-append cs cr))
      (fine_on (pc + length cs) (at c pc [] s) xs (ends (pc + length cs + length cr)) (stmt (known c) st s xs) (all (known c) rest) (λ r s. refl) (λ s o. refl)
      (λ s ys. all_runs rest (pc + length cs) s ys (back c.body pc cs cr has) (omega arith))
      (stmt_runs st pc s xs (front c.body pc cs cr has) (omega arith)))

  -- the statements of a body of a class, between its step points
  pub between_runs : (r : Routine) (end : Option ℕ) (pc : ℕ) (s : Activation) (xs : List Answer) → HasAt c.body pc (between_code c.program c.invocation.class r end) → all_depth r.body ≤ c.body.depth
      → Runs m (at c pc [] s) xs (ends (pc + length (between_code c.program c.invocation.class r end))) (between (known c) r.entry r.body end s xs)
  between_runs r None pc s xs has fits = all_runs r.body pc s xs has fits
  between_runs r (Some end) pc s xs has fits =
      let ca = all_code c.program c.invocation.class r.body in
      let n = pc + 1 + length ca in
      let hi = back c.body (pc + 1) ca (ins.Point end ∷ []) has.1 in
      ends_at (n + 1) (pc + length (ins.Point r.entry ∷ (ca ++ ins.Point end ∷ []))) _ xs _ (omega (arith, length-append ca (ins.Point end ∷ [])))
      (point_runs r.entry pc (λ s xs. on_fine (all (known c) r.body s xs) (at_point (known c) end (Went Fine))) s xs (ends (n + 1)) has.0
      (λ s ys. fine_on n (at c (pc + 1) [] s) ys (ends (n + 1)) (all (known c) r.body s ys) (at_point (known c) end (Went Fine)) (λ r s. refl) (λ s o. refl)
      (λ s zs. point_runs end n (Went Fine) s zs (ends (n + 1)) hi.0 (λ s us. here m (at c (n + 1) [] s) us))
      (all_runs r.body (pc + 1) s ys (front c.body (pc + 1) ca (ins.Point end ∷ []) has.1) fits)))

  -- behind the last statement the body is left without a value
  pub exits_runs : (to : ℕ) (r : Run) (xs : List Answer) (res : Result) → slice_get c.body.steps to ≡ Some ins.ReturnNothing → Runs m r xs (ends to) res → Runs m r xs (exits c) res
  exits_runs to r xs (Went Fine s ys) st h =
      reaches_after m r (at c to [] s) xs ys ys (spot_of (left None (frame c 0 [] s) c.below)) h
      (one_spot m c.body (frame c to [] s) c.below ys ins.ReturnNothing (left None (frame c 0 [] s) c.below) is_body st (left_same c None to [] s c.below))
  exits_runs to r xs (Went (Gives x) s ys) st h = absurd h
  exits_runs to r xs (Went (Throws x) s ys) st h = h
  exits_runs to r xs (Went (Returns o) s ys) st h = h
  exits_runs to r xs (Wants a fs) st h = h
  exits_runs to r xs Wrong st h = tt
  exits_runs to r xs Unfit st h = h
