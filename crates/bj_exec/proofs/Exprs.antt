-- The machine follows an expression.
use Rattle.std.proofs.Common.{◌≡◌, ℕ, zero, suc, ◌+◌, ◌<◌, ◌≤◌, ℤ, List, [], ◌∷◌, ◌++◌, length, Option, Some, None, Bool, true, false, refl, sym, ap, ◌∙◌, subst, arith, length-append}
use Rattle.std.specs.Prelude.{slice_get, map, nat_eq, if◌then◌else◌}
use Rattle.std.proofs.lemmas.Bool.{lt-ltb}
use Rattle.bj_core.specs.declared.types.Ty.TheVariants as ty
use Rattle.bj_core.specs.declared.types.Val.{Val}
use Rattle.bj_core.specs.declared.types.Val.TheVariants as val
use Rattle.bj_core.specs.declared.types.Const.{Const}
use Rattle.bj_core.specs.declared.types.Const.TheVariants as con
use Rattle.bj_core.specs.declared.action.Action.TheVariants as act
use Rattle.bj_core.specs.declared.action.Answer.{Answer}
use Rattle.bj_core.specs.declared.action.Answer.TheVariants as answer
use Rattle.bj_core.specs.declared.program.Program.{Program}
use Rattle.bj_base.specs.declared.op.Op.{Op}
use Rattle.bj_core.specs.declared.tree.Expr.{Expr, Row_of-Expr, end_of-Expr, more_of-Expr}
use Rattle.bj_core.specs.declared.tree.Expr.TheVariants as exp
use Rattle.bj_text.specs.Arith.{int_result, int_negated}
use Rattle.bj_eval.specs.declared.activation.Activation.{Activation}
use Rattle.bj_eval.specs.declared.activation.Variable.{Variable}
use Rattle.bj_eval.specs.declared.invocation.Invocation.{Invocation}
use Rattle.bj_eval.specs.Forms.{Negate, Binary, Read, Assign}
use Rattle.bj_eval.specs.Frames.{frame_of}
use Rattle.bj_eval.specs.Routines.{is_ready, start_number}
use Rattle.bj_eval.specs.Evaluation.{Context, Calls, Fine, Gives, Throws, Returns, Result, Went, Wants, Wrong, Unfit, On, on_value, on_left, calling, ask, raise, when_done, when_value, when_made, when_begun}
use Rattle.bj_eval.specs.Expressions.{expr, exprs, each, constant, variable, value_in, negated, computed, int_given, read, assigned_to, left_with, virtual, left_without, constructed, started, initialized, made}
use Rattle.bj_code.specs.declared.code.Instr.{Instr}
use Rattle.bj_code.specs.declared.code.Instr.TheVariants as ins
use Rattle.bj_code.specs.declared.code.CodeBody.{CodeBody}
use Rattle.bj_code.specs.declared.frame.CallFrame.{CallFrame}
use Rattle.bj_code.specs.Step.{next, goes_on, loaded, loaded_with, given}
use Rattle.bj_code.specs.Calling.{Call, call, cut, special}
use Rattle.bj_code.specs.Calling as calls
use Rattle.bj_code.specs.TermCode.{const_code, expr_code, expr_depth, exprs_code, exprs_depth, start_code, count}
use Rattle.bj_code.proofs.Blocks.{has_value}
use Rattle.bj_exec.specs.declared.run.Want.TheVariants as want
use Rattle.bj_exec.specs.declared.run.Run.{Run}
use Rattle.bj_exec.specs.Machine.{Loaded, body_at, wanting, stepped, resumes, left, threw, called, done_by, frame_shown}
use Rattle.bj_exec.proofs.Runs.{HasAt, front, back, Never, At, spot_of, Lands, IsHollow, Leads, here, one, told, Reaches, Runs, after, hollow, From, from_spot}

-- a frame in its thread: what stays while its body runs
pub record Place : Type 0 where
  pub body : CodeBody
  pub invocation : Invocation
  pub below : List CallFrame
  pub program : Program
  pub call : Calls

-- what the definition knows of a place
abbrev pub known : Place → Context
known c = record { program = c.program; invocation = c.invocation; outer = map frame_shown c.below; call = c.call }

abbrev pub frame : Place → ℕ → List Val → Activation → CallFrame
frame c pc vs s = record { invocation = c.invocation; activation = s; place = pc; operands = record { values = vs; room = c.body.depth } }

abbrev pub at : Place → ℕ → List Val → Activation → Run
at c pc vs s = wanting want.Move (frame c pc vs s) c.below

-- a throw leads to one run from wherever in the frame it comes
abbrev pub throws : Place → Val → Activation → Run
throws c r s = threw r (frame c 0 [] s) c.below

-- where a body leads that was called, whose caller goes on as a frame over frames
abbrev pub lefts : CallFrame → List CallFrame → Lands
lefts g gs Fine s = At (wanting want.Move g gs)
lefts g gs (Returns o) s = spot_of (left o g (g ∷ gs))
lefts g gs (Throws r) s = At (threw r g gs)
lefts g gs (Gives x) s = Never

module _ (m : Loaded) where
  -- a run that starts with a body that is called does what the definition says of the call
  abbrev pub Starts : Option Run → List Answer → CallFrame → List CallFrame → Result → Type 0
  Starts None xs g gs res = IsHollow res
  Starts (Some q) xs g gs res = Runs m q xs (lefts g gs) res

  -- the machine follows the calls from over these frames
  abbrev pub CallsRun : Calls → List CallFrame → Type 0
  CallsRun does gs = (c : Call) (xs : List Answer) → Starts (called m (Some c) gs) xs c.caller gs (does c.invocation c.values (map frame_shown (c.caller ∷ gs)) xs)

cut_all : (vs rest : List Val) (n : ℕ) (f : List Val → List Val → Option Call) → length vs ≡ n → cut n (vs ++ rest) f ≡ f vs rest
cut_all [] rest zero f e = refl
cut_all [] rest (suc n) f e = absurd (omega (arith, e))
cut_all (x ∷ vs) rest zero f e = absurd (omega (arith, e))
cut_all (x ∷ vs) rest (suc n) f e = cut_all vs rest n (λ taken below. f (x ∷ taken) below) (omega (arith, e))

threw_same : (c : Place) (r : Val) (pc : ℕ) (vs : List Val) (s : Activation) (fs : List CallFrame) → threw r (frame c pc vs s) fs ≡ threw r (frame c 0 [] s) fs
threw_same c r pc vs s [] = refl
threw_same c r pc vs s (g ∷ gs) = refl

module _ (m : Loaded) (c : Place) (is_body : body_at m c.invocation ≡ Some c.body) (calls_run : CallsRun m c.call c.below) where
  -- the machine is at an instruction
  abbrev pub Stands : ℕ → Instr → Type 0
  Stands pc x = slice_get c.body.steps pc ≡ Some x

  -- a landing that a throw reaches as each throw of the frame
  abbrev pub Throwing : Lands → Type 0
  Throwing K = (r : Val) (s : Activation) → K (Throws r) s ≡ At (throws c r s)

  -- where an expression leads whose code ends at a place, over operands
  abbrev pub values : List Val → ℕ → Lands
  values vs to (Gives x) s = At (at c to (x ∷ vs) s)
  values vs to (Throws r) s = At (throws c r s)
  values vs to Fine s = Never
  values vs to (Returns o) s = Never

  -- one instruction that calls nothing, in the frame
  steps : (pc : ℕ) (vs : List Val) (s : Activation) (xs : List Answer) (x : Instr) (q : Run) → Stands pc x → done_by m (Some x) (frame c pc vs s) c.below ≡ Some q → Leads m (at c pc vs s) xs q xs
  steps pc vs s xs x q st e = one m c.body (frame c pc vs s) c.below xs x q is_body st e

  throw_lands : (K : Lands) (r : Run) (xs ys : List Answer) (x : Val) (s t : Activation) (pc : ℕ) (vs : List Val) → Throwing K → Leads m r xs (threw x (frame c pc vs s) c.below) ys → Reaches m r xs (K (Throws x) s) ys
  throw_lands K r xs ys x s t pc vs p l =
      let e : At (threw x (frame c pc vs s) c.below) ≡ K (Throws x) s = ap At (threw_same c x pc vs s c.below) ∙ sym (p x s) in
      subst (λ o. Reaches m r xs o ys) e l

  -- an exception is asked for and thrown
  pub raises : (class pc : ℕ) (vs : List Val) (s : Activation) (xs : List Answer) (K : Lands) → Throwing K
      → Runs m (wanting (want.Do (act.Raise class None)) (frame c pc vs s) c.below) xs K (raise (known c) class s xs)
  raises class pc vs s [] K p = (1, refl)
  raises class pc vs s (answer.Value x ∷ xs) K p =
      throw_lands K _ (answer.Value x ∷ xs) xs x s s pc vs p
      (told m (act.Raise class None) (frame c pc vs s) c.below (answer.Value x) xs (threw x (frame c pc vs s) c.below) refl refl)
  raises class pc vs s (answer.Done ∷ xs) K p = (1, refl)
  raises class pc vs s (answer.Thrown k ∷ xs) K p = (1, refl)
  raises class pc vs s (answer.Normal ∷ xs) K p = (1, refl)
  raises class pc vs s (answer.Ready ∷ xs) K p = (1, refl)
  raises class pc vs s (answer.Go ∷ xs) K p = (1, refl)

  -- after an expression, whose value is on the stack
  pub then_on : (vs : List Val) (to : ℕ) (r : Run) (xs : List Answer) (K : Lands) (res : Result) (f : Val → On) → Throwing K
      → ((x : Val) (s : Activation) (ys : List Answer) → Runs m (at c to (x ∷ vs) s) ys K (f x s ys)) → Runs m r xs (values vs to) res → Runs m r xs K (on_value res f)
  then_on vs to r xs K (Went (Gives x) s ys) f p g h = after m r (at c to (x ∷ vs) s) xs ys K (f x s ys) h (g x s ys)
  then_on vs to r xs K (Went (Throws x) s ys) f p g h = subst (λ o. Reaches m r xs o ys) (sym (p x s)) h
  then_on vs to r xs K (Went Fine s ys) f p g h = absurd h
  then_on vs to r xs K (Went (Returns o) s ys) f p g h = absurd h
  then_on vs to r xs K (Wants a fs) f p g h = h
  then_on vs to r xs K Wrong f p g h = tt
  then_on vs to r xs K Unfit f p g h = h

  pub values_at : (vs : List Val) (to to' : ℕ) (r : Run) (xs : List Answer) (res : Result) → to ≡ to' → Runs m r xs (values vs to) res → Runs m r xs (values vs to') res
  values_at vs to to' r xs res e = subst (λ to. Runs m r xs (values vs to) res) e

  -- ---- forms that ask for nothing

  push_leads : (pc : ℕ) (vs : List Val) (x : Val) (s : Activation) (xs : List Answer) → Stands pc (ins.Push x) → length vs < c.body.depth → Leads m (at c pc vs s) xs (at c (pc + 1) (x ∷ vs) s) xs
  push_leads pc vs x s xs st room =
      steps pc vs s xs (ins.Push x) (at c (pc + 1) (x ∷ vs) s) st
      (ap (λ b. stepped (if b then goes_on (next (frame c pc vs s) (x ∷ vs)) else None) c.below) (lt-ltb (length vs) c.body.depth room))

  constant_runs : (pc : ℕ) (vs : List Val) (value : Const) (s : Activation) (xs : List Answer) → HasAt c.body pc (const_code value) → length vs < c.body.depth
      → Runs m (at c pc vs s) xs (values vs (pc + length (const_code value))) (constant value s xs)
  constant_runs pc vs (con.Int n) s xs has room = push_leads pc vs (val.Int n) s xs has.0 room
  constant_runs pc vs (con.Long n) s xs has room = push_leads pc vs (val.Long n) s xs has.0 room
  constant_runs pc vs (con.Bool b) s xs has room = push_leads pc vs (val.Bool b) s xs has.0 room
  constant_runs pc vs (con.Char u) s xs has room = push_leads pc vs (val.Char u) s xs has.0 room
  constant_runs pc vs (con.Text t) s xs has room = tt

  load_runs : (pc slot : ℕ) (vs : List Val) (o : Option Variable) (s : Activation) (xs : List Answer) → slice_get s.variables slot ≡ o → Stands pc (ins.Load slot) → length vs < c.body.depth
      → Runs m (at c pc vs s) xs (values vs (pc + 1)) (variable o s xs)
  load_runs pc slot vs None s xs eo st room = tt
  load_runs pc slot vs (Some x) s xs eo st room = with_value x.value refl
    where
      with_value : (o : Option Val) → x.value ≡ o → Runs m (at c pc vs s) xs (values vs (pc + 1)) (value_in o s xs)
      with_value None ev = tt
      with_value (Some u) ev =
          steps pc vs s xs (ins.Load slot) (at c (pc + 1) (u ∷ vs) s) st
          (ap (λ o. stepped (loaded o (frame c pc vs s)) c.below) eo ∙ ap (λ o. stepped (loaded_with o (frame c pc vs s)) c.below) ev
          ∙ ap (λ b. stepped (if b then goes_on (next (frame c pc vs s) (u ∷ vs)) else None) c.below) (lt-ltb (length vs) c.body.depth room))

  this_runs : (pc : ℕ) (vs : List Val) (s : Activation) (xs : List Answer) → Stands pc ins.This → length vs < c.body.depth → Leads m (at c pc vs s) xs (at c (pc + 1) (c.invocation.this ∷ vs) s) xs
  this_runs pc vs s xs st room =
      steps pc vs s xs ins.This (at c (pc + 1) (c.invocation.this ∷ vs) s) st
      (ap (λ b. stepped (if b then goes_on (next (frame c pc vs s) (c.invocation.this ∷ vs)) else None) c.below) (lt-ltb (length vs) c.body.depth room))

  negated_runs : (pc : ℕ) (vs : List Val) (x : Val) (s : Activation) (xs : List Answer) → Stands pc ins.IntNegate → Runs m (at c pc (x ∷ vs) s) xs (values vs (pc + 1)) (negated x s xs)
  negated_runs pc vs (val.Int n) s xs st = steps pc (val.Int n ∷ vs) s xs ins.IntNegate (at c (pc + 1) (val.Int (int_negated n) ∷ vs) s) st refl
  negated_runs pc vs (val.Long n) s xs st = tt
  negated_runs pc vs (val.Bool b) s xs st = tt
  negated_runs pc vs (val.Char u) s xs st = tt
  negated_runs pc vs val.Null s xs st = tt
  negated_runs pc vs (val.Ref object of) s xs st = tt

  given_runs : (pc : ℕ) (vs : List Val) (op : Op) (a b : ℤ) (o : Option ℤ) (s : Activation) (xs : List Answer) → int_result op a b ≡ o → Stands pc (ins.IntBinary op)
      → Runs m (at c pc (val.Int b ∷ val.Int a ∷ vs) s) xs (values vs (pc + 1)) (int_given o s xs)
  given_runs pc vs op a b None s xs eo st = tt
  given_runs pc vs op a b (Some n) s xs eo st =
      steps pc (val.Int b ∷ val.Int a ∷ vs) s xs (ins.IntBinary op) (at c (pc + 1) (val.Int n ∷ vs) s) st
      (ap (λ o. stepped (given o vs (frame c pc (val.Int b ∷ val.Int a ∷ vs) s)) c.below) eo)

  computed_runs : (pc : ℕ) (vs : List Val) (op : Op) (x y : Val) (s : Activation) (xs : List Answer) → Stands pc (ins.IntBinary op) → Runs m (at c pc (y ∷ x ∷ vs) s) xs (values vs (pc + 1)) (computed op x y s xs)
  computed_runs pc vs op (val.Int a) (val.Int b) s xs st = given_runs pc vs op a b (int_result op a b) s xs refl st
  computed_runs pc vs op (val.Int a) (val.Long n) s xs st = tt
  computed_runs pc vs op (val.Int a) (val.Bool b) s xs st = tt
  computed_runs pc vs op (val.Int a) (val.Char u) s xs st = tt
  computed_runs pc vs op (val.Int a) val.Null s xs st = tt
  computed_runs pc vs op (val.Int a) (val.Ref object of) s xs st = tt
  computed_runs pc vs op (val.Long n) y s xs st = tt
  computed_runs pc vs op (val.Bool b) y s xs st = tt
  computed_runs pc vs op (val.Char u) y s xs st = tt
  computed_runs pc vs op val.Null y s xs st = tt
  computed_runs pc vs op (val.Ref object of) y s xs st = tt

  -- ---- forms that ask

  read_runs : (slot pc : ℕ) (vs : List Val) (x : Val) (s : Activation) (xs : List Answer) → Stands pc (ins.GetField slot) → length vs < c.body.depth → Runs m (at c pc (x ∷ vs) s) xs (values vs (pc + 1)) (read (known c) slot x s xs)
  read_runs slot pc vs (val.Ref object of) s xs st room =
      after m _ _ xs xs (values vs (pc + 1)) (read (known c) slot (val.Ref object of) s xs)
      (steps pc (val.Ref object of ∷ vs) s xs (ins.GetField slot) (wanting (want.Do (act.Get (val.Ref object of) slot)) (frame c (pc + 1) vs s) c.below) st refl)
      (by_answer xs)
    where
      by_answer : (xs : List Answer) → Runs m (wanting (want.Do (act.Get (val.Ref object of) slot)) (frame c (pc + 1) vs s) c.below) xs (values vs (pc + 1)) (ask (act.Get (val.Ref object of) slot) (known c) s xs (when_value s (λ x. Went (Gives x))))
      by_answer [] = (1, refl)
      by_answer (answer.Value x ∷ xs) =
          told m (act.Get (val.Ref object of) slot) (frame c (pc + 1) vs s) c.below (answer.Value x) xs (at c (pc + 1) (x ∷ vs) s) refl
          (ap (λ b. resumes (if b then Some (frame c (pc + 1) (x ∷ vs) s) else None) c.below) (lt-ltb (length vs) c.body.depth room))
      by_answer (answer.Done ∷ xs) = (1, refl)
      by_answer (answer.Thrown k ∷ xs) = (1, refl)
      by_answer (answer.Normal ∷ xs) = (1, refl)
      by_answer (answer.Ready ∷ xs) = (1, refl)
      by_answer (answer.Go ∷ xs) = (1, refl)
  read_runs slot pc vs (val.Int n) s xs st room = tt
  read_runs slot pc vs (val.Long n) s xs st room = tt
  read_runs slot pc vs (val.Bool b) s xs st room = tt
  read_runs slot pc vs (val.Char u) s xs st room = tt
  read_runs slot pc vs val.Null s xs st room = tt

  assigned_runs : (slot pc : ℕ) (vs : List Val) (o x : Val) (s : Activation) (xs : List Answer) → Stands pc (ins.PutField slot) → Runs m (at c pc (x ∷ o ∷ vs) s) xs (values vs (pc + 1)) (assigned_to (known c) slot o x s xs)
  assigned_runs slot pc vs (val.Ref object of) x s xs st =
      after m _ _ xs xs (values vs (pc + 1)) (assigned_to (known c) slot (val.Ref object of) x s xs)
      (steps pc (x ∷ val.Ref object of ∷ vs) s xs (ins.PutField slot) (wanting (want.Do (act.Put (val.Ref object of) slot x)) (frame c (pc + 1) (x ∷ vs) s) c.below) st refl)
      (by_answer xs)
    where
      by_answer : (xs : List Answer) → Runs m (wanting (want.Do (act.Put (val.Ref object of) slot x)) (frame c (pc + 1) (x ∷ vs) s) c.below) xs (values vs (pc + 1)) (ask (act.Put (val.Ref object of) slot x) (known c) s xs (when_done s (Went (Gives x))))
      by_answer [] = (1, refl)
      by_answer (answer.Done ∷ xs) = told m (act.Put (val.Ref object of) slot x) (frame c (pc + 1) (x ∷ vs) s) c.below answer.Done xs (at c (pc + 1) (x ∷ vs) s) refl refl
      by_answer (answer.Value y ∷ xs) = (1, refl)
      by_answer (answer.Thrown k ∷ xs) = (1, refl)
      by_answer (answer.Normal ∷ xs) = (1, refl)
      by_answer (answer.Ready ∷ xs) = (1, refl)
      by_answer (answer.Go ∷ xs) = (1, refl)
  assigned_runs slot pc vs (val.Int n) x s xs st = tt
  assigned_runs slot pc vs (val.Long n) x s xs st = tt
  assigned_runs slot pc vs (val.Bool b) x s xs st = tt
  assigned_runs slot pc vs (val.Char u) x s xs st = tt
  assigned_runs slot pc vs val.Null x s xs st = tt

  made_runs : (class pc : ℕ) (vs : List Val) (f : Val → On) (s : Activation) (xs : List Answer) (K : Lands) → Throwing K → Stands pc (ins.Make class) → length vs < c.body.depth
      → ((x : Val) (ys : List Answer) → Runs m (at c (pc + 1) (x ∷ vs) s) ys K (f x s ys)) → Runs m (at c pc vs s) xs K (made (known c) class f s xs)
  made_runs class pc vs f s xs K p st room g =
      after m _ _ xs xs K (made (known c) class f s xs)
      (steps pc vs s xs (ins.Make class) (wanting (want.Do (act.Make class)) (frame c (pc + 1) vs s) c.below) st refl)
      (by_answer xs)
    where
      by_answer : (xs : List Answer) → Runs m (wanting (want.Do (act.Make class)) (frame c (pc + 1) vs s) c.below) xs K (ask (act.Make class) (known c) s xs (when_made (known c) s f))
      by_answer [] = (1, refl)
      by_answer (answer.Value x ∷ xs) =
          after m _ _ (answer.Value x ∷ xs) xs K (f x s xs)
          (told m (act.Make class) (frame c (pc + 1) vs s) c.below (answer.Value x) xs (at c (pc + 1) (x ∷ vs) s) refl
          (ap (λ b. resumes (if b then Some (frame c (pc + 1) (x ∷ vs) s) else None) c.below) (lt-ltb (length vs) c.body.depth room)))
          (g x xs)
      by_answer (answer.Thrown k ∷ xs) =
          after m _ _ (answer.Thrown k ∷ xs) xs K (raise (known c) k s xs)
          (told m (act.Make class) (frame c (pc + 1) vs s) c.below (answer.Thrown k) xs (wanting (want.Do (act.Raise k None)) (frame c (pc + 1) vs s) c.below) refl refl)
          (raises k (pc + 1) vs s xs K p)
      by_answer (answer.Done ∷ xs) = (1, refl)
      by_answer (answer.Normal ∷ xs) = (1, refl)
      by_answer (answer.Ready ∷ xs) = (1, refl)
      by_answer (answer.Go ∷ xs) = (1, refl)

  -- ---- calls

  left_runs : (pc : ℕ) (vs : List Val) (s : Activation) (r : Run) (xs : List Answer) (K : Lands) (res : Result) (f : Option Val → On) → Throwing K
      → ((o : Option Val) (ys : List Answer) → From m (left o (frame c pc vs s) (frame c pc vs s ∷ c.below)) ys K (f o s ys)) → Runs m r xs (lefts (frame c pc vs s) c.below) res → Runs m r xs K (on_left res s f)
  left_runs pc vs s r xs K (Went Fine t ys) f p g h = after m r (at c pc vs s) xs ys K (f None s ys) h (g None ys)
  left_runs pc vs s r xs K (Went (Returns o) t ys) f p g h = from_spot m r xs ys K (f o s ys) (left o (frame c pc vs s) (frame c pc vs s ∷ c.below)) h (g o ys)
  left_runs pc vs s r xs K (Went (Throws x) t ys) f p g h = throw_lands K r xs ys x s s pc vs p h
  left_runs pc vs s r xs K (Went (Gives x) t ys) f p g h = tt
  left_runs pc vs s r xs K (Wants a fs) f p g h = h
  left_runs pc vs s r xs K Wrong f p g h = tt
  left_runs pc vs s r xs K Unfit f p g h = h

  hollow_left : (res : Result) (s : Activation) (f : Option Val → On) → IsHollow res → IsHollow (on_left res s f)
  hollow_left (Went w t ys) s f h = absurd h
  hollow_left (Wants a fs) s f h = absurd h
  hollow_left Wrong s f h = tt
  hollow_left Unfit s f h = absurd h

  -- a call, after which the caller goes on behind the instruction with these operands
  calling_runs : (pc : ℕ) (ws vs args : List Val) (x : Instr) (inv : Invocation) (s : Activation) (xs : List Answer) (K : Lands) (f : Option Val → On) → Throwing K → Stands pc x
      → done_by m (Some x) (frame c pc ws s) c.below ≡ called m (Some (record { invocation = inv; values = args; caller = frame c (pc + 1) vs s })) c.below
      → ((o : Option Val) (ys : List Answer) → From m (left o (frame c (pc + 1) vs s) (frame c (pc + 1) vs s ∷ c.below)) ys K (f o s ys)) → Runs m (at c pc ws s) xs K (calling (known c) inv args f s xs)
  calling_runs pc ws vs args x inv s xs K f p st e g =
      let o : Call = record { invocation = inv; values = args; caller = frame c (pc + 1) vs s } in
      by_start (called m (Some o) c.below) e (calls_run o xs)
    where
      res : Result
      res = c.call inv args (frame_of c.invocation s ∷ map frame_shown c.below) xs

      by_start : (o : Option Run) → done_by m (Some x) (frame c pc ws s) c.below ≡ o → Starts m o xs (frame c (pc + 1) vs s) c.below res → Runs m (at c pc ws s) xs K (on_left res s f)
      by_start None ed h = hollow m (at c pc ws s) xs K (on_left res s f) (hollow_left res s f h)
      by_start (Some q) ed h = after m (at c pc ws s) q xs xs K (on_left res s f) (steps pc ws s xs x q st ed) (left_runs (pc + 1) vs s q xs K res f p g h)

  from_wrong : (o : Option Run) (ys : List Answer) (K : Lands) → From m o ys K Wrong
  from_wrong None ys K = tt
  from_wrong (Some q) ys K = tt

  -- a call with arguments, which lie on the operands with which the caller goes on
  cut_call : (pc n : ℕ) (ws vs : List Val) (x : Instr) (s : Activation) (f : List Val → List Val → Option Call) (o : Option Call)
      → done_by m (Some x) (frame c pc (ws ++ vs) s) c.below ≡ called m (cut n (ws ++ vs) f) c.below → length ws ≡ n → f ws vs ≡ o → done_by m (Some x) (frame c pc (ws ++ vs) s) c.below ≡ called m o c.below
  cut_call pc n ws vs x s f o e l eo = e ∙ ap (λ o. called m o c.below) (cut_all ws vs n f l ∙ eo)

  -- a value that a body was left with is an operand of its caller
  left_with_runs : (pc : ℕ) (vs : List Val) (s : Activation) (o : Option Val) (ys : List Answer) → length vs < c.body.depth
      → From m (left o (frame c pc vs s) (frame c pc vs s ∷ c.below)) ys (values vs pc) (left_with o s ys)
  left_with_runs pc vs s None ys room = tt
  left_with_runs pc vs s (Some x) ys room =
      subst (λ o. From m o ys (values vs pc) (Went (Gives x) s ys)) (sym (ap (λ b. resumes (if b then Some (frame c pc (x ∷ vs) s) else None) c.below) (lt-ltb (length vs) c.body.depth room)))
      (here m (at c pc (x ∷ vs) s) ys)

  virtual_runs : (class method pc n : ℕ) (ws vs : List Val) (o : Val) (s : Activation) (xs : List Answer) → Stands pc (ins.InvokeVirtual class method n) → length ws ≡ n → length vs < c.body.depth
      → Runs m (at c pc (ws ++ o ∷ vs) s) xs (values vs (pc + 1)) (virtual (known c) class method o ws s xs)
  virtual_runs class method pc n ws vs (val.Ref object (ty.Class own)) s xs st l room = by_class (nat_eq own class) refl
    where
      inv : Invocation
      inv = record { class = class; method = method; this = val.Ref object (ty.Class own) }

      by_class : (b : Bool) → nat_eq own class ≡ b → Runs m (at c pc (ws ++ val.Ref object (ty.Class own) ∷ vs) s) xs (values vs (pc + 1)) (if b then calling (known c) inv ws left_with s xs else Wrong)
      by_class false e = tt
      by_class true e =
          calling_runs pc (ws ++ val.Ref object (ty.Class own) ∷ vs) vs ws (ins.InvokeVirtual class method n) inv s xs (values vs (pc + 1)) left_with (λ r s. refl) st
          (cut_call pc n ws (val.Ref object (ty.Class own) ∷ vs) (ins.InvokeVirtual class method n) s (calls.virtual class method (frame c pc (ws ++ val.Ref object (ty.Class own) ∷ vs) s)) (Some (record { invocation = inv; values = ws; caller = frame c (pc + 1) vs s })) refl l
          (ap (λ b. if b then Some (record { invocation = inv; values = ws; caller = frame c (pc + 1) vs s }) else None) e))
          (λ o ys. left_with_runs (pc + 1) vs s o ys room)
  virtual_runs class method pc n ws vs (val.Ref object ty.Int) s xs st l room = tt
  virtual_runs class method pc n ws vs (val.Ref object ty.Long) s xs st l room = tt
  virtual_runs class method pc n ws vs (val.Ref object ty.Bool) s xs st l room = tt
  virtual_runs class method pc n ws vs (val.Ref object ty.Char) s xs st l room = tt
  virtual_runs class method pc n ws vs (val.Ref object ty.Null) s xs st l room = tt
  virtual_runs class method pc n ws vs (val.Ref object ty.Void) s xs st l room = tt
  virtual_runs class method pc n ws vs (val.Ref object (ty.Array elem dims)) s xs st l room = tt
  virtual_runs class method pc n ws vs (val.Int x) s xs st l room = tt
  virtual_runs class method pc n ws vs (val.Long x) s xs st l room = tt
  virtual_runs class method pc n ws vs (val.Bool x) s xs st l room = tt
  virtual_runs class method pc n ws vs (val.Char x) s xs st l room = tt
  virtual_runs class method pc n ws vs val.Null s xs st l room = tt

  -- a constructor that is left without a value leaves its object
  without_runs : (pc : ℕ) (vs : List Val) (x : Val) (s : Activation) (o : Option Val) (ys : List Answer) → From m (left o (frame c pc (x ∷ vs) s) (frame c pc (x ∷ vs) s ∷ c.below)) ys (values vs pc) (left_without x o s ys)
  without_runs pc vs x s None ys = here m (at c pc (x ∷ vs) s) ys
  without_runs pc vs x s (Some u) ys = from_wrong (left (Some u) (frame c pc (x ∷ vs) s) (frame c pc (x ∷ vs) s ∷ c.below)) ys (values vs pc)

  constructed_runs : (class method pc n : ℕ) (ws vs : List Val) (o : Val) (s : Activation) (xs : List Answer) → Stands pc (ins.InvokeSpecial class method n) → length ws ≡ n
      → Runs m (at c pc (ws ++ o ∷ vs) s) xs (values vs (pc + 1)) (constructed (known c) class method o ws s xs)
  constructed_runs class method pc n ws vs o s xs st l =
      let inv : Invocation = record { class = class; method = method; this = o } in
      calling_runs pc (ws ++ o ∷ vs) (o ∷ vs) ws (ins.InvokeSpecial class method n) inv s xs (values vs (pc + 1)) (left_without o) (λ r s. refl) st
      (cut_call pc n ws (o ∷ vs) (ins.InvokeSpecial class method n) s (special class method (frame c pc (ws ++ o ∷ vs) s)) (Some (record { invocation = inv; values = ws; caller = frame c (pc + 1) (o ∷ vs) s })) refl l refl)
      (λ u ys. without_runs (pc + 1) vs o s u ys)

  -- ---- the initialization of a class

  -- what goes on at a place, written otherwise
  runs_at : (to to' : ℕ) (vs : List Val) (s : Activation) (xs : List Answer) (K : Lands) (res : Result) → to ≡ to' → Runs m (at c to' vs s) xs K res → Runs m (at c to vs s) xs K res
  runs_at to to' vs s xs K res e = subst (λ to. Runs m (at c to vs s) xs K res) (sym e)

  -- the code of an initialization, and behind it a place
  abbrev starts_in : Bool → ℕ → List Instr
  starts_in b class = if b then [] else ins.InitBegin class ∷ (ins.InvokeStart class (start_number c.program class) ∷ (ins.InitEnd class ∷ []))

  module _ (class pc : ℕ) (vs : List Val) (f : On) (K : Lands) (p : Throwing K) (g : (s : Activation) (ys : List Answer) → Runs m (at c (pc + 3) vs s) ys K (f s ys)) where
    ends_runs : (s : Activation) (xs : List Answer) → Stands (pc + 2) (ins.InitEnd class) → Runs m (at c (pc + 2) vs s) xs K (ask (act.InitEnd class true) (known c) s xs (when_done s f))
    ends_runs s xs st =
        after m _ _ xs xs K (ask (act.InitEnd class true) (known c) s xs (when_done s f))
        (steps (pc + 2) vs s xs (ins.InitEnd class) (wanting (want.Do (act.InitEnd class true)) (frame c (pc + 2 + 1) vs s) c.below) st refl)
        (by_answer xs)
      where
        by_answer : (xs : List Answer) → Runs m (wanting (want.Do (act.InitEnd class true)) (frame c (pc + 2 + 1) vs s) c.below) xs K (ask (act.InitEnd class true) (known c) s xs (when_done s f))
        by_answer [] = (1, refl)
        by_answer (answer.Done ∷ xs) =
            after m _ _ (answer.Done ∷ xs) xs K (f s xs) (told m (act.InitEnd class true) (frame c (pc + 2 + 1) vs s) c.below answer.Done xs (at c (pc + 2 + 1) vs s) refl refl)
            (runs_at (pc + 2 + 1) (pc + 3) vs s xs K (f s xs) (omega arith) (g s xs))
        by_answer (answer.Value y ∷ xs) = (1, refl)
        by_answer (answer.Thrown k ∷ xs) = (1, refl)
        by_answer (answer.Normal ∷ xs) = (1, refl)
        by_answer (answer.Ready ∷ xs) = (1, refl)
        by_answer (answer.Go ∷ xs) = (1, refl)

    started_runs : (s : Activation) (o : Option Val) (ys : List Answer) → Stands (pc + 2) (ins.InitEnd class) → From m (left o (frame c (pc + 2) vs s) (frame c (pc + 2) vs s ∷ c.below)) ys K (started (known c) class f o s ys)
    started_runs s None ys st = ends_runs s ys st
    started_runs s (Some u) ys st = from_wrong (left (Some u) (frame c (pc + 2) vs s) (frame c (pc + 2) vs s ∷ c.below)) ys K

    abbrev begun : Activation → List Answer → Result
    begun s xs = ask (act.InitBegin class) (known c) s xs (when_begun s f (calling (known c) (record { class = class; method = start_number c.program class; this = val.Null }) [] (started (known c) class f)))

    begins_runs : (s : Activation) (xs : List Answer) → Stands pc (ins.InitBegin class) → Stands (pc + 1) (ins.InvokeStart class (start_number c.program class)) → Stands (pc + 2) (ins.InitEnd class) → Runs m (at c pc vs s) xs K (begun s xs)
    begins_runs s xs s0 s1 s2 =
        after m _ _ xs xs K (begun s xs) (steps pc vs s xs (ins.InitBegin class) (wanting (want.Do (act.InitBegin class)) (frame c (pc + 1) vs s) c.below) s0 refl) (by_answer xs)
      where
        inv : Invocation
        inv = record { class = class; method = start_number c.program class; this = val.Null }

        by_answer : (xs : List Answer) → Runs m (wanting (want.Do (act.InitBegin class)) (frame c (pc + 1) vs s) c.below) xs K (begun s xs)
        by_answer [] = (1, refl)
        by_answer (answer.Ready ∷ xs) =
            after m _ _ (answer.Ready ∷ xs) xs K (f s xs) (told m (act.InitBegin class) (frame c (pc + 1) vs s) c.below answer.Ready xs (at c (pc + 1 + 2) vs s) refl refl)
            (runs_at (pc + 1 + 2) (pc + 3) vs s xs K (f s xs) (omega arith) (g s xs))
        by_answer (answer.Go ∷ xs) =
            after m _ _ (answer.Go ∷ xs) xs K (calling (known c) inv [] (started (known c) class f) s xs) (told m (act.InitBegin class) (frame c (pc + 1) vs s) c.below answer.Go xs (at c (pc + 1) vs s) refl refl)
            (calling_runs (pc + 1) vs vs [] (ins.InvokeStart class (start_number c.program class)) inv s xs K (started (known c) class f) p s1 refl
            (λ o ys. let q : pc + 2 ≡ pc + 1 + 1 = omega arith in subst (λ n. From m (left o (frame c n vs s) (frame c n vs s ∷ c.below)) ys K (started (known c) class f o s ys)) q (started_runs s o ys s2)))
        by_answer (answer.Done ∷ xs) = (1, refl)
        by_answer (answer.Value y ∷ xs) = (1, refl)
        by_answer (answer.Thrown k ∷ xs) = (1, refl)
        by_answer (answer.Normal ∷ xs) = (1, refl)

  initialized_runs : (class pc : ℕ) (vs : List Val) (f : On) (s : Activation) (xs : List Answer) (K : Lands) → Throwing K → HasAt c.body pc (start_code c.program class)
      → ((s : Activation) (ys : List Answer) → Runs m (at c (pc + length (start_code c.program class)) vs s) ys K (f s ys)) → Runs m (at c pc vs s) xs K (initialized (known c) class f s xs)
  initialized_runs class pc vs f s xs K p = by_ready (is_ready c.program class)
    where
      by_ready : (b : Bool) → HasAt c.body pc (starts_in b class) → ((s : Activation) (ys : List Answer) → Runs m (at c (pc + length (starts_in b class)) vs s) ys K (f s ys))
          → Runs m (at c pc vs s) xs K (if b then f s xs else ask (act.InitBegin class) (known c) s xs (when_begun s f (calling (known c) (record { class = class; method = start_number c.program class; this = val.Null }) [] (started (known c) class f))))
      by_ready true has g = runs_at pc (pc + 0) vs s xs K (f s xs) (omega arith) (g s xs)
      by_ready false has g =
          let q : pc + 1 + 1 ≡ pc + 2 = omega arith in
          begins_runs class pc vs f K p g s xs has.0 has.1.0 (subst (λ n. Stands n (ins.InitEnd class)) q has.1.1.0)

  -- ---- expressions

  mutual
    pub expr_runs : (x : Expr) (pc : ℕ) (vs : List Val) (s : Activation) (xs : List Answer) → HasAt c.body pc (expr_code c.program x) → length vs + expr_depth x ≤ c.body.depth
        → Runs m (at c pc vs s) xs (values vs (pc + length (expr_code c.program x))) (expr (known c) x s xs)
    expr_runs (exp.Const sp value) pc vs s xs has room = constant_runs pc vs value s xs has (omega arith)
    expr_runs (exp.Local sp slot) pc vs s xs has room = load_runs pc slot vs (slice_get s.variables slot) s xs refl has.0 (omega arith)
    expr_runs (exp.This sp) pc vs s xs has room = this_runs pc vs s xs has.0 (omega arith)
    expr_runs (Negate sp a) pc vs s xs has room =
        let ca = expr_code c.program a in
        let hi = back c.body pc ca (ins.IntNegate ∷ []) has in
        values_at vs (pc + length ca + 1) (pc + length (ca ++ ins.IntNegate ∷ [])) _ xs _ (omega (arith, length-append ca (ins.IntNegate ∷ [])))
        (then_on vs (pc + length ca) (at c pc vs s) xs (values vs (pc + length ca + 1)) (expr (known c) a s xs) negated (λ r s. refl)
        (λ x s ys. negated_runs (pc + length ca) vs x s ys hi.0)
        (expr_runs a pc vs s xs (front c.body pc ca _ has) room))
    expr_runs (Binary sp op a b) pc vs s xs has room =
        let ca = expr_code c.program a in
        let cb = expr_code c.program b in
        let n = pc + length ca in
        let hb = back c.body pc ca _ has in
        let hi = back c.body n cb (ins.IntBinary op ∷ []) hb in
        values_at vs (n + length cb + 1) (pc + length (ca ++ (cb ++ ins.IntBinary op ∷ []))) _ xs _ (omega (arith, length-append ca (cb ++ ins.IntBinary op ∷ []), length-append cb (ins.IntBinary op ∷ [])))
        (then_on vs n (at c pc vs s) xs (values vs (n + length cb + 1)) (expr (known c) a s xs) (λ x s xs. on_value (expr (known c) b s xs) (computed op x)) (λ r s. refl)
        (λ x s ys. then_on (x ∷ vs) (n + length cb) (at c n (x ∷ vs) s) ys (values vs (n + length cb + 1)) (expr (known c) b s ys) (computed op x) (λ r s. refl)
        (λ y s ys. computed_runs (n + length cb) vs op x y s ys hi.0)
        (expr_runs b n (x ∷ vs) s ys (front c.body n cb _ hb) (omega arith)))
        (expr_runs a pc vs s xs (front c.body pc ca _ has) (omega arith)))
    expr_runs (Read sp a slot) pc vs s xs has room =
        let ca = expr_code c.program a in
        let hi = back c.body pc ca (ins.GetField slot ∷ []) has in
        values_at vs (pc + length ca + 1) (pc + length (ca ++ ins.GetField slot ∷ [])) _ xs _ (omega (arith, length-append ca (ins.GetField slot ∷ [])))
        (then_on vs (pc + length ca) (at c pc vs s) xs (values vs (pc + length ca + 1)) (expr (known c) a s xs) (read (known c) slot) (λ r s. refl)
        (λ x s ys. read_runs slot (pc + length ca) vs x s ys hi.0 (omega (arith, has_value a)))
        (expr_runs a pc vs s xs (front c.body pc ca _ has) room))
    expr_runs (Assign sp a slot b) pc vs s xs has room =
        let ca = expr_code c.program a in
        let cb = expr_code c.program b in
        let n = pc + length ca in
        let hb = back c.body pc ca _ has in
        let hi = back c.body n cb (ins.PutField slot ∷ []) hb in
        values_at vs (n + length cb + 1) (pc + length (ca ++ (cb ++ ins.PutField slot ∷ []))) _ xs _ (omega (arith, length-append ca (cb ++ ins.PutField slot ∷ []), length-append cb (ins.PutField slot ∷ [])))
        (then_on vs n (at c pc vs s) xs (values vs (n + length cb + 1)) (expr (known c) a s xs) (λ x s xs. on_value (expr (known c) b s xs) (assigned_to (known c) slot x)) (λ r s. refl)
        (λ x s ys. then_on (x ∷ vs) (n + length cb) (at c n (x ∷ vs) s) ys (values vs (n + length cb + 1)) (expr (known c) b s ys) (assigned_to (known c) slot x) (λ r s. refl)
        (λ y s ys. assigned_runs slot (n + length cb) vs x y s ys hi.0)
        (expr_runs b n (x ∷ vs) s ys (front c.body n cb _ hb) (omega arith)))
        (expr_runs a pc vs s xs (front c.body pc ca _ has) (omega arith)))
    expr_runs (exp.New' sp class constructor shape row) pc vs s xs has room =
        let ci = start_code c.program class in
        let cr = exprs_code c.program row in
        let x = ins.InvokeSpecial class constructor (count row) in
        let n = pc + length ci in
        let hm = back c.body pc ci (ins.Make class ∷ (cr ++ x ∷ [])) has in
        let hi = back c.body (n + 1) cr (x ∷ []) hm.1 in
        let to = n + 1 + length cr in
        values_at vs (to + 1) (pc + length (ci ++ ins.Make class ∷ (cr ++ x ∷ []))) _ xs _ (omega (arith, length-append ci (ins.Make class ∷ (cr ++ x ∷ [])), length-append cr (x ∷ [])))
        (initialized_runs class pc vs (made (known c) class (λ o. each (exprs (known c) row) [] (constructed (known c) class constructor o))) s xs (values vs (to + 1)) (λ r s. refl) (front c.body pc ci _ has)
        (λ s ys. made_runs class n vs (λ o. each (exprs (known c) row) [] (constructed (known c) class constructor o)) s ys (values vs (to + 1)) (λ r s. refl) hm.0 (omega arith)
        (λ o zs. exprs_runs row [] (o ∷ vs) (n + 1) s zs (constructed (known c) class constructor o) (values vs (to + 1)) (front c.body (n + 1) cr (x ∷ []) hm.1) (omega arith) (λ r s. refl)
        (λ ws s us l. constructed_runs class constructor to (count row) ws vs o s us hi.0 (omega arith)))))
    expr_runs (exp.Virtual' sp tt (more_of-Expr a end_of-Expr) class method shape row) pc vs s xs has room =
        let ca = expr_code c.program a in
        let cr = exprs_code c.program row in
        let x = ins.InvokeVirtual class method (count row) in
        let n = pc + length ca in
        let hr = back c.body pc ca (cr ++ x ∷ []) has in
        let hi = back c.body n cr (x ∷ []) hr in
        let to = n + length cr in
        values_at vs (to + 1) (pc + length (ca ++ (cr ++ x ∷ []))) _ xs _ (omega (arith, length-append ca (cr ++ x ∷ []), length-append cr (x ∷ [])))
        (then_on vs n (at c pc vs s) xs (values vs (to + 1)) (expr (known c) a s xs) (λ o. each (exprs (known c) row) [] (virtual (known c) class method o)) (λ r s. refl)
        (λ o s ys. exprs_runs row [] (o ∷ vs) n s ys (virtual (known c) class method o) (values vs (to + 1)) (front c.body n cr (x ∷ []) hr) (omega arith) (λ r s. refl)
        (λ ws s zs l. virtual_runs class method to (count row) ws vs o s zs hi.0 (omega arith) (omega arith)))
        (expr_runs a pc vs s xs (front c.body pc ca _ has) (omega arith)))

    -- arguments, over operands and those that are evaluated
    pub exprs_runs : {n : _} → (row : Row_of-Expr n) (ws vs : List Val) (pc : ℕ) (s : Activation) (xs : List Answer) (f : List Val → On) (K : Lands) → HasAt c.body pc (exprs_code c.program row) → length ws + length vs + exprs_depth row ≤ c.body.depth → Throwing K
        → ((us : List Val) (s : Activation) (ys : List Answer) → length us ≡ length ws + count row → Runs m (at c (pc + length (exprs_code c.program row)) (us ++ vs) s) ys K (f us s ys))
        → Runs m (at c pc (ws ++ vs) s) xs K (each (exprs (known c) row) ws f s xs)
    exprs_runs end_of-Expr ws vs pc s xs f K has room p g = runs_at pc (pc + 0) (ws ++ vs) s xs K (f ws s xs) (omega arith) (g ws s xs (omega arith))
    exprs_runs (more_of-Expr x rest) ws vs pc s xs f K has room p g =
        let cx = expr_code c.program x in
        let cr = exprs_code c.program rest in
        then_on (ws ++ vs) (pc + length cx) (at c pc (ws ++ vs) s) xs K (expr (known c) x s xs) (λ v. each (exprs (known c) rest) (v ∷ ws) f) p
        (λ v s ys. exprs_runs rest (v ∷ ws) vs (pc + length cx) s ys f K (back c.body pc cx cr has) (omega arith) p
        (λ us s zs l. runs_at (pc + length cx + length cr) (pc + length (cx ++ cr)) (us ++ vs) s zs K (f us s zs) (omega (arith, length-append cx cr)) (g us s zs (omega arith))))
        (expr_runs x pc (ws ++ vs) s xs (front c.body pc cx cr has) (omega (arith, length-append ws vs)))
