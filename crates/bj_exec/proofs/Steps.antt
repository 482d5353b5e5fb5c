-- What a run that moves or is answered shows of its topmost frame.
use Rattle.std.proofs.Common.{◌≡◌, ℕ, ◌+◌, ◌<◌, ◌^◌, List, ◌∷◌, length, Option, Some, None, Bool, true, false, refl, sym, ap, ◌∙◌, subst}
use Rattle.std.specs.Prelude.{slice_get, option_map, nat_lt, if◌then◌else◌}
use Rattle.bj_core.specs.declared.types.Val.{Val}
use Rattle.bj_core.specs.declared.action.Action.{Action}
use Rattle.bj_core.specs.declared.action.Action.TheVariants as act
use Rattle.bj_core.specs.declared.action.Answer.{Answer}
use Rattle.bj_core.specs.declared.action.Answer.TheVariants as answer
use Rattle.bj_eval.specs.declared.invocation.Invocation.{Invocation}
use Rattle.bj_code.specs.declared.code.Instr.{Instr}
use Rattle.bj_code.specs.declared.code.Instr.TheVariants as ins
use Rattle.bj_code.specs.declared.code.CodeBody.{CodeBody}
use Rattle.bj_code.specs.declared.frame.CallFrame.{CallFrame}
use Rattle.bj_code.specs.Step.{Stepped, step, given_back, resumed}
use Rattle.bj_code.specs.Calling.{Call, call}
use Rattle.bj_exec.specs.declared.run.Want.{Want}
use Rattle.bj_exec.specs.declared.run.Want.TheVariants as want
use Rattle.bj_exec.specs.declared.run.Run.{Run}
use Rattle.bj_exec.specs.Machine.{Loaded, wanting, stepped, entering, called, is_call, done_by, instr_in, body_at, moves, left, resumes, answered, is_raise, class_thrown}

-- ---- one instruction

-- a run that moves has a body, and an instruction at its place
pub body_there : (m : Loaded) (r q : Run) → moves m r ≡ Some q → (b : CodeBody) × (body_at m r.top.invocation ≡ Some b)
body_there m r q e = by_body (body_at m r.top.invocation) refl
  where
    by_body : (o : Option CodeBody) → body_at m r.top.invocation ≡ o → (b : CodeBody) × (body_at m r.top.invocation ≡ Some b)
    by_body None s = let f : done_by m None r.top r.below ≡ Some q = ap (λ o. done_by m (instr_in o r.top.place) r.top r.below) (sym s) ∙ e in absurd (cc)
    by_body (Some b) s = (b, s)

pub done_there : (m : Loaded) (r q : Run) (b : CodeBody) → body_at m r.top.invocation ≡ Some b → moves m r ≡ Some q → done_by m (slice_get b.steps r.top.place) r.top r.below ≡ Some q
done_there m r q b eb e = ap (λ o. done_by m (instr_in o r.top.place) r.top r.below) (sym eb) ∙ e

pub instr_there : (m : Loaded) (r q : Run) (b : CodeBody) → body_at m r.top.invocation ≡ Some b → moves m r ≡ Some q → (x : Instr) × (slice_get b.steps r.top.place ≡ Some x)
instr_there m r q b eb e = by_instr (slice_get b.steps r.top.place) refl
  where
    by_instr : (o : Option Instr) → slice_get b.steps r.top.place ≡ o → (x : Instr) × (slice_get b.steps r.top.place ≡ Some x)
    by_instr None s = let f : done_by m None r.top r.below ≡ Some q = ap (λ o. done_by m o r.top r.below) (sym s) ∙ done_there m r q b eb e in absurd (cc)
    by_instr (Some x) s = (x, s)

pub does : (m : Loaded) (r q : Run) (b : CodeBody) (x : Instr) → body_at m r.top.invocation ≡ Some b → slice_get b.steps r.top.place ≡ Some x → moves m r ≡ Some q
    → (if is_call x then called m (call x r.top) r.below else stepped (step (length r.below + 1) x r.top) r.below) ≡ Some q
does m r q b x eb ex e = ap (λ o. done_by m o r.top r.below) (sym ex) ∙ done_there m r q b eb e

-- what calls a body is a call
pub call_is : (x : Instr) (f : CallFrame) (c : Call) → call x f ≡ Some c → is_call x ≡ true
call_is (ins.InvokeStart class method) f c e = refl
call_is (ins.InvokeSpecial class method count) f c e = refl
call_is (ins.InvokeVirtual class method count) f c e = refl
call_is x f c e = absurd (cc)

-- an instruction that calls nothing is a step
pub no_call : (m : Loaded) (r q : Run) (x : Instr) → call x r.top ≡ None → (if is_call x then called m (call x r.top) r.below else stepped (step (length r.below + 1) x r.top) r.below) ≡ Some q
    → stepped (step (length r.below + 1) x r.top) r.below ≡ Some q
no_call m r q x ec e = by_kind (is_call x) e
  where
    by_kind : (b : Bool) → (if b then called m (call x r.top) r.below else stepped (step (length r.below + 1) x r.top) r.below) ≡ Some q → stepped (step (length r.below + 1) x r.top) r.below ≡ Some q
    by_kind false f = f
    by_kind true f = let n : called m None r.below ≡ Some q = ap (λ o. called m o r.below) (sym ec) ∙ f in absurd (cc)

-- a call enters the body that it calls
pub enters : (m : Loaded) (r q : Run) (x : Instr) (c : Call) → call x r.top ≡ Some c → (if is_call x then called m (call x r.top) r.below else stepped (step (length r.below + 1) x r.top) r.below) ≡ Some q
    → entering (body_at m c.invocation) c r.below ≡ Some q
enters m r q x c ec e =
    by_limit (nat_lt (length r.below + 1) m.limit)
    (ap (λ o. called m o r.below) (sym ec) ∙ ap (λ b. if b then called m (call x r.top) r.below else stepped (step (length r.below + 1) x r.top) r.below) (sym (call_is x r.top c ec)) ∙ e)
  where
    by_limit : (b : Bool) → (if b then entering (body_at m c.invocation) c r.below else None) ≡ Some q → entering (body_at m c.invocation) c r.below ≡ Some q
    by_limit true f = f
    by_limit false f = absurd (cc)

pub entered_there : (o : Option CodeBody) (c : Call) (fs : List CallFrame) (q : Run) → entering o c fs ≡ Some q → (b : CodeBody) × (o ≡ Some b)
entered_there None c fs q e = absurd (cc)
entered_there (Some b) c fs q e = (b, refl)

pub stepped_there : (o : Option Stepped) (fs : List CallFrame) (q : Run) → stepped o fs ≡ Some q → (s : Stepped) × (o ≡ Some s)
stepped_there None fs q e = absurd (cc)
stepped_there (Some s) fs q e = (s, refl)

-- ---- one answer

pub resumed_there : (o : Option CallFrame) (fs : List CallFrame) (q : Run) → resumes o fs ≡ Some q → (f : CallFrame) × (o ≡ Some f)
resumed_there None fs q e = absurd (cc)
resumed_there (Some f) fs q e = (f, refl)

-- an answer to what makes no throwable
pub answered_plain : (a : Action) (x : Answer) (r : Run) → is_raise a ≡ false → class_thrown x ≡ None → answered a x r ≡ resumes (resumed a x r.top) r.below
answered_plain (act.Raise class message) x r e f = absurd (cc)
answered_plain a (answer.Thrown k) r e f = absurd (cc)
answered_plain a x r e f = refl

pub answered_thrown : (a : Action) (x : Answer) (r : Run) (k : ℕ) → is_raise a ≡ false → class_thrown x ≡ Some k → answered a x r ≡ Some (wanting (want.Do (act.Raise k None)) r.top r.below)
answered_thrown (act.Raise class message) x r k e f = absurd (cc)
answered_thrown a (answer.Thrown j) r k e f = let same : j ≡ k = cc in ap (λ k. Some (wanting (want.Do (act.Raise k None)) r.top r.below)) same
answered_thrown a x r k e f = absurd (cc)

-- what is wanted before an answer is of no matter
pub answered_same : (a : Action) (x : Answer) (r : Run) (w : Want) → answered a x (wanting w r.top r.below) ≡ answered a x r
answered_same (act.Raise class message) (answer.Value v) r w = refl
answered_same (act.Raise class message) x r w = refl
answered_same a (answer.Thrown k) r w = refl
answered_same a x r w = refl

-- a value that a caller is left with has its room
pub given_there : (x : Val) (g h : CallFrame) (fs : List CallFrame) (q : Run) → left (Some x) h (g ∷ fs) ≡ Some q → (f : CallFrame) × (given_back x g ≡ Some f)
given_there x g h fs q e = resumed_there (given_back x g) fs q e

-- ---- what the code of the machine learns of an instruction

pub not_called : (o : Option Call) → None ≡ option_map (λ c. c.invocation) o → o ≡ None
not_called None e = refl
not_called (Some c) e = absurd (cc)

pub is_called : (o : Option Call) (i : Invocation) → Some i ≡ option_map (λ c. c.invocation) o → (c : Call) × (o ≡ Some c) × (c.invocation ≡ i)
is_called None i e = absurd (cc)
is_called (Some c) i e = (c, refl, cc)

pub same_run : (o : Option Run) (p q : Run) → o ≡ Some p → o ≡ Some q → p ≡ q
same_run o p q e f = cc

-- an instruction that calls nothing leads where its step leads
pub step_leads : (m : Loaded) (r p q : Run) (b : CodeBody) (x : Instr) → Some b ≡ body_at m r.top.invocation → Some x ≡ slice_get b.steps r.top.place → None ≡ option_map (λ c. c.invocation) (call x r.top)
    → stepped (step (length r.below + 1) x r.top) r.below ≡ Some p → moves m r ≡ Some q → p ≡ q
step_leads m r p q b x eb ex ec s e = same_run (stepped (step (length r.below + 1) x r.top) r.below) p q s (no_call m r q x (not_called (call x r.top) ec) (does m r q b x (sym eb) (sym ex) e))

pub step_goes : (m : Loaded) (r q : Run) (b : CodeBody) (x : Instr) → Some b ≡ body_at m r.top.invocation → Some x ≡ slice_get b.steps r.top.place → None ≡ option_map (λ c. c.invocation) (call x r.top)
    → moves m r ≡ Some q → stepped (step (length r.below + 1) x r.top) r.below ≡ Some q
step_goes m r q b x eb ex ec e = no_call m r q x (not_called (call x r.top) ec) (does m r q b x (sym eb) (sym ex) e)

-- a call leads to the body that it calls
pub call_goes : (m : Loaded) (r q : Run) (b : CodeBody) (x : Instr) (c : Call) (i : Invocation) → Some b ≡ body_at m r.top.invocation → Some x ≡ slice_get b.steps r.top.place → call x r.top ≡ Some c → c.invocation ≡ i
    → moves m r ≡ Some q → entering (body_at m i) c r.below ≡ Some q
call_goes m r q b x c i eb ex ec ei e = ap (λ i. entering (body_at m i) c r.below) (sym ei) ∙ enters m r q x c ec (does m r q b x (sym eb) (sym ex) e)

pub call_leads : (m : Loaded) (r p q : Run) (b d : CodeBody) (x : Instr) (i : Invocation) → Some b ≡ body_at m r.top.invocation → Some x ≡ slice_get b.steps r.top.place → Some i ≡ option_map (λ c. c.invocation) (call x r.top)
    → Some d ≡ body_at m i → ((c : Call) → call x r.top ≡ Some c → entering (Some d) c r.below ≡ Some p) → moves m r ≡ Some q → p ≡ q
call_leads m r p q b d x i eb ex ec ed enter e =
    let c = is_called (call x r.top) i ec in
    let f = call_goes m r q b x c.0 i eb ex c.1 c.2 e in
    same_run (entering (Some d) c.0 r.below) p q (enter c.0 c.1) (ap (λ o. entering o c.0 r.below) ed ∙ f)

pub call_has : (m : Loaded) (r q : Run) (b : CodeBody) (x : Instr) (i : Invocation) → Some b ≡ body_at m r.top.invocation → Some x ≡ slice_get b.steps r.top.place → Some i ≡ option_map (λ c. c.invocation) (call x r.top)
    → moves m r ≡ Some q → None ≡ body_at m i → ⊥
call_has m r q b x i eb ex ec e en =
    let c = is_called (call x r.top) i ec in
    let d = entered_there (body_at m i) c.0 r.below q (call_goes m r q b x c.0 i eb ex c.1 c.2 e) in
    let n : None ≡ Some d.0 = en ∙ d.1 in
    cc

pub body_has : (m : Loaded) (r q : Run) → moves m r ≡ Some q → None ≡ body_at m r.top.invocation → ⊥
body_has m r q e en = let b = body_there m r q e in let n : None ≡ Some b.0 = en ∙ b.1 in cc

pub instr_has : (m : Loaded) (r q : Run) (b : CodeBody) → Some b ≡ body_at m r.top.invocation → moves m r ≡ Some q → None ≡ slice_get b.steps r.top.place → ⊥
instr_has m r q b eb e en = let x = instr_there m r q b (sym eb) e in let n : None ≡ Some x.0 = en ∙ x.1 in cc

-- the body of a run is short enough
pub short : (m : Loaded) (r : Run) (b d : CodeBody) → Some b ≡ body_at m r.top.invocation → length b.steps < 2 ^ 64 → body_at m r.top.invocation ≡ Some d → length d.steps < 2 ^ 64
short m r b d eb lt ed = let same : b ≡ d = cc in subst (λ b. length b.steps < 2 ^ 64) same lt

-- a step of as many frames
pub step_there : (n k : ℕ) (x : Instr) (f : CallFrame) (fs : List CallFrame) (q : Run) → n ≡ k → stepped (step k x f) fs ≡ Some q → (s : Stepped) × (step n x f ≡ Some s)
step_there n k x f fs q en e = let s = stepped_there (step k x f) fs q e in (s.0, ap (λ n. step n x f) en ∙ s.1)
