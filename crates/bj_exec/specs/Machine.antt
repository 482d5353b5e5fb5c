-- What a thread does with its code.
use Rattle.std.specs.Prelude.{ℕ, zero, suc, ◌+◌, List, [], ◌∷◌, length, map, drop, reverse, Option, Some, None, Bool, true, false, nat_eq, nat_lt, if◌then◌else◌, slice_get}
use Rattle.bj_core.specs.declared.types.Val.{Val}
use Rattle.bj_core.specs.declared.frame.Frame.{Frame}
use Rattle.bj_core.specs.declared.action.Action.{Action}
use Rattle.bj_core.specs.declared.action.Action.TheVariants as act
use Rattle.bj_core.specs.declared.action.Answer.{Answer}
use Rattle.bj_core.specs.declared.action.Answer.TheVariants as answer
use Rattle.bj_core.specs.declared.action.Done.{Done}
use Rattle.bj_core.specs.declared.action.Done.TheVariants as done
use Rattle.bj_eval.specs.declared.invocation.Invocation.{Invocation}
use Rattle.bj_eval.specs.Frames.{frame_of, activation, no_class}
use Rattle.bj_eval.specs.Next.{Outcome, Asks, Over, Lost, Misfit}
use Rattle.bj_code.specs.declared.code.Instr.{Instr}
use Rattle.bj_code.specs.declared.code.Instr.TheVariants as i
use Rattle.bj_code.specs.declared.code.Code.{Code}
use Rattle.bj_code.specs.declared.code.CodeBody.{CodeBody}
use Rattle.bj_code.specs.declared.frame.CallFrame.{CallFrame}
use Rattle.bj_code.specs.declared.stepping.Effect.{Effect}
use Rattle.bj_code.specs.declared.stepping.Effect.TheVariants as effect
use Rattle.bj_code.specs.Step.{Stepped, placed, step, given_back, resumed}
use Rattle.bj_code.specs.Calling.{Call, call}
use Rattle.bj_exec.specs.declared.run.Want.{Want}
use Rattle.bj_exec.specs.declared.run.Want.TheVariants as want
use Rattle.bj_exec.specs.declared.run.Run.{Run}
use Rattle.bj_exec.specs.declared.thread.Thread.{Thread}

-- what a thread runs: the code of the program, that of its term, and how many frames it may have
pub record Loaded : Type 0 where
  pub code : Code
  pub term : CodeBody
  pub limit : ℕ

-- the frame that a debugger shows
abbrev pub frame_shown : CallFrame → Frame
frame_shown f = frame_of f.invocation f.activation

-- the frames that a debugger shows, the newest first
abbrev pub shown : Run → List Frame
shown r = frame_shown r.top ∷ map frame_shown r.below

abbrev pub frames_of : Thread → List Frame
frames_of t = shown t.run

abbrev pub wanting : Want → CallFrame → List CallFrame → Run
wanting w f fs = record { want = w; top = f; below = fs }

-- how a term is over that is left with a value or without
abbrev pub done_with : Option Val → Done
done_with None = done.Nothing
done_with (Some v) = done.Value v

-- the frame of a term that is over
abbrev pub at_rest : CallFrame → CallFrame
at_rest f = placed f 0 []

abbrev pub resumes : Option CallFrame → List CallFrame → Option Run
resumes None fs = None
resumes (Some f) fs = Some (wanting want.Move f fs)

-- the body is left: the term is over, or the caller goes on, with the value if there is one
abbrev pub left : Option Val → CallFrame → List CallFrame → Option Run
left o f [] = Some (wanting (want.Over (done_with o)) (at_rest f) [])
left None f (g ∷ gs) = Some (wanting want.Move g gs)
left (Some x) f (g ∷ gs) = resumes (given_back x g) gs

-- a throwable goes through all frames, since nothing catches it yet: the term is over
abbrev pub threw : Val → CallFrame → List CallFrame → Run
threw x f [] = wanting (want.Over (done.Threw x)) (at_rest f) []
threw x f (g ∷ gs) = threw x g gs

abbrev pub affected : Effect → CallFrame → List CallFrame → Option Run
affected effect.Moves f fs = Some (wanting want.Move f fs)
affected (effect.Asks a) f fs = Some (wanting (want.Do a) f fs)
affected (effect.Leaves o) f fs = left o f fs

abbrev pub stepped : Option Stepped → List CallFrame → Option Run
stepped None fs = None
stepped (Some s) fs = affected s.effect s.frame fs

abbrev pub method_body : Option (List CodeBody) → ℕ → Option CodeBody
method_body None method = None
method_body (Some bodies) method = slice_get bodies method

-- the code of a body: that of the term, or one of the program
abbrev pub body_at : Loaded → Invocation → Option CodeBody
body_at m i = if nat_eq i.class no_class then Some m.term else method_body (slice_get m.code.methods i.class) i.method

-- the frame of a body that is called
abbrev pub called_frame : CodeBody → Call → CallFrame
called_frame b c = record { invocation = c.invocation; activation = activation b.entry b.params (reverse c.values); place = 0; operands = record { values = []; room = b.depth } }

abbrev pub entering : Option CodeBody → Call → List CallFrame → Option Run
entering None c fs = None
entering (Some b) c fs = Some (wanting want.Move (called_frame b c) (c.caller ∷ fs))

-- a body is called, where one frame more may be made
abbrev pub called : Loaded → Option Call → List CallFrame → Option Run
called m None fs = None
called m (Some c) fs = if nat_lt (length fs + 1) m.limit then entering (body_at m c.invocation) c fs else None

abbrev pub is_call : Instr → Bool
is_call (i.InvokeStart class method) = true
is_call (i.InvokeSpecial class method count) = true
is_call (i.InvokeVirtual class method count) = true
is_call other = false

abbrev pub done_by : Loaded → Option Instr → CallFrame → List CallFrame → Option Run
done_by m None f fs = None
done_by m (Some i) f fs = if is_call i then called m (call i f) fs else stepped (step (length fs + 1) i f) fs

abbrev pub instr_in : Option CodeBody → ℕ → Option Instr
instr_in None place = None
instr_in (Some b) place = slice_get b.steps place

-- one instruction
abbrev pub moves : Loaded → Run → Option Run
moves m r = done_by m (instr_in (body_at m r.top.invocation) r.top.place) r.top r.below

abbrev pub raised : Answer → Run → Option Run
raised (answer.Value x) r = Some (threw x r.top r.below)
raised other r = None

-- whether an action makes what is then thrown
abbrev pub is_raise : Action → Bool
is_raise (act.Raise class message) = true
is_raise a = false

-- the class of what is raised after an answer, if it is one that throws
abbrev pub class_thrown : Answer → Option ℕ
class_thrown (answer.Thrown class) = Some class
class_thrown x = None

-- one answer; after one that throws, the thread wants a throwable of that class
abbrev pub answered : Action → Answer → Run → Option Run
answered (act.Raise class message) x r = raised x r
answered a (answer.Thrown class) r = Some (wanting (want.Do (act.Raise class None)) r.top r.below)
answered a x r = resumes (resumed a x r.top) r.below

-- the answers that are of the kind that an action takes
abbrev pub accepts : Action → Answer → Bool
accepts (act.Point p) answer.Done = true
accepts (act.Get object slot) (answer.Value x) = true
accepts (act.Put object slot x) answer.Done = true
accepts (act.Make class) (answer.Value x) = true
accepts (act.Make class) (answer.Thrown k) = true
accepts (act.InitBegin class) answer.Ready = true
accepts (act.InitBegin class) answer.Go = true
accepts (act.InitEnd class ok) answer.Done = true
accepts (act.Raise class message) (answer.Value x) = true
accepts a x = false

abbrev pub going : Option Run → (Run → Outcome) → Outcome
going None f = Lost
going (Some r) f = f r

abbrev pub acting : Loaded → (Run → List Answer → Outcome) → Want → Run → List Answer → Outcome
acting m on want.Move r xs = going (moves m r) (λ r. on r xs)
acting m on (want.Do a) r [] = Asks a (shown r)
acting m on (want.Do a) r (x ∷ xs) = if accepts a x then going (answered a x r) (λ r. on r xs) else Misfit
acting m on (want.Over d) r [] = Over d (shown r)
acting m on (want.Over d) r (x ∷ xs) = Lost

-- at most n instructions and answers
abbrev pub exec : Loaded → ℕ → Run → List Answer → Outcome
exec m zero r xs = Lost
exec m (suc n) r xs = acting m (exec m n) r.want r xs

-- how many instructions stand before the next that asks for an action or leaves the body; a call counts for two, since the
-- body that is called asks or is left at once, and the caller's frame counts for one then
abbrev pub plain_ahead : List Instr → ℕ
plain_ahead [] = 0
plain_ahead (i.Push v ∷ rest) = plain_ahead rest + 1
plain_ahead (i.Load slot ∷ rest) = plain_ahead rest + 1
plain_ahead (i.This ∷ rest) = plain_ahead rest + 1
plain_ahead (i.Pop ∷ rest) = plain_ahead rest + 1
plain_ahead (i.IntNegate ∷ rest) = plain_ahead rest + 1
plain_ahead (i.IntBinary op ∷ rest) = plain_ahead rest + 1
plain_ahead (i.Point line ∷ rest) = 0
plain_ahead (i.GetField slot ∷ rest) = 0
plain_ahead (i.PutField slot ∷ rest) = 0
plain_ahead (i.InitBegin class ∷ rest) = 0
plain_ahead (i.InitEnd class ∷ rest) = 0
plain_ahead (i.Make class ∷ rest) = 0
plain_ahead (i.InvokeStart class method ∷ rest) = plain_ahead rest + 2
plain_ahead (i.InvokeSpecial class method count ∷ rest) = plain_ahead rest + 2
plain_ahead (i.InvokeVirtual class method count ∷ rest) = plain_ahead rest + 2
plain_ahead (i.ReturnValue ∷ rest) = 0
plain_ahead (i.ReturnNothing ∷ rest) = 0

abbrev pub plain_in : Option CodeBody → ℕ → ℕ
plain_in None place = 0
plain_in (Some b) place = plain_ahead (drop place b.steps)

abbrev pub ahead_of : Loaded → CallFrame → ℕ
ahead_of m f = plain_in (body_at m f.invocation) f.place + 1

abbrev pub ahead_below : Loaded → List CallFrame → ℕ
ahead_below m [] = 0
ahead_below m (f ∷ fs) = ahead_of m f + ahead_below m fs

abbrev pub ahead : Loaded → Want → Run → ℕ
ahead m want.Move r = ahead_of m r.top + ahead_below m r.below
ahead m (want.Do a) r = 0
ahead m (want.Over d) r = 0

abbrev pub loaded : Code → Thread → Loaded
loaded code t = record { code = code; term = t.body; limit = t.limit }

-- how many instructions the thread does at most before it wants an action or is over
abbrev pub moves_left : Code → Thread → ℕ
moves_left code t = ahead (loaded code t) t.run.want t.run
