-- What one instruction does to a call frame.
use Rattle.std.specs.Prelude.{ℕ, ◌+◌, ℤ, List, [], ◌∷◌, length, Option, Some, None, true, nat_lt, if◌then◌else◌, slice_get}
use Rattle.bj_core.specs.declared.types.Val.{Val}
use Rattle.bj_core.specs.declared.types.Val.TheVariants as v
use Rattle.bj_core.specs.declared.action.Action.{Action}
use Rattle.bj_core.specs.declared.action.Action.TheVariants as act
use Rattle.bj_core.specs.declared.action.Answer.{Answer}
use Rattle.bj_core.specs.declared.action.Answer.TheVariants as answer
use Rattle.bj_text.specs.Arith.{int_result, int_negated}
use Rattle.bj_eval.specs.declared.activation.Variable.{Variable}
use Rattle.bj_eval.specs.Evaluation.{at_line}
use Rattle.bj_code.specs.declared.code.Instr.{Instr}
use Rattle.bj_code.specs.declared.code.Instr.TheVariants as i
use Rattle.bj_code.specs.declared.frame.CallFrame.{CallFrame}
use Rattle.bj_code.specs.declared.stepping.Effect.{Effect}
use Rattle.bj_code.specs.declared.stepping.Effect.TheVariants as effect

-- an effect, and the frame then
pub record Stepped : Type 0 where
  pub effect : Effect
  pub frame : CallFrame

-- the frame at a place, with these operands
abbrev pub placed : CallFrame → ℕ → List Val → CallFrame
placed f place vs = record { invocation = f.invocation; activation = f.activation; place = place; operands = record { values = vs; room = f.operands.room } }

-- the frame before the next instruction, with these operands
abbrev pub next : CallFrame → List Val → CallFrame
next f vs = placed f (f.place + 1) vs

abbrev pub goes_on : CallFrame → Option Stepped
goes_on f = Some (record { effect = effect.Moves; frame = f })

-- a value more, where there is room for it
abbrev pub pushed : Val → CallFrame → Option Stepped
pushed x f = if nat_lt (length f.operands.values) f.operands.room then goes_on (next f (x ∷ f.operands.values)) else None

abbrev pub loaded_with : Option Val → CallFrame → Option Stepped
loaded_with (Some x) f = pushed x f
loaded_with None f = None

-- the value of a variable
abbrev pub loaded : Option Variable → CallFrame → Option Stepped
loaded (Some x) f = loaded_with x.value f
loaded None f = None

abbrev pub popped : List Val → CallFrame → Option Stepped
popped (x ∷ rest) f = goes_on (next f rest)
popped [] f = None

abbrev pub negated : List Val → CallFrame → Option Stepped
negated (v.Int n ∷ rest) f = goes_on (next f (v.Int (int_negated n) ∷ rest))
negated vs f = None

abbrev pub given : Option ℤ → List Val → CallFrame → Option Stepped
given (Some n) rest f = goes_on (next f (v.Int n ∷ rest))
given None rest f = None

abbrev pub operated : List Val → (ℤ → ℤ → Option ℤ) → CallFrame → Option Stepped
operated (v.Int b ∷ v.Int a ∷ rest) op f = given (op a b) rest f
operated vs op f = None

-- an action is wanted, and the frame goes on with its answer
abbrev pub asking : Action → CallFrame → Option Stepped
asking a f = Some (record { effect = effect.Asks a; frame = f })

-- a step point, in a thread with so many frames
abbrev pub reached : ℕ → ℕ → CallFrame → Option Stepped
reached depth line f =
    asking (act.Point (record { class = f.invocation.class; line = line; depth = depth }))
    (record { invocation = f.invocation; activation = at_line f.activation line; place = f.place + 1; operands = f.operands })

abbrev pub got : List Val → ℕ → CallFrame → Option Stepped
got (v.Ref object of ∷ rest) slot f = asking (act.Get (v.Ref object of) slot) (next f rest)
got vs slot f = None

abbrev pub put : List Val → ℕ → CallFrame → Option Stepped
put (x ∷ v.Ref object of ∷ rest) slot f = asking (act.Put (v.Ref object of) slot x) (next f (x ∷ rest))
put vs slot f = None

abbrev pub left_with : List Val → CallFrame → Option Stepped
left_with (x ∷ rest) f = Some (record { effect = effect.Leaves (Some x); frame = placed f f.place rest })
left_with [] f = None

-- one instruction that calls nothing, in a thread with so many frames; a frame that asks stands behind the instruction
-- already. None: an operand is missing, is of the wrong kind, or is one too many, or the instruction is a call
abbrev pub step : ℕ → Instr → CallFrame → Option Stepped
step depth (i.Push x) f = pushed x f
step depth (i.Load slot) f = loaded (slice_get f.activation.variables slot) f
step depth i.This f = pushed f.invocation.this f
step depth i.Pop f = popped f.operands.values f
step depth i.IntNegate f = negated f.operands.values f
step depth (i.IntBinary op) f = operated f.operands.values (int_result op) f
step depth (i.Point line) f = reached depth line f
step depth (i.GetField slot) f = got f.operands.values slot f
step depth (i.PutField slot) f = put f.operands.values slot f
step depth (i.InitBegin class) f = asking (act.InitBegin class) (next f f.operands.values)
step depth (i.InitEnd class) f = asking (act.InitEnd class true) (next f f.operands.values)
step depth (i.Make class) f = asking (act.Make class) (next f f.operands.values)
step depth (i.InvokeStart class method) f = None
step depth (i.InvokeSpecial class method count) f = None
step depth (i.InvokeVirtual class method count) f = None
step depth i.ReturnValue f = left_with f.operands.values f
step depth i.ReturnNothing f = Some (record { effect = effect.Leaves None; frame = f })

-- a value more in a frame that goes on, where there is room for it
abbrev pub given_back : Val → CallFrame → Option CallFrame
given_back x f = if nat_lt (length f.operands.values) f.operands.room then Some (placed f f.place (x ∷ f.operands.values)) else None

-- the frame after the answer to an action that it asked for
abbrev pub resumed : Action → Answer → CallFrame → Option CallFrame
resumed (act.Point p) answer.Done f = Some f
resumed (act.Get object slot) (answer.Value x) f = given_back x f
resumed (act.Put object slot x) answer.Done f = Some f
resumed (act.Make class) (answer.Value x) f = given_back x f
resumed (act.InitBegin class) answer.Ready f = Some (placed f (f.place + 2) f.operands.values)
resumed (act.InitBegin class) answer.Go f = Some f
resumed (act.InitEnd class ok) answer.Done f = Some f
resumed a x f = None
