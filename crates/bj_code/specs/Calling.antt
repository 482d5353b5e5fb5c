-- What an instruction does that calls a body.
use Rattle.std.specs.Prelude.{ℕ, zero, suc, ◌+◌, List, [], ◌∷◌, Option, Some, None, nat_eq, if◌then◌else◌}
use Rattle.bj_core.specs.declared.types.Ty.TheVariants as t
use Rattle.bj_core.specs.declared.types.Val.{Val}
use Rattle.bj_core.specs.declared.types.Val.TheVariants as v
use Rattle.bj_eval.specs.declared.invocation.Invocation.{Invocation}
use Rattle.bj_code.specs.declared.code.Instr.{Instr}
use Rattle.bj_code.specs.declared.code.Instr.TheVariants as i
use Rattle.bj_code.specs.declared.frame.CallFrame.{CallFrame}
use Rattle.bj_code.specs.Step.{next}

-- what is called, the values of its parameters, the last one first, and the caller as it goes on
pub record Call : Type 0 where
  pub invocation : Invocation
  pub values : List Val
  pub caller : CallFrame

-- the topmost operands, and those below them
abbrev pub cut : ℕ → List Val → (List Val → List Val → Option Call) → Option Call
cut zero vs f = f [] vs
cut (suc n) [] f = None
cut (suc n) (x ∷ rest) f = cut n rest (λ taken below. f (x ∷ taken) below)

-- a constructor of the object, which stays
abbrev pub special : ℕ → ℕ → CallFrame → List Val → List Val → Option Call
special class method f taken [] = None
special class method f taken (o ∷ rest) = Some (record { invocation = record { class = class; method = method; this = o }; values = taken; caller = next f (o ∷ rest) })

-- a method of the object, whose own class declares it
abbrev pub virtual : ℕ → ℕ → CallFrame → List Val → List Val → Option Call
virtual class method f taken (v.Ref object (t.Class own) ∷ rest) =
    if nat_eq own class then Some (record { invocation = record { class = class; method = method; this = v.Ref object (t.Class own) }; values = taken; caller = next f rest }) else None
virtual class method f taken below = None

-- one instruction that calls; None: it calls nothing, or an operand is missing or of the wrong kind
abbrev pub call : Instr → CallFrame → Option Call
call (i.InvokeStart class method) f = Some (record { invocation = record { class = class; method = method; this = v.Null }; values = []; caller = next f f.operands.values })
call (i.InvokeSpecial class method count) f = cut count f.operands.values (special class method f)
call (i.InvokeVirtual class method count) f = cut count f.operands.values (virtual class method f)
call other f = None

-- the method of an object, where its own class declares it
abbrev pub dispatched : ℕ → ℕ → Option Val → Option Invocation
dispatched class method (Some (v.Ref object (t.Class own))) = if nat_eq own class then Some (record { class = class; method = method; this = v.Ref object (t.Class own) }) else None
dispatched class method other = None

-- a method or constructor of an object
abbrev pub invoked : ℕ → ℕ → Option Val → Option Invocation
invoked class method (Some o) = Some (record { class = class; method = method; this = o })
invoked class method None = None

-- how many arguments a call has, and how many operands it takes off
abbrev pub argument_count : Instr → ℕ
argument_count (i.InvokeSpecial class method count) = count
argument_count (i.InvokeVirtual class method count) = count
argument_count other = 0

abbrev pub dropped_count : Instr → ℕ
dropped_count (i.InvokeSpecial class method count) = count
dropped_count (i.InvokeVirtual class method count) = count + 1
dropped_count other = 0
