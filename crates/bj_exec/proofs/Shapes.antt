-- What one instruction that calls nothing does to a run: it moves on, asks, or leaves the body.
use Rattle.std.proofs.Common.{◌≡◌, ℕ, ◌+◌, ℤ, List, [], ◌∷◌, length, Option, Some, None, Bool, true, false, refl}
use Rattle.std.specs.Prelude.{slice_get, nat_lt, if◌then◌else◌}
use Rattle.bj_core.specs.declared.types.Val.{Val}
use Rattle.bj_core.specs.declared.types.Val.TheVariants as val
use Rattle.bj_core.specs.declared.action.Action.{Action}
use Rattle.bj_text.specs.Arith.{int_negated}
use Rattle.bj_eval.specs.declared.activation.Variable.{Variable}
use Rattle.bj_code.specs.declared.code.Instr.{Instr}
use Rattle.bj_code.specs.declared.code.Instr.TheVariants as ins
use Rattle.bj_code.specs.declared.frame.CallFrame.{CallFrame}
use Rattle.bj_code.specs.Step.{placed, next, step, goes_on, pushed, loaded, loaded_with, popped, negated, operated, given, got, put, left_with}
use Rattle.bj_exec.specs.declared.run.Want.TheVariants as want
use Rattle.bj_exec.specs.declared.run.Run.{Run}
use Rattle.bj_exec.specs.Machine.{wanting, left, stepped, plain_ahead}

-- an instruction that only moves on counts
abbrev Counts : Instr → Type 0
Counts x = (rest : List Instr) → plain_ahead (x ∷ rest) ≡ plain_ahead rest + 1

-- where an instruction leads from a frame over frames
pub data Shape (x : Instr) (f : CallFrame) (fs : List CallFrame) (o : Option Run) : Type 0 where
  stuck : o ≡ None → Shape x f fs o
  moved : (vs : List Val) → Counts x → o ≡ Some (wanting want.Move (next f vs) fs) → Shape x f fs o
  asked : (a : Action) (g : CallFrame) → g.invocation ≡ f.invocation → g.place ≡ f.place + 1 → o ≡ Some (wanting (want.Do a) g fs) → Shape x f fs o
  gone : (u : Option Val) (g : CallFrame) → o ≡ left u g fs → Shape x f fs o

module _ (f : CallFrame) (fs : List CallFrame) where
  push_shape : (x : Instr) (u : Val) → Counts x → Shape x f fs (stepped (pushed u f) fs)
  push_shape x u n = by_room (nat_lt (length f.operands.values) f.operands.room) refl
    where
      by_room : (b : Bool) → nat_lt (length f.operands.values) f.operands.room ≡ b → Shape x f fs (stepped (if b then goes_on (next f (u ∷ f.operands.values)) else None) fs)
      by_room true e = moved (u ∷ f.operands.values) n refl
      by_room false e = stuck refl

  load_shape : (slot : ℕ) (o : Option Variable) → Shape (ins.Load slot) f fs (stepped (loaded o f) fs)
  load_shape slot None = stuck refl
  load_shape slot (Some v) = with_value v.value
    where
      with_value : (o : Option Val) → Shape (ins.Load slot) f fs (stepped (loaded_with o f) fs)
      with_value None = stuck refl
      with_value (Some u) = push_shape (ins.Load slot) u (λ rest. refl)

  pop_shape : (vs : List Val) → Shape ins.Pop f fs (stepped (popped vs f) fs)
  pop_shape [] = stuck refl
  pop_shape (u ∷ vs) = moved vs (λ rest. refl) refl

  negate_shape : (vs : List Val) → Shape ins.IntNegate f fs (stepped (negated vs f) fs)
  negate_shape (val.Int n ∷ vs) = moved (val.Int (int_negated n) ∷ vs) (λ rest. refl) refl
  negate_shape vs = stuck refl

  given_shape : (op : _) (o : Option ℤ) (vs : List Val) → Shape (ins.IntBinary op) f fs (stepped (given o vs f) fs)
  given_shape op None vs = stuck refl
  given_shape op (Some n) vs = moved (val.Int n ∷ vs) (λ rest. refl) refl

  binary_shape : (op : _) (g : ℤ → ℤ → Option ℤ) (vs : List Val) → Shape (ins.IntBinary op) f fs (stepped (operated vs g f) fs)
  binary_shape op g (val.Int b ∷ (val.Int a ∷ vs)) = given_shape op (g a b) vs
  binary_shape op g vs = stuck refl

  got_shape : (slot : ℕ) (vs : List Val) → Shape (ins.GetField slot) f fs (stepped (got vs slot f) fs)
  got_shape slot (val.Ref object of ∷ vs) = asked _ (next f vs) refl refl refl
  got_shape slot vs = stuck refl

  put_shape : (slot : ℕ) (vs : List Val) → Shape (ins.PutField slot) f fs (stepped (put vs slot f) fs)
  put_shape slot (u ∷ (val.Ref object of ∷ vs)) = asked _ (next f (u ∷ vs)) refl refl refl
  put_shape slot vs = stuck refl

  leave_shape : (vs : List Val) → Shape ins.ReturnValue f fs (stepped (left_with vs f) fs)
  leave_shape [] = stuck refl
  leave_shape (u ∷ vs) = gone (Some u) (placed f f.place vs) refl

  pub shape : (n : ℕ) (x : Instr) → Shape x f fs (stepped (step n x f) fs)
  shape n (ins.Push u) = push_shape (ins.Push u) u (λ rest. refl)
  shape n (ins.Load slot) = load_shape slot (slice_get f.activation.variables slot)
  shape n ins.This = push_shape ins.This f.invocation.this (λ rest. refl)
  shape n ins.Pop = pop_shape f.operands.values
  shape n ins.IntNegate = negate_shape f.operands.values
  shape n (ins.IntBinary op) = binary_shape op _ f.operands.values
  shape n (ins.Point line) = asked _ _ refl refl refl
  shape n (ins.GetField slot) = got_shape slot f.operands.values
  shape n (ins.PutField slot) = put_shape slot f.operands.values
  shape n (ins.InitBegin class) = asked _ (next f f.operands.values) refl refl refl
  shape n (ins.InitEnd class) = asked _ (next f f.operands.values) refl refl refl
  shape n (ins.Make class) = asked _ (next f f.operands.values) refl refl refl
  shape n (ins.InvokeStart class method) = stuck refl
  shape n (ins.InvokeSpecial class method count) = stuck refl
  shape n (ins.InvokeVirtual class method count) = stuck refl
  shape n ins.ReturnValue = leave_shape f.operands.values
  shape n ins.ReturnNothing = gone None f refl
