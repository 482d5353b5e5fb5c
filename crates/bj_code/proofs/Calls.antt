-- What an instruction calls, and how it leaves the caller.
use Rattle.std.proofs.Common.{◌≡◌, ℕ, zero, suc, ◌+◌, ◌≤◌, List, [], ◌∷◌, length, take, drop, Option, Some, None, Bool, true, false, refl, sym, ap, ◌∙◌, arith}
use Rattle.std.specs.Prelude.{nat_eq, slice_get, if◌then◌else◌}
use Rattle.std.specs.Option.{option_map}
use Rattle.std.proofs.lemmas.Option.{cond_some}
use Rattle.std.proofs.lemmas.List.{length-drop}
use Rattle.bj_core.specs.declared.types.Ty.TheVariants as t
use Rattle.bj_core.specs.declared.types.Val.{Val}
use Rattle.bj_core.specs.declared.types.Val.TheVariants as v
use Rattle.bj_eval.specs.declared.invocation.Invocation.{Invocation}
use Rattle.bj_code.specs.declared.code.Instr.{Instr}
use Rattle.bj_code.specs.declared.code.Instr.TheVariants as i
use Rattle.bj_code.specs.declared.frame.CallFrame.{CallFrame}
use Rattle.bj_code.specs.Step.{next}
use Rattle.bj_code.specs.Calling.{Call, cut, special, virtual, call, argument_count, dropped_count, dispatched, invoked}

abbrev pub named : Option Call → Option Invocation
named = option_map (λ c. c.invocation)

-- what is called depends on the operand below the arguments alone
cut_at : (h : Option Val → Option Invocation) (n : ℕ) (vs : List Val) (g : List Val → List Val → Option Call) → (None ≡ h None)
    → ((taken : List Val) → named (g taken []) ≡ h None) → ((taken : List Val) (o : Val) (rest : List Val) → named (g taken (o ∷ rest)) ≡ h (Some o)) → named (cut n vs g) ≡ h (slice_get vs n)
cut_at h zero [] g none over some = over []
cut_at h zero (x ∷ rest) g none over some = some [] x rest
cut_at h (suc n) [] g none over some = none
cut_at h (suc n) (x ∷ rest) g none over some = cut_at h n rest (λ taken below. g (x ∷ taken) below) none (λ taken. over (x ∷ taken)) (λ taken. some (x ∷ taken))

pub special_calls : (class method count : ℕ) (f : CallFrame) → invoked class method (slice_get f.operands.values count) ≡ named (call (i.InvokeSpecial class method count) f)
special_calls class method count f = sym (cut_at (invoked class method) count f.operands.values (special class method f) refl (λ taken. refl) (λ taken o rest. refl))

virtual_of : (class method : ℕ) (f : CallFrame) (taken : List Val) (o : Val) (rest : List Val) → named (virtual class method f taken (o ∷ rest)) ≡ dispatched class method (Some o)
virtual_of class method f taken (v.Ref object (t.Class own)) rest = each (nat_eq own class)
  where
    each : (b : Bool) → named (if b then Some (record { invocation = record { class = class; method = method; this = v.Ref object (t.Class own) }; values = taken; caller = next f rest }) else None) ≡ (if b then Some (record { class = class; method = method; this = v.Ref object (t.Class own) }) else None)
    each true = refl
    each false = refl
virtual_of class method f taken other rest = refl

pub virtual_calls : (class method count : ℕ) (f : CallFrame) → dispatched class method (slice_get f.operands.values count) ≡ named (call (i.InvokeVirtual class method count) f)
virtual_calls class method count f = sym (cut_at (dispatched class method) count f.operands.values (virtual class method f) refl (λ taken. refl) (virtual_of class method f))

-- the arguments and what is left of the operands
cut_is : (n : ℕ) (vs : List Val) (g : List Val → List Val → Option Call) (c : Call) → cut n vs g ≡ Some c → (n ≤ length vs) × (g (take n vs) (drop n vs) ≡ Some c)
cut_is zero vs g c e = (omega arith, e)
cut_is (suc n) [] g c e = absurd (cc)
cut_is (suc n) (x ∷ rest) g c e = let more = cut_is n rest (λ taken below. g (x ∷ taken) below) c e in (omega (arith, more.0), more.1)

special_leaves : (class method : ℕ) (f : CallFrame) (taken below : List Val) (c : Call) → special class method f taken below ≡ Some c → (c.values ≡ taken) × (c.caller ≡ next f below)
special_leaves class method f taken [] c e = absurd (cc)
special_leaves class method f taken (o ∷ rest) c e =
    let same : record { invocation = record { class = class; method = method; this = o }; values = taken; caller = next f (o ∷ rest) } ≡ c = cc in
    (sym (ap (λ c. c.values) same), sym (ap (λ c. c.caller) same))

virtual_leaves : (class method : ℕ) (f : CallFrame) (taken below : List Val) (c : Call) → virtual class method f taken below ≡ Some c
    → (c.values ≡ taken) × (1 ≤ length below) × (c.caller ≡ next f (drop 1 below))
virtual_leaves class method f taken (v.Ref object (t.Class own) ∷ rest) c e =
    let same = cond_some (nat_eq own class) (record { invocation = record { class = class; method = method; this = v.Ref object (t.Class own) }; values = taken; caller = next f rest }) c e in
    (sym (ap (λ c. c.values) same.1), omega arith, sym (ap (λ c. c.caller) same.1))
virtual_leaves class method f taken other c e = absurd (cc)

drop_more : (n : ℕ) (vs : List Val) → drop 1 (drop n vs) ≡ drop (suc n) vs
drop_more zero vs = refl
drop_more (suc n) [] = refl
drop_more (suc n) (x ∷ rest) = drop_more n rest

pub call_leaves : (instr : Instr) (f : CallFrame) (c : Call) → call instr f ≡ Some c
    → (argument_count instr ≤ length f.operands.values) × (c.values ≡ take (argument_count instr) f.operands.values)
    × (dropped_count instr ≤ length f.operands.values) × (c.caller ≡ next f (drop (dropped_count instr) f.operands.values))
call_leaves (i.InvokeStart class method) f c e =
    let same : record { invocation = record { class = class; method = method; this = v.Null }; values = []; caller = next f f.operands.values } ≡ c = cc in
    (omega arith, sym (ap (λ c. c.values) same), omega arith, sym (ap (λ c. c.caller) same))
call_leaves (i.InvokeSpecial class method count) f c e =
    let parts = cut_is count f.operands.values (special class method f) c e in
    let left = special_leaves class method f (take count f.operands.values) (drop count f.operands.values) c parts.1 in
    (parts.0, left.0, parts.0, left.1)
call_leaves (i.InvokeVirtual class method count) f c e =
    let parts = cut_is count f.operands.values (virtual class method f) c e in
    let left = virtual_leaves class method f (take count f.operands.values) (drop count f.operands.values) c parts.1 in
    let len = length-drop count f.operands.values in
    let more : suc count ≡ count + 1 = omega arith in
    (parts.0, left.0, omega (arith, left.1, len), left.2 ∙ ap (next f) (drop_more count f.operands.values ∙ ap (λ n. drop n f.operands.values) more))
call_leaves other f c e = absurd (cc)
