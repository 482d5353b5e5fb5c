-- The terms of lines are typed over the program that is loaded.
use Rattle.std.proofs.Common.{◌≡◌, ◌⊎◌, ℕ, true, List, Option, Some, None, inl, inr, refl, sym, subst, ◌∙◌}
use Rattle.std.specs.Prelude.{◌↔◌}
use Rattle.bj_core.specs.declared.frame.Term.{Term}
use Rattle.bj_core.specs.declared.program.Program.{Program}
use Rattle.bj_core.specs.declared.tree.Expr.{Expr}
use Rattle.bj_base.specs.declared.op.Op.{Op}
use Rattle.bj_base.specs.declared.op.Op.TheVariants.{Add, Sub, Mul}
use Rattle.bj_base.specs.declared.span.Span.{Span}
use Rattle.bj_core.specs.declared.types.Ty.TheVariants as t
use Rattle.bj_core.specs.declared.types.Val.{Val}
use Rattle.bj_core.specs.declared.types.Val.TheVariants as val
use Rattle.bj_eval.specs.Terms.{StandsFor}
use Rattle.bj_eval.specs.Typed.{HasTy, IsProgram, IsTyped, Scope, int_constant, int_negate, int_binary, is_total, return_value, scope_of}
use Rattle.bj_builtin.specs.Builtin.{builtin}
use Rattle.bj_builtin.specs.Console.{new_cell, call_add, call_get}
use Rattle.bj_sum.specs.declared.cells.CellCall.{CellCall}
use Rattle.bj_sum.specs.declared.cells.CellCall.TheVariants as call
use Rattle.bj_sum.specs.Cells.{IsCreation, creation_of}
use Rattle.bj_sum.specs.Reading.{sum_of}
use Rattle.bj_sum.specs.Sums.{IsSum, constant, negation, operation}
use Rattle.bj_history.specs.History.{loaded}
use Rattle.bj_history.specs.Replies.{call_term, cell_in, local, new_term, pad_term}
use Rattle.bj_reply.proofs.Forms.{cell_is}
use Rattle.bj_reply.specs.Asking.{HasSum, IsSumIfAny}

-- the operators of sums give a value for all operands
total : (o : Op) → (o ≡ Add) ⊎ ((o ≡ Sub) ⊎ (o ≡ Mul)) → is_total o ≡ true
total o which = elim which [ inl is ↦ rw is refl | inr other ↦ elim other [ inl is ↦ rw is refl | inr is ↦ rw is refl ] ]

-- a sum is an expression of type `int`
sum_typed : (program : Program) (scope : Scope) (e : Expr) → IsSum e → HasTy program scope e t.Int
sum_typed program scope e (constant {at = at} {v = v} same) = int_constant at v same
sum_typed program scope e (negation {x = x} {at = at} operand same) = int_negate at (sum_typed program scope x operand) same
sum_typed program scope e (operation {l = l} {r = r} {at = at} {o = o} left right which same) = int_binary at o (total o which) (sum_typed program scope l left) (sum_typed program scope r right) same

-- the program that is loaded is the built-in one
pub is_loaded : loaded ≡ builtin
unfolding loaded
is_loaded = refl

-- what is typed over the built-in program is typed over the one that is loaded
over_loaded : (program : Program) (term : Term) → program ≡ loaded → IsTyped builtin term → IsTyped program term
over_loaded program term same typed = subst (λ (p : Program). IsTyped p term) (sym (same ∙ is_loaded)) typed

-- the term of a codepad line is typed
pub pad_typed : (program : Program) (e : Expr) → program ≡ loaded → IsProgram builtin → IsSum e → IsTyped program (pad_term e)
pad_typed program e same is_program sum =
    over_loaded program (pad_term e) same (record { is_program = is_program; body = return_value (record { line = 1; column = 1 }) (sum_typed builtin _ e sum) refl })

-- how creations of Cell are typed
abbrev pub TypesCells : Type 0
TypesCells = (term : Term) (at : Span) (x : Expr) → term.body ≡ new_cell at x → term.gives ≡ t.Class 5 → HasTy builtin (scope_of term) x t.Int → IsTyped builtin term

-- the argument of a creation that was read is a sum
pub sum_if_any : (text : List ℕ) (e : Option Expr) → e ≡ creation_of text → ((text : List ℕ) (argument : Expr) → (creation_of text ≡ Some argument) ↔ IsCreation text argument)
    → ((text : List ℕ) (e : Expr) → sum_of text ≡ Some e → IsSum e) → IsSumIfAny e
sum_if_any text None same creations sums = tt
sum_if_any text (Some e) same creations sums = let creation = (creations text e).0 (sym same) in sums creation.inner e creation.reads

-- the term of `new` is typed
pub new_typed : (program : Program) (name : List ℕ) (e : Expr) → program ≡ loaded → TypesCells → IsSum e → IsTyped program (new_term name e)
new_typed program name e same law sum = over_loaded program (new_term name e) same (law (new_term name e) _ e refl refl (sum_typed builtin _ e sum))

-- how `add` and `get` are typed
abbrev pub TypesAdds : Type 0
TypesAdds = (term : Term) (at : Span) (c object : ℕ) (x : Expr) → StandsFor term c (val.Ref object (t.Class 5)) → term.body ≡ call_add at c x → term.gives ≡ t.Int
    → HasTy builtin (scope_of term) x t.Int → IsTyped builtin term

abbrev pub TypesGets : Type 0
TypesGets = (term : Term) (at : Span) (c object : ℕ) → StandsFor term c (val.Ref object (t.Class 5)) → term.body ≡ call_get at c → term.gives ≡ t.Int → IsTyped builtin term

-- the term of a call on an object of `Cell` is typed over the built-in program
on_cell : (call : CellCall) (object : ℕ) → TypesAdds → TypesGets → HasSum call → IsTyped builtin (call_term call (val.Ref object (t.Class 5)))
on_cell (call.Add name e) object adds gets sum =
    adds (call_term (call.Add name e) (val.Ref object (t.Class 5))) _ 0 object e (local name (val.Ref object (t.Class 5)), refl, refl) refl refl (sum_typed builtin _ e sum)
on_cell (call.Get name) object adds gets sum =
    gets (call_term (call.Get name) (val.Ref object (t.Class 5))) _ 0 object (local name (val.Ref object (t.Class 5)), refl, refl) refl refl

-- the term of a call on what stands for an object of `Cell` is typed
pub call_typed : (program : Program) (call : CellCall) (v : Option Val) (object : Val) → program ≡ loaded → TypesAdds → TypesGets → cell_in v ≡ Some object → HasSum call
    → IsTyped program (call_term call object)
call_typed program call v object same adds gets cell sum =
    let (number, is) = cell_is v object cell in
    over_loaded program (call_term call object) same (subst (λ (x : Val). IsTyped builtin (call_term call x)) (sym is) (on_cell call number adds gets sum))
