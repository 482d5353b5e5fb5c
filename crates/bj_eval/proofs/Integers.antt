-- A typed expression of `int`s has the value that it should have.
use Rattle.std.proofs.Common.{◌≡◌, ℕ, zero, suc, ℤ, List, [], ◌∷◌, Some, None, true, refl, sym, ap, ◌∙◌, subst}
use Rattle.std.specs.Prelude.{slice_get}
use Rattle.bj_base.specs.declared.span.Span.{Span}
use Rattle.bj_core.specs.declared.types.Ty.{Ty}
use Rattle.bj_core.specs.declared.types.Ty.TheVariants as t
use Rattle.bj_core.specs.declared.types.Val.TheVariants as v
use Rattle.bj_core.specs.declared.frame.Term.{Term}
use Rattle.bj_core.specs.declared.program.Program.{Program}
use Rattle.bj_core.specs.declared.action.Action.TheVariants as act
use Rattle.bj_core.specs.declared.action.Answer.{Answer}
use Rattle.bj_core.specs.declared.action.Answer.TheVariants as answer
use Rattle.bj_core.specs.declared.action.Done.TheVariants as done
use Rattle.bj_base.specs.declared.op.Op.{Op}
use Rattle.bj_base.specs.declared.op.Op.TheVariants.{Add, Sub, Mul, Div, Rem, Shl, Shr, Ushr, And, Or, Xor}
use Rattle.bj_core.specs.declared.tree.Expr.{Expr}
use Rattle.bj_core.specs.declared.tree.Stmt.TheVariants.{Return}
use Rattle.bj_text.specs.Arith.{int_result, int_negated}
use Rattle.bj_eval.specs.declared.activation.Activation.{Activation}
use Rattle.bj_eval.specs.Frames.{frame_of, invocation_of_term, start_of}
use Rattle.bj_eval.specs.Evaluation.{Context, Gives, Returns, Went, on_value}
use Rattle.bj_eval.specs.Expressions.{expr, negated, computed, int_given}
use Rattle.bj_eval.specs.Statements.{stmt}
use Rattle.bj_eval.specs.Next.{asked, outcome_of, outermost, next_of}
use Rattle.bj_eval.specs.Typed.{HasTy, int_constant, long_constant, bool_constant, char_constant, local, this, int_negate, int_binary, get_field, set_field, call, new, IsObject, this_object, named_object, Scope, is_total}
use Rattle.bj_eval.specs.Values.{value_of, minus, both}
use Rattle.bj_eval.specs.Shapes.{IntNegate_is, IntBinary_is}

pub total_gives : (op : Op) (a b : ℤ) → is_total op ≡ true → (n : ℤ) × (int_result op a b ≡ Some n)
total_gives Add a b h = (_, refl)
total_gives Sub a b h = (_, refl)
total_gives Mul a b h = (_, refl)
total_gives Div a b h = absurd (cc)
total_gives Rem a b h = absurd (cc)
total_gives Shl a b h = (_, refl)
total_gives Shr a b h = (_, refl)
total_gives Ushr a b h = (_, refl)
total_gives And a b h = (_, refl)
total_gives Or a b h = (_, refl)
total_gives Xor a b h = (_, refl)

no_variable : (slot : ℕ) (ty : Ty) → slice_get [] slot ≡ Some ty → ⊥
no_variable zero ty e = cc
no_variable (suc slot) ty e = cc

no_object : {scope : Scope} {class : ℕ} {x : Expr} → scope.variables ≡ [] → scope.this ≡ None → IsObject scope class x → ⊥
no_object none no_this (this_object at there e) = cc
no_object {class = class} none no_this (named_object at slot there e) = no_variable slot (t.Class class) (ap (λ l. slice_get l slot) (sym none) ∙ there)

-- the value of an expression, and what evaluation does with it
pub record IsInt (x : Expr) (n : ℤ) : Type 0 where
  pub value : value_of x ≡ Some n
  pub goes : (c : Context) (s : Activation) (xs : List Answer) → expr c x s xs ≡ Went (Gives (v.Int n)) s xs

pub ints : {program : Program} {scope : Scope} {x : Expr} {ty : Ty} → HasTy program scope x ty → scope.variables ≡ [] → scope.this ≡ None → ty ≡ t.Int → (n : ℤ) × IsInt x n
ints (int_constant {a = a} at n e) none no_this int = (n, subst (λ a. IsInt a n) (sym e) (record { value = refl; goes = λ c s xs. refl }))
ints (long_constant at n e) none no_this int = absurd (cc)
ints (bool_constant at b e) none no_this int = absurd (cc)
ints (char_constant at u e) none no_this int = absurd (cc)
ints (local {ty = ty} at slot there e) none no_this int = absurd (no_variable slot ty (ap (λ l. slice_get l slot) (sym none) ∙ there))
ints (this at there e) none no_this int = absurd (cc)
ints (get_field at slot f object field e) none no_this int = absurd (no_object none no_this object)
ints (set_field at slot f object field h e) none no_this int = absurd (no_object none no_this object)
ints (call at method m in_term object ready there primitive hs e) none no_this int = absurd (no_object none no_this object)
ints (new at constructor m in_term ready there constructs hs e) none no_this int = absurd (cc)
ints (int_negate {a = a} {x = x} at h e) none no_this int =
    let i = ints h none no_this refl in (
      int_negated i.0,
      subst (λ a. IsInt a (int_negated i.0)) (sym (e ∙ IntNegate_is at x))
          (record { value = ap minus i.1.value; goes = λ c s xs. ap (λ r. on_value r negated) (i.1.goes c s xs) }),
    )
ints (int_binary {a = a} {x = x} {y = y} at op total hx hy e) none no_this int =
    let i = ints hx none no_this refl in
    let j = ints hy none no_this refl in
    let z = total_gives op i.0 j.0 total in (
      z.0,
      subst (λ a. IsInt a z.0) (sym (e ∙ IntBinary_is at op x y))
          (record {
            value = ap (λ o. both op o (value_of y)) i.1.value ∙ ap (both op (Some i.0)) j.1.value ∙ z.1;
            goes = λ c s xs.
                ap (λ r. on_value r (λ u s xs. on_value (expr c y s xs) (computed op u))) (i.1.goes c s xs)
                ∙ ap (λ r. on_value r (computed op (v.Int i.0))) (j.1.goes c s xs)
                ∙ ap (λ o. int_given o s xs) z.1;
          }),
    )

-- after its step point
pub value_last : (program : Program) (limit : ℕ) (term : Term) (at : Span) (x : Expr) (scope : Scope) → term.body ≡ Return at (Some x) → scope.variables ≡ [] → scope.this ≡ None → HasTy program scope x t.Int
    → (n : ℤ) × (value_of x ≡ Some n) × (next_of program limit term (answer.Done ∷ []) ≡ Some (record { action = act.End (done.Value (v.Int n)); frames = frame_of invocation_of_term (start_of term) ∷ [] }))
value_last program limit term at x scope e none no_this h =
    let i = ints h none no_this refl in (
      i.0,
      i.1.value,
      ap (λ b. asked (outcome_of (stmt (outermost program limit) b (start_of term) (answer.Done ∷ [])))) e
          ∙ ap (λ r. asked (outcome_of (on_value r (λ u. Went (Returns (Some u)))))) (i.1.goes (outermost program limit) (start_of term) []),
    )
