-- What tests run on a machine: its program has no field of type void, and the terms are typed.
use Rattle.std.proofs.Common.{arith, ◌≡◌, ℕ, zero, suc, ℤ, List, [], ◌∷◌, ◌++◌, Result, Ok, Err, ap, ◌∙◌}
use Rattle.std.specs.Prelude.{IfOk, All, ◌<◌, length, slice_index_or}
use Rattle.bj_core.specs.declared.program.Class.{Class}
use Rattle.bj_core.specs.declared.types.Const.TheVariants as k
use Rattle.bj_base.specs.declared.span.Span.{Span}
use Rattle.bj_core.specs.declared.tree.Expr.{Expr}
use Rattle.bj_core.specs.declared.tree.Expr.TheVariants as e
use Rattle.bj_builtin.specs.Builtin.{builtin, cell_class}
use Rattle.bj_machine.specs.Shown.{is_field}

abbrev pub at : Span
at = record { line = 1; column = 1 }

-- one argument
pub argument : (new args : List Expr) (x : Expr) (n : ℤ) → new ≡ args ++ x ∷ [] → args ≡ [] → x ≡ e.Const at (k.Int n) → new ≡ e.Const at (k.Int n) ∷ []
argument new args x n push none literal = push ∙ ap (λ l. l ++ x ∷ []) none ∙ ap (λ (x : Expr). x ∷ []) literal

pub if_ok : {T E : Type 0} {P Q : T → Type 0} → (r : Result T E) → ((x : T) → P x → Q x) → IfOk r P → IfOk r Q
if_ok (Ok x) f p = f x p
if_ok (Err e) f p = tt

pub if_all : {T E : Type 0} {P Q R S : T → Type 0} → (r : Result T E) → ((x : T) → P x → Q x → R x → S x) → IfOk r P → IfOk r Q → IfOk r R → IfOk r S
if_all (Ok x) f p q s = f x p q s
if_all (Err e) f p q s = tt

no_fields : All is_field []
no_fields k d within = absurd (omega arith)

cell_fields : All is_field cell_class.fields
cell_fields zero d within = λ void. absurd (cc)
cell_fields (suc k) d within = absurd (omega arith)

-- of the built-in classes only Cell has fields, and its one is an int
pub has_fields : (k : ℕ) (d : Class) → k < length builtin.classes → All is_field (slice_index_or builtin.classes k d).fields
has_fields zero d within = no_fields
has_fields (suc zero) d within = no_fields
has_fields (suc (suc zero)) d within = no_fields
has_fields (suc (suc (suc zero))) d within = no_fields
has_fields (suc (suc (suc (suc zero)))) d within = no_fields
has_fields (suc (suc (suc (suc (suc zero))))) d within = cell_fields
has_fields (suc (suc (suc (suc (suc (suc k)))))) d within = absurd (omega arith)
