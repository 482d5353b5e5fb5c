-- The bodies of `Cell` are typed, and so are the console's terms that name it.
use Rattle.std.proofs.Common.{◌≡◌, ℕ, zero, suc, true, false, List, [], ◌∷◌, length, Some, refl, sym, ap, ◌∙◌, subst, arith}
use Rattle.std.specs.Prelude.{slice_get, option_map}
use Rattle.std.proofs.lemmas.Option.{slice_get-map}
use Rattle.bj_core.specs.declared.frame.Local.{Local}
use Rattle.bj_core.specs.declared.frame.Term.{Term}
use Rattle.bj_core.specs.declared.program.Class.{Class}
use Rattle.bj_core.specs.declared.program.Method.{Method}
use Rattle.bj_base.specs.declared.span.Span.{Span}
use Rattle.bj_core.specs.declared.types.Ty.{Ty}
use Rattle.bj_core.specs.declared.types.Ty.TheVariants as t
use Rattle.bj_core.specs.declared.types.Val.TheVariants as v
use Rattle.bj_base.specs.declared.op.Op.TheVariants.{Add}
use Rattle.bj_core.specs.declared.tree.Expr.{Expr}
use Rattle.bj_core.specs.declared.tree.Stmt.{Stmt}
use Rattle.bj_eval.specs.Routines.{is_constructor}
use Rattle.bj_eval.specs.Terms.{StandsFor}
use Rattle.bj_eval.specs.Typed.{HasTy, local, int_binary, get_field, set_field, call, new, no_args, one_arg, this_object, named_object, IsOk, block, expression, return_value, no_more, and_then, Leaves, return_leaves, block_leaves, this_leaves, later_leaves, Scope, scope_in, scope_of, type_of, IsMethod, IsClass, IsProgram, IsTyped}
use Rattle.bj_builtin.specs.Builtin.{builtin, spot, object_class, thread_class, print_stream_class, input_stream_class, out_of_memory_class, cell_class, n_field, read_n, assign_n, return_n, init_method, init_body, add_method, add_body, sum, get_method, get_body}
use Rattle.bj_builtin.specs.Console.{new_cell, call_add, call_get}
use Rattle.bj_builtin.proofs.Members.{of_prelude}

-- ---- the bodies, in the scope of the one parameter or of none

abbrev in_cell : List Ty → Scope
in_cell tys = scope_in (Some 5) tys

n_typed : (tys : List Ty) (at : Span) → HasTy builtin (in_cell tys) (read_n at) t.Int
n_typed tys at = get_field {class = 5} at 0 n_field (this_object at refl refl) refl refl

assign_typed : (gives : Ty) (tys : List Ty) (at : Span) (x : Expr) → HasTy builtin (in_cell tys) x t.Int → IsOk builtin (in_cell tys) gives (assign_n at x)
assign_typed gives tys at x h = expression at (set_field {class = 5} at 0 n_field (this_object at refl refl) refl h refl) refl

return_typed : (tys : List Ty) (at inside : Span) → IsOk builtin (in_cell tys) t.Int (return_n at inside)
return_typed tys at inside = return_value at (n_typed tys inside) refl

sum_typed : HasTy builtin (in_cell (t.Int ∷ [])) sum t.Int
sum_typed = int_binary (spot 4 26) Add refl (n_typed (t.Int ∷ []) (spot 4 26)) (local (spot 4 30) 0 refl refl) refl

init_ok : IsMethod builtin 5 init_method
init_ok = record {
  same = refl;
  primitive = (tt, tt);
  body = init_body;
  is_body = refl;
  typed = block (spot 3 17) (and_then (assign_typed t.Void (t.Int ∷ []) (spot 3 19) _ (local (spot 3 23) 0 refl refl)) (no_more refl) refl) refl;
  leaves = λ p. absurd p;
  constructs = λ e. refl;
}

add_leaves : Leaves add_body
add_leaves = block_leaves (spot 4 20) (later_leaves (this_leaves (return_leaves (spot 4 33) (Some (read_n (spot 4 40))) refl) refl) refl) refl

add_plain : is_constructor add_method ≡ true → ⊥
add_plain e = cc

add_ok : IsMethod builtin 5 add_method
add_ok = record {
  same = refl;
  primitive = (tt, tt);
  body = add_body;
  is_body = refl;
  typed = block (spot 4 20) (and_then (assign_typed t.Int (t.Int ∷ []) (spot 4 22) sum sum_typed) (and_then (return_typed (t.Int ∷ []) (spot 4 33) (spot 4 40)) (no_more refl) refl) refl) refl;
  leaves = λ p. add_leaves;
  constructs = λ e. absurd (add_plain e);
}

get_leaves : Leaves get_body
get_leaves = block_leaves (spot 5 15) (this_leaves (return_leaves (spot 5 17) (Some (read_n (spot 5 24))) refl) refl) refl

get_plain : is_constructor get_method ≡ true → ⊥
get_plain e = cc

get_ok : IsMethod builtin 5 get_method
get_ok = record {
  same = refl;
  primitive = tt;
  body = get_body;
  is_body = refl;
  typed = block (spot 5 15) (and_then (return_typed [] (spot 5 17) (spot 5 24)) (no_more refl) refl) refl;
  leaves = λ p. get_leaves;
  constructs = λ e. absurd (get_plain e);
}

-- ---- the program

methods_ok : (method : ℕ) (m : Method) → slice_get cell_class.methods method ≡ Some m → IsMethod builtin 5 m
methods_ok zero m e = let same : init_method ≡ m = cc in subst (IsMethod builtin 5) same init_ok
methods_ok (suc zero) m e = let same : add_method ≡ m = cc in subst (IsMethod builtin 5) same add_ok
methods_ok (suc (suc zero)) m e = let same : get_method ≡ m = cc in subst (IsMethod builtin 5) same get_ok
methods_ok (suc (suc (suc method))) m e = absurd (cc)

cell_ok : IsClass builtin 5 cell_class
cell_ok = record { methods = methods_ok; static_start = block (spot 1 7) (no_more refl) refl; instance_start = block (spot 1 7) (no_more refl) refl }

classes_ok : (class : ℕ) (c : Class) → slice_get builtin.classes class ≡ Some c → c.is_prelude ≡ false → IsClass builtin class c
classes_ok zero c e plain = absurd (of_prelude object_class c refl e plain)
classes_ok (suc zero) c e plain = absurd (of_prelude thread_class c refl e plain)
classes_ok (suc (suc zero)) c e plain = absurd (of_prelude print_stream_class c refl e plain)
classes_ok (suc (suc (suc zero))) c e plain = absurd (of_prelude input_stream_class c refl e plain)
classes_ok (suc (suc (suc (suc zero)))) c e plain = absurd (of_prelude out_of_memory_class c refl e plain)
classes_ok (suc (suc (suc (suc (suc zero))))) c e plain = let same : cell_class ≡ c = cc in subst (IsClass builtin 5) same cell_ok
classes_ok (suc (suc (suc (suc (suc (suc class)))))) c e plain = absurd (cc)

pub is_program : IsProgram builtin
is_program = let six : length builtin.classes ≡ 6 = refl in record { few = omega (arith, six); classes = classes_ok }

-- ---- the console's terms

variable_is : (term : Term) (c object : ℕ) → StandsFor term c (v.Ref object (t.Class 5)) → slice_get (scope_of term).variables c ≡ Some (t.Class 5)
variable_is term c object for =
    slice_get-map (λ (l : Local). type_of l.value) term.scope c ∙ ap (option_map (λ (l : Local). type_of l.value)) for.1 ∙ ap (λ x. Some (type_of x)) for.2

typed_by : (term : Term) (ty : Ty) (body : Stmt) → term.body ≡ body → term.gives ≡ ty → IsOk builtin (scope_of term) ty body → IsTyped builtin term
typed_by term ty body is gives ok =
    record { is_program = is_program; body = subst (λ g. IsOk builtin (scope_of term) g term.body) (sym gives) (subst (IsOk builtin (scope_of term) ty) (sym is) ok) }

pub new_typed : (term : Term) (at : Span) (x : Expr) → term.body ≡ new_cell at x → term.gives ≡ t.Class 5 → HasTy builtin (scope_of term) x t.Int → IsTyped builtin term
new_typed term at x is gives h =
    typed_by term (t.Class 5) (new_cell at x) is gives (return_value at (new at 0 init_method refl refl refl refl (one_arg h (no_args refl refl) refl refl) refl) refl)

pub add_typed : (term : Term) (at : Span) (c object : ℕ) (x : Expr) → StandsFor term c (v.Ref object (t.Class 5)) → term.body ≡ call_add at c x → term.gives ≡ t.Int
    → HasTy builtin (scope_of term) x t.Int → IsTyped builtin term
add_typed term at c object x for is gives h =
    typed_by term t.Int (call_add at c x) is gives
    (return_value at (call at 1 add_method refl (named_object at c (variable_is term c object for) refl) refl refl tt (one_arg h (no_args refl refl) refl refl) refl) refl)

pub get_typed : (term : Term) (at : Span) (c object : ℕ) → StandsFor term c (v.Ref object (t.Class 5)) → term.body ≡ call_get at c → term.gives ≡ t.Int → IsTyped builtin term
get_typed term at c object for is gives =
    typed_by term t.Int (call_get at c) is gives
    (return_value at (call at 2 get_method refl (named_object at c (variable_is term c object for) refl) refl refl tt (no_args refl refl) refl) refl)
