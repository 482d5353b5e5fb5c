-- What an expression does: one case a form, its operands from left to right [JLS 15.7].
use Rattle.std.specs.Prelude.{ℕ, ℤ, List, [], ◌∷◌, Option, Some, None, true, nat_eq, if◌then◌else◌, slice_get}
use Rattle.bj_core.specs.declared.types.Ty.TheVariants as t
use Rattle.bj_core.specs.declared.types.Val.{Val}
use Rattle.bj_core.specs.declared.types.Val.TheVariants as v
use Rattle.bj_core.specs.declared.types.Const.{Const}
use Rattle.bj_core.specs.declared.types.Const.TheVariants as k
use Rattle.bj_core.specs.declared.action.Action.TheVariants as act
use Rattle.bj_base.specs.declared.op.Op.{Op}
use Rattle.bj_core.specs.declared.tree.Expr.{Expr, Expr-F, Row_of-Expr, end_of-Expr, more_of-Expr}
use Rattle.bj_core.specs.declared.tree.Expr.TheVariants as e
use Rattle.bj_text.specs.Arith.{int_result, int_negated}
use Rattle.bj_eval.specs.declared.activation.Variable.{Variable}
use Rattle.bj_eval.specs.Forms.{Negate, Binary, Read, Assign}
use Rattle.bj_eval.specs.Routines.{is_ready, start_number}
use Rattle.bj_eval.specs.Evaluation.{Context, Gives, Went, Wrong, On, on_value, calling, ask, when_done, when_value, when_made, when_begun}

-- a constant [JLS 15.28]
abbrev pub constant : Const → On
constant (k.Int n) s xs = Went (Gives (v.Int n)) s xs
constant (k.Long n) s xs = Went (Gives (v.Long n)) s xs
constant (k.Bool b) s xs = Went (Gives (v.Bool b)) s xs
constant (k.Char u) s xs = Went (Gives (v.Char u)) s xs
constant (k.Text t) s xs = Wrong

-- a variable that is assigned [JLS 15.14.1]
abbrev pub value_in : Option Val → On
value_in (Some x) s xs = Went (Gives x) s xs
value_in None s xs = Wrong

abbrev pub variable : Option Variable → On
variable (Some x) s xs = value_in x.value s xs
variable None s xs = Wrong

-- unary minus [JLS 15.15.4]
abbrev pub negated : Val → On
negated (v.Int n) s xs = Went (Gives (v.Int (int_negated n))) s xs
negated x s xs = Wrong

-- the value of an operator, where it has one
abbrev pub int_given : Option ℤ → On
int_given (Some n) s xs = Went (Gives (v.Int n)) s xs
int_given None s xs = Wrong

-- an operator of two `int`s [JLS 15.17 to 15.19, 15.22.1]
abbrev pub computed : Op → Val → Val → On
computed op (v.Int a) (v.Int b) s xs = int_given (int_result op a b) s xs
computed op x y s xs = Wrong

-- a field of an object [JLS 15.11.1]
abbrev pub read : Context → ℕ → Val → On
read c slot (v.Ref object of) s xs = ask (act.Get (v.Ref object of) slot) c s xs (when_value s (λ x. Went (Gives x)))
read c slot x s xs = Wrong

-- an assignment to a field, whose right side was evaluated before [JLS 15.26.1]
abbrev pub assigned_to : Context → ℕ → Val → Val → On
assigned_to c slot (v.Ref object of) x s xs = ask (act.Put (v.Ref object of) slot x) c s xs (when_done s (Went (Gives x)))
assigned_to c slot o x s xs = Wrong

-- the values of expressions from left to right, the last one first [JLS 15.7.4]
abbrev pub each : List On → List Val → (List Val → On) → On
each [] vs f s xs = f vs s xs
each (e ∷ es) vs f s xs = on_value (e s xs) (λ x. each es (x ∷ vs) f)

-- a method's value is that of its call [JLS 15.12.4]
abbrev pub left_with : Option Val → On
left_with (Some x) s xs = Went (Gives x) s xs
left_with None s xs = Wrong

-- a call of an instance method, whose body the object's own class decides [JLS 15.12.4.4]; no class inherits a method yet
abbrev pub virtual : Context → ℕ → ℕ → Val → List Val → On
virtual c class method (v.Ref object (t.Class own)) vs s xs =
    if nat_eq own class then calling c (record { class = class; method = method; this = v.Ref object (t.Class own) }) vs left_with s xs else Wrong
virtual c class method o vs s xs = Wrong

-- a constructor leaves without a value, and the new object is the value of its expression [JLS 15.9.4]
abbrev pub left_without : Val → Option Val → On
left_without o None s xs = Went (Gives o) s xs
left_without o (Some x) s xs = Wrong

abbrev pub constructed : Context → ℕ → ℕ → Val → List Val → On
constructed c class constructor o vs = calling c (record { class = class; method = constructor; this = o }) vs (left_without o)

-- what initializes a class has run: the initialization is over
abbrev pub started : Context → ℕ → On → Option Val → On
started c class f None s xs = ask (act.InitEnd class true) c s xs (when_done s f)
started c class f (Some x) s xs = Wrong

-- a class that is not of the prelude is initialized before its first use [JLS 12.4.1]; its superclass is of the prelude yet
abbrev pub initialized : Context → ℕ → On → On
initialized c class f s xs =
    if is_ready c.program class
    then f s xs
    else ask (act.InitBegin class) c s xs (when_begun s f (calling c (record { class = class; method = start_number c.program class; this = v.Null }) [] (started c class f)))

-- a new object, with default values [JLS 15.9.4]
abbrev pub made : Context → ℕ → (Val → On) → On
made c class f s xs = ask (act.Make class) c s xs (when_made c s f)

-- a new object: memory first, then the arguments, then the constructor [JLS 15.9.4]
abbrev pub created : Context → ℕ → ℕ → List On → On
created c class constructor args = initialized c class (made c class (λ o. each args [] (constructed c class constructor o)))

-- an expression, over what its parts do
abbrev pub form : Context → Expr-F On → On
form c (Expr-F.Const at value) s xs = constant value s xs
form c (Expr-F.Local at slot) s xs = variable (slice_get s.variables slot) s xs
form c (Expr-F.This at) s xs = Went (Gives c.invocation.this) s xs
form c (Expr-F.IntNegate at a) s xs = on_value (a s xs) negated
form c (Expr-F.IntBinary at op a b) s xs = on_value (a s xs) (λ x s xs. on_value (b s xs) (computed op x))
form c (Expr-F.Field at a slot) s xs = on_value (a s xs) (read c slot)
form c (Expr-F.SetField at a slot b) s xs = on_value (a s xs) (λ x s xs. on_value (b s xs) (assigned_to c slot x))
form c (Expr-F.New at class constructor args) s xs = created c class constructor args s xs
form c (Expr-F.Virtual at a class method args) s xs = on_value (a s xs) (λ x. each args [] (virtual c class method x))

abbrev mutual
  pub expr : Context → Expr → On
  expr c (e.Const at value) = form c (Expr-F.Const at value)
  expr c (e.Local at slot) = form c (Expr-F.Local at slot)
  expr c (e.This at) = form c (Expr-F.This at)
  expr c (Negate at a) = form c (Expr-F.IntNegate at (expr c a))
  expr c (Binary at op a b) = form c (Expr-F.IntBinary at op (expr c a) (expr c b))
  expr c (Read at a slot) = form c (Expr-F.Field at (expr c a) slot)
  expr c (Assign at a slot b) = form c (Expr-F.SetField at (expr c a) slot (expr c b))
  expr c (e.New' at class constructor shape row) = form c (Expr-F.New at class constructor (exprs c row))
  expr c (e.Virtual' at tt (more_of-Expr a end_of-Expr) class method shape row) = form c (Expr-F.Virtual at (expr c a) class method (exprs c row))

  pub exprs : {n : _} → Context → Row_of-Expr n → List On
  exprs c end_of-Expr = []
  exprs c (more_of-Expr e rest) = expr c e ∷ exprs c rest
