-- Which trees are typed: one rule a form.
use Rattle.std.specs.Prelude.{◌≡◌, ◌≤◌, ℕ, ℤ, List, [], ◌∷◌, length, map, slice_get, Option, Some, None, Bool, true, false}
use Rattle.bj_base.specs.declared.span.Span.{Span}
use Rattle.bj_core.specs.declared.types.Ty.{Ty}
use Rattle.bj_core.specs.declared.types.Ty.TheVariants as t
use Rattle.bj_core.specs.declared.types.Val.{Val}
use Rattle.bj_core.specs.declared.types.Val.TheVariants as v
use Rattle.bj_core.specs.declared.types.Const.TheVariants as k
use Rattle.bj_core.specs.declared.frame.Term.{Term}
use Rattle.bj_core.specs.declared.program.Body.TheVariants as b
use Rattle.bj_core.specs.declared.program.Class.{Class}
use Rattle.bj_core.specs.declared.program.Field.{Field}
use Rattle.bj_core.specs.declared.program.Method.{Method}
use Rattle.bj_core.specs.declared.program.Program.{Program}
use Rattle.bj_base.specs.declared.op.Op.{Op}
use Rattle.bj_base.specs.declared.op.Op.TheVariants.{Div, Rem}
use Rattle.bj_core.specs.declared.tree.Expr.{Expr}
use Rattle.bj_core.specs.declared.tree.Expr.TheVariants as e
use Rattle.bj_core.specs.declared.tree.Stmt.{Stmt}
use Rattle.bj_core.specs.declared.tree.Stmt.TheVariants.{Block, Expression, Return}
use Rattle.bj_eval.specs.Fields.{field_at}
use Rattle.bj_eval.specs.Routines.{is_constructor, is_ready}

-- the type of a reference is a class or an array type; no object has another, so that such a name is of no use
abbrev pub of_reference : Ty → Ty
of_reference (t.Class class) = t.Class class
of_reference (t.Array elem dims) = t.Array elem dims
of_reference ty = t.Void

-- the type of a value: its own
abbrev pub type_of : Val → Ty
type_of (v.Int n) = t.Int
type_of (v.Long n) = t.Long
type_of (v.Bool b) = t.Bool
type_of (v.Char u) = t.Char
type_of v.Null = t.Null
type_of (v.Ref object of) = of_reference of

-- the types of a parameter of a body that are built: no reference is passed yet
abbrev pub IsPrimitive : Ty → Type 0
IsPrimitive t.Int = Unit {0}
IsPrimitive t.Long = Unit {0}
IsPrimitive t.Bool = Unit {0}
IsPrimitive t.Char = Unit {0}
IsPrimitive ty = ⊥

abbrev pub ArePrimitive : List Ty → Type 0
ArePrimitive [] = Unit {0}
ArePrimitive (ty ∷ tys) = IsPrimitive ty × ArePrimitive tys

-- what a body may name: the class of `this`, and the types of its variables by slot; and whether it is a term, since no
-- other body makes an object or calls a method yet
pub record Scope : Type 0 where
  pub this : Option ℕ
  pub variables : List Ty
  pub is_term : Bool

abbrev pub scope_of : Term → Scope
scope_of term = record { this = None; variables = map (λ l. type_of l.value) term.scope; is_term = true }

-- an operator that gives a value for all operands
abbrev pub is_total : Op → Bool
is_total Div = false
is_total Rem = false
is_total op = true

abbrev pub method_in : Option Class → ℕ → Option Method
method_in None method = None
method_in (Some c) method = slice_get c.methods method

abbrev pub method_at : Program → ℕ → ℕ → Option Method
method_at program class method = method_in (slice_get program.classes class) method

-- an object that is not null: `this` [JLS 15.8.3], or what a name around the term stands for
pub data IsObject (scope : Scope) (class : ℕ) (a : Expr) : Type 0 where
  this_object : (at : Span) → scope.this ≡ Some class → a ≡ e.This at → IsObject scope class a
  named_object : (at : Span) (slot : ℕ) → slice_get scope.variables slot ≡ Some (t.Class class) → a ≡ e.Local at slot → IsObject scope class a

mutual
  -- an expression has a type
  pub data HasTy (program : Program) (scope : Scope) : Expr → Ty → Type 0 where
    -- [JLS 15.8.1, 3.10.1]
    int_constant : {a : Expr} (at : Span) (n : ℤ) → a ≡ e.Const at (k.Int n) → HasTy program scope a t.Int
    long_constant : {a : Expr} (at : Span) (n : ℤ) → a ≡ e.Const at (k.Long n) → HasTy program scope a t.Long
    bool_constant : {a : Expr} (at : Span) (b : Bool) → a ≡ e.Const at (k.Bool b) → HasTy program scope a t.Bool
    char_constant : {a : Expr} (at : Span) (u : ℕ) → a ≡ e.Const at (k.Char u) → HasTy program scope a t.Char
    -- [JLS 15.14.1]
    local : {a : Expr} {ty : Ty} (at : Span) (slot : ℕ) → slice_get scope.variables slot ≡ Some ty → a ≡ e.Local at slot → HasTy program scope a ty
    -- [JLS 15.8.3]
    this : {a : Expr} {class : ℕ} (at : Span) → scope.this ≡ Some class → a ≡ e.This at → HasTy program scope a (t.Class class)
    -- [JLS 15.15.4]
    int_negate : {a x : Expr} (at : Span) → HasTy program scope x t.Int → a ≡ e.IntNegate at x → HasTy program scope a t.Int
    -- [JLS 15.17, 15.18.2, 15.19, 15.22.1]
    int_binary : {a x y : Expr} (at : Span) (op : Op) → is_total op ≡ true → HasTy program scope x t.Int → HasTy program scope y t.Int
        → a ≡ e.IntBinary at op x y → HasTy program scope a t.Int
    -- [JLS 15.11.1]
    get_field : {a x : Expr} {class : ℕ} (at : Span) (slot : ℕ) (f : Field) → IsObject scope class x → field_at program class slot ≡ Some f
        → a ≡ e.Field at x slot → HasTy program scope a f.ty
    -- [JLS 15.26.1]
    set_field : {a x y : Expr} {class : ℕ} (at : Span) (slot : ℕ) (f : Field) → IsObject scope class x → field_at program class slot ≡ Some f
        → HasTy program scope y f.ty → a ≡ e.SetField at x slot y → HasTy program scope a f.ty
    -- [JLS 15.12]
    call : {a x : Expr} {args : List Expr} {class : ℕ} (at : Span) (method : ℕ) (m : Method) → scope.is_term ≡ true → IsObject scope class x → is_ready program class ≡ false
        → method_at program class method ≡ Some m → IsPrimitive m.gives → HaveTys program scope args m.takes → a ≡ e.Virtual at x class method args → HasTy program scope a m.gives
    -- [JLS 15.9]
    new : {a : Expr} {args : List Expr} {class : ℕ} (at : Span) (constructor : ℕ) (m : Method) → scope.is_term ≡ true → is_ready program class ≡ false
        → method_at program class constructor ≡ Some m → is_constructor m ≡ true → HaveTys program scope args m.takes → a ≡ e.New at class constructor args → HasTy program scope a (t.Class class)

  -- arguments have the types of parameters [JLS 15.12.2.1]
  pub data HaveTys (program : Program) (scope : Scope) : List Expr → List Ty → Type 0 where
    no_args : {args : List Expr} {tys : List Ty} → args ≡ [] → tys ≡ [] → HaveTys program scope args tys
    one_arg : {args rest : List Expr} {tys others : List Ty} {x : Expr} {ty : Ty} → HasTy program scope x ty → HaveTys program scope rest others
        → args ≡ x ∷ rest → tys ≡ ty ∷ others → HaveTys program scope args tys

mutual
  -- a statement is typed in a body that gives a type
  pub data IsOk (program : Program) (scope : Scope) (gives : Ty) : Stmt → Type 0 where
    -- [JLS 14.2]
    block : {s : Stmt} {body : List Stmt} (at : Span) → AreOk program scope gives body → s ≡ Block at body → IsOk program scope gives s
    -- [JLS 14.8]
    expression : {s : Stmt} {x : Expr} {ty : Ty} (at : Span) → HasTy program scope x ty → s ≡ Expression at x → IsOk program scope gives s
    -- [JLS 14.17]
    return_value : {s : Stmt} {x : Expr} (at : Span) → HasTy program scope x gives → s ≡ Return at (Some x) → IsOk program scope gives s
    return_nothing : {s : Stmt} (at : Span) → gives ≡ t.Void → s ≡ Return at None → IsOk program scope gives s

  pub data AreOk (program : Program) (scope : Scope) (gives : Ty) : List Stmt → Type 0 where
    no_more : {body : List Stmt} → body ≡ [] → AreOk program scope gives body
    and_then : {body rest : List Stmt} {s : Stmt} → IsOk program scope gives s → AreOk program scope gives rest → body ≡ s ∷ rest → AreOk program scope gives body

mutual
  -- a statement that cannot complete normally [JLS 14.21]
  pub data Leaves : Stmt → Type 0 where
    return_leaves : {s : Stmt} (at : Span) (value : Option Expr) → s ≡ Return at value → Leaves s
    block_leaves : {s : Stmt} {body : List Stmt} (at : Span) → OneLeaves body → s ≡ Block at body → Leaves s

  pub data OneLeaves : List Stmt → Type 0 where
    this_leaves : {body rest : List Stmt} {s : Stmt} → Leaves s → body ≡ s ∷ rest → OneLeaves body
    later_leaves : {body rest : List Stmt} {s : Stmt} → OneLeaves rest → body ≡ s ∷ rest → OneLeaves body

-- a body of a class with this `this`
abbrev pub scope_in : Option ℕ → List Ty → Scope
scope_in class tys = record { this = class; variables = tys; is_term = false }

-- a method or constructor [JLS 8.4, 8.8]; the body of a method with a value cannot complete normally [JLS 8.4.7]
pub record IsMethod (program : Program) (class : ℕ) (m : Method) : Type 0 where
  pub same : length m.params ≡ length m.takes
  pub primitive : ArePrimitive m.takes
  pub body : Stmt
  pub is_body : m.body ≡ b.Code body
  pub typed : IsOk program (scope_in (Some class) m.takes) m.gives body
  pub leaves : IsPrimitive m.gives → Leaves body
  pub constructs : is_constructor m ≡ true → m.gives ≡ t.Void

-- a class that is not of the prelude
pub record IsClass (program : Program) (class : ℕ) (c : Class) : Type 0 where
  pub methods : (method : ℕ) (m : Method) → slice_get c.methods method ≡ Some m → IsMethod program class m
  pub static_start : IsOk program (scope_in None []) t.Void c.static_start
  pub instance_start : IsOk program (scope_in (Some class) []) t.Void c.instance_start

-- a class's number is none that stands for no class
pub record IsProgram (program : Program) : Type 0 where
  pub few : length program.classes ≤ 4294967295
  pub classes : (class : ℕ) (c : Class) → slice_get program.classes class ≡ Some c → c.is_prelude ≡ false → IsClass program class c

-- a term is typed over a program
pub record IsTyped (program : Program) (term : Term) : Type 0 where
  pub is_program : IsProgram program
  pub body : IsOk program (scope_of term) term.gives term.body
