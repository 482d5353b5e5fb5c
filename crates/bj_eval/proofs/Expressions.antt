-- A typed expression that goes on with allowed answers gives a value of its type, or throws.
use Rattle.std.proofs.Common.{◌≡◌, ℕ, List, [], ◌∷◌, ◌++◌, Option, Some, None, Bool, true, false, ◌⊎◌, inl, inr, refl, sym, ap, ◌∙◌, subst, append_assoc, append-nil}
use Rattle.std.specs.Prelude.{map, slice_get, reverse, nat_eq, if◌then◌else◌}
use Rattle.std.proofs.lemmas.Bool.{eq-eqb}
use Rattle.std.proofs.lemmas.List.{reverse-append}
use Rattle.bj_core.specs.declared.types.Ty.{Ty}
use Rattle.bj_core.specs.declared.types.Ty.TheVariants as types
use Rattle.bj_core.specs.declared.types.Val.{Val}
use Rattle.bj_core.specs.declared.types.Val.TheVariants as v
use Rattle.bj_core.specs.declared.frame.Frame.{Frame}
use Rattle.bj_core.specs.declared.program.Class.{Class}
use Rattle.bj_core.specs.declared.program.Field.{Field}
use Rattle.bj_core.specs.declared.program.Method.{Method}
use Rattle.bj_core.specs.declared.program.Program.{Program}
use Rattle.bj_core.specs.declared.action.Action.TheVariants as act
use Rattle.bj_core.specs.declared.action.Answer.{Answer}
use Rattle.bj_core.specs.declared.action.Answer.TheVariants as answer
use Rattle.bj_base.specs.declared.op.Op.{Op}
use Rattle.bj_core.specs.declared.tree.Expr.{Expr}
use Rattle.bj_text.specs.Arith.{int_negated}
use Rattle.bj_eval.specs.declared.activation.Activation.{Activation}
use Rattle.bj_eval.specs.declared.invocation.Invocation.{Invocation}
use Rattle.bj_eval.specs.Allowed.{Allows}
use Rattle.bj_eval.specs.Evaluation.{Context, ask, Way, Fine, Gives, Throws, Returns, Result, Went, Wrong, On, Calls, on_value, on_left, calling, raise, when_raised, when_value, when_done, when_made, when_begun}
use Rattle.bj_eval.specs.Expressions.{expr, variable, value_in, negated, computed, int_given, read, assigned_to, each, virtual, left_with, left_without, constructed, started, initialized, made}
use Rattle.bj_eval.specs.Fields.{field_at, HasVal, itself}
use Rattle.bj_eval.specs.Frames.{frame_of}
use Rattle.bj_eval.specs.Routines.{is_ready, is_ready_in, is_constructor, start_number}
use Rattle.bj_eval.specs.Shapes.{IntNegate_is, IntBinary_is, Field_is, SetField_is}
use Rattle.bj_eval.specs.Typed.{HasTy, int_constant, long_constant, bool_constant, char_constant, local, this, int_negate, int_binary, get_field, set_field, call, new, HaveTys, no_args, one_arg, IsObject, this_object, named_object, IsPrimitive, Scope, is_total, type_of, method_in}
use Rattle.bj_eval.proofs.Holding.{Holds, Is, Are, one_more, has_own, int_of, object_of}
use Rattle.bj_eval.proofs.Integers.{total_gives}
use Rattle.bj_eval.proofs.Rows.{New_is, Virtual_is}
use Rattle.bj_eval.proofs.Safety.{IsSafe, Ways, MayThrow, at_once, then_safe, same_safe, ask_safe, done_safe}

pub same_number : (n : ℕ) → nat_eq n n ≡ true
same_number n = eq-eqb n n refl

module _ (program : Program) where
  -- a value of the type; in a term also that of a name whose type is of no use
  abbrev pub Suits : Scope → Ty → Val → Type 0
  Suits scope ty x = HasVal program ty x ⊎ ((ty ≡ types.Void) × (scope.is_term ≡ true))

  -- how a typed expression completes
  abbrev pub OfValue : Scope → Ty → Ways program
  OfValue scope ty (Gives x) s = Suits scope ty x × Holds scope s.variables
  OfValue scope ty Fine s = ⊥
  OfValue scope ty (Throws r) s = Unit {0}
  OfValue scope ty (Returns o) s = ⊥

  -- how a body is left, with these values or without one
  abbrev pub OfCall : (Option Val → Type 0) → Ways program
  OfCall Left Fine s = Left None
  OfCall Left (Gives x) s = ⊥
  OfCall Left (Throws r) s = Unit {0}
  OfCall Left (Returns o) s = Left o

  -- a method is left with a value of its type
  abbrev pub With : Ty → Option Val → Type 0
  With ty None = ⊥
  With ty (Some x) = HasVal program ty x

  -- a constructor, and what initializes a class, without a value
  abbrev pub Without : Option Val → Type 0
  Without None = Unit {0}
  Without (Some x) = ⊥

  -- the typed calls are safe
  pub record AreSafe (call : Calls) : Type 0 where
    pub methods : (class method object : ℕ) (k : Class) (m : Method) (xs : List Val) (fs : List Frame) → slice_get program.classes class ≡ Some k → k.is_prelude ≡ false
        → slice_get k.methods method ≡ Some m → IsPrimitive m.gives → Are program m.takes (reverse xs)
        → IsSafe program (OfCall (With m.gives)) (call (record { class = class; method = method; this = v.Ref object (types.Class class) }) xs fs)
    pub constructors : (class constructor object : ℕ) (k : Class) (m : Method) (xs : List Val) (fs : List Frame) → slice_get program.classes class ≡ Some k → k.is_prelude ≡ false
        → slice_get k.methods constructor ≡ Some m → is_constructor m ≡ true → Are program m.takes (reverse xs)
        → IsSafe program (OfCall Without) (call (record { class = class; method = constructor; this = v.Ref object (types.Class class) }) xs fs)
    pub starts : (class : ℕ) (k : Class) (fs : List Frame) → slice_get program.classes class ≡ Some k → k.is_prelude ≡ false
        → IsSafe program (OfCall Without) (call (record { class = class; method = start_number program class; this = v.Null }) [] fs)

  -- what runs in a scope: `this` is an object of its class, names of no use are around terms alone, and a term calls
  pub record Stands (i : Invocation) (call : Calls) (scope : Scope) : Type 0 where
    pub this_is : (class : ℕ) → scope.this ≡ Some class → (object : ℕ) × (i.this ≡ v.Ref object (types.Class class))
    pub plain : scope.is_term ≡ false → (slot : ℕ) (ty : Ty) → slice_get scope.variables slot ≡ Some ty → IsPrimitive ty
    pub calls : scope.is_term ≡ true → AreSafe call

  -- a method of a class that is not of the prelude
  found : (o : Option Class) (method : ℕ) (m : Method) → is_ready_in o ≡ false → method_in o method ≡ Some m
      → (k : Class) × (o ≡ Some k) × (k.is_prelude ≡ false) × (slice_get k.methods method ≡ Some m)
  found None method m ready there = absurd (cc)
  found (Some k) method m ready there = (k, refl, ready, there)

  suits_is : (scope : Scope) (ty : Ty) (x : Val) → Suits scope ty x → Is program ty x
  suits_is scope ty x (inl h) = inl h
  suits_is scope ty x (inr h) = inr h.0

  module _ (i : Invocation) (outer : List Frame) (call_of : Calls) (scope : Scope) (stands : Stands i call_of scope) where
    abbrev c : Context
    c = record { program = program; invocation = i; outer = outer; call = call_of }

    abbrev Value : Ty → Ways program
    Value = OfValue scope

    throws : (ty : Ty) → MayThrow program (Value ty)
    throws ty r s = tt

    -- after an expression
    pub on_value_safe : (G : Ways program) (ty : Ty) (h : List Answer → Result) (k : Val → On) → MayThrow program G → IsSafe program (Value ty) h
        → ((x : Val) (s : Activation) → Suits scope ty x → Holds scope s.variables → IsSafe program G (k x s)) → IsSafe program G (λ xs. on_value (h xs) k)
    on_value_safe G ty h k may first g = then_safe program (Value ty) G h (λ r. on_value r k) (λ a fs. refl) first by_way
      where
        by_way : (w : Way) (s : Activation) → Value ty w s → IsSafe program G (λ zs. on_value (Went w s zs) k)
        by_way (Gives x) s good = g x s good.0 good.1
        by_way Fine s good = absurd good
        by_way (Throws r) s good = at_once program G (Went (Throws r) s) (Throws r) s (may r s) (λ zs. refl)
        by_way (Returns o) s good = absurd good

    -- a call
    calling_safe : (G : Ways program) (Left : Option Val → Type 0) (j : Invocation) (xs : List Val) (f : Option Val → On) (s : Activation) → MayThrow program G
        → IsSafe program (OfCall Left) (call_of j xs (frame_of i s ∷ outer)) → ((o : Option Val) → Left o → IsSafe program G (f o s)) → IsSafe program G (calling c j xs f s)
    calling_safe G Left j xs f s may first g = then_safe program (OfCall Left) G (call_of j xs (frame_of i s ∷ outer)) (λ r. on_left r s f) (λ a fs. refl) first by_way
      where
        by_way : (w : Way) (u : Activation) → OfCall Left w u → IsSafe program G (λ zs. on_left (Went w u zs) s f)
        by_way Fine u good = g None good
        by_way (Gives x) u good = absurd good
        by_way (Throws r) u good = at_once program G (Went (Throws r) s) (Throws r) s (may r s) (λ zs. refl)
        by_way (Returns o) u good = g o good

    -- what is raised
    raise_safe : (G : Ways program) (class : ℕ) (s : Activation) → MayThrow program G → IsSafe program G (raise c class s)
    raise_safe G class s may = ask_safe program G (act.Raise class None) c s (when_raised s) by_answer
      where
        by_answer : (x : Answer) → Allows program (act.Raise class None) x → IsSafe program G (when_raised s x)
        by_answer (answer.Value r) h = at_once program G (Went (Throws r) s) (Throws r) s (may r s) (λ zs. refl)
        by_answer answer.Done h = absurd h
        by_answer (answer.Thrown k) h = absurd h
        by_answer answer.Normal h = absurd h
        by_answer answer.Ready h = absurd h
        by_answer answer.Go h = absurd h

    -- a read of a field
    read_safe : (class slot object : ℕ) (f : Field) (s : Activation) → field_at program class slot ≡ Some f → Holds scope s.variables → IsSafe program (Value f.ty) (read c slot (v.Ref object (types.Class class)) s)
    read_safe class slot object f s field holds = ask_safe program (Value f.ty) (act.Get (v.Ref object (types.Class class)) slot) c s (when_value s (λ x. Went (Gives x))) by_answer
      where
        by_answer : (x : Answer) → Allows program (act.Get (v.Ref object (types.Class class)) slot) x → IsSafe program (Value f.ty) (when_value s (λ x. Went (Gives x)) x)
        by_answer (answer.Value u) h =
            let p : Some h.0 ≡ Some f = sym h.1 ∙ field in
            let same : h.0 ≡ f = cc in
            at_once program (Value f.ty) (Went (Gives u) s) (Gives u) s (inl (subst (λ (f : Field). HasVal program f.ty u) same h.2), holds) (λ zs. refl)
        by_answer answer.Done h = absurd h
        by_answer (answer.Thrown k) h = absurd h
        by_answer answer.Normal h = absurd h
        by_answer answer.Ready h = absurd h
        by_answer answer.Go h = absurd h

    -- an assignment to a field
    assign_safe : (class slot object : ℕ) (ty : Ty) (x : Val) (s : Activation) → Suits scope ty x → Holds scope s.variables → IsSafe program (Value ty) (assigned_to c slot (v.Ref object (types.Class class)) x s)
    assign_safe class slot object ty x s suits holds =
        ask_safe program (Value ty) (act.Put (v.Ref object (types.Class class)) slot x) c s (when_done s (Went (Gives x)))
        (done_safe program (Value ty) s (Went (Gives x)) (at_once program (Value ty) (Went (Gives x) s) (Gives x) s (suits, holds) (λ zs. refl)))

    -- a new object
    made_safe : (G : Ways program) (class : ℕ) (f : Val → On) (s : Activation) → MayThrow program G → ((object : ℕ) → IsSafe program G (f (v.Ref object (types.Class class)) s)) → IsSafe program G (made c class f s)
    made_safe G class f s may g = ask_safe program G (act.Make class) c s (when_made c s f) by_answer
      where
        by_answer : (x : Answer) → Allows program (act.Make class) x → IsSafe program G (when_made c s f x)
        by_answer (answer.Value (v.Ref object of)) h = subst (λ of. IsSafe program G (f (v.Ref object of) s)) (sym h) (g object)
        by_answer (answer.Value (v.Int n)) h = absurd h
        by_answer (answer.Value (v.Long n)) h = absurd h
        by_answer (answer.Value (v.Bool b)) h = absurd h
        by_answer (answer.Value (v.Char u)) h = absurd h
        by_answer (answer.Value v.Null) h = absurd h
        by_answer (answer.Thrown k) h = raise_safe G k s may
        by_answer answer.Done h = absurd h
        by_answer answer.Normal h = absurd h
        by_answer answer.Ready h = absurd h
        by_answer answer.Go h = absurd h

    -- what a class's initialization goes on with
    started_safe : (G : Ways program) (class : ℕ) (f : On) (s : Activation) → IsSafe program G (f s) → (o : Option Val) → Without o → IsSafe program G (started c class f o s)
    started_safe G class f s g None h = ask_safe program G (act.InitEnd class true) c s (when_done s f) (done_safe program G s f g)
    started_safe G class f s g (Some x) h = absurd h

    initialized_safe : (G : Ways program) (class : ℕ) (k : Class) (f : On) (s : Activation) → MayThrow program G → AreSafe call_of → slice_get program.classes class ≡ Some k → k.is_prelude ≡ false
        → is_ready program class ≡ false → IsSafe program G (f s) → IsSafe program G (initialized c class f s)
    initialized_safe G class k f s may safe there own unready g =
        same_safe program G (begun c) (initialized c class f s) (λ xs. ap (λ b. if b then f s xs else begun c xs) (sym unready))
        (ask_safe program G (act.InitBegin class) c s (when_begun s f go) by_answer)
      where
        go : On
        go = calling c (record { class = class; method = start_number program class; this = v.Null }) [] (started c class f)

        begun : Context → List Answer → Result
        begun c xs = ask (act.InitBegin class) c s xs (when_begun s f go)

        by_answer : (x : Answer) → Allows program (act.InitBegin class) x → IsSafe program G (when_begun s f go x)
        by_answer answer.Ready h = g
        by_answer answer.Go h =
            calling_safe G Without (record { class = class; method = start_number program class; this = v.Null }) [] (started c class f) s may
            (safe.starts class k (frame_of i s ∷ outer) there own) (started_safe G class f s g)
        by_answer (answer.Value x) h = absurd h
        by_answer answer.Done h = absurd h
        by_answer (answer.Thrown k) h = absurd h
        by_answer answer.Normal h = absurd h

    -- a variable
    variable_is : (slot : ℕ) (ty : Ty) (s : Activation) → Holds scope s.variables → slice_get scope.variables slot ≡ Some ty
        → (x : Val) × (type_of x ≡ ty) × ((xs : List Answer) → variable (slice_get s.variables slot) s xs ≡ Went (Gives x) s xs)
    variable_is slot ty s holds there = let x = holds.each slot ty there in (x.2.0, x.2.2, λ xs. ap (λ o. variable o s xs) x.1 ∙ ap (λ o. value_in o s xs) x.2.1)

    suits_own : (slot : ℕ) (ty : Ty) (x : Val) → slice_get scope.variables slot ≡ Some ty → type_of x ≡ ty → Suits scope ty x
    suits_own slot ty x there e = by_kind (has_own program x ty e) scope.is_term refl
      where
        by_kind : Is program ty x → (b : Bool) → scope.is_term ≡ b → Suits scope ty x
        by_kind (inl h) b kind = inl h
        by_kind (inr void) true kind = inr (void, kind)
        by_kind (inr void) false kind = absurd (subst IsPrimitive void (stands.plain kind slot ty there))

    -- an object that is not null
    object_is : {class : ℕ} {a : Expr} → IsObject scope class a → (s : Activation) → Holds scope s.variables → (object : ℕ) × ((xs : List Answer) → expr c a s xs ≡ Went (Gives (v.Ref object (types.Class class))) s xs)
    object_is {class = class} {a = a} (this_object at there e) s holds =
        let o = stands.this_is class there in
        (o.0, λ xs. ap (λ a. expr c a s xs) e ∙ ap (λ u. Went (Gives u) s xs) o.1)
    object_is {class = class} {a = a} (named_object at slot there e) s holds =
        let x = variable_is slot (types.Class class) s holds there in
        let o = object_of x.0 class x.1 in
        (o.0, λ xs. ap (λ a. expr c a s xs) e ∙ x.2 xs ∙ ap (λ u. Went (Gives u) s xs) o.1)

    -- an expression whose object is known
    on_object_safe : (G : Ways program) {class : ℕ} {a : Expr} (k : Val → On) (s : Activation) → IsObject scope class a → Holds scope s.variables
        → ((object : ℕ) → IsSafe program G (k (v.Ref object (types.Class class)) s)) → IsSafe program G (λ xs. on_value (expr c a s xs) k)
    on_object_safe G {class = class} {a = a} k s object holds g =
        let o = object_is object s holds in
        same_safe program G (k (v.Ref o.0 (types.Class class)) s) (λ xs. on_value (expr c a s xs) k) (λ xs. sym (ap (λ r. on_value r k) (o.1 xs))) (g o.0)

    -- `int`s
    negated_safe : (x : Val) (s : Activation) → Suits scope types.Int x → Holds scope s.variables → IsSafe program (Value types.Int) (negated x s)
    negated_safe x s suits holds =
        let n = int_of program x (suits_is scope types.Int x suits) in
        at_once program (Value types.Int) (negated x s) (Gives (v.Int (int_negated n.0))) s (inl tt, holds) (λ xs. ap (λ u. negated u s xs) n.1)

    computed_safe : (op : Op) (x y : Val) (s : Activation) → is_total op ≡ true → Suits scope types.Int x → Suits scope types.Int y → Holds scope s.variables → IsSafe program (Value types.Int) (computed op x y s)
    computed_safe op x y s total hx hy holds =
        let m = int_of program x (suits_is scope types.Int x hx) in
        let n = int_of program y (suits_is scope types.Int y hy) in
        let z = total_gives op m.0 n.0 total in
        at_once program (Value types.Int) (computed op x y s) (Gives (v.Int z.0)) s (inl tt, holds)
        (λ xs. ap (λ u. computed op u y s xs) m.1 ∙ ap (λ u. computed op (v.Int m.0) u s xs) n.1 ∙ ap (λ o. int_given o s xs) z.1)

    -- a method that is left
    left_safe : (ty : Ty) (s : Activation) → Holds scope s.variables → (o : Option Val) → With ty o → IsSafe program (Value ty) (left_with o s)
    left_safe ty s holds None h = absurd h
    left_safe ty s holds (Some x) h = at_once program (Value ty) (Went (Gives x) s) (Gives x) s (inl h, holds) (λ zs. refl)

    virtual_safe : (class method object : ℕ) (k : Class) (m : Method) (xs : List Val) (s : Activation) → AreSafe call_of → slice_get program.classes class ≡ Some k → k.is_prelude ≡ false
        → slice_get k.methods method ≡ Some m → IsPrimitive m.gives → Are program m.takes (reverse xs) → Holds scope s.variables
        → IsSafe program (Value m.gives) (virtual c class method (v.Ref object (types.Class class)) xs s)
    virtual_safe class method object k m xs s safe there own at primitive are holds =
        same_safe program (Value m.gives) (calling c j xs left_with s) (virtual c class method (v.Ref object (types.Class class)) xs s)
        (λ zs. ap (λ b. if b then calling c j xs left_with s zs else Wrong) (sym (same_number class)))
        (calling_safe (Value m.gives) (With m.gives) j xs left_with s (throws m.gives) (safe.methods class method object k m xs (frame_of i s ∷ outer) there own at primitive are) (left_safe m.gives s holds))
      where
        j : Invocation
        j = record { class = class; method = method; this = v.Ref object (types.Class class) }

    -- a constructor that is left
    constructed_safe : (class constructor object : ℕ) (k : Class) (m : Method) (xs : List Val) (s : Activation) → AreSafe call_of → slice_get program.classes class ≡ Some k → k.is_prelude ≡ false
        → slice_get k.methods constructor ≡ Some m → is_constructor m ≡ true → Are program m.takes (reverse xs) → Holds scope s.variables
        → IsSafe program (Value (types.Class class)) (constructed c class constructor (v.Ref object (types.Class class)) xs s)
    constructed_safe class constructor object k m xs s safe there own at constructs are holds =
        calling_safe (Value (types.Class class)) Without (record { class = class; method = constructor; this = o }) xs (left_without o) s (throws (types.Class class))
        (safe.constructors class constructor object k m xs (frame_of i s ∷ outer) there own at constructs are) by_left
      where
        o : Val
        o = v.Ref object (types.Class class)

        by_left : (l : Option Val) → Without l → IsSafe program (Value (types.Class class)) (left_without o l s)
        by_left None h = at_once program (Value (types.Class class)) (Went (Gives o) s) (Gives o) s (inl (itself refl), holds) (λ zs. refl)
        by_left (Some x) h = absurd h

    mutual
      pub expr_safe : {a : Expr} {ty : Ty} → HasTy program scope a ty → (s : Activation) → Holds scope s.variables → IsSafe program (Value ty) (expr c a s)
      expr_safe (int_constant at n e) s holds =
          subst (λ a. IsSafe program (Value types.Int) (expr c a s)) (sym e) (at_once program (Value types.Int) (Went (Gives (v.Int n)) s) (Gives (v.Int n)) s (inl tt, holds) (λ xs. refl))
      expr_safe (long_constant at n e) s holds =
          subst (λ a. IsSafe program (Value types.Long) (expr c a s)) (sym e) (at_once program (Value types.Long) (Went (Gives (v.Long n)) s) (Gives (v.Long n)) s (inl tt, holds) (λ xs. refl))
      expr_safe (bool_constant at b e) s holds =
          subst (λ a. IsSafe program (Value types.Bool) (expr c a s)) (sym e) (at_once program (Value types.Bool) (Went (Gives (v.Bool b)) s) (Gives (v.Bool b)) s (inl tt, holds) (λ xs. refl))
      expr_safe (char_constant at u e) s holds =
          subst (λ a. IsSafe program (Value types.Char) (expr c a s)) (sym e) (at_once program (Value types.Char) (Went (Gives (v.Char u)) s) (Gives (v.Char u)) s (inl tt, holds) (λ xs. refl))
      expr_safe (local {ty = ty} at slot there e) s holds =
          let x = variable_is slot ty s holds there in
          subst (λ a. IsSafe program (Value ty) (expr c a s)) (sym e)
          (at_once program (Value ty) (variable (slice_get s.variables slot) s) (Gives x.0) s (suits_own slot ty x.0 there x.1, holds) x.2)
      expr_safe (this {class = class} at there e) s holds =
          let o = stands.this_is class there in
          subst (λ a. IsSafe program (Value (types.Class class)) (expr c a s)) (sym e)
          (at_once program (Value (types.Class class)) (Went (Gives i.this) s) (Gives (v.Ref o.0 (types.Class class))) s (inl (itself refl), holds) (λ xs. ap (λ u. Went (Gives u) s xs) o.1))
      expr_safe (int_negate {x = x} at h e) s holds =
          subst (λ a. IsSafe program (Value types.Int) (expr c a s)) (sym (e ∙ IntNegate_is at x))
          (on_value_safe (Value types.Int) types.Int (expr c x s) negated (throws types.Int) (expr_safe h s holds) negated_safe)
      expr_safe (int_binary {x = x} {y = y} at op total hx hy e) s holds =
          subst (λ a. IsSafe program (Value types.Int) (expr c a s)) (sym (e ∙ IntBinary_is at op x y))
          (on_value_safe (Value types.Int) types.Int (expr c x s) (λ u s xs. on_value (expr c y s xs) (computed op u)) (throws types.Int) (expr_safe hx s holds)
          (λ u s has holds. on_value_safe (Value types.Int) types.Int (expr c y s) (computed op u) (throws types.Int) (expr_safe hy s holds)
          (λ w s has_too holds. computed_safe op u w s total has has_too holds)))
      expr_safe (get_field {x = x} {class = class} at slot f object field e) s holds =
          subst (λ a. IsSafe program (Value f.ty) (expr c a s)) (sym (e ∙ Field_is at x slot))
          (on_object_safe (Value f.ty) (read c slot) s object holds (λ o. read_safe class slot o f s field holds))
      expr_safe (set_field {x = x} {y = y} {class = class} at slot f object field h e) s holds =
          subst (λ a. IsSafe program (Value f.ty) (expr c a s)) (sym (e ∙ SetField_is at x slot y))
          (on_object_safe (Value f.ty) (λ u s xs. on_value (expr c y s xs) (assigned_to c slot u)) s object holds
          (λ o. on_value_safe (Value f.ty) f.ty (expr c y s) (assigned_to c slot (v.Ref o (types.Class class))) (throws f.ty) (expr_safe h s holds)
          (λ x s suits holds. assign_safe class slot o f.ty x s suits holds)))
      expr_safe (call {x = x} {args = args} {class = class} at method m in_term object unready there primitive hs e) s holds =
          let k = found (slice_get program.classes class) method m unready there in
          subst (λ a. IsSafe program (Value m.gives) (expr c a s)) (sym e)
          (subst (λ (f : On). IsSafe program (Value m.gives) (f s)) (sym (Virtual_is c at x class method args))
          (on_object_safe (Value m.gives) (λ u. each (map (expr c) args) [] (virtual c class method u)) s object holds
          (λ o. each_safe hs m.gives [] [] (virtual c class method (v.Ref o (types.Class class))) tt s holds
          (λ xs s are holds. virtual_safe class method o k.0 m xs s (stands.calls in_term) k.1 k.2 k.3 primitive are holds))))
      expr_safe (new {args = args} {class = class} at constructor m in_term unready there constructs hs e) s holds =
          let k = found (slice_get program.classes class) constructor m unready there in
          let G = Value (types.Class class) in
          subst (λ a. IsSafe program (Value (types.Class class)) (expr c a s)) (sym e)
          (subst (λ (f : On). IsSafe program (Value (types.Class class)) (f s)) (sym (New_is c at class constructor args))
          (initialized_safe G class k.0 (made c class (λ o. each (map (expr c) args) [] (constructed c class constructor o))) s (throws (types.Class class)) (stands.calls in_term) k.1 k.2 unready
          (made_safe G class (λ o. each (map (expr c) args) [] (constructed c class constructor o)) s (throws (types.Class class))
          (λ o. each_safe hs (types.Class class) [] [] (constructed c class constructor (v.Ref o (types.Class class))) tt s holds
          (λ xs s are holds. constructed_safe class constructor o k.0 m xs s (stands.calls in_term) k.1 k.2 k.3 constructs are holds)))))

      -- arguments, after those that have these types and values
      each_safe : {args : List Expr} {tys : List Ty} → HaveTys program scope args tys → (gives : Ty) (before : List Ty) (us : List Val) (f : List Val → On)
          → Are program before (reverse us) → (s : Activation) → Holds scope s.variables
          → ((xs : List Val) (s : Activation) → Are program (before ++ tys) (reverse xs) → Holds scope s.variables → IsSafe program (Value gives) (f xs s)) → IsSafe program (Value gives) (each (map (expr c) args) us f s)
      each_safe {args = args} {tys = tys} (no_args e none) gives before us f are s holds g =
          subst (λ (args : List Expr). IsSafe program (Value gives) (each (map (expr c) args) us f s)) (sym e)
          (g us s (subst (λ tys. Are program tys (reverse us)) (sym (append-nil before) ∙ ap (λ l. before ++ l) (sym none)) are) holds)
      each_safe {args = args} {tys = tys} (one_arg {rest = rest} {others = others} {x = x} {ty = ty} h hs e some) gives before us f are s holds g =
          subst (λ (args : List Expr). IsSafe program (Value gives) (each (map (expr c) args) us f s)) (sym e)
          (on_value_safe (Value gives) ty (expr c x s) (λ u. each (map (expr c) rest) (u ∷ us) f) (throws gives) (expr_safe h s holds)
          (λ u s suits holds. each_safe hs gives (before ++ ty ∷ []) (u ∷ us) f
          (subst (λ l. Are program (before ++ ty ∷ []) l) (sym (reverse-append (u ∷ []) us)) (one_more program before (reverse us) ty u are (suits_is scope ty u suits))) s holds
          (λ xs s are holds. g xs s (subst (λ tys. Are program tys (reverse xs)) (append_assoc before (ty ∷ []) others ∙ ap (λ l. before ++ l) (sym some)) are) holds)))
