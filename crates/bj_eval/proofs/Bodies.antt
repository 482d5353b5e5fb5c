-- The bodies of a typed program are safe to call.
use Rattle.std.proofs.Common.{◌≡◌, ℕ, suc, List, [], ◌∷◌, length, Option, Some, None, Bool, true, false, inl, inr, refl, sym, ap, ◌∙◌, subst, le_refl}
use Rattle.std.specs.Prelude.{reverse, slice_get, if◌then◌else◌}
use Rattle.std.proofs.lemmas.Option.{slice_get_past}
use Rattle.bj_core.specs.declared.types.Ty.{Ty}
use Rattle.bj_core.specs.declared.types.Ty.TheVariants as types
use Rattle.bj_core.specs.declared.types.Val.{Val}
use Rattle.bj_core.specs.declared.types.Val.TheVariants as v
use Rattle.bj_core.specs.declared.frame.Frame.{Frame}
use Rattle.bj_core.specs.declared.program.Body.TheVariants.{Code}
use Rattle.bj_core.specs.declared.program.Class.{Class}
use Rattle.bj_core.specs.declared.program.Method.{Method}
use Rattle.bj_core.specs.declared.program.Program.{Program}
use Rattle.bj_core.specs.declared.tree.Stmt.{Stmt}
use Rattle.bj_eval.specs.declared.activation.Activation.{Activation}
use Rattle.bj_eval.specs.declared.invocation.Invocation.{Invocation}
use Rattle.bj_eval.specs.Entering.{all, between, entered, enter}
use Rattle.bj_eval.specs.Evaluation.{Context, Way, Fine, Gives, Throws, Returns, Went, Calls, on_fine, at_line, at_point}
use Rattle.bj_eval.specs.Fields.{HasVal}
use Rattle.bj_eval.specs.Frames.{activation}
use Rattle.bj_eval.specs.Routines.{routine_of, routine_in, routine_at, routine_with, start_of_class, body_of, is_constructor, start_in, start_number}
use Rattle.bj_eval.specs.Typed.{IsPrimitive, IsOk, no_more, and_then, OneLeaves, this_leaves, scope_in, IsMethod, IsClass, IsProgram}
use Rattle.bj_eval.proofs.Expressions.{Suits, OfCall, With, Without, AreSafe, Stands, same_number}
use Rattle.bj_eval.proofs.Holding.{Are, no_void, holds_passed, each_primitive}
use Rattle.bj_eval.proofs.Safety.{IsSafe, at_once, then_safe, weaker, point_safe}
use Rattle.bj_eval.proofs.Statements.{OfStatement, all_safe}
use Rattle.bj_eval.proofs.Wider.{stmt_wider}

module _ (program : Program) where
  -- what suits a body of a class has its type
  has : (this : Option ℕ) (tys : List Ty) (ty : Ty) (x : Val) → Suits program (scope_in this tys) ty x → HasVal program ty x
  has this tys ty x (inl h) = h
  has this tys ty x (inr h) = absurd (cc)

  module _ (i : Invocation) (outer : List Frame) (call : Calls) where
    abbrev c : Context
    c = record { program = program; invocation = i; outer = outer; call = call }

    -- a body is left
    module _ (this : Option ℕ) (tys : List Ty) (gives : Ty) (Left : Option Val → Type 0) (Ends : Type 0) where
      module _ (at_end : Ends → Left None) (without : gives ≡ types.Void → Left None) (value : (x : Val) → HasVal program gives x → Left (Some x)) where
        left_by : (w : Way) (s : Activation) → OfStatement program (scope_in this tys) gives Ends w s → OfCall program Left w s
        left_by Fine s good = at_end good.0
        left_by (Gives x) s good = good
        left_by (Throws r) s good = good
        left_by (Returns None) s good = without good
        left_by (Returns (Some x)) s good = value x (has this tys gives x good)

        -- without step points of its own
        pub alone_safe : (body : List Stmt) (s : Activation) → IsSafe program (OfStatement program (scope_in this tys) gives Ends) (all c body s) → IsSafe program (OfCall program Left) (all c body s)
        alone_safe body s safe = weaker program (OfStatement program (scope_in this tys) gives Ends) (OfCall program Left) (all c body s) left_by safe

        -- with step points at its entry and its end
        pub between_safe : (body : List Stmt) (entry end : ℕ) (s : Activation) → IsSafe program (OfStatement program (scope_in this tys) gives Ends) (all c body (at_line s entry))
            → IsSafe program (OfCall program Left) (between c entry body (Some end) s)
        between_safe body entry end s safe =
            point_safe program (OfCall program Left) c entry (λ s xs. on_fine (all c body s xs) (at_point c end (Went Fine))) s
            (then_safe program (OfStatement program (scope_in this tys) gives Ends) (OfCall program Left) (all c body (at_line s entry)) (λ r. on_fine r (at_point c end (Went Fine))) (λ a fs. refl) safe by_way)
          where
            by_way : (w : Way) (s : Activation) → OfStatement program (scope_in this tys) gives Ends w s → IsSafe program (OfCall program Left) (λ zs. on_fine (Went w s zs) (at_point c end (Went Fine)))
            by_way Fine s good =
                point_safe program (OfCall program Left) c end (Went Fine) s
                (at_once program (OfCall program Left) (Went Fine (at_line s end)) Fine (at_line s end) (at_end good.0) (λ zs. refl))
            by_way (Gives x) s good = absurd good
            by_way (Throws r) s good = at_once program (OfCall program Left) (Went (Throws r) s) (Throws r) s tt (λ zs. refl)
            by_way (Returns o) s good = at_once program (OfCall program Left) (Went (Returns o) s) (Returns o) s (left_by (Returns o) s good) (λ zs. refl)

  -- what a body of a class runs in
  on_object : (call : Calls) (class method object : ℕ) (tys : List Ty) → ((slot : ℕ) (ty : Ty) → slice_get tys slot ≡ Some ty → IsPrimitive ty)
      → Stands program (record { class = class; method = method; this = v.Ref object (types.Class class) }) call (scope_in (Some class) tys)
  on_object call class method object tys primitive = record {
    this_is = λ k e. let same : class ≡ k = cc in (object, ap (λ k. v.Ref object (types.Class k)) same);
    plain = λ e. primitive;
    calls = λ e. absurd (cc);
  }

  on_none : (call : Calls) (class method : ℕ) → Stands program (record { class = class; method = method; this = v.Null }) call (scope_in None [])
  on_none call class method = record { this_is = λ k e. absurd (cc); plain = λ e. each_primitive [] tt; calls = λ e. absurd (cc) }

  -- the routine of a method
  pub method_routine : (class method : ℕ) (k : Class) (m : Method) (body : Stmt) → m.body ≡ Code body → slice_get program.classes class ≡ Some k → slice_get k.methods method ≡ Some m
      → routine_of program class method ≡ Some (record { params = m.params; entry = m.at.line; body = body_of k m body; end = Some m.end_line })
  method_routine class method k m body is_body there at = ap (λ o. routine_in o method) there ∙ ap (routine_at k method) at ∙ ap (routine_with k m) is_body

  pub start_routine : (class : ℕ) (k : Class) → slice_get program.classes class ≡ Some k → routine_of program class (start_number program class) ≡ Some (start_of_class k)
  start_routine class k there =
      ap (λ o. routine_in o (start_number program class)) there ∙ ap (λ o. routine_at k (start_in o) (slice_get k.methods (start_in o))) there
      ∙ ap (routine_at k (length k.methods)) (slice_get_past k.methods (length k.methods) (le_refl (length k.methods)))
      ∙ ap (λ b. if b then Some (start_of_class k) else None) (same_number (length k.methods))

  no_constructor : (m : Method) → IsPrimitive m.gives → (is_constructor m ≡ true → m.gives ≡ types.Void) → is_constructor m ≡ false
  no_constructor m primitive constructs = by_flag (is_constructor m) refl
    where
      by_flag : (b : Bool) → is_constructor m ≡ b → b ≡ false
      by_flag true e = absurd (subst IsPrimitive (constructs e) primitive)
      by_flag false e = refl

  module _ (typed : IsProgram program) (n : ℕ) where
    methods_safe : (class method object : ℕ) (k : Class) (m : Method) (xs : List Val) (fs : List Frame) → slice_get program.classes class ≡ Some k → k.is_prelude ≡ false
        → slice_get k.methods method ≡ Some m → IsPrimitive m.gives → Are program m.takes (reverse xs)
        → IsSafe program (OfCall program (With program m.gives)) (enter (suc n) program (record { class = class; method = method; this = v.Ref object (types.Class class) }) xs fs)
    methods_safe class method object k m xs fs there own at primitive are =
        subst (λ o. IsSafe program (OfCall program (With program m.gives)) (entered ctx o xs)) (sym (method_routine class method k m t.body t.is_body there at))
        (subst (λ body. IsSafe program (OfCall program (With program m.gives)) (between ctx m.at.line body (Some m.end_line) s)) (sym only)
        (between_safe i fs (enter n program) (Some class) m.takes m.gives (With program m.gives) (OneLeaves (t.body ∷ []) → ⊥)
        (λ none. none (this_leaves (t.leaves primitive) refl)) (λ void. subst IsPrimitive void primitive) (λ x h. h)
        (t.body ∷ []) m.at.line m.end_line s
        (all_safe program i fs (enter n program) (scope_in (Some class) m.takes) (on_object (enter n program) class method object m.takes (each_primitive m.takes t.primitive)) m.gives
        (and_then t.typed (no_more refl) refl) s (record { each = holds_passed program m.params m.takes (reverse xs) t.same t.primitive are }))))
      where
        t : IsMethod program class m
        t = (typed.classes class k there own).methods method m at

        i : Invocation
        i = record { class = class; method = method; this = v.Ref object (types.Class class) }

        ctx : Context
        ctx = record { program = program; invocation = i; outer = fs; call = enter n program }

        s : Activation
        s = activation m.at.line m.params (reverse xs)

        only : body_of k m t.body ≡ t.body ∷ []
        only = ap (λ b. if b then k.instance_start ∷ (t.body ∷ []) else t.body ∷ []) (no_constructor m primitive t.constructs)

    constructors_safe : (class constructor object : ℕ) (k : Class) (m : Method) (xs : List Val) (fs : List Frame) → slice_get program.classes class ≡ Some k → k.is_prelude ≡ false
        → slice_get k.methods constructor ≡ Some m → is_constructor m ≡ true → Are program m.takes (reverse xs)
        → IsSafe program (OfCall program (Without program)) (enter (suc n) program (record { class = class; method = constructor; this = v.Ref object (types.Class class) }) xs fs)
    constructors_safe class constructor object k m xs fs there own at constructs are =
        subst (λ o. IsSafe program (OfCall program (Without program)) (entered ctx o xs)) (sym (method_routine class constructor k m t.body t.is_body there at))
        (subst (λ body. IsSafe program (OfCall program (Without program)) (between ctx m.at.line body (Some m.end_line) s)) (sym both)
        (between_safe i fs (enter n program) (Some class) m.takes types.Void (Without program) (OneLeaves (k.instance_start ∷ (t.body ∷ [])) → ⊥)
        (λ none. tt) (λ void. tt) (λ x h. no_void program x h)
        (k.instance_start ∷ (t.body ∷ [])) m.at.line m.end_line s
        (all_safe program i fs (enter n program) (scope_in (Some class) m.takes) (on_object (enter n program) class constructor object m.takes (each_primitive m.takes t.primitive)) types.Void
        (and_then (stmt_wider program (Some class) m.takes of_class.instance_start) (and_then (subst (λ ty. IsOk program (scope_in (Some class) m.takes) ty t.body) (t.constructs constructs) t.typed) (no_more refl) refl) refl) s
        (record { each = holds_passed program m.params m.takes (reverse xs) t.same t.primitive are }))))
      where
        of_class : IsClass program class k
        of_class = typed.classes class k there own

        t : IsMethod program class m
        t = of_class.methods constructor m at

        i : Invocation
        i = record { class = class; method = constructor; this = v.Ref object (types.Class class) }

        ctx : Context
        ctx = record { program = program; invocation = i; outer = fs; call = enter n program }

        s : Activation
        s = activation m.at.line m.params (reverse xs)

        both : body_of k m t.body ≡ k.instance_start ∷ (t.body ∷ [])
        both = ap (λ b. if b then k.instance_start ∷ (t.body ∷ []) else t.body ∷ []) constructs

    starts_safe : (class : ℕ) (k : Class) (fs : List Frame) → slice_get program.classes class ≡ Some k → k.is_prelude ≡ false
        → IsSafe program (OfCall program (Without program)) (enter (suc n) program (record { class = class; method = start_number program class; this = v.Null }) [] fs)
    starts_safe class k fs there own =
        subst (λ o. IsSafe program (OfCall program (Without program)) (entered ctx o [])) (sym (start_routine class k there))
        (alone_safe i fs (enter n program) None [] types.Void (Without program) (OneLeaves (k.static_start ∷ []) → ⊥)
        (λ none. tt) (λ void. tt) (λ x h. no_void program x h)
        (k.static_start ∷ []) s
        (all_safe program i fs (enter n program) (scope_in None []) (on_none (enter n program) class (start_number program class)) types.Void
        (and_then (typed.classes class k there own).static_start (no_more refl) refl) s (record { each = holds_passed program [] [] [] refl tt tt })))
      where
        i : Invocation
        i = record { class = class; method = start_number program class; this = v.Null }

        ctx : Context
        ctx = record { program = program; invocation = i; outer = fs; call = enter n program }

        s : Activation
        s = activation (start_of_class k).entry [] []

    pub calls_safe : AreSafe program (enter (suc n) program)
    calls_safe = record { methods = methods_safe; constructors = constructors_safe; starts = starts_safe }
