-- What terms do first.
use Rattle.std.proofs.Common.{◌≡◌, ◌≤◌, ℕ, suc, ◌-◌, ℤ, List, [], ◌∷◌, ◌++◌, Option, Some, None, true, false, refl, length, sym, ap, ◌∙◌, append_assoc, append-nil, arith}
use Rattle.std.specs.Prelude.{map, reverse, slice_get, option_map, if◌then◌else◌}
use Rattle.std.proofs.lemmas.List.{reverse-append, reverse-reverse}
use Rattle.std.proofs.lemmas.Option.{slice_get-map}
use Rattle.bj_base.specs.declared.span.Span.{Span}
use Rattle.bj_core.specs.declared.types.Ty.{Ty}
use Rattle.bj_core.specs.declared.types.Ty.TheVariants as types
use Rattle.bj_core.specs.declared.types.Val.{Val}
use Rattle.bj_core.specs.declared.types.Val.TheVariants as v
use Rattle.bj_core.specs.declared.types.Const.TheVariants as k
use Rattle.bj_core.specs.declared.frame.Frame.{Frame}
use Rattle.bj_core.specs.declared.frame.Term.{Term}
use Rattle.bj_core.specs.declared.program.Body.TheVariants.{Code}
use Rattle.bj_core.specs.declared.program.Class.{Class}
use Rattle.bj_core.specs.declared.program.Method.{Method}
use Rattle.bj_core.specs.declared.program.Program.{Program}
use Rattle.bj_core.specs.declared.action.Action.TheVariants as act
use Rattle.bj_core.specs.declared.action.Answer.{Answer}
use Rattle.bj_core.specs.declared.action.Answer.TheVariants as answer
use Rattle.bj_core.specs.declared.action.Done.TheVariants as done
use Rattle.bj_core.specs.declared.tree.Expr.{Expr}
use Rattle.bj_core.specs.declared.tree.Expr.TheVariants as e
use Rattle.bj_core.specs.declared.tree.Stmt.{Stmt}
use Rattle.bj_core.specs.declared.tree.Stmt.TheVariants.{Expression, Return}
use Rattle.bj_eval.specs.declared.activation.Activation.{Activation}
use Rattle.bj_eval.specs.declared.activation.Variable.{Variable}
use Rattle.bj_eval.specs.declared.invocation.Invocation.{Invocation}
use Rattle.bj_eval.specs.Entering.{enter, entered, between}
use Rattle.bj_eval.specs.Evaluation.{Context, Gives, Returns, Result, Went, Wrong, On, ask, calling, on_value, on_left, when_begun, line_in}
use Rattle.bj_eval.specs.Expressions.{expr, variable, read, assigned_to, each, virtual, left_with, left_without, constructed, started, made}
use Rattle.bj_eval.specs.Frames.{activation, frame_of, given, invocation_of_term, start_of}
use Rattle.bj_eval.specs.Next.{Asked, asked, outcome_of, outermost, next_of}
use Rattle.bj_eval.specs.Routines.{Routine, body_of, is_constructor, is_ready, is_ready_in, line_of, start_in, start_number}
use Rattle.bj_eval.specs.Shapes.{Field_is, SetField_is}
use Rattle.bj_eval.specs.Statements.{stmt}
use Rattle.bj_eval.specs.Terms.{IsOwn, IsValue, ItWants, StandsFor}
use Rattle.bj_eval.proofs.Bodies.{method_routine, start_routine}
use Rattle.bj_eval.proofs.Expressions.{same_number}
use Rattle.bj_eval.proofs.Rows.{New_is, Virtual_is}

module _ (program : Program) (limit : ℕ) (term : Term) where
  abbrev c : Context
  c = outermost program limit

  abbrev s : Activation
  s = start_of term

  -- what a term asks whose expression comes to this
  abbrev told : Result → Option Asked
  told r = asked (outcome_of (on_value r (λ u. Went (Returns (Some u)))))

  after_point : {x : Expr} → IsValue term x → (xs : List Answer) → next_of program limit term (answer.Done ∷ xs) ≡ told (expr c x s xs)
  after_point is xs = ap (λ b. asked (outcome_of (stmt c b s (answer.Done ∷ xs)))) is.1

  -- a name
  named : (spot : Span) (name : ℕ) (x : Val) → StandsFor term name x → (xs : List Answer) → expr c (e.Local spot name) s xs ≡ Went (Gives x) s xs
  named spot name x for xs =
      ap (λ (o : Option Variable). variable o s xs) (slice_get-map given term.scope name ∙ ap (option_map given) for.1) ∙ ap (λ u. Went (Gives u) s xs) for.2

  module _ (at : Span) (class constructor : ℕ) (args : List Expr) (k : Class) (own : IsOwn program class k) where
    abbrev memory : On
    memory = made c class (λ o. each (map (expr c) args) [] (constructed c class constructor o))

    abbrev begun : List Answer → Result
    begun xs = ask (act.InitBegin class) c s xs (when_begun s memory (calling c (record { class = class; method = start_number program class; this = v.Null }) [] (started c class memory)))

    new_is : (xs : List Answer) → expr c (e.New at class constructor args) s xs ≡ begun xs
    new_is xs =
        let unready : is_ready program class ≡ false = ap is_ready_in own.0 ∙ own.1 in
        ap (λ (f : On). f s xs) (New_is c at class constructor args) ∙ ap (λ b. if b then memory s xs else begun xs) unready

    pub initialization_first : IsValue term (e.New at class constructor args) → ItWants program limit term (answer.Done ∷ []) (act.InitBegin class)
    initialization_first is = after_point is [] ∙ ap told (new_is [])

    pub memory_first : IsValue term (e.New at class constructor args) → ItWants program limit term (answer.Done ∷ answer.Ready ∷ []) (act.Make class)
    memory_first is = after_point is (answer.Ready ∷ []) ∙ ap told (new_is (answer.Ready ∷ []))

    pub no_memory : (thrown : ℕ) → IsValue term (e.New at class constructor args) → ItWants program limit term (answer.Done ∷ answer.Ready ∷ answer.Thrown thrown ∷ []) (act.Raise thrown None)
    no_memory thrown is = after_point is (answer.Ready ∷ answer.Thrown thrown ∷ []) ∙ ap told (new_is (answer.Ready ∷ answer.Thrown thrown ∷ []))

    pub raised : (thrown : ℕ) (r : Val) → IsValue term (e.New at class constructor args)
        → ItWants program limit term (answer.Done ∷ answer.Ready ∷ answer.Thrown thrown ∷ answer.Value r ∷ []) (act.End (done.Threw r))
    raised thrown r is = after_point is (answer.Ready ∷ answer.Thrown thrown ∷ answer.Value r ∷ []) ∙ ap told (new_is (answer.Ready ∷ answer.Thrown thrown ∷ answer.Value r ∷ []))

  module _ (at spot : Span) (name slot object : ℕ) (of : Ty) (for : StandsFor term name (v.Ref object of)) where
    read_is : (xs : List Answer) → expr c (e.Field at (e.Local spot name) slot) s xs ≡ read c slot (v.Ref object of) s xs
    read_is xs = ap (λ x. expr c x s xs) (Field_is at (e.Local spot name) slot) ∙ ap (λ r. on_value r (read c slot)) (named spot name (v.Ref object of) for xs)

    pub reads : IsValue term (e.Field at (e.Local spot name) slot) → ItWants program limit term (answer.Done ∷ []) (act.Get (v.Ref object of) slot)
    reads is = after_point is [] ∙ ap told (read_is [])

    pub has_read : (x : Val) → IsValue term (e.Field at (e.Local spot name) slot) → ItWants program limit term (answer.Done ∷ answer.Value x ∷ []) (act.End (done.Value x))
    has_read x is = after_point is (answer.Value x ∷ []) ∙ ap told (read_is (answer.Value x ∷ []))

    write_is : (y : Expr) (xs : List Answer) → expr c (e.SetField at (e.Local spot name) slot y) s xs ≡ on_value (expr c y s xs) (assigned_to c slot (v.Ref object of))
    write_is y xs =
        ap (λ x. expr c x s xs) (SetField_is at (e.Local spot name) slot y)
        ∙ ap (λ r. on_value r (λ x s xs. on_value (expr c y s xs) (assigned_to c slot x))) (named spot name (v.Ref object of) for xs)

    pub writes : (place : Span) (n : ℤ) → IsValue term (e.SetField at (e.Local spot name) slot (e.Const place (k.Int n))) → ItWants program limit term (answer.Done ∷ []) (act.Put (v.Ref object of) slot (v.Int n))
    writes place n is = after_point is [] ∙ ap told (write_is (e.Const place (k.Int n)) [])

    pub has_written : (place : Span) (n : ℤ) → IsValue term (e.SetField at (e.Local spot name) slot (e.Const place (k.Int n)))
        → ItWants program limit term (answer.Done ∷ answer.Done ∷ []) (act.End (done.Value (v.Int n)))
    has_written place n is = after_point is (answer.Done ∷ []) ∙ ap told (write_is (e.Const place (k.Int n)) (answer.Done ∷ []))

    pub right_side_first : (place : Span) (class constructor : ℕ) (args : List Expr) (k : Class) → IsOwn program class k
        → IsValue term (e.SetField at (e.Local spot name) slot (e.New place class constructor args)) → ItWants program limit term (answer.Done ∷ []) (act.InitBegin class)
    right_side_first place class constructor args k own is =
        after_point is [] ∙ ap told (write_is (e.New place class constructor args) [])
        ∙ ap (λ r. told (on_value r (assigned_to c slot (v.Ref object of)))) (new_is place class constructor args k own [])

  -- the values of constants
  constants_are : (place : Span) (ns : List ℤ) (us : List Val) (f : List Val → On) (xs : List Answer)
      → each (map (expr c) (map (λ n. e.Const place (k.Int n)) ns)) us f s xs ≡ f (reverse (map v.Int ns) ++ us) s xs
  constants_are place [] us f xs = refl
  constants_are place (n ∷ ns) us f xs =
      constants_are place ns (v.Int n ∷ us) f xs
      ∙ ap (λ l. f l s xs) (sym (append_assoc (reverse (map v.Int ns)) (v.Int n ∷ []) us) ∙ ap (λ l. l ++ us) (sym (reverse-append (v.Int n ∷ []) (map v.Int ns))))

  in_order : (ns : List ℤ) → reverse (reverse (map v.Int ns) ++ []) ≡ map v.Int ns
  in_order ns = ap reverse (append-nil (reverse (map v.Int ns))) ∙ reverse-reverse (map v.Int ns)

  -- at least one frame may be made
  deep : 2 ≤ limit → limit - 1 ≡ suc (limit - 2)
  deep room = omega (arith, room)

  module _ (class method : ℕ) (this : Val) (k' : Class) (m : Method) (body : Stmt) (room : 2 ≤ limit) (there : slice_get program.classes class ≡ Some k') (at_method : slice_get k'.methods method ≡ Some m) (is_body : m.body ≡ Code body) where
    abbrev j : Invocation
    j = record { class = class; method = method; this = this }

    abbrev inside : Context
    inside = record { program = program; invocation = j; outer = frame_of invocation_of_term s ∷ []; call = enter (limit - 2) program }

    runs : (us : List Val) (xs : List Answer) → enter (limit - 1) program j us (frame_of invocation_of_term s ∷ []) xs ≡ between inside m.at.line (body_of k' m body) (Some m.end_line) (activation m.at.line m.params (reverse us)) xs
    runs us xs =
        ap (λ n. enter n program j us (frame_of invocation_of_term s ∷ []) xs) (deep room)
        ∙ ap (λ (r : Option Routine). entered inside r us xs) (method_routine program class method k' m body is_body there at_method)

  module _ (at spot place : Span) (name object class method : ℕ) (ns : List ℤ) (k' : Class) (m : Method) (body : Stmt) (room : 2 ≤ limit) (there : slice_get program.classes class ≡ Some k')
      (at_method : slice_get k'.methods method ≡ Some m) (is_body : m.body ≡ Code body) (for : StandsFor term name (v.Ref object (types.Class class)))
      (is : IsValue term (e.Virtual at (e.Local spot name) class method (map (λ n. e.Const place (k.Int n)) ns))) where
    abbrev o : Val
    o = v.Ref object (types.Class class)

    abbrev callee : Context
    callee = record { program = program; invocation = record { class = class; method = method; this = o }; outer = frame_of invocation_of_term s ∷ []; call = enter (limit - 2) program }

    called : (xs : List Answer) → next_of program limit term (answer.Done ∷ xs) ≡ told (on_left (between callee m.at.line (body_of k' m body) (Some m.end_line) (activation m.at.line m.params (map v.Int ns)) xs) s left_with)
    called xs =
        after_point is xs ∙ ap (λ (f : On). told (f s xs)) (Virtual_is c at (e.Local spot name) class method args)
        ∙ ap (λ r. told (on_value r (λ x. each (map (expr c) args) [] (virtual c class method x)))) (named spot name o for xs)
        ∙ ap told (constants_are place ns [] (virtual c class method o) xs)
        ∙ ap (λ b. told (if b then calling c (record { class = class; method = method; this = o }) us left_with s xs else Wrong)) (same_number class)
        ∙ ap (λ r. told (on_left r s left_with)) (runs class method o k' m body room there at_method is_body us xs)
        ∙ ap (λ l. told (on_left (between callee m.at.line (body_of k' m body) (Some m.end_line) (activation m.at.line m.params l) xs) s left_with)) (in_order ns)
      where
        args : List Expr
        args = map (λ n. e.Const place (k.Int n)) ns

        us : List Val
        us = reverse (map v.Int ns) ++ []

    pub enters : next_of program limit term (answer.Done ∷ []) ≡ Some (record {
      action = act.Point (record { class = class; line = m.at.line; depth = 2 });
      frames = frame_of (record { class = class; method = method; this = o }) (activation m.at.line m.params (map v.Int ns)) ∷ frame_of invocation_of_term (start_of term) ∷ [];
    })
    enters = called []

  pub returns_value : (at spot place line inner : Span) (name object class method : ℕ) (ns : List ℤ) (n : ℤ) (k' : Class) (m : Method) → 2 ≤ limit → slice_get program.classes class ≡ Some k'
      → slice_get k'.methods method ≡ Some m → m.body ≡ Code (Return line (Some (e.Const inner (k.Int n)))) → is_constructor m ≡ false → StandsFor term name (v.Ref object (types.Class class))
      → IsValue term (e.Virtual at (e.Local spot name) class method (map (λ n. e.Const place (k.Int n)) ns)) → ItWants program limit term (answer.Done ∷ answer.Done ∷ answer.Done ∷ []) (act.End (done.Value (v.Int n)))
  returns_value at spot place line inner name object class method ns n k' m room there at_method is_body no_constructor for is =
      called at spot place name object class method ns k' m body room there at_method is_body for is (answer.Done ∷ answer.Done ∷ [])
      ∙ ap (λ b. told (on_left (between (callee at spot place name object class method ns k' m body room there at_method is_body for is) m.at.line (if b then k'.instance_start ∷ (body ∷ []) else body ∷ []) (Some m.end_line)
      (activation m.at.line m.params (map v.Int ns)) (answer.Done ∷ answer.Done ∷ [])) s left_with)) no_constructor
    where
      body : Stmt
      body = Return line (Some (e.Const inner (k.Int n)))

  pub initializers_first : (at line : Span) (class constructor object : ℕ) (x : Expr) (k' : Class) (m : Method) (body : Stmt) → 2 ≤ limit → IsOwn program class k' → slice_get k'.methods constructor ≡ Some m
      → m.body ≡ Code body → is_constructor m ≡ true → k'.instance_start ≡ Expression line x → IsValue term (e.New at class constructor [])
      → next_of program limit term (answer.Done ∷ answer.Ready ∷ answer.Value (v.Ref object (types.Class class)) ∷ answer.Done ∷ []) ≡ Some (record {
        action = act.Point (record { class = class; line = line_in class line; depth = 2 });
        frames = frame_of (record { class = class; method = constructor; this = v.Ref object (types.Class class) }) (activation (line_in class line) m.params []) ∷ frame_of invocation_of_term (start_of term) ∷ [];
      })
  initializers_first at line class constructor object x k' m body room own at_method is_body constructs starts is =
      after_point is (answer.Ready ∷ answer.Value o ∷ answer.Done ∷ []) ∙ ap told (new_is at class constructor [] k' own (answer.Ready ∷ answer.Value o ∷ answer.Done ∷ []))
      ∙ ap (λ r. told (on_left r s (left_without o))) (runs class constructor o k' m body room own.0 at_method is_body [] (answer.Done ∷ []))
      ∙ ap (λ b. told (on_left (between (inside class constructor o k' m body room own.0 at_method is_body) m.at.line (if b then k'.instance_start ∷ (body ∷ []) else body ∷ []) (Some m.end_line)
      (activation m.at.line m.params []) (answer.Done ∷ [])) s (left_without o))) constructs
      ∙ ap (λ st. told (on_left (between (inside class constructor o k' m body room own.0 at_method is_body) m.at.line (st ∷ (body ∷ [])) (Some m.end_line) (activation m.at.line m.params []) (answer.Done ∷ [])) s (left_without o))) starts
    where
      o : Val
      o = v.Ref object (types.Class class)

  pub starts_in_frame : (at line : Span) (class constructor : ℕ) (args : List Expr) (x : Expr) (k' : Class) → 2 ≤ limit → IsOwn program class k' → k'.static_start ≡ Expression line x
      → IsValue term (e.New at class constructor args) → next_of program limit term (answer.Done ∷ answer.Go ∷ []) ≡ Some (record {
        action = act.Point (record { class = class; line = line_in class line; depth = 2 });
        frames = frame_of (record { class = class; method = length k'.methods; this = v.Null }) (activation (line_in class line) [] []) ∷ frame_of invocation_of_term (start_of term) ∷ [];
      })
  starts_in_frame at line class constructor args x k' room own starts is =
      after_point is (answer.Go ∷ []) ∙ ap told (new_is at class constructor args k' own (answer.Go ∷ []))
      ∙ ap (λ n. told (on_left (enter n program (j (start_number program class)) [] fs []) s go)) (deep room)
      ∙ ap (λ (r : Option Routine). told (on_left (entered (ctx (start_number program class)) r [] []) s go)) (start_routine program class k' own.0)
      ∙ ap (λ st. told (on_left (between (ctx (start_number program class)) (line_of k'.static_start) (st ∷ []) None (activation (line_of k'.static_start) [] []) []) s go)) starts
      ∙ ap (λ n. told (on_left (between (ctx n) (line_of k'.static_start) (Expression line x ∷ []) None (activation (line_of k'.static_start) [] []) []) s go)) (ap start_in own.0)
    where
      fs : List Frame
      fs = frame_of invocation_of_term s ∷ []

      j : ℕ → Invocation
      j n = record { class = class; method = n; this = v.Null }

      ctx : ℕ → Context
      ctx n = record { program = program; invocation = j n; outer = fs; call = enter (limit - 2) program }

      go : Option Val → On
      go = started c class (memory at class constructor args k' own)
