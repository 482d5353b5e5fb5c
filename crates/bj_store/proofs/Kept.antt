-- Each object is of a class, and its cells hold values of that class's kinds, whatever is done.
use Rattle.std.proofs.Common.{◌≡◌, ℕ, zero, suc, Bool, true, false, cond, List, [], ◌∷◌, length, map, Option, Some, None, refl, sym, ap, ◌∙◌, subst, arith}
use Rattle.std.specs.Prelude.{codes, slice_get, slice_set, nat_lt, ◌==◌}
use Rattle.std.proofs.lemmas.Bool.Decides.{nat_tests}
use Rattle.bj_core.specs.declared.types.Ty.{Ty}
use Rattle.bj_core.specs.declared.types.Ty.TheVariants as ty
use Rattle.bj_core.specs.declared.types.Val.{Val}
use Rattle.bj_core.specs.declared.types.Val.TheVariants as val
use Rattle.bj_core.specs.declared.program.Program.{Program}
use Rattle.bj_core.specs.declared.limits.Limits.{Limits}
use Rattle.bj_core.specs.declared.action.Action.{Action}
use Rattle.bj_core.specs.declared.action.Action.TheVariants as action
use Rattle.bj_core.specs.declared.action.Piece.{Piece}
use Rattle.bj_core.specs.declared.action.Answer.{Answer}
use Rattle.bj_core.specs.declared.action.Answer.TheVariants as answer
use Rattle.bj_heap.specs.Objects.{Object, HeapState, object_at, own_of, own_at, slot_of, cell, with_slot, with_cell, with_object, can_make}
use Rattle.bj_store.specs.declared.row.Initialization.{Initialization}
use Rattle.bj_store.specs.declared.row.Initialization.TheVariants as init
use Rattle.bj_store.specs.Kept.{IsOfClass, IsKept}
use Rattle.bj_store.specs.Kinds.{kind_of, replaces}
use Rattle.bj_store.specs.Objects.{defaults, new_object, object_named, first_objects, class_named}
use Rattle.bj_store.specs.State.{State, fresh, with_heap, with_class, with_lives, lives, is_of, field_of, with_field}
use Rattle.bj_store.specs.React.{Outcome, Answered, unfit, got, put, made, made_of, begun, ended, ended_by, raised, row, react}
use Rattle.bj_store.proofs.Cells.{set_keeps, more_keep}
use Rattle.bj_store.proofs.Rows.{OnAnswered, by_if}

-- ---- objects

new_is_of_class : (p : Program) (class : ℕ) → IsOfClass p (new_object p.classes class)
new_is_of_class p class = record { class = class; own = refl; cells = refl }

abbrev named : Program → List ℕ → Object
named p name = object_named p.classes name

first_of : (p : Program) (name : List ℕ) (o : Object) → Some (named p name) ≡ Some o → IsOfClass p o
first_of p name o e = let same : named p name ≡ o = cc in subst (IsOfClass p) same (new_is_of_class p (class_named p.classes name))

pub fresh_kept : (p : Program) (limits : Limits) → IsKept p (fresh p limits)
fresh_kept p limits = record { objects = each }
  where
    each : (n : ℕ) (o : Object) → object_at (first_objects p.classes) n ≡ Some o → IsOfClass p o
    each zero o e = absurd (cc)
    each (suc zero) o e = first_of p (codes "Thread") o e
    each (suc (suc zero)) o e = first_of p (codes "PrintStream") o e
    each (suc (suc (suc zero))) o e = first_of p (codes "InputStream") o e
    each (suc (suc (suc (suc zero)))) o e = first_of p (codes "OutOfMemoryError") o e
    each (suc (suc (suc (suc (suc n))))) o e = absurd (cc)

-- ---- a value that is put

replaces_kind : (new old : Val) → replaces new old ≡ true → kind_of new ≡ kind_of old
replaces_kind (val.Int a) (val.Int b) e = refl
replaces_kind (val.Long a) (val.Long b) e = refl
replaces_kind (val.Bool a) (val.Bool b) e = refl
replaces_kind (val.Char a) (val.Char b) e = refl
replaces_kind val.Null val.Null e = refl
replaces_kind new old e = absurd (cc)

kinds_same : (vs : List Val) (slot : ℕ) (new old : Val) → slice_get vs slot ≡ Some old → kind_of new ≡ kind_of old → map kind_of (slice_set vs slot new) ≡ map kind_of vs
kinds_same [] slot new old there same = refl
kinds_same (v ∷ vs) zero new old there same = let is : v ≡ old = cc in cc
kinds_same (v ∷ vs) (suc slot) new old there same = ap (◌∷◌ (kind_of v)) (kinds_same vs slot new old there same)

abbrev Good : Program → Option Object → Type 0
Good p r = (o : Object) → r ≡ Some o → IsOfClass p o

slot_good : (p : Program) (objects : List Object) (n slot : ℕ) (new old : Val) (r : Option Object) → slice_get objects n ≡ r → slot_of r slot ≡ Some old → kind_of new ≡ kind_of old
    → (k : ℕ) → Good p (slice_get objects n) → Good p (slice_get objects k) → Good p (slice_get (with_slot objects n r slot new) k)
slot_good p objects n slot new old None e there same k here good = good
slot_good p objects n slot new old (Some o) e there same k here good =
    set_keeps (Good p) objects n k (record { own = o.own; cells = slice_set o.cells slot new }) (λ was. one) good
  where
    one : Good p (Some (record { own = o.own; cells = slice_set o.cells slot new }))
    one x is =
        let was = here o e in
        let next : record { own = o.own; cells = slice_set o.cells slot new } ≡ x = cc in
        subst (IsOfClass p) next (record { class = was.class; own = was.own; cells = kinds_same o.cells slot new old there same ∙ was.cells })

cell_kept : (p : Program) (s : State) (n : ℕ) (of : Ty) (slot : ℕ) (new old : Val) → IsKept p s → cell s.heap.objects n slot ≡ Some old → kind_of new ≡ kind_of old
    → IsKept p (with_field s (val.Ref n of) slot new)
cell_kept p s zero of slot new old kept there same = absurd (cc)
cell_kept p s (suc n) of slot new old kept there same = record { objects = each }
  where
    each : (k : ℕ) (o : Object) → object_at (with_cell s.heap.objects (suc n) slot new) k ≡ Some o → IsOfClass p o
    each zero o e = absurd (cc)
    each (suc k) o e =
        slot_good p s.heap.objects n slot new old (slice_get s.heap.objects n) refl there same k (λ o is. kept.objects (suc n) o is) (λ o is. kept.objects (suc k) o is) o e

put_if : (p : Program) (s : State) (n : ℕ) (of : Ty) (slot : ℕ) (new old : Val) → IsKept p s → cell s.heap.objects n slot ≡ Some old
    → (b : Bool) → replaces new old ≡ b → OnAnswered (cond b (Answered answer.Done (with_field s (val.Ref n of) slot new)) unfit) (IsKept p)
put_if p s n of slot new old kept there true e = cell_kept p s n of slot new old kept there (replaces_kind new old e)
put_if p s n of slot new old kept there false e = tt

put_at : (p : Program) (s : State) (n : ℕ) (of : Ty) (slot : ℕ) (new : Val) → IsKept p s
    → (b : Bool) (o : Option Val) → cell s.heap.objects n slot ≡ o → OnAnswered (put s (val.Ref n of) slot new (cond b o None)) (IsKept p)
put_at p s n of slot new kept false o e = tt
put_at p s n of slot new kept true None e = tt
put_at p s n of slot new kept true (Some old) e = put_if p s n of slot new old kept e (replaces new old) refl

-- ---- the rows

same_heap : (p : Program) (s t : State) → t.heap ≡ s.heap → IsKept p s → IsKept p t
same_heap p s t e kept = record { objects = λ n o is. kept.objects n o (ap (λ (h : HeapState). object_at h.objects n) (sym e) ∙ is) }

got_kept : (p : Program) (s : State) (o : Option Val) → IsKept p s → OnAnswered (got s o) (IsKept p)
got_kept p s None kept = tt
got_kept p s (Some v) kept = kept

put_kept : (p : Program) (s : State) (object : Val) (slot : ℕ) (new : Val) → IsKept p s → OnAnswered (put s object slot new (field_of s object slot)) (IsKept p)
put_kept p s (val.Ref n of) slot new kept = put_at p s n of slot new kept (is_of (own_at s.heap.objects n) of) (cell s.heap.objects n slot) refl
put_kept p s object slot new kept = tt

object_kept : (p : Program) (s : State) (o : Object) → IsOfClass p o → IsKept p s → IsKept p (with_heap s (with_object s.heap o))
object_kept p s o one kept = record { objects = each }
  where
    each : (n : ℕ) (x : Object) → object_at (with_object s.heap o).objects n ≡ Some x → IsOfClass p x
    each zero x e = absurd (cc)
    each (suc n) x e = more_keep (IsOfClass p) s.heap.objects o (λ n x is. kept.objects (suc n) x is) one n x e

made_kept : (p : Program) (s : State) (class : ℕ) (x : Answer) → IsKept p s → OnAnswered (made_of p s class (Answered x s)) (IsKept p)
made_kept p s class x kept =
    by_if (nat_lt class (length s.classes)) (made s (new_object p.classes class) class (Answered x s)) unfit (IsKept p)
    (by_if (can_make s.heap 1 (length (new_object p.classes class).cells))
    (Answered (answer.Value (val.Ref (suc (length s.heap.objects)) (ty.Class class))) (with_heap s (with_object s.heap (new_object p.classes class)))) (Answered x s) (IsKept p)
    (object_kept p s (new_object p.classes class) (new_is_of_class p class) kept) kept) tt

raised_kept : (p : Program) (s : State) (class : ℕ) (message : Option Piece) → IsKept p s → OnAnswered (raised p s class message) (IsKept p)
raised_kept p s class None kept = made_kept p s class (answer.Value (val.Ref 4 (ty.Class s.out_of_memory))) kept
raised_kept p s class (Some message) kept = tt

begun_kept : (p : Program) (s : State) (thread class : ℕ) (o : Option Initialization) → IsKept p s → OnAnswered (begun s thread class o) (IsKept p)
begun_kept p s thread class None kept = tt
begun_kept p s thread class (Some init.Untouched) kept = same_heap p s _ refl kept
begun_kept p s thread class (Some (init.By other)) kept = by_if (other == thread) _ _ (IsKept p) kept tt
begun_kept p s thread class (Some init.Ready) kept = kept

ended_kept : (p : Program) (s : State) (thread class : ℕ) (o : Option Initialization) → IsKept p s → OnAnswered (ended s thread class o) (IsKept p)
ended_kept p s thread class None kept = tt
ended_kept p s thread class (Some init.Untouched) kept = tt
ended_kept p s thread class (Some (init.By other)) kept = by_if (other == thread) _ _ (IsKept p) (same_heap p s (with_class s class init.Ready) refl kept) tt
ended_kept p s thread class (Some init.Ready) kept = tt

ended_by_kept : (p : Program) (s : State) (thread class : ℕ) (ok : Bool) → IsKept p s → OnAnswered (ended_by s thread class ok) (IsKept p)
ended_by_kept p s thread class true kept = ended_kept p s thread class (slice_get s.classes class) kept
ended_by_kept p s thread class false kept = tt

row_kept : (p : Program) (s : State) (thread : ℕ) (a : Action) → IsKept p s → OnAnswered (row p s thread a) (IsKept p)
row_kept p s thread (action.Point at) kept = kept
row_kept p s thread (action.Get object slot) kept = got_kept p s (field_of s object slot) kept
row_kept p s thread (action.Put object slot v) kept = put_kept p s object slot v kept
row_kept p s thread (action.Make class) kept = made_kept p s class (answer.Thrown s.out_of_memory) kept
row_kept p s thread (action.InitBegin class) kept = begun_kept p s thread class (slice_get s.classes class) kept
row_kept p s thread (action.InitEnd class ok) kept = ended_by_kept p s thread class ok kept
row_kept p s thread (action.Raise class message) kept = raised_kept p s class message kept
row_kept p s thread (action.End over) kept = same_heap p s (with_lives s thread false) refl kept
row_kept p s thread a kept = tt

pub react_kept : (p : Program) (s t : State) (thread : ℕ) (a : Action) (x : Answer) → IsKept p s → react p s thread a ≡ Answered x t → IsKept p t
react_kept p s t thread a x kept e =
    subst (λ (r : Outcome). OnAnswered r (IsKept p)) e (by_if (lives s thread) (row p s thread a) unfit (IsKept p) (row_kept p s thread a kept) tt)

-- ---- a value that is got

abbrev HasKind : List Val → ℕ → Val → Type 0
HasKind ds slot x = (d : Val) × (slice_get ds slot ≡ Some d) × (kind_of x ≡ kind_of d)

kind_at : (vs ds : List Val) (slot : ℕ) (x : Val) → map kind_of vs ≡ map kind_of ds → slice_get vs slot ≡ Some x → HasKind ds slot x
kind_at [] ds slot x kinds e = absurd (cc)
kind_at (v ∷ vs) [] slot x kinds e = absurd (cc)
kind_at (v ∷ vs) (d ∷ ds) zero x kinds e =
    let head : kind_of v ≡ kind_of d = cc in
    let is : v ≡ x = cc in
    (d, refl, (sym (ap kind_of is) ∙ head))
kind_at (v ∷ vs) (d ∷ ds) (suc slot) x kinds e = let tails : map kind_of vs ≡ map kind_of ds = cc in kind_at vs ds slot x tails e

got_so : (b c : Bool) (s t : State) (v : Option Val) (x : Val) → cond b (got s (cond c v None)) unfit ≡ Answered (answer.Value x) t → (c ≡ true) × (v ≡ Some x)
got_so false c s t v x e = absurd (cc)
got_so true false s t v x e = absurd (cc)
got_so true true s t None x e = absurd (cc)
got_so true true s t (Some w) x e = let is : w ≡ x = cc in (refl, ap Some is)

of_class : (own class : ℕ) → own == class ≡ true → own ≡ class
of_class own class e = grind (arith, nat_tests)

got_kind : (p : Program) (b : Bool) (s t : State) (class slot : ℕ) (x : Val) (r : Option Object) → Good p r
    → cond b (got s (cond (is_of (own_of r) (ty.Class class)) (slot_of r slot) None)) unfit ≡ Answered (answer.Value x) t → HasKind (defaults (length p.classes) p.classes class) slot x
got_kind p b s t class slot x None good e = let so = got_so b false s t None x e in absurd (cc)
got_kind p b s t class slot x (Some o) good e =
    let so = got_so b (is_of (Some o.own) (ty.Class class)) s t (slice_get o.cells slot) x e in
    let one = good o refl in
    let same : one.class ≡ class = of_class one.class class (sym (ap (λ (own : Ty). is_of (Some own) (ty.Class class)) one.own) ∙ so.0) in
    subst (λ (class : ℕ). HasKind (defaults (length p.classes) p.classes class) slot x) same (kind_at o.cells (defaults (length p.classes) p.classes one.class) slot x one.cells so.1)

pub fields_kind : (p : Program) (s t : State) (thread object class slot : ℕ) (x : Val) → IsKept p s
    → react p s thread (action.Get (val.Ref object (ty.Class class)) slot) ≡ Answered (answer.Value x) t → HasKind (defaults (length p.classes) p.classes class) slot x
fields_kind p s t thread object class slot x kept e = got_kind p (lives s thread) s t class slot x (object_at s.heap.objects object) (kept.objects object) e
