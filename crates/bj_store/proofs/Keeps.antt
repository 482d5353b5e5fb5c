-- What no step takes back: objects keep their numbers and types, and an initialization that has begun stays begun.
use Rattle.std.proofs.Common.{◌≡◌, ◌≢◌, ℕ, zero, suc, ◌<◌, ◌≤◌, Bool, true, false, cond, List, [], ◌∷◌, ◌++◌, length, length-append, Option, Some, None, refl, sym, ap, ◌∙◌, subst, arith}
use Rattle.std.specs.Prelude.{codes, slice_get, nat_lt, ◌==◌}
use Rattle.bj_core.specs.declared.types.Ty.{Ty}
use Rattle.bj_core.specs.declared.types.Ty.TheVariants as ty
use Rattle.bj_core.specs.declared.types.Val.{Val}
use Rattle.bj_core.specs.declared.types.Val.TheVariants as val
use Rattle.bj_core.specs.declared.program.Program.{Program}
use Rattle.bj_core.specs.declared.limits.Limits.{Limits}
use Rattle.bj_core.specs.declared.action.Action.{Action}
use Rattle.bj_core.specs.declared.action.Action.TheVariants as action
use Rattle.bj_core.specs.declared.action.Piece.{Piece}
use Rattle.bj_core.specs.declared.action.Answer.{Answer}
use Rattle.bj_core.specs.declared.action.Answer.TheVariants as answer
use Rattle.bj_heap.specs.Objects.{Object, HeapState, own_at, with_object, can_make}
use Rattle.bj_store.specs.declared.row.Initialization.{Initialization}
use Rattle.bj_store.specs.declared.row.Initialization.TheVariants as init
use Rattle.bj_store.specs.declared.reaction.Block.{Block}
use Rattle.bj_store.specs.Objects.{new_object, first_objects, class_named}
use Rattle.bj_store.specs.Kinds.{replaces}
use Rattle.bj_store.specs.State.{State, fresh, with_heap, with_class, lives, referred, field_of, with_field, with_field_in}
use Rattle.bj_store.specs.React.{Outcome, Answered, Blocked, unfit, got, put, made, made_of, begun, ended, ended_by, raised, row, react}
use Rattle.bj_store.proofs.Cells.{set_keeps, set_at, more_owns, last_owns, own_same, cell_count}
use Rattle.bj_store.proofs.Rows.{OnAnswered, by_if}
use Rattle.bj_store.specs.Runs.{Step, Begins, Acts, Steps, Runs}

-- the initialization of the class has begun
abbrev is_begun : Option Initialization → Bool
is_begun None = false
is_begun (Some init.Untouched) = false
is_begun (Some (init.By thread)) = true
is_begun (Some init.Ready) = true

record Keeps (s t : State) : Type 0 where
  count : length s.heap.objects ≤ length t.heap.objects
  owns : (n : ℕ) (of : Ty) → own_at s.heap.objects n ≡ Some of → own_at t.heap.objects n ≡ Some of
  ready : (class : ℕ) → slice_get s.classes class ≡ Some init.Ready → slice_get t.classes class ≡ Some init.Ready
  under_way : (class : ℕ) → is_begun (slice_get s.classes class) ≡ true → is_begun (slice_get t.classes class) ≡ true
  spare : t.out_of_memory ≡ s.out_of_memory

same : (s t : State) → t.heap ≡ s.heap → t.classes ≡ s.classes → t.out_of_memory ≡ s.out_of_memory → Keeps s t
same s t e f g = record {
  count = let le : length s.heap.objects ≤ length s.heap.objects = omega arith in subst (λ (h : HeapState). length s.heap.objects ≤ length h.objects) (sym e) le;
  owns = λ n of is. ap (λ (h : HeapState). own_at h.objects n) e ∙ is;
  ready = λ class is. ap (λ (cs : List Initialization). slice_get cs class) f ∙ is;
  under_way = λ class is. ap (λ (cs : List Initialization). is_begun (slice_get cs class)) f ∙ is;
  spare = g;
}

kept : (s : State) → Keeps s s
kept s = same s s refl refl refl

after : (s t u : State) → Keeps s t → Keeps t u → Keeps s u
after s t u h k = record {
  count = let a = h.count in let b = k.count in omega arith;
  owns = λ n of is. k.owns n of (h.owns n of is);
  ready = λ class is. k.ready class (h.ready class is);
  under_way = λ class is. k.under_way class (h.under_way class is);
  spare = k.spare ∙ h.spare;
}

-- ---- the parts of the state

class_kept : (s : State) (class : ℕ) (x : Initialization) → (slice_get s.classes class ≡ Some init.Ready → Some x ≡ Some init.Ready) → is_begun (Some x) ≡ true → Keeps s (with_class s class x)
class_kept s class x ready started = record {
  count = omega arith;
  owns = λ n of is. is;
  ready = λ k is. set_keeps (λ (o : Option Initialization). o ≡ Some init.Ready) s.classes class k x ready is;
  under_way = λ k is. set_keeps (λ (o : Option Initialization). is_begun o ≡ true) s.classes class k x (λ was. started) is;
  spare = refl;
}

object_kept : (s : State) (o : Object) → Keeps s (with_heap s (with_object s.heap o))
object_kept s o = record {
  count = omega (arith, length-append s.heap.objects (o ∷ []));
  owns = owns;
  ready = λ class is. is;
  under_way = λ class is. is;
  spare = refl;
}
  where
    owns : (n : ℕ) (of : Ty) → own_at s.heap.objects n ≡ Some of → own_at (s.heap.objects ++ o ∷ []) n ≡ Some of
    owns zero of is = is
    owns (suc n) of is = more_owns s.heap.objects (o ∷ []) n of is

field_kept : (s : State) (r : Option ℕ) (slot : ℕ) (v : Val) → Keeps s (with_field_in s r slot v)
field_kept s None slot v = kept s
field_kept s (Some object) slot v = record {
  count = omega (arith, cell_count s.heap.objects object slot v);
  owns = λ n of is. own_same s.heap.objects object slot v n ∙ is;
  ready = λ class is. is;
  under_way = λ class is. is;
  spare = refl;
}

-- ---- the rows

got_kept : (s : State) (o : Option Val) → OnAnswered (got s o) (Keeps s)
got_kept s None = tt
got_kept s (Some v) = kept s

put_kept : (s : State) (object : Val) (slot : ℕ) (v : Val) (o : Option Val) → OnAnswered (put s object slot v o) (Keeps s)
put_kept s object slot v None = tt
put_kept s object slot v (Some w) = by_if (replaces v w) (Answered answer.Done (with_field s object slot v)) unfit (Keeps s) (field_kept s (referred object) slot v) tt

made_kept : (p : Program) (s : State) (class : ℕ) (x : Answer) → OnAnswered (made_of p s class (Answered x s)) (Keeps s)
made_kept p s class x =
    by_if (nat_lt class (length s.classes)) (made s (new_object p.classes class) class (Answered x s)) unfit (Keeps s)
    (by_if (can_make s.heap 1 (length (new_object p.classes class).cells))
    (Answered (answer.Value (val.Ref (suc (length s.heap.objects)) (ty.Class class))) (with_heap s (with_object s.heap (new_object p.classes class)))) (Answered x s) (Keeps s)
    (object_kept s (new_object p.classes class)) (kept s)) tt

raised_kept : (p : Program) (s : State) (class : ℕ) (message : Option Piece) → OnAnswered (raised p s class message) (Keeps s)
raised_kept p s class None = made_kept p s class (answer.Value (val.Ref 4 (ty.Class s.out_of_memory)))
raised_kept p s class (Some message) = tt

begun_kept : (s : State) (thread class : ℕ) (o : Option Initialization) → slice_get s.classes class ≡ o → OnAnswered (begun s thread class o) (Keeps s)
begun_kept s thread class None e = tt
begun_kept s thread class (Some init.Untouched) e = class_kept s class (init.By thread) (λ is. let bad = sym e ∙ is in absurd (cc)) refl
begun_kept s thread class (Some (init.By other)) e = by_if (other == thread) _ _ (Keeps s) (kept s) tt
begun_kept s thread class (Some init.Ready) e = kept s

ended_kept : (s : State) (thread class : ℕ) (o : Option Initialization) → OnAnswered (ended s thread class o) (Keeps s)
ended_kept s thread class None = tt
ended_kept s thread class (Some init.Untouched) = tt
ended_kept s thread class (Some (init.By other)) = by_if (other == thread) _ _ (Keeps s) (class_kept s class init.Ready (λ is. refl) refl) tt
ended_kept s thread class (Some init.Ready) = tt

ended_by_kept : (s : State) (thread class : ℕ) (ok : Bool) → OnAnswered (ended_by s thread class ok) (Keeps s)
ended_by_kept s thread class true = ended_kept s thread class (slice_get s.classes class)
ended_by_kept s thread class false = tt

row_kept : (p : Program) (s : State) (thread : ℕ) (a : Action) → OnAnswered (row p s thread a) (Keeps s)
row_kept p s thread (action.Point at) = kept s
row_kept p s thread (action.Get object slot) = got_kept s (field_of s object slot)
row_kept p s thread (action.Put object slot v) = put_kept s object slot v (field_of s object slot)
row_kept p s thread (action.Make class) = made_kept p s class (answer.Thrown s.out_of_memory)
row_kept p s thread (action.InitBegin class) = begun_kept s thread class (slice_get s.classes class) refl
row_kept p s thread (action.InitEnd class ok) = ended_by_kept s thread class ok
row_kept p s thread (action.Raise class message) = raised_kept p s class message
row_kept p s thread (action.End over) = same s _ refl refl refl
row_kept p s thread a = tt

react_kept : (p : Program) (s t : State) (thread : ℕ) (a : Action) (x : Answer) → react p s thread a ≡ Answered x t → Keeps s t
react_kept p s t thread a x e =
    subst (λ (r : Outcome). OnAnswered r (Keeps s)) e (by_if (lives s thread) (row p s thread a) unfit (Keeps s) (row_kept p s thread a) tt)

step_kept : (p : Program) (step : Step) (s t : State) → Steps p step s t → Keeps s t
step_kept p Begins s t e = same s t (ap (λ (s : State). s.heap) e) (ap (λ (s : State). s.classes) e) (ap (λ (s : State). s.out_of_memory) e)
step_kept p (Acts thread a x) s t e = react_kept p s t thread a x e

run_kept : (p : Program) (s t : State) (steps : List Step) → Runs p s steps t → Keeps s t
run_kept p s t [] e = same s t (ap (λ (s : State). s.heap) e) (ap (λ (s : State). s.classes) e) (ap (λ (s : State). s.out_of_memory) e)
run_kept p s t (step ∷ front) r = after s r.0 t (run_kept p s r.0 front r.1) (step_kept p step r.0 t r.2)

-- ---- what is made

record MadeSo (s t : State) (class n : ℕ) (of : Ty) : Type 0 where
  number : n ≡ suc (length s.heap.objects)
  count : length t.heap.objects ≡ suc (length s.heap.objects)
  own : own_at t.heap.objects n ≡ Some of

make_so : (b c d : Bool) (s t : State) (class : ℕ) (o : Object) (n : ℕ) (of : Ty) → o.own ≡ ty.Class class
    → cond b (cond c (cond d (Answered (answer.Value (val.Ref (suc (length s.heap.objects)) (ty.Class class))) (with_heap s (with_object s.heap o))) (Answered (answer.Thrown s.out_of_memory) s)) unfit) unfit
    ≡ Answered (answer.Value (val.Ref n of)) t
    → MadeSo s t class n of
make_so false c d s t class o n of own e = absurd (cc)
make_so true false d s t class o n of own e = absurd (cc)
make_so true true false s t class o n of own e = absurd (cc)
make_so true true true s t class o n of own e =
    let number : n ≡ suc (length s.heap.objects) = cc in
    let is : t ≡ with_heap s (with_object s.heap o) = cc in
    let kind : ty.Class class ≡ of = cc in
    let longer : length (s.heap.objects ++ o ∷ []) ≡ suc (length s.heap.objects) = omega (arith, length-append s.heap.objects (o ∷ [])) in
    record {
      number = number;
      count = ap (λ (t : State). length t.heap.objects) is ∙ longer;
      own = ap (λ (t : State). own_at t.heap.objects n) is
          ∙ (ap (λ (n : ℕ). own_at (s.heap.objects ++ o ∷ []) n) number ∙ (last_owns s.heap.objects o ∙ ap Some (own ∙ kind)));
    }

made_so : (p : Program) (s t : State) (thread class n : ℕ) (of : Ty) → react p s thread (action.Make class) ≡ Answered (answer.Value (val.Ref n of)) t → MadeSo s t class n of
made_so p s t thread class n of e =
    make_so (lives s thread) (nat_lt class (length s.classes)) (can_make s.heap 1 (length (new_object p.classes class).cells)) s t class (new_object p.classes class) n of refl e

pub numbers_rise : (p : Program) (s t u v : State) (thread other class class2 n n2 : ℕ) (of of2 : Ty) (steps : List Step)
    → react p s thread (action.Make class) ≡ Answered (answer.Value (val.Ref n of)) t → Runs p t steps u
    → react p u other (action.Make class2) ≡ Answered (answer.Value (val.Ref n2 of2)) v → n < n2
numbers_rise p s t u v thread other class class2 n n2 of of2 steps first run second =
    let a = made_so p s t thread class n of first in
    let b = made_so p u v other class2 n2 of2 second in
    let k = run_kept p t u steps run in
    omega (arith, a.number, a.count, b.number, k.count)

pub objects_stay : (p : Program) (s t u : State) (thread class n : ℕ) (of : Ty) (steps : List Step)
    → react p s thread (action.Make class) ≡ Answered (answer.Value (val.Ref n of)) t → Runs p t steps u → own_at u.heap.objects n ≡ Some of
objects_stay p s t u thread class n of steps first run =
    (run_kept p t u steps run).owns n of (made_so p s t thread class n of first).own

-- ---- what is there from the start

pub first_stay : (p : Program) (limits : Limits) (s : State) (steps : List Step) (n : ℕ) (of : Ty)
    → Runs p (fresh p limits) steps s → own_at (first_objects p.classes) n ≡ Some of → own_at s.heap.objects n ≡ Some of
first_stay p limits s steps n of run is = (run_kept p (fresh p limits) s steps run).owns n of is

pub spare_stays : (p : Program) (limits : Limits) (s : State) (steps : List Step) → Runs p (fresh p limits) steps s → own_at s.heap.objects 4 ≡ Some (ty.Class s.out_of_memory)
spare_stays p limits s steps run =
    let k = run_kept p (fresh p limits) s steps run in
    k.owns 4 (ty.Class (class_named p.classes (codes "OutOfMemoryError"))) refl ∙ ap (λ (n : ℕ). Some (ty.Class n)) (sym k.spare)

-- ---- what is initialized

not_go : (c : Bool) (s t : State) (b : Block) → cond c (Answered answer.Ready s) (Blocked b) ≡ Answered answer.Go t → ⊥
not_go true s t b e = cc
not_go false s t b e = cc

record GoesSo (s t : State) (class : ℕ) : Type 0 where
  before : is_begun (slice_get s.classes class) ≡ false
  after : is_begun (slice_get t.classes class) ≡ true

go_so : (b : Bool) (s t : State) (thread class : ℕ) (o : Option Initialization) → slice_get s.classes class ≡ o → cond b (begun s thread class o) unfit ≡ Answered answer.Go t → GoesSo s t class
go_so false s t thread class o is e = absurd (cc)
go_so true s t thread class None is e = absurd (cc)
go_so true s t thread class (Some init.Untouched) is e =
    let next : t ≡ with_class s class (init.By thread) = cc in
    record {
      before = ap is_begun is;
      after = ap (λ (t : State). is_begun (slice_get t.classes class)) next ∙ ap is_begun (set_at s.classes class (init.By thread) init.Untouched is);
    }
go_so true s t thread class (Some (init.By other)) is e = absurd (not_go (other == thread) s t _ e)
go_so true s t thread class (Some init.Ready) is e = absurd (cc)

goes_so : (p : Program) (s t : State) (thread class : ℕ) → react p s thread (action.InitBegin class) ≡ Answered answer.Go t → GoesSo s t class
goes_so p s t thread class e = go_so (lives s thread) s t thread class (slice_get s.classes class) refl e

pub goes_once : (p : Program) (s t u v : State) (thread other class : ℕ) (steps : List Step)
    → react p s thread (action.InitBegin class) ≡ Answered answer.Go t → Runs p t steps u → react p u other (action.InitBegin class) ≢ Answered answer.Go v
goes_once p s t u v thread other class steps first run second =
    let a = (goes_so p s t thread class first).after in
    let b = (goes_so p u v other class second).before in
    let c = (run_kept p t u steps run).under_way class a in
    let bad : true ≡ false = sym c ∙ b in
    cc

ends_if : (c : Bool) (s t : State) (class other : ℕ) → slice_get s.classes class ≡ Some (init.By other) → cond c (Answered answer.Done (with_class s class init.Ready)) unfit ≡ Answered answer.Done t
    → slice_get t.classes class ≡ Some init.Ready
ends_if false s t class other is e = absurd (cc)
ends_if true s t class other is e =
    let next : t ≡ with_class s class init.Ready = cc in
    ap (λ (t : State). slice_get t.classes class) next ∙ set_at s.classes class init.Ready (init.By other) is

ends_so : (b : Bool) (s t : State) (thread class : ℕ) (o : Option Initialization) → slice_get s.classes class ≡ o → cond b (ended s thread class o) unfit ≡ Answered answer.Done t
    → slice_get t.classes class ≡ Some init.Ready
ends_so false s t thread class o is e = absurd (cc)
ends_so true s t thread class None is e = absurd (cc)
ends_so true s t thread class (Some init.Untouched) is e = absurd (cc)
ends_so true s t thread class (Some (init.By other)) is e = ends_if (other == thread) s t class other is e
ends_so true s t thread class (Some init.Ready) is e = absurd (cc)

pub stays_ready : (p : Program) (s t u : State) (thread other class : ℕ) (steps : List Step)
    → react p s thread (action.InitEnd class true) ≡ Answered answer.Done t → Runs p t steps u → lives u other ≡ true
    → react p u other (action.InitBegin class) ≡ Answered answer.Ready u
stays_ready p s t u thread other class steps e run living =
    ap (λ (o : Option Initialization). cond (lives u other) (begun u other class o) unfit)
    ((run_kept p t u steps run).ready class (ends_so (lives s thread) s t thread class (slice_get s.classes class) refl e))
    ∙ ap (λ (b : Bool). cond b (Answered answer.Ready u) unfit) living
