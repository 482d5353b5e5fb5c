-- A value that is put into a field is there, and leaves the other fields as they were.
use Rattle.std.proofs.Common.{◌≡◌, ◌≢◌, ℕ, Bool, true, false, cond, Option, Some, None, ◌⊎◌, inl, inr, refl, sym, ap, subst, ◌∙◌}
use Rattle.std.specs.Prelude.{nat_eq}
use Rattle.std.proofs.Common.{arith}
use Rattle.std.proofs.lemmas.Bool.Decides.{nat_tests}
use Rattle.bj_core.specs.declared.types.Ty.{Ty}
use Rattle.bj_core.specs.declared.types.Val.{Val}
use Rattle.bj_core.specs.declared.types.Val.TheVariants as val
use Rattle.bj_core.specs.declared.program.Program.{Program}
use Rattle.bj_core.specs.declared.action.Action.TheVariants as action
use Rattle.bj_core.specs.declared.action.Answer.TheVariants as answer
use Rattle.bj_heap.specs.Objects.{own_at, cell, with_cell}
use Rattle.bj_heap.proofs.Maps.{put_here, put_object, put_slot}
use Rattle.bj_store.specs.Kinds.{replaces}
use Rattle.bj_store.specs.State.{State, lives, is_of, referred, field_of, with_field, with_field_in}
use Rattle.bj_store.specs.React.{Answered, unfit, got, put, react}
use Rattle.bj_store.proofs.Cells.{own_same}

put_if : (c : Bool) (s t : State) (object : Val) (slot : ℕ) (v : Val) → cond c (Answered answer.Done (with_field s object slot v)) unfit ≡ Answered answer.Done t → t ≡ with_field s object slot v
put_if true s t object slot v e = cc
put_if false s t object slot v e = absurd (cc)

put_state : (b : Bool) (s t : State) (object : Val) (slot : ℕ) (v : Val) (o : Option Val) → cond b (put s object slot v o) unfit ≡ Answered answer.Done t → t ≡ with_field s object slot v
put_state true s t object slot v None e = absurd (cc)
put_state true s t object slot v (Some w) e = put_if (replaces v w) s t object slot v e
put_state false s t object slot v o e = absurd (cc)

-- ---- the field itself

put_field : (b c : Bool) (s t : State) (n : ℕ) (of : Ty) (slot : ℕ) (v : Val) (o : Option Val) → is_of (own_at s.heap.objects n) of ≡ c → cell s.heap.objects n slot ≡ o
    → cond b (put s (val.Ref n of) slot v (cond c o None)) unfit ≡ Answered answer.Done t → field_of t (val.Ref n of) slot ≡ Some v
put_field false c s t n of slot v o is there e = absurd (cc)
put_field true false s t n of slot v o is there e = absurd (cc)
put_field true true s t n of slot v None is there e = absurd (cc)
put_field true true s t n of slot v (Some w) is there e =
    ap (λ (t : State). field_of t (val.Ref n of) slot) (put_if (replaces v w) s t (val.Ref n of) slot v e)
    ∙ (ap (λ (own : Option Ty). cond (is_of own of) (cell (with_cell s.heap.objects n slot v) n slot) None) (own_same s.heap.objects n slot v n)
    ∙ (ap (λ (c : Bool). cond c (cell (with_cell s.heap.objects n slot v) n slot) None) is
    ∙ put_here s.heap.objects n slot v (λ no. let bad : Some w ≡ None = sym there ∙ no in absurd (cc))))

put_got : (b : Bool) (s t : State) (object : Val) (slot : ℕ) (v : Val) → cond b (put s object slot v (field_of s object slot)) unfit ≡ Answered answer.Done t → field_of t object slot ≡ Some v
put_got b s t (val.Ref n of) slot v e = put_field b (is_of (own_at s.heap.objects n) of) s t n of slot v (cell s.heap.objects n slot) refl refl e
put_got true s t object slot v e = absurd (cc)
put_got false s t object slot v e = absurd (cc)

pub put_same : (p : Program) (s t : State) (thread other : ℕ) (object : Val) (slot : ℕ) (value : Val)
    → react p s thread (action.Put object slot value) ≡ Answered answer.Done t → lives t other ≡ true → react p t other (action.Get object slot) ≡ Answered (answer.Value value) t
put_same p s t thread other object slot value e living =
    ap (λ (b : Bool). cond b (got t (field_of t object slot)) unfit) living ∙ ap (got t) (put_got (lives s thread) s t object slot value e)

-- ---- the other fields

cell_other : (s : State) (n m slot slot2 : ℕ) (v : Val) → (◌≢◌ {A = Option ℕ} (Some m) (Some n)) ⊎ (slot2 ≢ slot)
    → cell (with_cell s.heap.objects n slot v) m slot2 ≡ cell s.heap.objects m slot2
cell_other s n m slot slot2 v (inl far) = put_object s.heap.objects n slot m slot2 v (λ e. far (ap Some (sym e)))
cell_other s n m slot slot2 v (inr far) = by (nat_eq n m) refl
  where
    by : (b : Bool) → nat_eq n m ≡ b → cell (with_cell s.heap.objects n slot v) m slot2 ≡ cell s.heap.objects m slot2
    by true is =
        let same : n ≡ m = grind (arith, nat_tests) in
        subst (λ (k : ℕ). cell (with_cell s.heap.objects n slot v) k slot2 ≡ cell s.heap.objects k slot2) same
        (put_slot s.heap.objects n slot slot2 v (λ e. far (sym e)))
    by false is = put_object s.heap.objects n slot m slot2 v (λ e. let same : nat_eq n m ≡ true = grind (arith, nat_tests) in absurd (cc))

field_other : (s : State) (n : ℕ) (object2 : Val) (slot slot2 : ℕ) (v : Val) → (referred object2 ≢ Some n) ⊎ (slot2 ≢ slot)
    → field_of (with_field_in s (Some n) slot v) object2 slot2 ≡ field_of s object2 slot2
field_other s n (val.Ref m of) slot slot2 v apart =
    ap (λ (own : Option Ty). cond (is_of own of) (cell (with_cell s.heap.objects n slot v) m slot2) None) (own_same s.heap.objects n slot v m)
    ∙ ap (λ (o : Option Val). cond (is_of (own_at s.heap.objects m) of) o None) (cell_other s n m slot slot2 v apart)
field_other s n object2 slot slot2 v apart = refl

got_at : (b : Bool) (s t : State) (o o2 : Option Val) (found : Val) → o2 ≡ o → cond b (got s o) unfit ≡ Answered (answer.Value found) s → cond b (got t o2) unfit ≡ Answered (answer.Value found) t
got_at false s t o o2 found same e = absurd (cc)
got_at true s t None o2 found same e = absurd (cc)
got_at true s t (Some w) o2 found same e = let is : w ≡ found = cc in cc

others_at : (s : State) (r : Option ℕ) (object2 : Val) (slot slot2 : ℕ) (v found : Val) (other : ℕ) → (referred object2 ≢ r) ⊎ (slot2 ≢ slot)
    → cond (lives s other) (got s (field_of s object2 slot2)) unfit ≡ Answered (answer.Value found) s
    → cond (lives (with_field_in s r slot v) other) (got (with_field_in s r slot v) (field_of (with_field_in s r slot v) object2 slot2)) unfit
    ≡ Answered (answer.Value found) (with_field_in s r slot v)
others_at s None object2 slot slot2 v found other apart g = g
others_at s (Some n) object2 slot slot2 v found other apart g =
    got_at (lives s other) s (with_field_in s (Some n) slot v) (field_of s object2 slot2) (field_of (with_field_in s (Some n) slot v) object2 slot2) found
    (field_other s n object2 slot slot2 v apart) g

pub put_others : (p : Program) (s t : State) (thread other : ℕ) (object : Val) (slot : ℕ) (value object2 : Val) (slot2 : ℕ) (found : Val)
    → react p s thread (action.Put object slot value) ≡ Answered answer.Done t → (referred object2 ≢ referred object) ⊎ (slot2 ≢ slot)
    → react p s other (action.Get object2 slot2) ≡ Answered (answer.Value found) s → react p t other (action.Get object2 slot2) ≡ Answered (answer.Value found) t
put_others p s t thread other object slot value object2 slot2 found e apart g =
    subst (λ (t : State). react p t other (action.Get object2 slot2) ≡ Answered (answer.Value found) t)
    (sym (put_state (lives s thread) s t object slot value (field_of s object slot) e))
    (others_at s (referred object) object2 slot slot2 value found other apart g)
