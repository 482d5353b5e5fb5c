-- What each form of a line comes to, and how what was asked answers it.
use Rattle.std.proofs.Common.{◌≡◌, ◌==◌, ℕ, Bool, true, false, if◌then◌else◌, is_some, List, [], ◌++◌, Option, Some, None, Result, Ok, Err, refl, sym, ap, subst, ◌∙◌, arith}
use Rattle.std.proofs.lemmas.Bool.Decides.{nat_tests}
use Rattle.std.specs.Prelude.{IfOk, codes, decimal}
use Rattle.bj_core.specs.declared.program.Program.{Program}
use Rattle.bj_core.specs.declared.tree.Expr.{Expr}
use Rattle.bj_core.specs.declared.types.Ty.TheVariants as ty
use Rattle.bj_core.specs.declared.types.Val.{Val}
use Rattle.bj_core.specs.declared.types.Val.TheVariants as val
use Rattle.bj_command.specs.declared.command.Command.{Command}
use Rattle.bj_command.specs.declared.command.Command.TheVariants as command
use Rattle.bj_command.specs.declared.command.LineFault.{LineFault}
use Rattle.bj_command.specs.declared.command.LineFault.TheVariants.{BadLine}
use Rattle.bj_store.specs.State.{State}
use Rattle.bj_sum.specs.declared.cells.CellCall.{CellCall}
use Rattle.bj_sum.specs.Cells.{creation_of, call_of}
use Rattle.bj_sum.specs.Reading.{sum_of}
use Rattle.bj_machine.specs.World.{World}
use Rattle.bj_machine.specs.Shown.{Shown, Stands}
use Rattle.bj_bench.specs.declared.names.BoundName.{BoundName}
use Rattle.bj_say.specs.declared.wait.Wait.TheVariants.{Told}
use Rattle.bj_bench.specs.Names.{value_in, is_taken, is_plain}
use Rattle.bj_say.specs.Views.{inspection}
use Rattle.bj_history.specs.Replies.{After, LineOutcome, cell_in, called_outcome, says, opens, not_built, if_free, pad_outcome, creation_begins, creation_outcome, new_outcome, call_name, call_outcome, cell_call_outcome, inspected, inspect_outcome, outcome_of}
use Rattle.bj_reply.specs.declared.asking.Asked.{Asked}
use Rattle.bj_reply.specs.Asking.{IsAsked, IsFor, IsForAny}

-- THE FORMS: what a line comes to whose command is this one, with its texts as slices

pub of_blank : (p : Program) (x : Command) (s : After) → x ≡ command.Blank → says [] ≡ outcome_of p (Ok x) s
unfolding outcome_of
of_blank p x s is = rw is refl

pub of_pad : (p : Program) (text slice : List ℕ) (x : Command) (s : After) → x ≡ command.Pad text → slice ≡ text → pad_outcome (sum_of slice) slice s ≡ outcome_of p (Ok x) s
unfolding outcome_of
of_pad p text slice x s is same = rw (is, same) refl

pub of_new : (p : Program) (name text called slice : List ℕ) (x : Command) (s : After) → x ≡ command.New name text → called ≡ name → slice ≡ text
    → new_outcome p called slice s ≡ outcome_of p (Ok x) s
unfolding outcome_of
of_new p name text called slice x s is named same = rw (is, named, same) refl

pub of_call : (p : Program) (text slice : List ℕ) (x : Command) (s : After) → x ≡ command.Call text → slice ≡ text → call_outcome (call_of slice) slice s ≡ outcome_of p (Ok x) s
unfolding outcome_of
of_call p text slice x s is same = rw (is, same) refl

pub of_inspect : (p : Program) (name called : List ℕ) (x : Command) (s : After) → x ≡ command.Inspect name → called ≡ name → inspect_outcome p called s ≡ outcome_of p (Ok x) s
unfolding outcome_of
of_inspect p name called x s is named = rw (is, named) refl

pub of_wait : (p : Program) (x : Command) (s : After) → x ≡ command.Wait → opens Told ≡ outcome_of p (Ok x) s
unfolding outcome_of
of_wait p x s is = rw is refl

pub of_unbuilt : (p : Program) (x : Command) (s : After) → x ≡ command.Unbuilt → not_built ≡ outcome_of p (Ok x) s
unfolding outcome_of
of_unbuilt p x s is = rw is refl

pub of_quit : (p : Program) (x : Command) (s : After) → x ≡ command.Quit → says [] ≡ outcome_of p (Ok x) s
unfolding outcome_of
of_quit p x s is = rw is refl

pub of_bad : (p : Program) (place : ℕ) (form : Result Command LineFault) (s : After) → form ≡ Err (BadLine place) → says (codes "= bad line " ++ decimal place) ≡ outcome_of p form s
unfolding outcome_of
of_bad p place form s is = rw is refl

-- WHAT WAS ASKED

-- what answers an outcome answers one that equals it
pub asked_from : (m : Shown) (x y : LineOutcome) (asked : Asked) → x ≡ y → IsAsked m x asked → IsAsked m y asked
asked_from m x y asked same is = subst (λ (z : LineOutcome). IsAsked m z asked) same is

-- a text that is said is another that equals it
pub said : (text same : List ℕ) (asked : Asked) → text ≡ same → ((m : Shown) → IsAsked m (says text) asked) → (m : Shown) → IsAsked m (says same) asked
said text same asked e is = λ m. subst (λ (t : List ℕ). IsAsked m (says t) asked) e (is m)

pub said_if_ok : {E : Type 0} (r : Result Asked E) (text same : List ℕ) → text ≡ same → IfOk r (λ asked. (m : Shown) → IsAsked m (says text) asked)
    → IfOk r (λ asked. (m : Shown) → IsAsked m (says same) asked)
said_if_ok (Ok asked) text same e is = said text same asked e is
said_if_ok (Err fault) text same e is = tt

-- what answers one outcome over any machine answers each that the line comes to
pub any_from : {E : Type 0} (r : Result Asked E) (m : Shown) (x : LineOutcome) (outcome : After → LineOutcome) → IfOk r (λ asked. (m : Shown) → IsAsked m x asked)
    → ((s : After) → Stands m s.world → x ≡ outcome s) → IfOk r (IsForAny m outcome)
any_from (Ok asked) m x outcome is same = λ s stands. asked_from m _ _ asked (same s stands) (is m)
any_from (Err fault) m x outcome is same = tt

pub for_from : {E : Type 0} (r : Result Asked E) (m : Shown) (names : List BoundName) (x : LineOutcome) (outcome : After → LineOutcome)
    → IfOk r (λ asked. (m : Shown) → IsAsked m x asked) → ((s : After) → Stands m s.world → names ≡ s.names → x ≡ outcome s) → IfOk r (IsFor m names outcome)
for_from (Ok asked) m names x outcome is same = λ s stands named. asked_from m _ _ asked (same s stands named) (is m)
for_from (Err fault) m names x outcome is same = tt

-- what answers one outcome of a state answers another that equals it
pub for_any : {E : Type 0} (r : Result Asked E) (m : Shown) (names : List BoundName) (x y : After → LineOutcome) → ((s : After) → x s ≡ y s)
    → IfOk r (IsForAny m x) → IfOk r (IsFor m names y)
for_any (Ok asked) m names x y same is = λ s stands named. asked_from m _ _ asked (same s) (is s stands)
for_any (Err fault) m names x y same is = tt

pub for_same : {E : Type 0} (r : Result Asked E) (m : Shown) (names : List BoundName) (x y : After → LineOutcome) → ((s : After) → x s ≡ y s)
    → IfOk r (IsFor m names x) → IfOk r (IsFor m names y)
for_same (Ok asked) m names x y same is = λ s stands named. asked_from m _ _ asked (same s) (is s stands named)
for_same (Err fault) m names x y same is = tt

pub any_same : {E : Type 0} (r : Result Asked E) (m : Shown) (x y : After → LineOutcome) → ((s : After) → x s ≡ y s)
    → IfOk r (IsForAny m x) → IfOk r (IsForAny m y)
any_same (Ok asked) m x y same is = λ s stands. asked_from m _ _ asked (same s) (is s stands)
any_same (Err fault) m x y same is = tt

-- what answers one outcome over any machine answers one that equals it over this one
pub known_from : {E : Type 0} (r : Result Asked E) (m : Shown) (x y : LineOutcome) → x ≡ y → IfOk r (λ asked. (m : Shown) → IsAsked m x asked) → IfOk r (IsAsked m y)
known_from (Ok asked) m x y same is = asked_from m _ _ asked same (is m)
known_from (Err fault) m x y same is = tt

-- what answers one outcome over this machine answers each that the line comes to
pub for_known : {E : Type 0} (r : Result Asked E) (m : Shown) (names : List BoundName) (x : LineOutcome) (outcome : After → LineOutcome)
    → IfOk r (λ asked. IsAsked m x asked) → ((s : After) → Stands m s.world → names ≡ s.names → x ≡ outcome s) → IfOk r (IsFor m names outcome)
for_known (Ok asked) m names x outcome is same = λ s stands named. asked_from m _ _ asked (same s stands named) is
for_known (Err fault) m names x outcome is same = tt

-- THE CASES OF EACH OUTCOME

pub when_busy : (w : World) (go : LineOutcome) → is_some w.main ≡ true → says (codes "= busy") ≡ if_free w go
when_busy w go busy = rw busy refl

pub when_free : (w : World) (go : LineOutcome) → is_some w.main ≡ false → go ≡ if_free w go
when_free w go free = rw free refl

pub when_taken : (e : Option Expr) (name text : List ℕ) (s : After) → is_some s.world.main ≡ false → is_taken s.names name ≡ true
    → says (codes "= taken " ++ name) ≡ creation_outcome e name text s
when_taken e name text s free taken = rw (free, taken) refl

pub when_untaken : (e : Option Expr) (name text : List ℕ) (s : After) → is_some s.world.main ≡ false → is_taken s.names name ≡ false
    → creation_begins e name text ≡ creation_outcome e name text s
when_untaken e name text s free untaken = rw (free, untaken) refl

-- a name that is no plain one, and a plain one
pub new_refused : (p : Program) (name text : List ℕ) (s : After) → is_plain p name ≡ false → not_built ≡ new_outcome p name text s
new_refused p name text s plain = rw plain refl

pub new_plain : (p : Program) (name text : List ℕ) (s : After) → is_plain p name ≡ true → creation_outcome (creation_of text) name text s ≡ new_outcome p name text s
new_plain p name text s plain = rw plain refl

pub inspect_refused : (p : Program) (name : List ℕ) (s : After) → is_plain p name ≡ false → not_built ≡ inspect_outcome p name s
inspect_refused p name s plain = rw plain refl

pub inspect_plain : (p : Program) (name : List ℕ) (s : After) → is_plain p name ≡ true → inspected p s.world.store name (value_in s.names name) ≡ inspect_outcome p name s
inspect_plain p name s plain = rw plain refl

-- the inspection of a name that stands for a value
pub inspect_found : (p q : Program) (store : State) (name text : List ℕ) (v : Val) (names : List BoundName) (s : After) → is_plain q name ≡ true
    → text ≡ inspection p store name v → p ≡ q → store ≡ s.world.store → Some v ≡ value_in names name → names ≡ s.names → says text ≡ inspect_outcome q name s
inspect_found p q store name text v names s plain is program stored found named =
    ap says (is ∙ ap (λ (x : Program). inspection x store name v) program ∙ ap (λ (x : State). inspection q x name v) stored)
    ∙ ap (λ (o : Option Val). inspected q s.world.store name o) (found ∙ ap (λ (ns : List BoundName). value_in ns name) named) ∙ inspect_plain q name s plain

-- whether a name is plain over the program that is loaded
pub plain_over : (p q r : Program) (name : List ℕ) (b t : Bool) → b ≡ is_plain p name → p ≡ q → q ≡ r → b ≡ t → is_plain r name ≡ t
plain_over p q r name b t test first second is = sym (ap (λ (p : Program). is_plain p name) (first ∙ second)) ∙ sym test ∙ is

-- a call on a name that stands for no Cell
pub no_cell : (call : CellCall) (s : After) → cell_in (value_in s.names (call_name call)) ≡ None → not_built ≡ cell_call_outcome call s
no_cell call s none = ap (λ (v : Option Val). called_outcome call v s) (sym none)

-- the object of a call on `Cell` is one
pub cell_is : (v : Option Val) (x : Val) → cell_in v ≡ Some x → (object : ℕ) × (x ≡ val.Ref object (ty.Class 5))
cell_is (Some (val.Ref object (ty.Class class))) x e = of_class class object x (class == 5) refl e where
  of_class : (class object : ℕ) (x : Val) (b : Bool) → (class == 5) ≡ b → (if b then Some (val.Ref object (ty.Class class)) else None) ≡ Some x
      → (object : ℕ) × (x ≡ val.Ref object (ty.Class 5))
  of_class class object x true test e =
      let five : class ≡ 5 = grind (arith, nat_tests) in
      (object, cc)
  of_class class object x false test e = absurd cc
cell_is v x e = absurd cc
