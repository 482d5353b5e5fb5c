-- What holds of each thing that a line may come to holds of what a line comes to.
use Rattle.std.proofs.Common.{◌≡◌, ℕ, Bool, true, false, if◌then◌else◌, List, [], Option, Some, None, is_some, Result, Ok, Err, refl}
use Rattle.bj_core.specs.declared.frame.Term.{Term}
use Rattle.bj_core.specs.declared.program.Program.{Program}
use Rattle.bj_core.specs.declared.tree.Expr.{Expr}
use Rattle.bj_core.specs.declared.types.Val.{Val}
use Rattle.bj_command.specs.declared.command.Command.{Command}
use Rattle.bj_command.specs.declared.command.Command.TheVariants.{Blank, Pad, New, Call, Inspect, Wait, Unbuilt, Quit}
use Rattle.bj_command.specs.declared.command.LineFault.{LineFault}
use Rattle.bj_command.specs.declared.command.LineFault.TheVariants.{BadLine, NoMemory}
use Rattle.bj_sum.specs.declared.cells.CellCall.{CellCall}
use Rattle.bj_sum.specs.Cells.{creation_of, call_of}
use Rattle.bj_sum.specs.Reading.{sum_of}
use Rattle.bj_reading.specs.declared.text.JavaText.{JavaText}
use Rattle.bj_reading.specs.declared.text.JavaText.TheVariants as java
use Rattle.bj_say.specs.declared.wait.Wait.TheVariants.{Told}
use Rattle.bj_bench.specs.Names.{value_in, is_taken, is_plain, binds}
use Rattle.bj_history.specs.Replies.{After, LineOutcome, says, reads, starts, opens, pad_term, new_term, call_term, call_name, cell_in, if_free, pad_outcome, if_untaken, creation_begins, creation_outcome, new_outcome, called_outcome, call_outcome, inspected, inspect_outcome, outcome_of}

-- what holds of both holds of the one that the test decides for
pub if_case : {A : Type 0} (P : A → Type 0) (b : Bool) (x y : A) → (b ≡ true → P x) → (b ≡ false → P y) → P (if b then x else y)
if_case P true x y f g = f refl
if_case P false x y f g = g refl

-- a property holds of each thing that a line may come to: a text, what reading one of Java comes to, the wait that is told of, a term that binds no name, and
-- one that binds a name that is not taken; a term begins where none runs
pub record OfEach (P : LineOutcome → Type 0) (s : After) : Type 0 where
  pub text : (text : List ℕ) → P (says text)
  pub read : (form : JavaText) (text : List ℕ) → P (reads form text)
  pub opened : P (opens Told)
  pub started : (term : Term) → is_some s.world.main ≡ false → binds term.kind ≡ None → P (starts term)
  pub bound : (name : List ℕ) (e : Expr) → is_some s.world.main ≡ false → is_taken s.names name ≡ false → P (starts (new_term name e))

of_free : (P : LineOutcome → Type 0) (s : After) (go : LineOutcome) → OfEach P s → (is_some s.world.main ≡ false → P go) → P (if_free s.world go)
of_free P s go each goes = if_case P (is_some s.world.main) _ go (λ h. each.text _) goes

of_pad : (P : LineOutcome → Type 0) (s : After) (e : Option Expr) (text : List ℕ) → OfEach P s → P (pad_outcome e text s)
of_pad P s None text each = of_free P s (reads java.Line text) each (λ free. each.read java.Line text)
of_pad P s (Some e) text each = of_free P s (starts (pad_term e)) each (λ free. each.started (pad_term e) free refl)

of_begins : (P : LineOutcome → Type 0) (s : After) (e : Option Expr) (name text : List ℕ) → OfEach P s → is_some s.world.main ≡ false → is_taken s.names name ≡ false
    → P (creation_begins e name text)
of_begins P s None name text each free untaken = each.read java.Creation text
of_begins P s (Some e) name text each free untaken = each.bound name e free untaken

of_creation : (P : LineOutcome → Type 0) (s : After) (e : Option Expr) (name text : List ℕ) → OfEach P s → P (creation_outcome e name text s)
of_creation P s e name text each =
    of_free P s (if_untaken s.names name (creation_begins e name text)) each
    (λ free. if_case P (is_taken s.names name) _ _ (λ h. each.text _) (λ untaken. of_begins P s e name text each free untaken))

of_new : (P : LineOutcome → Type 0) (program : Program) (s : After) (name text : List ℕ) → OfEach P s → P (new_outcome program name text s)
of_new P program s name text each = if_case P (is_plain program name) _ _ (λ h. of_creation P s (creation_of text) name text each) (λ h. each.text _)

of_called : (P : LineOutcome → Type 0) (s : After) (call : CellCall) (object : Option Val) → OfEach P s → P (called_outcome call object s)
of_called P s call None each = each.text _
of_called P s call (Some object) each = of_free P s (starts (call_term call object)) each (λ free. each.started (call_term call object) free refl)

of_call : (P : LineOutcome → Type 0) (s : After) (call : Option CellCall) (text : List ℕ) → OfEach P s → P (call_outcome call text s)
of_call P s None text each = of_free P s (reads java.Call text) each (λ free. each.read java.Call text)
of_call P s (Some call) text each = of_called P s call (cell_in (value_in s.names (call_name call))) each

of_inspected : (P : LineOutcome → Type 0) (program : Program) (s : After) (name : List ℕ) (v : Option Val) → OfEach P s → P (inspected program s.world.store name v)
of_inspected P program s name None each = each.text _
of_inspected P program s name (Some v) each = each.text _

of_inspect : (P : LineOutcome → Type 0) (program : Program) (s : After) (name : List ℕ) → OfEach P s → P (inspect_outcome program name s)
of_inspect P program s name each = if_case P (is_plain program name) _ _ (λ h. of_inspected P program s name (value_in s.names name) each) (λ h. each.text _)

-- a line comes to one of the things that it may come to
pub of_form : (P : LineOutcome → Type 0) (program : Program) (s : After) (form : Result Command LineFault) → OfEach P s → P (outcome_of program form s)
unfolding outcome_of
of_form P program s (Ok Blank) each = each.text _
of_form P program s (Ok (Pad text)) each = of_pad P s (sum_of text) text each
of_form P program s (Ok (New name text)) each = of_new P program s name text each
of_form P program s (Ok (Call text)) each = of_call P s (call_of text) text each
of_form P program s (Ok (Inspect name)) each = of_inspect P program s name each
of_form P program s (Ok Wait) each = each.opened
of_form P program s (Ok Unbuilt) each = each.text _
of_form P program s (Ok Quit) each = each.text _
of_form P program s (Err (BadLine place)) each = each.text _
of_form P program s (Err NoMemory) each = each.text _

-- `quit` is replied nothing
pub quit_says : (program : Program) (s : After) → outcome_of program (Ok Quit) s ≡ says []
unfolding outcome_of
quit_says program s = refl
