-- What a line changes.
use Rattle.std.proofs.Common.{◌≡◌, ℕ, Bool, true, false, if◌then◌else◌, List, [], Some, Result, refl, ap, ◌∙◌}
use Rattle.std.specs.Str.{bytes_eq}
use Rattle.bj_command.specs.declared.command.Command.{Command}
use Rattle.bj_command.specs.declared.command.LineFault.{LineFault}
use Rattle.bj_command.specs.Words.{form_in, is_quit}
use Rattle.bj_command.proofs.Quits.{quit_in}
use Rattle.bj_history.specs.declared.opening.Opening.{Opening}
use Rattle.bj_say.specs.declared.wait.Wait.TheVariants.{Silent}
use Rattle.bj_history.specs.Replies.{After, Answers, LineOutcome, says, no_memory, outcome_of}
use Rattle.bj_history.specs.History.{loaded, line_outcome, after_outcome, after_line}
use Rattle.bj_history.proofs.Lines.{OfEach, if_case, of_form, quit_says}

-- what holds of each thing that a line may come to holds of what this line comes to
pub of_line : (P : LineOutcome → Type 0) (o : Opening) (line : List ℕ) (s : After) → OfEach P s → P (line_outcome o line s)
of_line P o line s each = of_form P loaded s (form_in o.pad line) each

-- what holds before a line, and after what it comes to, holds after the line
pub line_case : (P : After → Type 0) (o : Opening) (line text : List ℕ) (s : After) → P s → P (after_outcome (line_outcome o line s) s) → P (after_line o line text s)
line_case P o line text s before behind = if_case P (bytes_eq text no_memory) s _ (λ h. before) (λ h. behind)

-- no line opens a silent wait
pub never_silent : (o : Opening) (line : List ℕ) (s : After) → (line_outcome o line s).wait ≡ Some Silent → ⊥
never_silent o line s =
    of_line (λ (x : LineOutcome). x.wait ≡ Some Silent → ⊥) o line s
    (record { text = λ text e. cc; read = λ form text e. cc; opened = λ e. cc; started = λ term free binds e. cc; bound = λ name t free untaken e. cc })

-- `quit` is replied nothing
pub quit_outcome : (o : Opening) (line : List ℕ) (s : After) → is_quit line ≡ true → line_outcome o line s ≡ says []
quit_outcome o line s quits = ap (λ (form : Result Command LineFault). outcome_of loaded form s) (quit_in o.pad line quits) ∙ quit_says loaded s

-- a text changes nothing
pub told_changes_nothing : (text : List ℕ) (s : After) → after_outcome (says text) s ≡ s
told_changes_nothing text s = refl

same_if : (b : Bool) (s : After) → (if b then s else s) ≡ s
same_if true s = refl
same_if false s = refl

-- a line with the reply of what it comes to leaves what it comes to
pub line_replied : (o : Opening) (line text : List ℕ) (s : After) → Answers (line_outcome o line s).reply text → after_line o line text s ≡ after_outcome (line_outcome o line s) s
line_replied o line text s =
    of_line (λ (x : LineOutcome). Answers x.reply text → (if bytes_eq text no_memory then s else after_outcome x s) ≡ after_outcome x s) o line s
    (record {
      text = λ said is. same_if (bytes_eq text no_memory) s;
      read = λ form java is. same_if (bytes_eq text no_memory) s;
      opened = λ is. rw is refl;
      started = λ term free binds is. rw is refl;
      bound = λ name e free untaken is. rw is refl;
    })

-- a line that wanted memory leaves all as it was
pub line_wanting : (o : Opening) (line : List ℕ) (s : After) → after_line o line no_memory s ≡ s
line_wanting o line s = refl

-- a line leaves the names on the bench
pub names_line : (o : Opening) (line text : List ℕ) (s : After) → (after_line o line text s).names ≡ s.names
names_line o line text s = line_case (λ (t : After). t.names ≡ s.names) o line text s refl refl
