-- A wait is silent only behind a pause.
use Rattle.std.proofs.Common.{◌≡◌, ℕ, true, List, [], ◌∷◌, Option, Some, None, refl}
use Rattle.bj_core.specs.declared.entry.Entry.{Entry}
use Rattle.bj_core.specs.declared.entry.Entry.TheVariants.{Line, Pause, Woke}
use Rattle.bj_history.specs.declared.opening.Opening.{Opening}
use Rattle.bj_say.specs.declared.wait.Wait.{Wait}
use Rattle.bj_say.specs.declared.wait.Wait.TheVariants.{Silent}
use Rattle.bj_history.specs.Replies.{After}
use Rattle.bj_history.specs.History.{after, after_line, line_outcome, wait_after, has_pause}
use Rattle.bj_history.proofs.Outcomes.{never_silent, line_case}

-- no wait that is not silent makes one silent
silent_before : (opened wait : Option Wait) → (opened ≡ Some Silent → ⊥) → wait_after opened wait ≡ Some Silent → wait ≡ Some Silent
silent_before None wait loud e = e
silent_before (Some opened) wait loud e = absurd (loud e)

-- a wait that is silent after a line was so before it
pub line_silent : (o : Opening) (line text : List ℕ) (s : After) → (after_line o line text s).wait ≡ Some Silent → s.wait ≡ Some Silent
line_silent o line text s =
    line_case (λ (t : After). t.wait ≡ Some Silent → s.wait ≡ Some Silent) o line text s (λ e. e)
    (silent_before (line_outcome o line s).wait s.wait (never_silent o line s))

-- a silent wait is open only behind a pause
pub silent_pause : (o : Opening) (log : List Entry) → (after o log).wait ≡ Some Silent → has_pause log ≡ true
silent_pause o [] e = absurd cc
silent_pause o (Line line text ∷ front) e = silent_pause o front (line_silent o line text (after o front) e)
silent_pause o (Pause ∷ front) e = refl
silent_pause o (Woke reason ∷ front) e = absurd cc
silent_pause o (e ∷ front) silent = silent_pause o front silent
