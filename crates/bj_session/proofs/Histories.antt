-- What the lines of `pad`, and `quit`, leave of a history.
use Rattle.std.proofs.Common.{◌≡◌, ℕ, List, [], ◌∷◌, Bool, true, false, if◌then◌else◌, is_some, Option, Some, None, Result, Ok, Err, inl, inr, refl, sym, ap, ◌∙◌, subst}
use Rattle.std.specs.Prelude.{codes}
use Rattle.bj_core.specs.declared.entry.Entry.{Entry}
use Rattle.bj_core.specs.declared.entry.Entry.TheVariants.{Act, Line, Pause, Woke}
use Rattle.bj_core.specs.declared.entry.Reason.{Reason}
use Rattle.bj_core.specs.declared.program.Program.{Program}
use Rattle.bj_core.specs.declared.tree.Expr.{Expr}
use Rattle.bj_command.specs.declared.command.Command.{Command}
use Rattle.bj_command.specs.declared.command.Command.TheVariants.{Blank, Pad, Quit}
use Rattle.bj_command.specs.declared.command.LineFault.{LineFault}
use Rattle.bj_command.specs.declared.command.LineFault.TheVariants.{BadLine, NoMemory}
use Rattle.bj_command.specs.Words.{IsOfPad, form_in, is_quit, takes_memory}
use Rattle.bj_command.proofs.Pads.{form_of_pad}
use Rattle.bj_command.proofs.Quits.{quit_in}
use Rattle.bj_reading.specs.declared.text.JavaText.TheVariants as java
use Rattle.bj_sum.specs.Reading.{sum_of}
use Rattle.bj_history.specs.declared.opening.Opening.{Opening}
use Rattle.bj_say.specs.declared.wait.Wait.{Wait}
use Rattle.bj_history.specs.Replies.{Answers, LineOutcome, says, reads, starts, pad_term, pad_outcome, outcome_of}
use Rattle.bj_say.specs.Events.{woke_event, written_line}
use Rattle.bj_history.specs.History.{After, after, after_line, wait_after, loaded, IsReply}
use Rattle.bj_history.proofs.Outcomes.{line_case, quit_outcome}

wait_if : (b : Bool) (x y : LineOutcome) → x.wait ≡ None → y.wait ≡ None → (if b then x else y).wait ≡ None
wait_if true x y first second = first
wait_if false x y first second = second

pad_wait : (e : Option Expr) (text : List ℕ) (s : After) → (pad_outcome e text s).wait ≡ None
pad_wait None text s = wait_if (is_some s.world.main) (says (codes "= busy")) (reads java.Line text) refl refl
pad_wait (Some e) text s = wait_if (is_some s.world.main) (says (codes "= busy")) (starts (pad_term e)) refl refl

-- a form of `pad` opens no wait
waits_not : (program : Program) (form : Result Command LineFault) (s : After) → IsOfPad form → (outcome_of program form s).wait ≡ None
unfolding outcome_of
waits_not program (Ok Blank) s is = refl
waits_not program (Ok (Pad text)) s is = pad_wait (sum_of text) text s
waits_not program (Ok Quit) s is = refl
waits_not program (Ok other) s is = absurd is
waits_not program (Err (BadLine place)) s is = refl
waits_not program (Err NoMemory) s is = refl

-- in `pad` a line leaves the wait
pub wait_of_pad : (o : Opening) (line text : List ℕ) (s : After) → o.pad ≡ true → (after_line o line text s).wait ≡ s.wait
wait_of_pad o line text s pad =
    let is : IsOfPad (form_in o.pad line) = subst (λ (b : Bool). IsOfPad (form_in b line)) (sym pad) (form_of_pad line) in
    line_case (λ (t : After). t.wait ≡ s.wait) o line text s refl (ap (λ (w : Option Wait). wait_after w s.wait) (waits_not loaded (form_in o.pad line) s is))

-- in `pad` the end of a wait prints nothing
pub silent_in_pad : (o : Opening) (log : List Entry) (reason : Reason) → o.pad ≡ true → woke_event (after o log).wait reason ≡ []
silent_in_pad o [] reason pad = refl
silent_in_pad o (Line line text ∷ front) reason pad = ap (λ (w : Option Wait). woke_event w reason) (wait_of_pad o line text (after o front) pad) ∙ silent_in_pad o front reason pad
silent_in_pad o (Act thread answer ∷ front) reason pad = silent_in_pad o front reason pad
silent_in_pad o (Pause ∷ front) reason pad = refl
silent_in_pad o (Woke other ∷ front) reason pad = refl
silent_in_pad o (e ∷ front) reason pad = silent_in_pad o front reason pad

-- a line that is `quit` is replied nothing
pub quit_silent : (o : Opening) (s : After) (line text : List ℕ) → IsReply o s line text → is_quit line ≡ true → written_line text ≡ []
quit_silent o s line text replied quit = elim replied [
  | inl is ↦ (let nothing : text ≡ [] = subst (λ (x : LineOutcome). Answers x.reply text) (quit_outcome o line s quit) is in
      ap written_line nothing)
  | inr memory ↦ absurd (let no : false ≡ true = sym (ap takes_memory (quit_in o.pad line quit)) ∙ memory.0 in cc)
]
