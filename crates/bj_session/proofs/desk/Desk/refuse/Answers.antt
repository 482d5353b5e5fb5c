use Rattle.std.proofs.Common.{◌≡◌, ℕ, List, true, inr, refl, sym, ap, subst}
use Rattle.bj_command.specs.Words.{form_in, takes_memory}
use Rattle.bj_history.specs.Replies.{no_memory}
use Rattle.bj_machine.specs.Shown.{Shown}
use Rattle.bj_session.specs.Desk.{Desk, HasLined}
use Rattle.bj_stream.specs.declared.sending.Sent.TheVariants.{NoMemory}
use Rattle.bj_session.proofs.Notes.{unnoted}
use Rattle.bj_session.proofs.desk.Desk.refuse.Goals as goal

-- not even that memory was wanting could be noted
unlined : (line : List ℕ) (old new : Desk) → takes_memory (form_in old.opening.pad line) ≡ true → new.opening ≡ old.opening → new.log ≡ old.log → new.held ≡ old.held → new.faults ≡ old.faults
    → HasLined NoMemory line old new
unlined line old new takes opening log held faults = record { text = no_memory; replied = inr (takes, refl); noted = unnoted _ old new opening log held faults }

pub returns-in-Err : goal.returns-in-Err
returns-in-Err g c = unlined _ _ _ c.requires.memory refl refl refl refl

pub returns-in-Err-written_text : goal.returns-in-Err-written_text
returns-in-Err-written_text g c = unlined _ _ _ c.requires.memory refl refl refl refl

pub returns-in-Err-note : goal.returns-in-Err-note
returns-in-Err-note g c =
    rw (← c.self.view_is) (unlined _ _ _ (subst (λ (d : Desk). takes_memory (form_in d.opening.pad c.args.bytes) ≡ true) (sym c.self.view_is) c.requires.memory)
    refl (ap (λ (m : Shown). m.log.entries) c.in-Err-note.ensures.err.2) refl refl)
