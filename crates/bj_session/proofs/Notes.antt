-- Entries that are noted.
use Rattle.std.proofs.Common.{◌≡◌, ◌≤◌, ℕ, suc, length, List, [], ◌∷◌, inl, inr, ap, sym, ◌∙◌, refl, arith}
use Rattle.std.proofs.lemmas.List.{append-nil}
use Rattle.bj_io.specs.Told.{behind-nil, Rose}
use Rattle.bj_core.specs.declared.entry.Entry.{Entry}
use Rattle.bj_history.specs.History.{after, written, printed}
use Rattle.bj_stream.specs.Sending.{IsSent}
use Rattle.bj_session.specs.Desk.{Desk, HasNoted}
use Rattle.bj_stream.specs.declared.sending.Sent.{Sent}
use Rattle.bj_stream.specs.declared.sending.Sent.TheVariants.{All, Failed, NoMemory}

-- for want of memory nothing was added
pub unnoted : (entry : Entry) (old new : Desk) → new.opening ≡ old.opening → new.log ≡ old.log → new.held ≡ old.held → new.faults ≡ old.faults → HasNoted NoMemory entry old new
unnoted entry old new opening log held faults = record {
  sent = [];
  unsent = [];
  opening = opening;
  log = inr log;
  parts = append-nil (written old.opening old.log) ∙ ap (λ (l : List Entry). written old.opening l) (sym log);
  held = held ∙ sym (behind-nil old.held);
  all = λ is. absurd cc;
  silent = λ is h. absurd (let e : suc (length old.log) ≡ length old.log = ap length (sym is ∙ log) in omega arith);
  faults = omega arith;
  failed = λ is. absurd cc;
}

-- an entry that prints nothing
pub noted_silently : (entry : Entry) (old new : Desk) → printed old.opening (after old.opening old.log) entry ≡ [] → new.opening ≡ old.opening → new.log ≡ entry ∷ old.log → new.held ≡ old.held → new.faults ≡ old.faults → HasNoted All entry old new
noted_silently entry old new silent opening log held faults = record {
  sent = [];
  unsent = [];
  opening = opening;
  log = inl log;
  parts = rw (log, silent) refl;
  held = held ∙ sym (behind-nil old.held);
  all = λ is. (log, refl);
  silent = λ is h. refl;
  faults = omega arith;
  failed = λ is. absurd cc;
}

-- an entry whose text was sent as far as the sink took it
pub noted : (answer : Sent) (entry : Entry) (old new : Desk) (text : List ℕ) → IsSent answer text old.held new.held → text ≡ printed old.opening (after old.opening old.log) entry → new.opening ≡ old.opening → new.log ≡ entry ∷ old.log → old.faults ≤ new.faults → (answer ≡ Failed → Rose old.faults new.faults) → HasNoted answer entry old new
noted answer entry old new text is prints opening log faults failed = record {
  sent = is.sent;
  unsent = is.unsent;
  opening = opening;
  log = inl log;
  parts = rw (is.parts, prints, log) refl;
  held = is.held;
  all = λ h. (log, is.all h);
  silent = λ h none. is.none (prints ∙ none);
  faults = faults;
  failed = failed;
}
