use Rattle.std.proofs.Common.{◌≡◌, ℕ, List, true, inl, refl, ap, sym, ◌∙◌, subst}
use Rattle.bj_command.specs.Words.{form_in, takes_memory}
use Rattle.bj_history.specs.History.{after, line_outcome}
use Rattle.bj_machine.specs.Shown.{Shown}
use Rattle.bj_reply.specs.Asking.{IsAsked}
use Rattle.bj_reply.specs.declared.asking.Asked.{Asked}
use Rattle.bj_session.specs.Desk.{Desk, HasLined, MayTake}
use Rattle.bj_stream.specs.declared.sending.Sent.TheVariants.{NoMemory}
use Rattle.bj_session.proofs.Notes.{unnoted, noted}
use Rattle.bj_session.proofs.Lining.{asked_for, may_begin, log_entered, kept_lined}
use Rattle.bj_session.proofs.desk.Desk.line.Goals as goal

pub refuse-requires-clause-memory : goal.refuse-requires-clause-memory
refuse-requires-clause-memory g c = subst (λ (d : Desk). takes_memory (form_in d.opening.pad c.args.bytes) ≡ true) c.self.view_is (rw c.as_slice.ensures at c.in-Err.ensures.err)

-- the line could not be noted
unlined : (m : Shown) (line : List ℕ) (asked : Asked) (old new : Desk) → IsAsked m (line_outcome old.opening line (after old.opening old.log)) asked
    → new.opening ≡ old.opening → new.log ≡ old.log → new.held ≡ old.held → new.faults ≡ old.faults → HasLined NoMemory line old new
unlined m line asked old new asks opening log held faults = record { text = asked.reply; replied = inl asks.reply; noted = unnoted _ old new opening log held faults }

pub returns-in-Err-written_text : goal.returns-in-Err-written_text
returns-in-Err-written_text g c =
    let asks = asked_for c.self.invariant c.as_slice.ensures c.in-Ok.ensures.ok in
    rw (← c.self.view_is) (unlined c.self.inside.machine c.args.bytes c.in-Ok.asked _ _ asks refl refl refl refl)

pub enter-requires : goal.enter-requires
enter-requires g c =
    let asks = asked_for c.self.invariant c.as_slice.ensures c.in-Ok.ensures.ok in
    may_begin c.self.inside.machine (line_outcome c.self.inside.opening c.args.bytes (after c.self.inside.opening c.self.inside.machine.log.entries)).term c.in-Ok.asked.thread asks.thread

pub returns-in-Err-enter : goal.returns-in-Err-enter
returns-in-Err-enter g c =
    let asks = asked_for c.self.invariant c.as_slice.ensures c.in-Ok.ensures.ok in
    rw (← c.self.view_is) (unlined c.self.inside.machine c.args.bytes c.in-Ok.asked _ _ asks refl (ap (λ (m : Shown). m.log.entries) c.in-Err-enter.ensures.err.2) refl refl)

pub invariant_of-self-2 : goal.invariant_of-self-2
invariant_of-self-2 g c =
    let asks = asked_for c.self.invariant c.as_slice.ensures c.in-Ok.ensures.ok in
    let may : MayTake c.self.inside.opening c.self.inside.machine.log.entries = subst (λ (d : Desk). MayTake d.opening d.log) (sym c.self.view_is) c.requires in
    kept_lined c.self.inside.opening c.self.inside.machine c.enter.new.machine c.self.inside.wait c.enter.new.wait c.self.inside.binds c.enter.new.binds c.self.inside.bench c.args.bytes c.in-Ok.asked
    (record { kept = c.self.invariant; may = may; asks = asks; entered = c.in-Ok-enter.ensures.entered }) c.in-Ok-enter.ensures.binds c.in-Ok-enter.ensures.wait

pub returns : goal.returns
returns g c =
    let asks = asked_for c.self.invariant c.as_slice.ensures c.in-Ok.ensures.ok in
    let may : MayTake c.self.inside.opening c.self.inside.machine.log.entries = subst (λ (d : Desk). MayTake d.opening d.log) (sym c.self.view_is) c.requires in
    let log = log_entered c.self.inside.opening c.self.inside.machine c.enter.new.machine c.self.inside.wait c.self.inside.binds c.self.inside.bench c.args.bytes c.in-Ok.asked
    (record { kept = c.self.invariant; may = may; asks = asks; entered = c.in-Ok-enter.ensures.entered }) in
    rw (← c.self.view_is) (record {
      text = c.in-Ok.asked.reply;
      replied = inl asks.reply;
      noted = noted _ _ _ _ c.as_slice-2.result.now c.put_all.ensures.sent (c.as_slice-2.ensures ∙ c.in-Ok-written_text.ensures) refl log c.put_all.ensures.faults c.put_all.ensures.failed;
    })
