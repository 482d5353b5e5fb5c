-- From the session to the run.
use Rattle.std.proofs.Common.{◌≡◌, ◌≤◌, ◌+◌, ◌⊎◌, ℕ, List, [], Bool, true, false, Option, Some, None, length, inl, inr, ap, sym, ◌∙◌, refl, subst, arith}
use Rattle.std.proofs.lemmas.List.{append-nil}
use Rattle.bj_io.specs.Told.{before-nil, behind-nil}
use Rattle.bj_core.specs.declared.entry.Entry.{Entry}
use Rattle.bj_history.specs.declared.opening.Opening.{Opening}
use Rattle.bj_machine.specs.Kept.{LogValue}
use Rattle.bj_history.specs.History.{Legal, actions, after, lines, written}
use Rattle.bj_command.specs.Items.{items, IsPrefixOf}
use Rattle.bj_session.specs.Endings.{status_of}
use Rattle.bj_session.specs.Session.{Session, Start, StandsFor, IsSound, IsOver, Holds, HasStatus, IsCut as IsCutOff, fresh_session}
use Rattle.bj_session.specs.declared.ends.Ending.{Ending}
use Rattle.bj_session.specs.declared.ends.Ending.TheVariants as e
use Rattle.objectbench.specs.Top.{Ran, IsCut, IsStatus}

abbrev pub start_of : Opening → Option (List ℕ) → ℕ → ℕ → ℕ → Option (List ℕ) → ℕ → Start
start_of o left faults waits polls held sink_faults = record { opening = o; left = left; held = held; source_faults = faults; waits = waits; polls = polls; sink_faults = sink_faults }

-- a new session stands for its start
pub stands_fresh : (o : Opening) (left : Option (List ℕ)) (faults waits polls : ℕ) (held : Option (List ℕ)) (sink_faults : ℕ)
    → StandsFor (start_of o left faults waits polls held sink_faults) (fresh_session o left faults waits polls held sink_faults)
stands_fresh o left faults waits polls held sink_faults = record {
  opening = refl;
  left = sym (before-nil left);
  held = record { sent = []; unsent = []; parts = refl; held = sym (behind-nil held); all = inr refl };
  source_faults = omega arith;
  waits = omega arith;
  sink_faults = omega arith;
  polls = omega arith;
  few_polls = λ none ended. omega arith;
  source_fault = λ is. absurd cc;
  sink_fault = λ is. absurd cc;
  not_yet = λ is. absurd cc;
}

-- an ending by its status
complete_by : (x : Ending) → status_of x ≡ 0 → x ≡ e.Complete
complete_by e.Complete h = refl
complete_by e.SourceFault h = absurd cc
complete_by e.SinkFault h = absurd cc
complete_by e.NoMemory h = absurd cc
complete_by e.TooLong h = absurd cc
complete_by e.NotYet h = absurd cc

source_by : (x : Ending) → status_of x ≡ 3 → x ≡ e.SourceFault
source_by e.Complete h = absurd cc
source_by e.SourceFault h = refl
source_by e.SinkFault h = absurd cc
source_by e.NoMemory h = absurd cc
source_by e.TooLong h = absurd cc
source_by e.NotYet h = absurd cc

sink_by : (x : Ending) → status_of x ≡ 4 → x ≡ e.SinkFault
sink_by e.Complete h = absurd cc
sink_by e.SourceFault h = absurd cc
sink_by e.SinkFault h = refl
sink_by e.NoMemory h = absurd cc
sink_by e.TooLong h = absurd cc
sink_by e.NotYet h = absurd cc

long_by : (x : Ending) → status_of x ≡ 7 → x ≡ e.TooLong
long_by e.Complete h = absurd cc
long_by e.SourceFault h = absurd cc
long_by e.SinkFault h = absurd cc
long_by e.NoMemory h = absurd cc
long_by e.TooLong h = refl
long_by e.NotYet h = absurd cc

waits_by : (x : Ending) → status_of x ≡ 8 → x ≡ e.NotYet
waits_by e.Complete h = absurd cc
waits_by e.SourceFault h = absurd cc
waits_by e.SinkFault h = absurd cc
waits_by e.NoMemory h = absurd cc
waits_by e.TooLong h = absurd cc
waits_by e.NotYet h = refl

known_status : (x : Ending) → IsStatus (status_of x)
known_status e.Complete = inl refl
known_status e.SourceFault = inr (inl refl)
known_status e.SinkFault = inr (inr (inl refl))
known_status e.NoMemory = inr (inr (inr (inl refl)))
known_status e.TooLong = inr (inr (inr (inr (inl refl))))
known_status e.NotYet = inr (inr (inr (inr (inr refl))))

-- the ending of a session that has one, with its status
pub ending_by : (o : Option Ending) (status : ℕ) → HasStatus o status → (x : Ending) × (o ≡ Some x) × (status ≡ status_of x)
ending_by None status h = absurd h
ending_by (Some x) status h = (x, refl, h)

cut_status : (o : Option Ending) (x : Ending) (status : ℕ) → o ≡ Some x → status ≡ status_of x → IsCutOff o → IsCut status
cut_status o x status o_is is cut = elim cut [
  | inl fault ↦ (let same : x ≡ e.SinkFault = cc in inl (is ∙ ap status_of same))
  | inr memory ↦ (let same : x ≡ e.NoMemory = cc in inr (is ∙ ap status_of same))
]

-- what was written, by the status
held_by : (start now : Option (List ℕ)) (o : Option Ending) (x : Ending) (status : ℕ) (text : List ℕ) → o ≡ Some x → status ≡ status_of x → Holds start now (IsCutOff o) text → Holds start now (IsCut status) text
held_by start now o x status text o_is is h = record {
  sent = h.sent;
  unsent = h.unsent;
  parts = h.parts;
  held = h.held;
  all = elim h.all [ inl cut ↦ inl (cut_status o x status o_is is cut) | inr none ↦ inr none ];
}

pub cause_of_three : (start : Start) (v : Session) (status : ℕ) → StandsFor start v → HasStatus v.ending status → status ≡ 3 → v.ending ≡ Some e.SourceFault
cause_of_three start v status stands has is = let x = ending_by v.ending status has in x.1 ∙ ap Some (source_by x.0 (sym x.2 ∙ is))

pub cause_of_four : (start : Start) (v : Session) (status : ℕ) → StandsFor start v → HasStatus v.ending status → status ≡ 4 → v.ending ≡ Some e.SinkFault
cause_of_four start v status stands has is = let x = ending_by v.ending status has in x.1 ∙ ap Some (sink_by x.0 (sym x.2 ∙ is))

pub cause_of_eight : (start : Start) (v : Session) (status : ℕ) → StandsFor start v → HasStatus v.ending status → status ≡ 8 → v.ending ≡ Some e.NotYet
cause_of_eight start v status stands has is = let x = ending_by v.ending status has in x.1 ∙ ap Some (waits_by x.0 (sym x.2 ∙ is))

pub not_two : (o : Option Ending) (status : ℕ) → HasStatus o status → status ≡ 2 → ⊥
not_two o status has is = let x = ending_by o status has in two x.0 (sym x.2 ∙ is)
  where
    two : (y : Ending) → status_of y ≡ 2 → ⊥
    two e.Complete h = cc
    two e.SourceFault h = cc
    two e.SinkFault h = cc
    two e.NoMemory h = cc
    two e.TooLong h = cc
    two e.NotYet h = cc

-- a session that is over is a run from its start
pub ran : (o : Opening) (start : Start) (v : Session) (left' : Option (List ℕ)) (polls' : ℕ) (ended : Bool) (held' : Option (List ℕ)) (status : ℕ) (log : LogValue)
    → start.opening ≡ o → StandsFor start v → IsSound v → Legal v.desk.opening v.desk.log → (after v.desk.opening v.desk.log).world.acts ≤ v.desk.opening.limits.acts
    → HasStatus v.ending status → log.entries ≡ v.desk.log → log.actions ≡ actions v.desk.opening v.desk.log
    → left' ≡ v.reader.left → polls' ≡ v.reader.polls → ended ≡ v.reader.ended → held' ≡ v.desk.held
    → Ran o start.left left' start.polls polls' ended start.held held' status log
ran o start v left' polls' ended held' status log opens stands sound legal acts has log_is actions_are left_is polls_is ended_is held_is =
    let x = ending_by v.ending status has in
    let opened : v.desk.opening ≡ o = stands.opening ∙ opens in
    record {
      got = v.reader.got;
      read = rw left_is stands.left;
      legal = rw log_is (subst (λ (o' : Opening). Legal o' v.desk.log) opened legal);
      acted = rw log_is (subst (λ (o' : Opening). log.actions ≡ actions o' v.desk.log) opened actions_are);
      lines_are = rw (log_is, ended_is) sound.prefix;
      wrote = rw (log_is, held_is) (subst (λ (o' : Opening). Holds start.held v.desk.held (IsCut status) (written o' v.desk.log)) opened (held_by start.held v.desk.held v.ending x.0 status (written v.desk.opening v.desk.log) x.1 x.2 stands.held));
      known = rw x.2 (known_status x.0);
      complete = λ zero. rw (log_is, ended_is) (subst (λ (o' : Opening). IsOver o'.pad v.reader.got v.reader.ended v.desk.log) opened (sound.complete (x.1 ∙ ap Some (complete_by x.0 (sym x.2 ∙ zero)))));
      only_complete = λ over. status_by x.0 status e.Complete (sym x.1 ∙ sound.only_complete (subst (λ (o' : Opening). IsOver o'.pad v.reader.got v.reader.ended v.desk.log) (sym opened) (rw (log_is, ended_is) at over))) x.2;
      long = λ seven. sound.long (x.1 ∙ ap Some (long_by x.0 (sym x.2 ∙ seven)));
      only_long = λ long. status_by x.0 status e.TooLong (sym x.1 ∙ sound.only_long long) x.2;
      few_polls = rw polls_is stands.polls;
      few_acts = rw log_is (subst (λ (o' : Opening). (after o' v.desk.log).world.acts ≤ o'.limits.acts) opened acts);
    }
  where
    status_by : (x : Ending) (status : ℕ) (y : Ending) → Some x ≡ Some y → status ≡ status_of x → status ≡ status_of y
    status_by x status y same is = let e' : x ≡ y = cc in is ∙ ap status_of e'

-- a session for which there was no memory is a run of nothing
pub ran_nothing : (o : Opening) (left held : Option (List ℕ)) (polls : ℕ) (ended : Bool) (status : ℕ) (log : LogValue) → ended ≡ false → status ≡ 5
    → log.entries ≡ [] → log.actions ≡ [] → Ran o left left polls polls ended held held status log
ran_nothing o left held polls ended status log open_ five none nothing = record {
  got = [];
  read = sym (before-nil left);
  legal = rw none tt;
  acted = rw none nothing;
  lines_are = rw none ([], refl);
  wrote = rw none (record { sent = []; unsent = []; parts = refl; held = sym (behind-nil held); all = inr refl });
  known = rw five (inr (inr (inr (inl refl))));
  complete = λ is. absurd cc;
  only_complete = λ over. absurd (unover o.pad log.entries over none);
  long = λ is. absurd cc;
  only_long = λ is. absurd cc;
  few_polls = omega arith;
  few_acts = rw none (omega arith);
}
  where
    unover : (pad : Bool) (entries : List Entry) → IsOver pad [] ended entries → entries ≡ [] → ⊥
    unover pad entries over e = elim (subst (λ (xs : List Entry). IsOver pad [] ended xs) e over) [ inl quit ↦ cc | inr all ↦ (let h : ended ≡ true = all.0 in cc) ]
