-- What the desk keeps when a line comes.
use Rattle.std.proofs.Common.{◌≡◌, ℕ, List, ◌∷◌, Option, Some, None, inl, refl, sym, ap, ◌∙◌, subst}
use Rattle.bj_core.specs.declared.entry.Entry.{Entry}
use Rattle.bj_core.specs.declared.entry.Entry.TheVariants.{Line}
use Rattle.bj_core.specs.declared.frame.Term.{Term}
use Rattle.bj_command.specs.Words.{form_in}
use Rattle.bj_exec.specs.declared.thread.Thread.{Thread}
use Rattle.bj_bench.specs.declared.names.BoundName.{BoundName}
use Rattle.bj_history.specs.declared.opening.Opening.{Opening}
use Rattle.bj_say.specs.declared.wait.Wait.{Wait}
use Rattle.bj_history.specs.Names.{bound_by}
use Rattle.bj_history.specs.Replies.{outcome_of}
use Rattle.bj_history.specs.History.{After, after, after_line, after_outcome, actions, line_outcome, loaded, started, wait_after, Fits, Legal}
use Rattle.bj_history.proofs.Outcomes.{line_replied}
use Rattle.bj_machine.specs.Kept.{LogValue}
use Rattle.bj_machine.specs.World.{World, Told}
use Rattle.bj_machine.specs.Shown.{Shown, Stands, At, KeepsSetting, HasNoted as MachineNoted, setting_of}
use Rattle.bj_reply.specs.Asking.{IsAsked, IsPrepared, binds_of}
use Rattle.bj_reply.specs.declared.asking.Asked.{Asked}
use Rattle.bj_session.specs.Desk.{IsKept, MayTake}
use Rattle.bj_session.specs.Naming.{Begins, HasEntered, MayBegin, binds_then}

-- what a line asks of a machine with its bench is what the line comes to behind its history
pub asked_for : {o : Opening} {m : Shown} {wait : Option Wait} {name : Option (List ℕ)} {bench : List BoundName} {line bytes : List ℕ} {asked : Asked} → IsKept o m wait name bench → bytes ≡ line
    → ((s : After) → Stands m s.world → bench ≡ s.names → IsAsked m (outcome_of loaded (form_in o.pad bytes) s) asked) → IsAsked m (line_outcome o line (after o m.log.entries)) asked
asked_for {o} {m} {wait} {name} {bench} {line} {bytes} {asked} kept same asks =
    subst (λ (l : List ℕ). IsAsked m (line_outcome o l (after o m.log.entries)) asked) same (asks (after o m.log.entries) kept.stands (sym kept.names))

-- a prepared term may begin
pub may_begin : (m : Shown) (term : Option Term) (thread : Option Thread) → IsPrepared m term thread → MayBegin m thread
may_begin m None None prepared = tt
may_begin m None (Some thread) prepared = absurd prepared
may_begin m (Some term) None prepared = absurd prepared
may_begin m (Some term) (Some thread) prepared = (term, prepared)

at_kept : (m m' : Shown) (told : Option Told) (thread : Option Thread) → KeepsSetting m m' → At m told thread → At m' told thread
at_kept m m' None None keeps at_ = tt
at_kept m m' None (Some thread) keeps at_ = absurd at_
at_kept m m' (Some told) None keeps at_ = absurd at_
at_kept m m' (Some told) (Some thread) keeps at_ = rw (keeps.program, keeps.code, keeps.limits) at_

-- an entry that is no act leaves what the machine stands for
stands_noted : (e : Entry) (m m' : Shown) (w : World) → MachineNoted e m m' → Stands m w → Stands m' w
stands_noted e m m' w noted stands = record {
  store = noted.store ∙ stands.store;
  main = subst (λ (t : Option Thread). At m' w.main t) (sym noted.main) (at_kept m m' w.main m.main noted.keeps stands.main);
  acts = noted.acts ∙ stands.acts;
}

-- and what is prepared for it
prepared_noted : (e : Entry) (m m' : Shown) (term : Option Term) (thread : Option Thread) → MachineNoted e m m' → IsPrepared m term thread → IsPrepared m' term thread
prepared_noted e m m' None None noted prepared = tt
prepared_noted e m m' None (Some thread) noted prepared = absurd prepared
prepared_noted e m m' (Some term) None noted prepared = absurd prepared
prepared_noted e m m' (Some term) (Some thread) noted prepared = rw (noted.keeps.program, noted.keeps.code, noted.keeps.limits) prepared

-- the term of a line begins, where there is one
record Begun (m m' : Shown) (term : Option Term) : Type 0 where
  log : m'.log ≡ m.log
  setting : setting_of m' ≡ setting_of m
  stands : (w : World) → Stands m w → Stands m' (started term w)

begun : (m m' : Shown) (term : Option Term) (thread : Option Thread) → IsPrepared m term thread → Begins thread m m' → Begun m m' term
begun m m' None None prepared begins =
    record { log = ap (λ (v : Shown). v.log) begins; setting = ap setting_of begins; stands = λ w stands. subst (λ (v : Shown). Stands v w) (sym begins) stands }
begun m m' None (Some thread) prepared begins = absurd prepared
begun m m' (Some term) None prepared begins = absurd prepared
begun m m' (Some term) (Some thread) prepared begins =
    let b = begins term prepared in
    record { log = b.log; setting = rw (b.keeps.program, b.keeps.limits) refl; stands = b.world }

-- the name that the main thread's term binds is that of the term that began last
begun_name : (m : Shown) (w : World) (term : Option Term) (thread : Option Thread) (asked name : Option (List ℕ)) → IsPrepared m term thread → asked ≡ binds_of term
    → bound_by w.main ≡ name → bound_by (started term w).main ≡ binds_then thread asked name
begun_name m w None None asked name prepared is binds = binds
begun_name m w None (Some thread) asked name prepared is binds = absurd prepared
begun_name m w (Some term) None asked name prepared is binds = absurd prepared
begun_name m w (Some term) (Some thread) asked name prepared is binds = sym is

-- a line that was replied as what it comes to is one entry more, and the machine, the wait and the names are those behind it
record Lined (o : Opening) (m m' : Shown) (line text : List ℕ) (t : After) : Type 0 where
  log : m'.log.entries ≡ Line line text ∷ m.log.entries
  actions : m'.log.actions ≡ None ∷ m.log.actions
  setting : setting_of m' ≡ setting_of m
  changes : after_line o line text (after o m.log.entries) ≡ t
  stands : Stands m' t.world

kept_more : (o : Opening) (m m' : Shown) (wait : Option Wait) (name : Option (List ℕ)) (bench : List BoundName) (line text : List ℕ) (t : After) → IsKept o m wait name bench
    → Fits o m.log.entries (Line line text) → Lined o m m' line text t → IsKept o m' t.wait (bound_by t.world.main) t.names
kept_more o m m' wait name bench line text t kept fits lined =
    let is : after o m'.log.entries ≡ t = ap (after o) lined.log ∙ lined.changes in
    record {
      legal = subst (Legal o) (sym lined.log) (fits, kept.legal);
      actions = lined.actions ∙ (ap (λ a. None ∷ a) kept.actions ∙ ap (actions o) (sym lined.log));
      stands = subst (λ (s : After). Stands m' s.world) (sym is) lined.stands;
      waits = ap (λ (s : After). s.wait) is;
      binds = ap (λ (s : After). bound_by s.world.main) is;
      names = ap (λ (s : After). s.names) is;
      setting = lined.setting ∙ kept.setting;
    }

-- what is known of the desk's line
pub record Enters (o : Opening) (m m' : Shown) (wait : Option Wait) (name : Option (List ℕ)) (bench : List BoundName) (line : List ℕ) (asked : Asked) : Type 0 where
  pub kept : IsKept o m wait name bench
  pub may : MayTake o m.log.entries
  pub asks : IsAsked m (line_outcome o line (after o m.log.entries)) asked
  pub entered : HasEntered line asked m m'

begun_of : (o : Opening) (m m' : Shown) (wait : Option Wait) (name : Option (List ℕ)) (bench : List BoundName) (line : List ℕ) (asked : Asked) (k : Enters o m m' wait name bench line asked)
    → Begun k.entered.lined m' (line_outcome o line (after o m.log.entries)).term
begun_of o m m' wait name bench line asked k =
    begun k.entered.lined m' (line_outcome o line (after o m.log.entries)).term asked.thread
    (prepared_noted (Line line asked.reply) m k.entered.lined (line_outcome o line (after o m.log.entries)).term asked.thread k.entered.noted k.asks.thread) k.entered.begins

-- the log has the line
pub log_entered : (o : Opening) (m m' : Shown) (wait : Option Wait) (name : Option (List ℕ)) (bench : List BoundName) (line : List ℕ) (asked : Asked) → Enters o m m' wait name bench line asked
    → m'.log.entries ≡ Line line asked.reply ∷ m.log.entries
log_entered o m m' wait name bench line asked k = let b = begun_of o m m' wait name bench line asked k in ap (λ (l : LogValue). l.entries) b.log ∙ k.entered.noted.log

lined_entered : (o : Opening) (m m' : Shown) (wait : Option Wait) (name : Option (List ℕ)) (bench : List BoundName) (line : List ℕ) (asked : Asked) → Enters o m m' wait name bench line asked
    → Lined o m m' line asked.reply (after_outcome (line_outcome o line (after o m.log.entries)) (after o m.log.entries))
lined_entered o m m' wait name bench line asked k =
    let b = begun_of o m m' wait name bench line asked k in
    record {
      log = log_entered o m m' wait name bench line asked k;
      actions = ap (λ (l : LogValue). l.actions) b.log ∙ k.entered.noted.actions;
      setting = b.setting ∙ rw (k.entered.noted.keeps.program, k.entered.noted.keeps.limits) refl;
      changes = line_replied o line asked.reply (after o m.log.entries) k.asks.reply;
      stands = b.stands (after o m.log.entries).world (stands_noted (Line line asked.reply) m k.entered.lined (after o m.log.entries).world k.entered.noted k.kept.stands);
    }

-- what the desk keeps behind the line
pub kept_lined : (o : Opening) (m m' : Shown) (wait wait' : Option Wait) (name name' : Option (List ℕ)) (bench : List BoundName) (line : List ℕ) (asked : Asked)
    → Enters o m m' wait name bench line asked → name' ≡ binds_then asked.thread asked.binds name → wait' ≡ wait_after asked.wait wait → IsKept o m' wait' name' bench
kept_lined o m m' wait wait' name name' bench line asked k name_is wait_is =
    let s : After = after o m.log.entries in
    let x = line_outcome o line s in
    let t : After = after_outcome x s in
    let replied = inl k.asks.reply in
    let fits : Fits o m.log.entries (Line line asked.reply) = record { goes_on = k.may.goes_on; may = record { closed = k.may.closed; due = k.may.due; turn = k.may.turn; replied = replied } } in
    let more : IsKept o m' t.wait (bound_by t.world.main) t.names = kept_more o m m' wait name bench line asked.reply t k.kept fits (lined_entered o m m' wait name bench line asked k) in
    let waits : t.wait ≡ wait' = ap (λ (v : Option Wait). wait_after v s.wait) (sym k.asks.wait) ∙ (ap (wait_after asked.wait) k.kept.waits ∙ sym wait_is) in
    let binds : bound_by t.world.main ≡ name' = begun_name m s.world x.term asked.thread asked.binds name k.asks.thread k.asks.binds k.kept.binds ∙ sym name_is in
    record { legal = more.legal; actions = more.actions; stands = more.stands; waits = more.waits ∙ waits; binds = more.binds ∙ binds; names = more.names ∙ k.kept.names; setting = more.setting }
