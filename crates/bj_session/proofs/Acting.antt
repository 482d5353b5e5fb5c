-- What the desk keeps when the main thread acts.
use Rattle.std.proofs.Common.{◌≡◌, ◌<◌, ◌≤◌, ℕ, List, ◌∷◌, true, Option, Some, None, is_some, refl, sym, ap, ◌∙◌, subst}
use Rattle.bj_io.specs.Told.{Rose}
use Rattle.bj_core.specs.declared.action.Action.{Action}
use Rattle.bj_core.specs.declared.action.Action.TheVariants.{End}
use Rattle.bj_core.specs.declared.action.Answer.{Answer}
use Rattle.bj_core.specs.declared.action.Done.{Done}
use Rattle.bj_core.specs.declared.entry.Entry.{Entry}
use Rattle.bj_core.specs.declared.entry.Entry.TheVariants.{Act}
use Rattle.bj_core.specs.declared.program.Program.{Program}
use Rattle.bj_bench.specs.declared.names.BoundName.{BoundName}
use Rattle.bj_history.specs.declared.opening.Opening.{Opening}
use Rattle.bj_say.specs.declared.wait.Wait.{Wait}
use Rattle.bj_say.specs.Events.{act_event}
use Rattle.bj_history.specs.History.{After, after, actions, loaded, setting, May, Legal}
use Rattle.bj_history.specs.Names.{bound_by}
use Rattle.bj_machine.specs.Kept.{LogValue}
use Rattle.bj_machine.specs.World.{Setting, World, reaction, answer_of, is_enabled, next_action, MayAct}
use Rattle.bj_machine.specs.Shown.{Shown, Stands, HasActed as MachineActed, HasMoved, setting_of, end_in, end_of}
use Rattle.bj_say.specs.Events.{end_event}
use Rattle.bj_stream.specs.Sending.{IsSent}
use Rattle.bj_session.specs.Desk.{Desk, IsKept, HasActed, world_of}
use Rattle.bj_stream.specs.declared.sending.Sent.{Sent}
use Rattle.bj_stream.specs.declared.sending.Sent.TheVariants.{Failed, NoMemory}
use Rattle.bj_session.proofs.Notes.{unnoted, noted}

reply_by : (o : Setting) (w : World) (r : Option Answer) → answer_of (reaction o w) ≡ r → is_some r ≡ true → (x : Answer) × (answer_of (reaction o w) ≡ Some x)
reply_by o w None e some = absurd cc
reply_by o w (Some x) e some = (x, e)

-- an enabled thread may be answered
pub may_act : (o : Opening) (log : List Entry) → is_enabled (setting o) (after o log).world ≡ true → (after o log).world.acts < o.limits.acts → (x : Answer) × May o log (Act 1 x)
may_act o log enabled left =
    let r = reply_by (setting o) (after o log).world (answer_of (reaction (setting o) (after o log).world)) refl enabled in
    (r.0, record { main = refl; answer = r.1; left = left })

-- memory was wanting before the action
unacted_at : (old new : Desk) → is_enabled (setting old.opening) (world_of old) ≡ true → (world_of old).acts < old.opening.limits.acts → new.opening ≡ old.opening → new.log ≡ old.log
    → new.held ≡ old.held → new.faults ≡ old.faults → HasActed NoMemory old new
unacted_at old new enabled left opening log held faults =
    let m = may_act old.opening old.log enabled left in
    record { reply = m.0; may = m.1; noted = unnoted (Act 1 m.0) old new opening log held faults }

-- the same of a desk that is opened: its view is what the caller knows
pub unacted_desk : (seen old new : Desk) → seen ≡ old → is_enabled (setting old.opening) (world_of old) ≡ true → (world_of old).acts < old.opening.limits.acts
    → new.opening ≡ seen.opening → new.log ≡ seen.log → new.held ≡ seen.held → new.faults ≡ seen.faults → HasActed NoMemory old new
unacted_desk seen old new is enabled left opening log held faults =
    unacted_at old new enabled left (opening ∙ ap (λ (d : Desk). d.opening) is) (log ∙ ap (λ (d : Desk). d.log) is) (held ∙ ap (λ (d : Desk). d.held) is) (faults ∙ ap (λ (d : Desk). d.faults) is)

-- an action prints what the end of a term prints, where it is one
event_is : (program : Program) (name : Option (List ℕ)) (a : Option Action) → end_event program name (end_in a) ≡ act_event program name a
event_is program name None = refl
event_is program name (Some (End d)) = refl
event_is program name (Some a) = refl

-- what the desk prints of the next action is what the history prints
prints_act : (o : Opening) (m : Shown) (w : World) (name : Option (List ℕ)) → setting_of m ≡ setting o → bound_by w.main ≡ name → end_of m.main ≡ end_in (next_action (setting_of m) w)
    → end_event m.program name (end_of m.main) ≡ act_event loaded (bound_by w.main) (next_action (setting o) w)
prints_act o m w name same binds ends =
    ap (λ (d : Option Done). end_event m.program name d) ends ∙ (event_is m.program name (next_action (setting_of m) w)
    ∙ (ap (λ (s : Setting). act_event s.program name (next_action s w)) same ∙ ap (λ (n : Option (List ℕ)). act_event loaded n (next_action (setting o) w)) (sym binds)))

-- the action was done, and its event was sent as far as the sink took it
pub acted_desk : (answer : Sent) (old new : Desk) (m m' : Shown) (thread : ℕ) (wait : Option Wait) (name : Option (List ℕ)) (bench : List BoundName) (text : List ℕ)
    → IsKept old.opening m wait name bench → m.log.entries ≡ old.log → MachineActed m m' thread → text ≡ end_event m.program name (end_of m.main)
    → IsSent answer text old.held new.held → new.opening ≡ old.opening → new.log ≡ m'.log.entries → old.faults ≤ new.faults → (answer ≡ Failed → Rose old.faults new.faults)
    → HasActed answer old new
acted_desk answer old new m m' thread wait name bench text kept same acted text_is sent opening log faults failed =
    let stands : Stands m (world_of old) = subst (λ (l : List Entry). Stands m (after old.opening l).world) same kept.stands in
    let binds : bound_by (world_of old).main ≡ name = subst (λ (l : List Entry). bound_by (after old.opening l).world.main ≡ name) same kept.binds in
    let w = acted.world (world_of old) stands in
    let one : thread ≡ 1 = w.0.main in
    record {
      reply = acted.answer;
      may = subst (λ (s : Setting). MayAct s (world_of old) 1 acted.answer) kept.setting (subst (λ (t : ℕ). MayAct (setting_of m) (world_of old) t acted.answer) one w.0);
      noted = noted answer (Act 1 acted.answer) old new text sent (text_is ∙ prints_act old.opening m (world_of old) name kept.setting binds (acted.end (world_of old) stands)) opening
          (log ∙ (acted.log ∙ (ap (λ (t : ℕ). Act t acted.answer ∷ m.log.entries) one ∙ ap (λ (l : List Entry). Act 1 acted.answer ∷ l) same))) faults failed;
    }

-- the machine has done instructions at most that ask for nothing
pub kept_moved : (o : Opening) (m m' : Shown) (wait : Option Wait) (name : Option (List ℕ)) (bench : List BoundName) → IsKept o m wait name bench → HasMoved m m' → IsKept o m' wait name bench
kept_moved o m m' wait name bench kept moved =
    let log : m'.log.entries ≡ m.log.entries = ap (λ (l : LogValue). l.entries) moved.log in
    let same : after o m'.log.entries ≡ after o m.log.entries = ap (after o) log in
    record {
      legal = subst (Legal o) (sym log) kept.legal;
      actions = ap (λ (l : LogValue). l.actions) moved.log ∙ (kept.actions ∙ ap (actions o) (sym log));
      stands = subst (λ (s : After). Stands m' s.world) (sym same) (moved.world (after o m.log.entries).world kept.stands);
      waits = ap (λ (s : After). s.wait) same ∙ kept.waits;
      binds = ap (λ (s : After). bound_by s.world.main) same ∙ kept.binds;
      names = ap (λ (s : After). s.names) same ∙ kept.names;
      setting = rw (moved.keeps.program, moved.keeps.limits) kept.setting;
    }
