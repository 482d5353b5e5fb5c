use Rattle.std.proofs.Common.{refl, ap, ◌∙◌}
use Rattle.bj_core.specs.declared.program.Program.{Program}
use Rattle.bj_machine.specs.Kept.{LogValue}
use Rattle.bj_machine.specs.Shown.{Shown}
use Rattle.bj_say.specs.Events.{end_event}
use Rattle.bj_session.proofs.Acting.{unacted_desk, acted_desk, kept_moved}
use Rattle.bj_session.proofs.desk.Desk.act.Goals as goal

pub returns-in-Err : goal.returns-in-Err
returns-in-Err g c = unacted_desk _ _ _ c.self.view_is c.requires.enabled c.requires.left refl (ap (λ (l : LogValue). l.entries) c.settle.ensures.moved.log) refl refl

pub returns-in-Err-end_text : goal.returns-in-Err-end_text
returns-in-Err-end_text g c = unacted_desk _ _ _ c.self.view_is c.requires.enabled c.requires.left refl (ap (λ (l : LogValue). l.entries) c.settle.ensures.moved.log) refl refl

pub returns-in-Err-bind_end : goal.returns-in-Err-bind_end
returns-in-Err-bind_end g c = unacted_desk _ _ _ c.self.view_is c.requires.enabled c.requires.left refl (ap (λ (l : LogValue). l.entries) c.settle.ensures.moved.log) refl refl

pub returns-in-Acted : goal.returns-in-Acted
returns-in-Acted g c =
    rw (← c.self.view_is) (acted_desk c.put_all.result _ _ c.settle.new.self c.step.new.self c.in-Acted.thread c.self.inside.wait c.self.inside.binds c.self.inside.bench c.as_slice.result.now
    (kept_moved c.self.inside.opening c.self.inside.machine c.settle.new.self c.self.inside.wait c.self.inside.binds c.self.inside.bench c.self.invariant c.settle.ensures.moved)
    (ap (λ (l : LogValue). l.entries) c.settle.ensures.moved.log) c.in-Acted.ensures.steps
    (c.as_slice.ensures ∙ (c.in-Ok-end_text.ensures ∙ (ap (λ (p : Program). end_event p c.self.inside.binds c.end-end.result) c.program.ensures ∙ ap (end_event c.settle.new.self.program c.self.inside.binds) c.end-end.ensures.end)))
    c.put_all.ensures.sent refl refl c.put_all.ensures.faults c.put_all.ensures.failed)

pub returns : goal.returns
returns g c = unacted_desk _ _ _ c.self.view_is c.requires.enabled c.requires.left refl (ap (λ (m : Shown). m.log.entries) c.in-NoMemory.ensures.steps.2 ∙ ap (λ (l : LogValue). l.entries) c.settle.ensures.moved.log) refl refl
