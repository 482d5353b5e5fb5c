use Rattle.std.proofs.Common.{refl, ap}
use Rattle.bj_machine.specs.Shown.{Shown}
use Rattle.bj_session.proofs.Notes.{unnoted, noted_silently}
use Rattle.bj_session.proofs.desk.Desk.pause.Goals as goal

pub returns-in-Err : goal.returns-in-Err
returns-in-Err g c = rw (← c.self.view_is) (unnoted _ _ _ refl (ap (λ (m : Shown). m.log.entries) c.in-Err.ensures.err.2) refl refl)

pub returns : goal.returns
returns g c = rw (← c.self.view_is) (noted_silently _ _ _ refl refl c.in-Ok.ensures.ok.log refl refl)
