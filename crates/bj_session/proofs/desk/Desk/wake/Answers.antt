use Rattle.std.proofs.Common.{refl}
use Rattle.bj_session.proofs.Notes.{unnoted}
use Rattle.bj_session.proofs.desk.Desk.wake.Goals as goal

pub returns-in-Err : goal.returns-in-Err
returns-in-Err g c = unnoted _ _ _ refl refl refl refl
