-- A machine that has no less room in its log, and is else as before.
use Rattle.std.proofs.Common.{◌≡◌, ℕ, refl, ap, ◌∙◌, arith}
use Rattle.bj_machine.specs.Kept.{LogValue, IsSameLog}
use Rattle.bj_machine.specs.World.{World}
use Rattle.bj_machine.specs.Shown.{Shown, Stands, IsSame, with_room}
use Rattle.bj_store.specs.State.{State}

abbrev with_store : State → LogValue → Shown → Shown
with_store s log v = record { program = v.program; code = v.code; limits = v.limits; store = s; log = log; main = v.main; acts = v.acts }

pub same_self : (v : Shown) → IsSame v v
same_self v = (v.log.room, omega arith, refl)

-- the store is as before, and the log is but for its room
pub same_by : (v : Shown) (s : State) (log : LogValue) → s ≡ v.store → IsSameLog v.log log → IsSame v (with_store s log v)
same_by v s log e same = (same.0, same.1, ap (λ (x : State). with_store x log v) e ∙ ap (λ (l : LogValue). with_store v.store l v) same.2)

-- the abstract machine knows of no room
pub stands_roomy : (v : Shown) (room : ℕ) (w : World) → Stands v w → Stands (with_room room v) w
stands_roomy v room w st = record { store = st.store; main = st.main; acts = st.acts }
