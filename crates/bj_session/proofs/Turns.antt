-- Where nothing can act.
use Rattle.std.proofs.Common.{ℕ, List, ◌∷◌, inl, inr, refl}
use Rattle.bj_core.specs.declared.entry.Entry.{Entry}
use Rattle.bj_core.specs.declared.entry.Entry.TheVariants.{Line}
use Rattle.bj_core.specs.declared.entry.Reason.{Reason}
use Rattle.bj_core.specs.declared.entry.Reason.TheVariants.{Idle, Halted, Stuck, Spent, Still, Jobs}
use Rattle.bj_history.specs.declared.opening.Opening.{Opening}
use Rattle.bj_history.specs.History.{after, HasHadATurn, Wakes}
use Rattle.bj_history.proofs.Turns.{turn_disabled, turn_spent}
use Rattle.bj_machine.specs.World.{World}
use Rattle.bj_session.specs.Desk.{IsRested}

-- a line behind which nothing can act wants no turn
pub turn_rested : (o : Opening) (line text : List ℕ) (front : List Entry) → IsRested o (after o (Line line text ∷ front)).world → HasHadATurn o (Line line text ∷ front)
turn_rested o line text front rested = elim rested [ inl off ↦ turn_disabled o (Line line text ∷ front) off | inr spent ↦ turn_spent o (Line line text ∷ front) spent ]

-- where a wait ends, nothing can act
pub rested_by : (o : Opening) (w : World) (reason : Reason) → Wakes o w reason → IsRested o w
rested_by o w Idle wakes = inl (rw wakes refl)
rested_by o w Stuck wakes = inl wakes.1
rested_by o w Spent wakes = inr wakes.1
rested_by o w Halted wakes = absurd wakes
rested_by o w Still wakes = absurd wakes
rested_by o w Jobs wakes = absurd wakes
