-- What holds of the state that an answer leaves.
use Rattle.std.proofs.Common.{Bool, true, false, cond}
use Rattle.bj_store.specs.State.{State}
use Rattle.bj_store.specs.React.{Outcome, Answered, Blocked}

abbrev pub OnAnswered : Outcome → (State → Type 0) → Type 0
OnAnswered (Answered x t) P = P t
OnAnswered (Blocked b) P = Unit {0}

pub by_if : (b : Bool) (r q : Outcome) (P : State → Type 0) → OnAnswered r P → OnAnswered q P → OnAnswered (cond b r q) P
by_if true r q P h k = h
by_if false r q P h k = k
