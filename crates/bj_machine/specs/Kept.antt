-- The log as its callers see it.
use Rattle.std.specs.Prelude.{◌≡◌, ◌+◌, ◌≤◌, ℕ, List, ◌∷◌, Option}
use Rattle.bj_core.specs.declared.action.Action.{Action}
use Rattle.bj_core.specs.declared.entry.Entry.{Entry}
use Rattle.bj_machine.specs.declared.log.Row.{Row}

-- the entries of a history, the newest first, the action beside each, which acts alone have, and for how many more entries
-- there is room
pub record LogValue : Type 0 where
  pub entries : List Entry
  pub actions : List (Option Action)
  pub room : ℕ

abbrev pub entry_of : Row → Entry
entry_of row = row.entry

abbrev pub action_beside : Row → Option Action
action_beside row = row.action

abbrev pub with_log_room : ℕ → LogValue → LogValue
with_log_room room v = record { entries = v.entries; actions = v.actions; room = room }

-- the same log, with no less room
abbrev pub IsSameLog : LogValue → LogValue → Type 0
IsSameLog old new = (room : ℕ) × (old.room ≤ room) × (new ≡ with_log_room room old)

-- an entry more, with the action beside it, for which one place at most was used
pub record HasEntry (entry : Entry) (action : Option Action) (old new : LogValue) : Type 0 where
  pub entries : new.entries ≡ entry ∷ old.entries
  pub actions : new.actions ≡ action ∷ old.actions
  pub room : old.room ≤ new.room + 1
