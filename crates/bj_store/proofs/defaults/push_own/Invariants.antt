use Rattle.std.proofs.Common.{◌≡◌, ◌++◌, take}
use Rattle.bj_store.specs.Objects.{own_defaults}
use Rattle.bj_store.proofs.defaults.push_own.Given as goal

abbrev pub invariant-loop-field : goal.invariant-loop-field
invariant-loop-field l = l.values.items ≡ l.fn.values.items ++ own_defaults (take l.field-index l.fields)
