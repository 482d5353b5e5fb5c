use Rattle.std.proofs.Common.{◌≡◌, drop}
use Rattle.bj_store.specs.Objects.{class_named, class_from}
use Rattle.bj_store.proofs.defaults.class_named.Given as goal

abbrev pub invariant-loop-number : goal.invariant-loop-number
invariant-loop-number l = class_named l.classes l.name ≡ class_from l.number (drop l.number l.classes) l.name
