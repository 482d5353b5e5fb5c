use Rattle.std.proofs.Common.{◌≡◌, drop}
use Rattle.bj_rules.specs.Modifiers.{among}
use Rattle.bj_rules.proofs.modifier.among.Given as goal

abbrev pub invariant-loop-one : goal.invariant-loop-one
invariant-loop-one l = among l.kinds l.kind ≡ among (drop l.one-index l.kinds) l.kind
