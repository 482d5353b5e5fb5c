use Rattle.std.proofs.Common.{◌≡◌, [], take, drop}
use Rattle.bj_parse.specs.Early as spec
use Rattle.bj_parse.proofs.marks.first_unfit.Given as goal

abbrev pub invariant-loop-index : goal.invariant-loop-index
invariant-loop-index l = spec.first_unfit l.owners [] l.modifiers ≡ spec.first_unfit l.owners (take l.index l.modifiers) (drop l.index l.modifiers)
