use Rattle.std.proofs.Common.{◌≡◌, drop}
use Rattle.std.proofs.Common.{None as no_misfit}
use Rattle.bj_parse.specs.Early as spec
use Rattle.bj_parse.proofs.marks.unfit.Given as goal

abbrev pub invariant-loop-owner : goal.invariant-loop-owner
invariant-loop-owner l = spec.unfit_behind l.before l.one no_misfit l.owners ≡ spec.unfit_behind l.before l.one l.told (drop l.owner-index l.owners)
