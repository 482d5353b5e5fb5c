use Rattle.bj_machine.proofs.Machines.{sound_new}
use Rattle.bj_machine.proofs.machine.Machine.new.Goals as goal

pub invariant_of-result : goal.invariant_of-result
invariant_of-result c = sound_new c.args.program c.args.code c.args.limits _ _ c.in-Ok.ensures (c.new_stores_are_kept.ensures c.args.program c.args.limits) c.requires.fields c.requires.frames c.requires.code
