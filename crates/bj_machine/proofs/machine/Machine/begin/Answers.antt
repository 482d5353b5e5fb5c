use Rattle.bj_machine.proofs.machine.Machine.begin.Goals as goal

pub returns-in-Ok-clause-begun : goal.returns-in-Ok-clause-begun
returns-in-Ok-clause-begun c = c.begin_with.ensures c.args.term c.in-Ok.ensures
