use Rattle.bj_exec.proofs.Steps.{step_there}
use Rattle.bj_exec.proofs.advancing.take_step.Goals as goal

pub step-effect-requires-clause-goes : goal.step-effect-requires-clause-goes
step-effect-requires-clause-goes c = step_there c.in-Some.depth _ c.args.instr c.args.run.now.top c.args.run.now.below c.requires.goes.0 c.in-Some.ensures c.requires.goes.1
