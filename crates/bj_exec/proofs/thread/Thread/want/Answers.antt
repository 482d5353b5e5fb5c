use Rattle.bj_exec.proofs.Follow.{wants_now, ends_now}
use Rattle.bj_exec.proofs.thread.Thread.want.Goals as goal

pub returns-clause-acts : goal.returns-clause-acts
returns-clause-acts c a w program code limit term answers f = wants_now program code limit term answers c.args.self.now a w f

pub returns-clause-ends : goal.returns-clause-ends
returns-clause-ends c d w program code limit term answers f = ends_now program code limit term answers c.args.self.now d w f
