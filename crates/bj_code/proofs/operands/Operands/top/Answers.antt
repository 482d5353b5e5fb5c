use Rattle.std.proofs.Common.{ap}
use Rattle.bj_code.proofs.Stacks.{topmost}
use Rattle.bj_code.proofs.operands.Operands.top.Goals as goal

pub returns : goal.returns
returns c = topmost c.self.inside.items c.as_slice.result.now c.args.self.now.values c.self.inside.count c.args.count (ap (λ s. s.values) c.self.view_is) c.as_slice.ensures c.self.invariant c.requires
