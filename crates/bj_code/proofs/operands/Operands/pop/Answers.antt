use Rattle.std.proofs.Common.{ap, ◌∙◌}
use Rattle.bj_code.proofs.Stacks.{popped}
use Rattle.bj_code.proofs.operands.Operands.pop.Goals as goal

pub returns-clause-top : goal.returns-clause-top
returns-clause-top c = popped c.self.inside.items c.args.self.now.values c.self.inside.count c.copied.result (ap (λ s. s.values) c.self.view_is) (c.copied.ensures ∙ c.get.ensures.value) c.if-self-eq0.false c.self.invariant
