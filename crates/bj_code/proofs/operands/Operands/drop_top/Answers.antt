use Rattle.std.proofs.Common.{◌≡◌, List, ap}
use Rattle.bj_code.specs.Stack.{Stack}
use Rattle.bj_code.proofs.Stacks.{below_topmost}
use Rattle.bj_code.proofs.operands.Operands.drop_top.Goals as goal

pub returns : goal.returns
returns c = stack (below_topmost c.self.inside.items c.args.self.now.values c.self.inside.count c.args.count (ap (λ s. s.values) c.self.view_is) c.self.invariant c.requires) (ap (λ s. s.room) c.self.view_is)
  where
    stack : {a b : List _} {m n : _} → a ≡ b → m ≡ n → ◌≡◌ {A = Stack} record { values = a; room = m } record { values = b; room = n }
    stack e f = λ i. record { values = e i; room = f i }
