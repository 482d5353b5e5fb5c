use Rattle.std.proofs.Common.{rules, arith}
use Rattle.bj_command.proofs.Cuts.{items-line, items-last}
use Rattle.bj_command.proofs.cut.line_end.Goals as goal

pub returns-then-bytes-i-eq10-clause-line : goal.returns-then-bytes-i-eq10-clause-line
returns-then-bytes-i-eq10-clause-line c = λ more ended. items-line _ c.args.bytes.now more _ ended (search rules) c.loop-i.invariant (search rules)

pub returns-clause-last : goal.returns-clause-last
returns-clause-last c = items-last _ c.args.bytes.now (λ k lt h. c.loop-i.invariant k (omega arith) h)
