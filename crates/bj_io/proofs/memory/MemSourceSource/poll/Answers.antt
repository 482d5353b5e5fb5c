use Rattle.std.proofs.Common.{drop, Some, ap, arith}
use Rattle.std.proofs.lemmas.Grind.{common_steps}
use Rattle.bj_io.proofs.Lists.{taken_front}
use Rattle.bj_io.proofs.memory.MemSourceSource.poll.Goals as goal

pub returns-clause-left : goal.returns-clause-left
returns-clause-left c =
    let n = c.min-count.result in
    ap Some (taken_front c.args.self.now.bytes (c.copy_from_slice.new.self) (drop n c.args.into.now) c.args.self.now.at n (grind (arith, common_steps)) (grind (arith, common_steps)))
