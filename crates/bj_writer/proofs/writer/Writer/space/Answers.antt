use Rattle.bj_writer.proofs.Written.{wrote_space}
use Rattle.bj_writer.proofs.writer.Writer.space.Goals as goal

pub returns : goal.returns
returns c = wrote_space c.args.self.now c.push.new.self c.in_ok-push.ensures.ok
