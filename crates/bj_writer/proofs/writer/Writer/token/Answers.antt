use Rattle.bj_writer.proofs.Written.{wrote_mark}
use Rattle.bj_writer.proofs.writer.Writer.token.Goals as goal

pub returns : goal.returns
returns c =
    wrote_mark c.args.self.now c.args.kind c.args.units.now c.part.new.self.text c.extend.new.self c.first_of.result c.last_of.result
    c.first_of.ensures c.in_ok-part.ensures.text c.in_ok-extend.ensures.ok c.last_of.ensures
