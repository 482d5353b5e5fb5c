use Rattle.bj_writer.proofs.Written.{wrote_mark}
use Rattle.bj_writer.proofs.writer.Writer.mark.Goals as goal

pub returns : goal.returns
returns c =
    wrote_mark c.args.self.now c.args.kind c.args.text.now c.part.new.self.text c.bytes.new.self.text c.first_byte.result c.last_byte.result
    c.first_byte.ensures c.in_ok-part.ensures.text c.in_ok-bytes.ensures.text c.last_byte.ensures
