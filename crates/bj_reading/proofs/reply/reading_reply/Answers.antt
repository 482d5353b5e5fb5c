use Rattle.std.proofs.Common.{◌∙◌}
use Rattle.bj_reading.proofs.Replies.{of_lexical, of_tokens}
use Rattle.bj_reading.proofs.reply.reading_reply.Goals as goal

pub returns-in-Ok : goal.returns-in-Ok
returns-in-Ok c =
    of_tokens c.tokens_reply.result c.args.form c.args.text.now _ c.in-Ok.read (c.from_bytes-class.ensures ∙ c.new.ensures) c.in-Ok.ensures.class c.in-Ok.ensures.ok c.tokens_reply.ensures

pub returns-in-Err-Fault : goal.returns-in-Err-Fault
returns-in-Err-Fault c =
    of_lexical c.fault_reply.result c.args.form c.args.text.now _ c.in-Err-Fault.first (c.from_bytes-class.ensures ∙ c.new.ensures) (rw c.in-Err-Fault.field-0-is at c.in-Err-Fault.ensures.err)
    (rw c.in-Err-Fault.field-0-is at c.fault_reply.ensures)
