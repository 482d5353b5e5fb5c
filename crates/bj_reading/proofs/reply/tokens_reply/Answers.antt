use Rattle.bj_reading.proofs.Replies.{of_parser, of_tree}
use Rattle.bj_reading.proofs.reply.tokens_reply.Goals as goal

pub returns-in-Ok : goal.returns-in-Ok
returns-in-Ok c =
    of_tree c.tree_reply.result c.args.form c.args.read c.in_ok-tokens.tokens c.first_place-first.result c.in-Ok.tree c.in_ok-tokens.ensures c.first_place-first.ensures c.in-Ok.ensures.found
    c.tree_reply.ensures

pub returns-in-Err-Fault : goal.returns-in-Err-Fault
returns-in-Err-Fault c =
    of_parser c.fault_reply.result c.args.form c.args.read c.in_ok-tokens.tokens c.in-Err-Fault.fault c.in_ok-tokens.ensures (rw c.in-Err-Fault.field-0-is at c.in-Err-Fault.ensures.fault)
    (rw c.in-Err-Fault.field-0-is at c.fault_reply.ensures)
