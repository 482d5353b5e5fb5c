use Rattle.bj_command.proofs.Memory.{kept_takes_memory}
use Rattle.bj_history.specs.History.{loaded}
use Rattle.bj_reply.proofs.Forms.{for_from, of_bad}
use Rattle.bj_reply.proofs.asking.ask.Goals as goal

pub returns-in-Err-BadLine-clause-ok : goal.returns-in-Err-BadLine-clause-ok
returns-in-Err-BadLine-clause-ok c =
    let bad = rw c.in-Err-BadLine.field-0-is at c.in-Err-BadLine.ensures.form in
    for_from c.says_bad.result c.args.machine.now c.args.bench.now _ _ c.says_bad.ensures (λ s stands named. of_bad loaded c.in-Err-BadLine.at _ s bad)

pub returns-in-Err-NoMemory-clause-err : goal.returns-in-Err-NoMemory-clause-err
returns-in-Err-NoMemory-clause-err c = kept_takes_memory _ (rw c.in-Err-NoMemory.field-0-is at c.in-Err-NoMemory.ensures.form)
