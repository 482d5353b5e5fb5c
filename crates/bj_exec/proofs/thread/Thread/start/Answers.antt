use Rattle.bj_exec.proofs.Follow.{built, started}
use Rattle.bj_exec.proofs.thread.Thread.start.Goals as goal

pub returns : goal.returns
returns c program code typed eb ec =
    started c.typed_terms_go_on.ensures program code c.args.frames c.args.term c.args.body _ c.requires typed eb ec
    (built c.args.term c.args.body c.args.frames c.of_term.result c.in_ok-of_term.field-0 c.in_ok-new.field-0 c.new-2.result c.of_term.ensures c.in_ok-of_term.ensures c.in_ok-new.ensures c.new-2.ensures)
