use Rattle.bj_exec.proofs.Follow.{takes_now, told, accepted}
use Rattle.bj_exec.proofs.thread.Thread.answer.Goals as goal

pub answer_run-requires-clause-goes : goal.answer_run-requires-clause-goes
answer_run-requires-clause-goes c =
    let r = c.requires in
    let o = r.on in
    (r.action, r.wants, takes_now r.program r.code o.limit o.term o.answers c.typed_terms_go_on.ensures c.args.self.now r.action c.args.answer r.wants r.allows o.follows)

pub returns-clause-follows : goal.returns-clause-follows
returns-clause-follows c program code limit term answers f allows =
    told program code limit term answers c.typed_terms_go_on.ensures c.args.self.now c.answer_run.result c.args.answer c.answer_run.new.run c.answer_run.ensures.action (accepted program c.answer_run.result c.args.answer allows) c.answer_run.ensures.run allows f
