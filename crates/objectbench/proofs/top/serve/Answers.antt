use Rattle.std.proofs.Common.{refl}
use Rattle.bj_session.specs.Session.{Start, StandsFor}
use Rattle.objectbench.proofs.Runs.{start_of, stands_fresh, ran, ran_nothing, cause_of_three, cause_of_four, cause_of_eight}
use Rattle.objectbench.proofs.top.serve.Goals as goal

pub returns-in-Ok-clause-ran : goal.returns-in-Ok-clause-ran
returns-in-Ok-clause-ran g c =
    let start : Start = start_of c.args.opening (g.S.Source.left c.args.ends.source) (g.S.Source.faults c.args.ends.source) (g.S.Source.waits c.args.ends.source) (g.S.Source.polls c.args.ends.source) (g.K.Sink.held c.args.ends.sink) (g.K.Sink.faults c.args.ends.sink) in
    let stands : StandsFor start c.served.result = c.served.ensures.goes.stands start (rw c.in-Ok.ensures.ok (stands_fresh c.args.opening (g.S.Source.left c.args.ends.source) (g.S.Source.faults c.args.ends.source) (g.S.Source.waits c.args.ends.source) (g.S.Source.polls c.args.ends.source) (g.K.Sink.held c.args.ends.sink) (g.K.Sink.faults c.args.ends.sink))) in
    ran c.args.opening start c.served.result _ _ _ _ _ _ refl stands c.finish.ensures.sound c.finish.ensures.legal (c.acts_are_within_the_limit.ensures _ _ c.finish.ensures.legal) c.finish.ensures.status c.finish.ensures.log c.finish.ensures.actions c.finish.ensures.left c.finish.ensures.polls c.finish.ensures.ended c.finish.ensures.held

pub returns-in-Ok-clause-source_fault : goal.returns-in-Ok-clause-source_fault
returns-in-Ok-clause-source_fault g c = λ is.
    let start : Start = start_of c.args.opening (g.S.Source.left c.args.ends.source) (g.S.Source.faults c.args.ends.source) (g.S.Source.waits c.args.ends.source) (g.S.Source.polls c.args.ends.source) (g.K.Sink.held c.args.ends.sink) (g.K.Sink.faults c.args.ends.sink) in
    let stands : StandsFor start c.served.result = c.served.ensures.goes.stands start (rw c.in-Ok.ensures.ok (stands_fresh c.args.opening (g.S.Source.left c.args.ends.source) (g.S.Source.faults c.args.ends.source) (g.S.Source.waits c.args.ends.source) (g.S.Source.polls c.args.ends.source) (g.K.Sink.held c.args.ends.sink) (g.K.Sink.faults c.args.ends.sink))) in
    rw c.finish.ensures.source_faults (stands.source_fault (cause_of_three start c.served.result _ stands c.finish.ensures.status is))

pub returns-in-Ok-clause-sink_fault : goal.returns-in-Ok-clause-sink_fault
returns-in-Ok-clause-sink_fault g c = λ is.
    let start : Start = start_of c.args.opening (g.S.Source.left c.args.ends.source) (g.S.Source.faults c.args.ends.source) (g.S.Source.waits c.args.ends.source) (g.S.Source.polls c.args.ends.source) (g.K.Sink.held c.args.ends.sink) (g.K.Sink.faults c.args.ends.sink) in
    let stands : StandsFor start c.served.result = c.served.ensures.goes.stands start (rw c.in-Ok.ensures.ok (stands_fresh c.args.opening (g.S.Source.left c.args.ends.source) (g.S.Source.faults c.args.ends.source) (g.S.Source.waits c.args.ends.source) (g.S.Source.polls c.args.ends.source) (g.K.Sink.held c.args.ends.sink) (g.K.Sink.faults c.args.ends.sink))) in
    rw c.finish.ensures.sink_faults (stands.sink_fault (cause_of_four start c.served.result _ stands c.finish.ensures.status is))

pub returns-in-Ok-clause-not_yet : goal.returns-in-Ok-clause-not_yet
returns-in-Ok-clause-not_yet g c = λ is.
    let start : Start = start_of c.args.opening (g.S.Source.left c.args.ends.source) (g.S.Source.faults c.args.ends.source) (g.S.Source.waits c.args.ends.source) (g.S.Source.polls c.args.ends.source) (g.K.Sink.held c.args.ends.sink) (g.K.Sink.faults c.args.ends.sink) in
    let stands : StandsFor start c.served.result = c.served.ensures.goes.stands start (rw c.in-Ok.ensures.ok (stands_fresh c.args.opening (g.S.Source.left c.args.ends.source) (g.S.Source.faults c.args.ends.source) (g.S.Source.waits c.args.ends.source) (g.S.Source.polls c.args.ends.source) (g.K.Sink.held c.args.ends.sink) (g.K.Sink.faults c.args.ends.sink))) in
    rw c.finish.ensures.waits (stands.not_yet (cause_of_eight start c.served.result _ stands c.finish.ensures.status is))

pub returns-in-Err-clause-ran : goal.returns-in-Err-clause-ran
returns-in-Err-clause-ran g c =
    rw c.in-Err.ensures.err.3 (ran_nothing c.args.opening (g.S.Source.left c.args.ends.source) (g.K.Sink.held c.args.ends.sink) (g.S.Source.polls c.args.ends.source) (g.S.Source.ended c.args.ends.source) c.in-Err.finish.status c.in-Err.finish.log c.requires.open c.in-Err.ensures.err.0 c.in-Err.ensures.err.1 c.in-Err.ensures.err.2)
