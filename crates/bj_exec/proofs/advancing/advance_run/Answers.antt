use Rattle.bj_exec.proofs.Follow.{on_ok}
use Rattle.bj_exec.proofs.Steps.{step_leads, step_goes, call_leads, call_has, body_has, instr_has, short}
use Rattle.bj_exec.proofs.advancing.advance_run.Goals as goal

pub unreachable-requires : goal.unreachable-requires
unreachable-requires c = body_has (record { code = c.args.code.now; term = c.args.term.now; limit = c.requires.0 }) c.args.run.now c.requires.1.0 c.requires.1.1 (c.in_default.ensures c.requires.0)

pub unreachable-requires-in_default-instr_at : goal.unreachable-requires-in_default-instr_at
unreachable-requires-in_default-instr_at c =
    instr_has (record { code = c.args.code.now; term = c.args.term.now; limit = c.requires.0 }) c.args.run.now c.requires.1.0 c.in-Some.body.now (c.in-Some.ensures c.requires.0) c.requires.1.1 c.in_default-instr_at.ensures.instr

pub take_step-requires-clause-goes : goal.take_step-requires-clause-goes
take_step-requires-clause-goes c = (
  c.requires.1.0,
  step_goes (record { code = c.args.code.now; term = c.args.term.now; limit = c.requires.0 }) c.args.run.now c.requires.1.0 c.in-Some.body.now c.in-Some-instr_at.instr
      (c.in-Some.ensures c.requires.0) c.in-Some-instr_at.ensures.instr c.in_default-callee.ensures c.requires.1.1,
)

pub returns-in_default-callee-clause-ok : goal.returns-in_default-callee-clause-ok
returns-in_default-callee-clause-ok c =
    on_ok c.take_step.result
    (λ s limit q. step_leads (record { code = c.args.code.now; term = c.args.term.now; limit = limit }) c.args.run.now c.take_step.new.run q c.in-Some.body.now c.in-Some-instr_at.instr
    (c.in-Some.ensures limit) c.in-Some-instr_at.ensures.instr c.in_default-callee.ensures s)
    c.take_step.ensures.ok

pub returns-in_default-callee-clause-bound : goal.returns-in_default-callee-clause-bound
returns-in_default-callee-clause-bound c =
    on_ok c.take_step.result
    (λ s limit b. short (record { code = c.args.code.now; term = c.args.term.now; limit = limit }) c.args.run.now c.in-Some.body.now b (c.in-Some.ensures limit) c.instr_at.ensures.bound)
    c.take_step.ensures.ok

pub unreachable-requires-in_default-body_of : goal.unreachable-requires-in_default-body_of
unreachable-requires-in_default-body_of c =
    call_has (record { code = c.args.code.now; term = c.args.term.now; limit = c.requires.0 }) c.args.run.now c.requires.1.0 c.in-Some.body.now c.in-Some-instr_at.instr c.in-Some-callee.invocation
    (c.in-Some.ensures c.requires.0) c.in-Some-instr_at.ensures.instr c.in-Some-callee.ensures c.requires.1.1 (c.in_default-body_of.ensures c.requires.0)

pub returns-clause-ok : goal.returns-clause-ok
returns-clause-ok c =
    on_ok c.call_body.result
    (λ s limit q. call_leads (record { code = c.args.code.now; term = c.args.term.now; limit = limit }) c.args.run.now c.call_body.new.run q c.in-Some.body.now c.in-Some-body_of.called.now c.in-Some-instr_at.instr c.in-Some-callee.invocation
    (c.in-Some.ensures limit) c.in-Some-instr_at.ensures.instr c.in-Some-callee.ensures (c.in-Some-body_of.ensures limit) s)
    c.call_body.ensures.ok

pub returns-clause-bound : goal.returns-clause-bound
returns-clause-bound c =
    on_ok c.call_body.result
    (λ s limit b. short (record { code = c.args.code.now; term = c.args.term.now; limit = limit }) c.args.run.now c.in-Some.body.now b (c.in-Some.ensures limit) c.instr_at.ensures.bound)
    c.call_body.ensures.ok
