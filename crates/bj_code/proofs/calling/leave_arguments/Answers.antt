use Rattle.std.proofs.Common.{sym, ap, ◌∙◌, ◌+◌, drop, length, ◌≤◌, subst}
use Rattle.bj_code.specs.Step.{next}
use Rattle.bj_code.proofs.Calls.{call_leaves}
use Rattle.bj_code.proofs.calling.leave_arguments.Goals as goal

pub drop_top-requires : goal.drop_top-requires
drop_top-requires c =
    let left = call_leaves c.args.instr c.args.frame.now c.requires.calls.0 c.requires.calls.1 in subst (λ n. n ≤ length c.args.frame.now.operands.values) (sym c.dropped_of.ensures) left.2

pub returns : goal.returns
returns c call e =
    let left = call_leaves c.args.instr c.args.frame.now call e in
    ap (λ o. record { invocation = c.args.frame.now.invocation; activation = c.args.frame.now.activation; place = c.args.frame.now.place + 1; operands = o }) c.drop_top.ensures
    ∙ ap (λ n. next c.args.frame.now (drop n c.args.frame.now.operands.values)) c.dropped_of.ensures ∙ sym left.3
