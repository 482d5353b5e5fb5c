use Rattle.std.proofs.Common.{sym, ap, ◌∙◌}
use Rattle.std.specs.Option.{option_map}
use Rattle.bj_code.specs.Calling.{call, dispatched, invoked}
use Rattle.bj_code.proofs.Calls.{special_calls, virtual_calls}
use Rattle.bj_code.proofs.calling.callee.Goals as goal

pub returns-in-InvokeSpecial : goal.returns-in-InvokeSpecial
returns-in-InvokeSpecial c =
    c.constructor.ensures ∙ ap (invoked c.in-InvokeSpecial.class c.in-InvokeSpecial.method) c.below.ensures
    ∙ special_calls c.in-InvokeSpecial.class c.in-InvokeSpecial.method c.in-InvokeSpecial.count c.args.frame.now
    ∙ ap (λ instr. option_map (λ c. c.invocation) (call instr c.args.frame.now)) (sym c.in-InvokeSpecial.is)

pub returns-in-InvokeVirtual : goal.returns-in-InvokeVirtual
returns-in-InvokeVirtual c =
    c.dispatch.ensures ∙ ap (dispatched c.in-InvokeVirtual.class c.in-InvokeVirtual.method) c.below-in-InvokeVirtual.ensures
    ∙ virtual_calls c.in-InvokeVirtual.class c.in-InvokeVirtual.method c.in-InvokeVirtual.count c.args.frame.now
    ∙ ap (λ instr. option_map (λ c. c.invocation) (call instr c.args.frame.now)) (sym c.in-InvokeVirtual.is)
