use Rattle.bj_history.specs.History.{loaded}
use Rattle.bj_reply.proofs.Forms.{asked_from, for_any, for_from, for_same, of_blank, of_call, of_inspect, of_new, of_pad, of_quit, of_unbuilt, of_wait}
use Rattle.bj_reply.proofs.asking.ask_command.Goals as goal

pub returns-in-Blank-clause-ok : goal.returns-in-Blank-clause-ok
returns-in-Blank-clause-ok c = λ s stands named. asked_from c.args.machine.now _ _ c.nothing.result (of_blank loaded _ s c.in-Blank.is) (c.nothing.ensures c.args.machine.now)

pub returns-in-Pad-clause-ok : goal.returns-in-Pad-clause-ok
returns-in-Pad-clause-ok c = for_any c.ask_pad.result c.args.machine.now c.args.bench.now _ _ (λ s. of_pad loaded _ _ _ s c.in-Pad.is c.as_slice.ensures) c.ask_pad.ensures

pub returns-in-New-clause-ok : goal.returns-in-New-clause-ok
returns-in-New-clause-ok c = for_same c.ask_new.result c.args.machine.now c.args.bench.now _ _
    (λ s. of_new loaded _ _ _ _ _ s c.in-New.is c.as_slice-in-New.ensures c.as_slice-in-New-2.ensures) c.ask_new.ensures

pub returns-in-Call-clause-ok : goal.returns-in-Call-clause-ok
returns-in-Call-clause-ok c = for_same c.ask_call.result c.args.machine.now c.args.bench.now _ _ (λ s. of_call loaded _ _ _ s c.in-Call.is c.as_slice-in-Call.ensures) c.ask_call.ensures

pub returns-in-Inspect-clause-ok : goal.returns-in-Inspect-clause-ok
returns-in-Inspect-clause-ok c = for_same c.ask_inspect.result c.args.machine.now c.args.bench.now _ _
    (λ s. of_inspect loaded _ _ _ s c.in-Inspect.is c.as_slice-in-Inspect.ensures) c.ask_inspect.ensures

pub returns-in-Wait-clause-ok : goal.returns-in-Wait-clause-ok
returns-in-Wait-clause-ok c = λ s stands named. asked_from c.args.machine.now _ _ c.opens.result (of_wait loaded _ s c.in-Wait.is) (c.opens.ensures c.args.machine.now)

pub returns-in-Unbuilt-clause-ok : goal.returns-in-Unbuilt-clause-ok
returns-in-Unbuilt-clause-ok c = for_from c.says.result c.args.machine.now c.args.bench.now _ _ c.says.ensures (λ s stands named. of_unbuilt loaded _ s c.in-Unbuilt.is)

pub returns-in-Quit-clause-ok : goal.returns-in-Quit-clause-ok
returns-in-Quit-clause-ok c = λ s stands named. asked_from c.args.machine.now _ _ c.nothing-in-Quit.result (of_quit loaded _ s c.in-Quit.is) (c.nothing-in-Quit.ensures c.args.machine.now)
