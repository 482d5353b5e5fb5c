use Rattle.std.proofs.Common.{◌≡◌, Option, Some, None, sym, ap, ◌∙◌, arith}
use Rattle.bj_history.specs.Replies.{call_outcome}
use Rattle.bj_sum.specs.declared.cells.CellCall.{CellCall}
use Rattle.bj_sum.specs.Cells.{call_of}
use Rattle.bj_reply.proofs.Forms.{for_any, for_same}
use Rattle.bj_reply.proofs.asking.ask_call.Goals as goal

pub reads_if_free-requires : goal.reads_if_free-requires
reads_if_free-requires c = let fits = c.requires.fits in omega arith

pub returns-in-Some : goal.returns-in-Some
returns-in-Some c =
    let some : Some c.in-Some.call ≡ call_of c.args.text.now = sym c.in-Some.is ∙ c.in_ok-call.ensures in
    for_same c.ask_called.result c.args.machine.now c.args.bench.now _ _ (λ s. ap (λ (call : Option CellCall). call_outcome call c.args.text.now s) some) c.ask_called.ensures

pub returns-in-None : goal.returns-in-None
returns-in-None c =
    let none : None ≡ call_of c.args.text.now = sym c.in-None.is ∙ c.in_ok-call.ensures in
    for_any c.reads_if_free.result c.args.machine.now c.args.bench.now _ _ (λ s. ap (λ (call : Option CellCall). call_outcome call c.args.text.now s) none) c.reads_if_free.ensures
