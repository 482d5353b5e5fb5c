use Rattle.std.proofs.Common.{◌≡◌, true, false, Option, ap, ◌∙◌}
use Rattle.bj_core.specs.declared.tree.Expr.{Expr}
use Rattle.bj_history.specs.History.{loaded}
use Rattle.bj_bench.specs.Names.{is_plain}
use Rattle.bj_history.specs.Replies.{creation_outcome}
use Rattle.bj_reply.proofs.Forms.{for_from, for_same, new_plain, new_refused, plain_over}
use Rattle.bj_reply.proofs.Typings.{sum_if_any}
use Rattle.bj_reply.proofs.asking.ask_new.Goals as goal

pub returns-then-not-is_plain : goal.returns-then-not-is_plain
returns-then-not-is_plain c =
    let plain : is_plain loaded c.args.name.now ≡ false =
    plain_over c.program.result.now c.args.machine.now.program loaded c.args.name.now c.is_plain.result false c.is_plain.ensures c.program.ensures c.requires.program c.if-not-is_plain.true in
    for_from c.says.result c.args.machine.now c.args.bench.now _ _ c.says.ensures (λ s stands named. new_refused loaded c.args.name.now c.args.text.now s plain)

pub ask_creation-requires-clause-sum : goal.ask_creation-requires-clause-sum
ask_creation-requires-clause-sum c = sum_if_any c.args.text.now c.in_ok-argument.argument c.in_ok-argument.ensures c.cells_are_read.ensures.creation c.sums_are_of_sums.ensures

pub returns : goal.returns
returns c =
    let plain : is_plain loaded c.args.name.now ≡ true =
    plain_over c.program.result.now c.args.machine.now.program loaded c.args.name.now c.is_plain.result true c.is_plain.ensures c.program.ensures c.requires.program c.if-not-is_plain.false in
    for_same c.ask_creation.result c.args.machine.now c.args.bench.now _ _
    (λ s. ap (λ (e : Option Expr). creation_outcome e c.args.name.now c.args.text.now s) c.in_ok-argument.ensures ∙ new_plain loaded c.args.name.now c.args.text.now s plain) c.ask_creation.ensures
