use Rattle.std.proofs.Common.{◌≡◌, true, false, List, Option, None, sym, ap, ◌∙◌}
use Rattle.bj_core.specs.declared.types.Val.{Val}
use Rattle.bj_bench.specs.declared.names.BoundName.{BoundName}
use Rattle.bj_history.specs.History.{loaded}
use Rattle.bj_bench.specs.Names.{is_plain, value_in}
use Rattle.bj_history.specs.Replies.{inspected}
use Rattle.bj_reply.proofs.Forms.{asked_from, for_from, inspect_found, inspect_plain, inspect_refused, plain_over}
use Rattle.bj_reply.proofs.asking.ask_inspect.Goals as goal

pub returns-then-not-is_plain : goal.returns-then-not-is_plain
returns-then-not-is_plain c =
    let plain : is_plain loaded c.args.name.now ≡ false =
    plain_over c.program.result.now c.args.machine.now.program loaded c.args.name.now c.is_plain.result false c.is_plain.ensures c.program.ensures c.requires c.if-not-is_plain.true in
    for_from c.says.result c.args.machine.now c.args.bench.now _ _ c.says.ensures (λ s stands named. inspect_refused loaded c.args.name.now s plain)

pub returns-in_ok-text-in-Some : goal.returns-in_ok-text-in-Some
returns-in_ok-text-in-Some c = λ s stands named.
    let plain : is_plain loaded c.args.name.now ≡ true =
    plain_over c.program.result.now c.args.machine.now.program loaded c.args.name.now c.is_plain.result true c.is_plain.ensures c.program.ensures c.requires c.if-not-is_plain.false in
    asked_from c.args.machine.now _ _ c.replied.result
    (inspect_found c.program-in-Some.result.now loaded c.store.result.now c.args.name.now c.in_ok-text-in-Some.text c.in-Some.value c.args.bench.now s plain
    c.in_ok-text-in-Some.ensures (c.program-in-Some.ensures ∙ c.requires) (c.store.ensures ∙ stands.store) (sym c.in-Some.is ∙ c.find.ensures) named)
    (c.replied.ensures c.args.machine.now)

pub returns-in-None : goal.returns-in-None
returns-in-None c =
    let plain : is_plain loaded c.args.name.now ≡ true =
    plain_over c.program.result.now c.args.machine.now.program loaded c.args.name.now c.is_plain.result true c.is_plain.ensures c.program.ensures c.requires c.if-not-is_plain.false in
    let none : None ≡ value_in c.args.bench.now c.args.name.now = sym c.in-None.is ∙ c.find.ensures in
    for_from c.says_of.result c.args.machine.now c.args.bench.now _ _ c.says_of.ensures
    (λ s stands named. ap (λ (v : Option Val). inspected loaded s.world.store c.args.name.now v) (none ∙ ap (λ (names : List BoundName). value_in names c.args.name.now) named)
    ∙ inspect_plain loaded c.args.name.now s plain)
