use Rattle.std.proofs.Common.{sym, ap, ◌∙◌}
use Rattle.bj_bench.specs.declared.names.BoundName.{BoundName}
use Rattle.bj_bench.specs.Names.{is_taken}
use Rattle.std.specs.Prelude.{List}
use Rattle.bj_reply.proofs.Forms.{for_from, for_known, when_busy, when_taken, when_untaken}
use Rattle.bj_reply.proofs.asking.ask_creation.Goals as goal

pub returns-then-is_busy : goal.returns-then-is_busy
returns-then-is_busy c = for_from c.says.result c.args.machine.now c.args.bench.now _ _ c.says.ensures
    (λ s stands named. when_busy s.world _ (sym (c.is_busy.ensures s.world stands) ∙ c.if-is_busy.true))

pub returns-then-is_taken : goal.returns-then-is_taken
returns-then-is_taken c = for_from c.says_of.result c.args.machine.now c.args.bench.now _ _ c.says_of.ensures
    (λ s stands named. when_taken c.args.argument c.args.name.now c.args.text.now s (sym (c.is_busy.ensures s.world stands) ∙ c.if-is_busy.false)
    (ap (λ (names : List BoundName). is_taken names c.args.name.now) (sym named) ∙ sym c.is_taken.ensures ∙ c.if-is_taken.true))

pub returns : goal.returns
returns c = for_known c.begin_creation.result c.args.machine.now c.args.bench.now _ _ c.begin_creation.ensures
    (λ s stands named. when_untaken c.args.argument c.args.name.now c.args.text.now s (sym (c.is_busy.ensures s.world stands) ∙ c.if-is_busy.false)
    (ap (λ (names : List BoundName). is_taken names c.args.name.now) (sym named) ∙ sym c.is_taken.ensures ∙ c.if-is_taken.false))
