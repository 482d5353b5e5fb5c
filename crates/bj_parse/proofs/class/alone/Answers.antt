use Rattle.std.proofs.Common.{◌<◌, ◌≤◌, List, length, subst}
use Rattle.bj_token.specs.declared.token.Token.{Token}
use Rattle.bj_parse.proofs.ClassLaws as laws
use Rattle.bj_parse.proofs.class.alone.Goals as goal

pub returns-then-at-symbols-clause-only : goal.returns-then-at-symbols-clause-only
returns-then-at-symbols-clause-only c =
    laws.behind_only c.args.tokens.now c.args.tree c.args.at c.fault.result c.requires.read (subst (λ (ts : List Token). c.args.at < length ts) c.requires.same c.if-at-symbols.true)

pub returns-then-at-symbols-clause-fault : goal.returns-then-at-symbols-clause-fault
returns-then-at-symbols-clause-fault c =
    laws.behind_fault c.args.tokens.now c.args.tree c.args.at c.fault.result c.requires.read (subst (λ (ts : List Token). c.args.at < length ts) c.requires.same c.if-at-symbols.true)
    (laws.told_at c.args.tokens.now c.args.at c.fault.result c.spot.result c.spot.ensures c.fault.ensures)

pub returns-clause-found : goal.returns-clause-found
returns-clause-found c = laws.whole_class c.args.tokens.now c.args.tree c.args.at c.requires.read (subst (λ (ts : List Token). length ts ≤ c.args.at) c.requires.same c.if-at-symbols.false)

pub returns-clause-only : goal.returns-clause-only
returns-clause-only c = laws.only_class c.args.tokens.now c.args.tree c.args.at c.requires.read
