use Rattle.std.proofs.Common.{refl, subst}
use Rattle.bj_tree.specs.declared.class.ClassTree.{ClassTree}
use Rattle.bj_parse.specs.Checked.{Checked, HaltsAs}
use Rattle.bj_parse.proofs.ClassLaws as laws
use Rattle.bj_parse.proofs.class.class_by.Goals as goal

pub returns-in-Err-clause-only : goal.returns-in-Err-clause-only
returns-in-Err-clause-only c =
    laws.refused_only c.args.tokens.now c.in-Err.halt c.refused.result
    (subst (λ (r : Checked ClassTree). HaltsAs c.in-Err.halt r) (laws.same_run c.args.tokens.now c.args.symbols.now _ c.requires refl) c.in-Err.ensures) c.refused.ensures

pub returns-in-Err-clause-fault : goal.returns-in-Err-clause-fault
returns-in-Err-clause-fault c =
    laws.refused_fault c.args.tokens.now c.in-Err.halt c.refused.result
    (subst (λ (r : Checked ClassTree). HaltsAs c.in-Err.halt r) (laws.same_run c.args.tokens.now c.args.symbols.now _ c.requires refl) c.in-Err.ensures) c.refused.ensures
