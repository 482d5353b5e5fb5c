use Rattle.std.proofs.Common.{◌≡◌, drop}
use Rattle.std.specs.List.{list_any}
use Rattle.bj_tree.specs.declared.class.Modifier.{Modifier}
use Rattle.bj_rules.specs.Modifiers.{same_kind}
use Rattle.bj_rules.proofs.modifier.has.Given as goal

abbrev pub invariant-loop-one : goal.invariant-loop-one
invariant-loop-one l =
    let test : Modifier → _ = λ one. same_kind l.kind one.kind in
    list_any test l.modifiers ≡ list_any test (drop l.one-index l.modifiers)
