use Rattle.std.proofs.Common.{◌≡◌, drop}
use Rattle.std.specs.List.{list_any}
use Rattle.bj_tree.specs.declared.class.Modifier.{Modifier}
use Rattle.bj_rules.specs.Modifiers.{exclude}
use Rattle.bj_rules.proofs.modifier.is_excluded.Given as goal

abbrev pub invariant-loop-one : goal.invariant-loop-one
invariant-loop-one l =
    let test : Modifier → _ = λ one. exclude l.place l.kind one.kind in
    list_any test l.before ≡ list_any test (drop l.one-index l.before)
