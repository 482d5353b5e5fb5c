use Rattle.std.proofs.Common.{ap, refl}
use Rattle.std.specs.Prelude.{map}
use Rattle.bj_core.specs.declared.frame.Local.{Local}
use Rattle.bj_eval.specs.Typed.{scope_of, type_of}
use Rattle.bj_eval.proofs.Integers.{value_last}
use Rattle.bj_eval.proofs.laws.value_comes_last.Goals as goal

pub returns : goal.returns
returns c program limit term at x e none h = value_last program limit term at x (scope_of term) e (ap (map (λ (l : Local). type_of l.value)) none) refl h
