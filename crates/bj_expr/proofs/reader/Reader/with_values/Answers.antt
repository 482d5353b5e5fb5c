use Rattle.std.proofs.Common.{rules, arith}
use Rattle.std.proofs.lemmas.Grind.{common_steps}
use Rattle.bj_expr.specs.Reading.{unsized}
use Rattle.bj_expr.proofs.reader.Reader.with_values.Goals as goal

pub returns-in_err-at : goal.returns-in_err-at
unfolding unsized
returns-in_err-at g c = first_of (search rules, grind (arith, common_steps))

pub returns-in_err-dims : goal.returns-in_err-dims
unfolding unsized
returns-in_err-dims g c = first_of (search rules, grind (arith, common_steps))

pub returns : goal.returns
unfolding unsized
returns g c = first_of (search rules, grind (arith, common_steps))
