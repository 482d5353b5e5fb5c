use Rattle.std.proofs.Common.{Some, ap, ◌∙◌, rules, ◌%◌}
use Rattle.std.proofs.lemmas.Int.{wraps, to_z-of_z}
use Rattle.std.specs.Int.{w32, w64, cast_unsigned}
use Rattle.bj_text.specs.Arith.{int_result, distance}
use Rattle.bj_text.proofs.Wraps.{shl_is-int}
use Rattle.bj_text.proofs.arith.int_op.Goals as goal

pub returns-in-Add : goal.returns-in-Add
returns-in-Add c = search (rules, wraps)

pub returns-in-Sub : goal.returns-in-Sub
returns-in-Sub c = search (rules, wraps)

pub returns-in-Shl : goal.returns-in-Shl
returns-in-Shl c =
    ap (λ op. int_result op c.args.a c.args.b) c.in-Shl.is
    ∙ ap Some (shl_is-int c.args.a c.args.b c.wrapping_shl.result (c.cast_unsigned.result % 32) c.ranges.a (record { sfits = c.wrapping_shl.type_inv }) (ap (λ n. n % 32) (c.cast_unsigned.ensures ∙ ap (cast_unsigned w32) (to_z-of_z w32 c.args.b c.ranges.b))) c.wrapping_shl.ensures)
