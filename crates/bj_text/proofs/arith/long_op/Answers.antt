use Rattle.std.proofs.Common.{Some, ap, ◌∙◌, rules, ◌%◌, arith, ◌≡◌}
use Rattle.std.proofs.lemmas.Int.{wraps, to_z-of_z}
use Rattle.std.specs.Int.{w32, w64, cast_unsigned}
use Rattle.bj_text.specs.Arith.{long_result, distance}
use Rattle.bj_text.proofs.Wraps.{shl_is-long}
use Rattle.bj_text.proofs.arith.long_op.Goals as goal

pub returns-in-Add : goal.returns-in-Add
returns-in-Add c = search (rules, wraps)

pub returns-in-Sub : goal.returns-in-Sub
returns-in-Sub c = search (rules, wraps)

pub returns-in-Shl : goal.returns-in-Shl
returns-in-Shl c =
    ap (λ op. long_result op c.args.a c.args.b) c.in-Shl.is
    ∙ ap Some (shl_is-long c.args.a c.args.b c.wrapping_shl.result (c.long_distance.result % 64) c.ranges.a (record { sfits = c.wrapping_shl.type_inv }) (let e : c.long_distance.result ≡ distance w64 c.args.b = c.long_distance.ensures ∙ ap (distance w64) (to_z-of_z w64 c.args.b c.ranges.b) in omega arith) c.wrapping_shl.ensures)
