use Rattle.bj_text.proofs.Wraps.{quotient_is-long}
use Rattle.bj_text.proofs.arith.long_quotient.Goals as goal

pub returns : goal.returns
returns c = quotient_is-long c.args.a c.args.b c.wrapping_div.result c.ranges.a c.ranges.b (record { sfits = c.wrapping_div.type_inv }) c.wrapping_div.ensures c.if-b-eq0.false
