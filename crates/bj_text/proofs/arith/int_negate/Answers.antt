use Rattle.std.proofs.Common.{rules}
use Rattle.std.proofs.lemmas.Int.{wraps}
use Rattle.bj_text.proofs.arith.int_negate.Goals as goal

pub returns : goal.returns
returns c = search (rules, wraps)
