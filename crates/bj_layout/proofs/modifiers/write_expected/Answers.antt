use Rattle.std.proofs.Common.{ap}
use Rattle.bj_layout.specs.Classes.{expected_pieces}
use Rattle.bj_layout.proofs.Writing.{then_wrote, nothing_wrote, wrote_as}
use Rattle.bj_layout.proofs.modifiers.write_expected.Goals as goal

pub returns-in_ok-sign-3 : goal.returns-in_ok-sign-3
returns-in_ok-sign-3 c = wrote_as (ap expected_pieces c.in-Some.is) (then_wrote c.in_ok-sign.ensures (then_wrote c.in_ok-mark.ensures (then_wrote c.in_ok-spaced_sign.ensures (then_wrote c.in_ok-word.ensures (then_wrote c.in_ok-sign-2.ensures (then_wrote c.in_ok-keyword.ensures c.in_ok-sign-3.ensures))))))

pub returns-in_default : goal.returns-in_default
returns-in_default c = wrote_as (ap expected_pieces c.in_default.is) nothing_wrote
