use Rattle.bj_eval.proofs.Firsts.{returns_value}
use Rattle.bj_eval.proofs.laws.call_has_what_is_returned.Goals as goal

pub returns : goal.returns
returns c program limit term at spot place line inner name object class method ns n k m room there own is_body plain for is =
    returns_value program limit term at spot place line inner name object class method ns n k m room there own is_body plain for is
