use Rattle.bj_eval.proofs.Firsts.{enters}
use Rattle.bj_eval.proofs.laws.arguments_are_the_values_of_parameters.Goals as goal

pub returns : goal.returns
returns c program limit term at spot place name object class method ns k m body room there own is_body for is =
    enters program limit term at spot place name object class method ns k m body room there own is_body for is
