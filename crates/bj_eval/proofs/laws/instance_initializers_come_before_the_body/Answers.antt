use Rattle.bj_eval.proofs.Firsts.{initializers_first}
use Rattle.bj_eval.proofs.laws.instance_initializers_come_before_the_body.Goals as goal

pub returns : goal.returns
returns c program limit term at line class constructor object x k m body room own there is_body constructs starts is =
    initializers_first program limit term at line class constructor object x k m body room own there is_body constructs starts is
