use Rattle.std.proofs.Common.{◌≡◌, ◌-◌}
use Rattle.bj_grammar.specs.Reader.{loop}
use Rattle.bj_grammar.specs.Terminal.{among}
use Rattle.bj_expr.specs.Grammar.{step_ops}
use Rattle.bj_expr.specs.Reading.{postfix_step}
use Rattle.bj_grammar.specs.Given.{text_of}
use Rattle.bj_expr.specs.Given.{over_nested, steps_of}
use Rattle.bj_expr.proofs.reader.Reader.postfix_steps.Given as goal

abbrev pub invariant-loop-turn : goal.invariant-loop-turn
invariant-loop-turn g l =
    steps_of l.self.bounds l.tokens l.start l.fn.operand (text_of l.tokens) l.fn.at
    ≡ loop (l.self.bounds.most - l._turn) (among step_ops) (over_nested postfix_step l.tokens l.self.bounds l.start) l.operand (text_of l.tokens) l.at
