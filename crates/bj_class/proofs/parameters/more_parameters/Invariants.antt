use Rattle.std.proofs.Common.{◌≡◌, ◌-◌}
use Rattle.bj_grammar.specs.Reader.{loop}
use Rattle.bj_grammar.specs.declared.terminal.Terminal.TheVariants as t
use Rattle.bj_expr.specs.Reading.{is}
use Rattle.bj_grammar.specs.Given.{text_of}
use Rattle.bj_class.specs.Reading.{next_parameter}
use Rattle.bj_class.specs.Given.{parameters_of, over_most}
use Rattle.bj_class.proofs.parameters.more_parameters.Given as goal

abbrev pub invariant-loop-turn : goal.invariant-loop-turn
invariant-loop-turn l =
    parameters_of l.tokens l.bounds l.fn.found (text_of l.tokens) l.fn.at
    ≡ loop (l.bounds.most - l._turn) (is t.Comma) (over_most next_parameter l.tokens l.bounds) l.found (text_of l.tokens) l.at
