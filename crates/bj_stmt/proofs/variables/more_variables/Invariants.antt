use Rattle.std.proofs.Common.{◌≡◌, ◌-◌}
use Rattle.bj_grammar.specs.Reader.{loop}
use Rattle.bj_grammar.specs.declared.terminal.Terminal.TheVariants as t
use Rattle.bj_expr.specs.Reading.{is}
use Rattle.bj_stmt.specs.Reading.{next_variable}
use Rattle.bj_grammar.specs.Given.{text_of}
use Rattle.bj_stmt.specs.Given.{variables_of, over_bounds}
use Rattle.bj_stmt.proofs.variables.more_variables.Given as goal

abbrev pub invariant-loop-turn : goal.invariant-loop-turn
invariant-loop-turn l =
    variables_of l.tokens l.bounds l.fn.found (text_of l.tokens) l.fn.at
    ≡ loop (l.bounds.most - l._turn) (is t.Comma) (over_bounds next_variable l.tokens l.bounds) l.found (text_of l.tokens) l.at
