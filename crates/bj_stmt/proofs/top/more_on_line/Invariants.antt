use Rattle.std.proofs.Common.{◌≡◌, ◌-◌}
use Rattle.bj_grammar.specs.Reader.{loop}
use Rattle.bj_stmt.specs.Reading.{on_line}
use Rattle.bj_grammar.specs.Given.{text_of}
use Rattle.bj_stmt.specs.Given.{line_of, line_step}
use Rattle.bj_stmt.proofs.top.more_on_line.Given as goal

abbrev pub invariant-loop-turn : goal.invariant-loop-turn
invariant-loop-turn l =
    line_of l.tokens l.bounds l.fn.found (text_of l.tokens) l.fn.at
    ≡ loop (l.bounds.most - l._turn) on_line (line_step l.tokens l.bounds) l.found (text_of l.tokens) l.at
