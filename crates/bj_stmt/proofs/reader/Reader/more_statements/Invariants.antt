use Rattle.std.proofs.Common.{◌≡◌, ◌-◌}
use Rattle.bj_grammar.specs.Reader.{loop}
use Rattle.bj_stmt.specs.Reading.{next_statement, inside}
use Rattle.bj_grammar.specs.Given.{text_of}
use Rattle.bj_stmt.specs.Given.{block_of, over_nested}
use Rattle.bj_stmt.proofs.reader.Reader.more_statements.Given as goal

abbrev pub invariant-loop-turn : goal.invariant-loop-turn
invariant-loop-turn g l =
    block_of l.tokens l.self.bounds l.fn.found (text_of l.tokens) l.fn.at
    ≡ loop (l.self.bounds.most - l._turn) inside (over_nested next_statement l.tokens l.self.bounds) l.found (text_of l.tokens) l.at
