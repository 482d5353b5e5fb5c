use Rattle.std.proofs.Common.{◌≡◌, ◌-◌}
use Rattle.bj_grammar.specs.Reader.{loop}
use Rattle.bj_grammar.specs.Given.{text_of}
use Rattle.bj_expr.specs.Reading.{goes_on, operation}
use Rattle.bj_expr.specs.Given.{over_nested, operations_of}
use Rattle.bj_expr.proofs.reader.Reader.operations.Given as goal

abbrev pub invariant-loop-turn : goal.invariant-loop-turn
invariant-loop-turn g l =
    operations_of l.self.bounds l.tokens l.rank l.start l.fn.left (text_of l.tokens) l.fn.at
    ≡ loop (l.self.bounds.most - l._turn) (goes_on l.rank) (over_nested operation l.tokens l.self.bounds l.rank l.start) l.left (text_of l.tokens) l.at
