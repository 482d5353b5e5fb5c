use Rattle.std.proofs.Common.{◌≡◌, ◌-◌}
use Rattle.bj_grammar.specs.Reader.{loop}
use Rattle.bj_grammar.specs.declared.terminal.Terminal.TheVariants as t
use Rattle.bj_expr.specs.Reading.{is}
use Rattle.bj_stmt.specs.Reading.{next_catch}
use Rattle.bj_grammar.specs.Given.{text_of}
use Rattle.bj_stmt.specs.Given.{catches_of, over_nested}
use Rattle.bj_stmt.proofs.reader.Reader.more_catches.Given as goal

abbrev pub invariant-loop-turn : goal.invariant-loop-turn
invariant-loop-turn g l =
    catches_of l.tokens l.self.bounds l.fn.found (text_of l.tokens) l.fn.at
    ≡ loop (l.self.bounds.most - l._turn) (is t.Catch) (over_nested next_catch l.tokens l.self.bounds) l.found (text_of l.tokens) l.at
