use Rattle.std.proofs.Common.{◌≡◌, ◌-◌}
use Rattle.bj_grammar.specs.Given.{text_of}
use Rattle.bj_expr.specs.Reading.{more_sizes}
use Rattle.bj_expr.specs.Given.{over_nested}
use Rattle.bj_expr.proofs.reader.Reader.more_sizes.Given as goal

abbrev pub invariant-loop-turn : goal.invariant-loop-turn
invariant-loop-turn g l =
    over_nested more_sizes l.tokens l.self.bounds l.self.bounds.most l.fn.found (text_of l.tokens) l.fn.at
    ≡ over_nested more_sizes l.tokens l.self.bounds (l.self.bounds.most - l._turn) l.found (text_of l.tokens) l.at
