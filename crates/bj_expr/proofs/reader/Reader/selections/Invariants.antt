use Rattle.std.proofs.Common.{◌≡◌, ◌-◌}
use Rattle.bj_grammar.specs.Reader.{loop}
use Rattle.bj_grammar.specs.Terminal.{among}
use Rattle.bj_expr.specs.Reading.{selectors, selection}
use Rattle.bj_grammar.specs.Given.{text_of}
use Rattle.bj_expr.specs.Given.{over_nested, selections_of}
use Rattle.bj_expr.proofs.reader.Reader.selections.Given as goal

abbrev pub invariant-loop-turn : goal.invariant-loop-turn
invariant-loop-turn g l =
    selections_of l.self.bounds l.tokens l.start l.fn.target (text_of l.tokens) l.fn.at
    ≡ loop (l.self.bounds.most - l._turn) (among selectors) (over_nested selection l.tokens l.self.bounds l.start) l.target (text_of l.tokens) l.at
