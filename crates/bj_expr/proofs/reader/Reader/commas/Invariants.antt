use Rattle.std.proofs.Common.{◌≡◌, ◌-◌}
use Rattle.bj_grammar.specs.Reader.{loop}
use Rattle.bj_grammar.specs.declared.terminal.Terminal.TheVariants as t
use Rattle.bj_expr.specs.Reading.{is, comma}
use Rattle.bj_grammar.specs.Given.{text_of}
use Rattle.bj_expr.specs.Given.{over_nested, commas_of}
use Rattle.bj_expr.proofs.reader.Reader.commas.Given as goal

abbrev pub invariant-loop-turn : goal.invariant-loop-turn
invariant-loop-turn g l =
    commas_of l.self.bounds l.tokens l.fn.found (text_of l.tokens) l.fn.at
    ≡ loop (l.self.bounds.most - l._turn) (is t.Comma) (over_nested comma l.tokens l.self.bounds) l.found (text_of l.tokens) l.at
