use Rattle.std.proofs.Common.{◌≡◌, ◌-◌}
use Rattle.bj_grammar.specs.Reader.{loop}
use Rattle.bj_grammar.specs.declared.terminal.Terminal.TheVariants as t
use Rattle.bj_expr.specs.Reading.{is}
use Rattle.bj_grammar.specs.Given.{text_of}
use Rattle.bj_class.specs.Reading.{next_annotation}
use Rattle.bj_class.specs.Given.{annotations_of, over_most}
use Rattle.bj_class.proofs.annotations.more_annotations.Given as goal

abbrev pub invariant-loop-turn : goal.invariant-loop-turn
invariant-loop-turn l =
    annotations_of l.tokens l.bounds l.fn.found (text_of l.tokens) l.fn.at
    ≡ loop (l.bounds.most - l._turn) (is t.At) (over_most next_annotation l.tokens l.bounds) l.found (text_of l.tokens) l.at
