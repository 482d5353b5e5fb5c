use Rattle.std.proofs.Common.{◌≡◌, ◌-◌}
use Rattle.bj_grammar.specs.Reader.{loop}
use Rattle.bj_grammar.specs.Terminal.{among}
use Rattle.bj_grammar.specs.Given.{text_of}
use Rattle.bj_class.specs.Grammar.{modifier_words}
use Rattle.bj_class.specs.Reading.{next_modifier}
use Rattle.bj_class.specs.Given.{modifiers_of, over_most}
use Rattle.bj_class.proofs.modifiers.more_modifiers.Given as goal

abbrev pub invariant-loop-turn : goal.invariant-loop-turn
invariant-loop-turn l =
    modifiers_of l.tokens l.bounds l.fn.found (text_of l.tokens) l.fn.at
    ≡ loop (l.bounds.most - l._turn) (among modifier_words) (over_most next_modifier l.tokens l.bounds) l.found (text_of l.tokens) l.at
