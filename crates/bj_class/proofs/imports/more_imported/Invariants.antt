use Rattle.std.proofs.Common.{◌≡◌, ◌-◌}
use Rattle.bj_grammar.specs.Given.{text_of}
use Rattle.bj_class.specs.Given.{over_most}
use Rattle.bj_class.specs.Reading.{more_names}
use Rattle.bj_class.proofs.imports.more_imported.Given as goal

abbrev pub invariant-loop-turn : goal.invariant-loop-turn
invariant-loop-turn l =
    over_most more_names l.tokens l.fn.bounds l.fn.bounds.most l.fn.found (text_of l.tokens) l.fn.at
    ≡ over_most more_names l.tokens l.fn.bounds (l.fn.bounds.most - l._turn) l.found (text_of l.tokens) l.at
