use Rattle.std.proofs.Common.{◌≡◌, ◌-◌}
use Rattle.bj_grammar.specs.Given.{text_of, place_of}
use Rattle.bj_parse.specs.Early as spec
use Rattle.bj_parse.proofs.annotations.annotations_end.Given as goal

abbrev pub invariant-loop-turn : goal.invariant-loop-turn
invariant-loop-turn l =
    spec.annotations_end (place_of l.tokens) l.bounds.most l.bounds.most (text_of l.tokens) l.start ≡ spec.annotations_end (place_of l.tokens) l.bounds.most (l.bounds.most - l._turn) (text_of l.tokens) l.at
