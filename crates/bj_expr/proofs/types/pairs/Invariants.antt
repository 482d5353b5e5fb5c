use Rattle.std.proofs.Common.{◌≡◌, ◌-◌}
use Rattle.bj_grammar.specs.Reader.{loop}
use Rattle.bj_grammar.specs.declared.terminal.Terminal.TheVariants as t
use Rattle.bj_grammar.specs.Given.{text_of}
use Rattle.bj_expr.specs.Reading.{is, pair, pairs}
use Rattle.bj_expr.proofs.types.pairs.Given as goal

abbrev pub invariant-loop-turn : goal.invariant-loop-turn
invariant-loop-turn l =
    pairs l.most l.fn.dims (text_of l.tokens) l.fn.at ≡ loop (l.most - l._turn) (is t.LeftBracket) pair l.dims (text_of l.tokens) l.at
