use Rattle.std.proofs.Common.{◌≡◌, drop}
use Rattle.bj_grammar.specs.Terminal.{among}
use Rattle.bj_grammar.proofs.text.among.Given as goal

abbrev pub invariant-loop-one : goal.invariant-loop-one
invariant-loop-one l = among l.some l.terminal ≡ among (drop l.one-index l.some) l.terminal
