use Rattle.std.proofs.Common.{◌≡◌, take}
use Rattle.bj_line.proofs.symbols.symbols_of.Given as goal

abbrev pub invariant-loop-token : goal.invariant-loop-token
invariant-loop-token l = l.symbols.items ≡ take l.token-index l.tokens
