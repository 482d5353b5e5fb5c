use Rattle.std.proofs.Common.{◌≡◌, ◌-◌, []}
use Rattle.bj_parse.specs.Parts.{imports_of}
use Rattle.bj_parse.proofs.imports.imports_from.Given as goal

abbrev pub invariant-loop-turn : goal.invariant-loop-turn
invariant-loop-turn l = imports_of l.tokens l.bounds l.bounds.most [] 0 ≡ imports_of l.tokens l.bounds (l.bounds.most - l._turn) l.found l.at
