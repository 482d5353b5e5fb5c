use Rattle.std.proofs.Common.{◌≡◌, ◌-◌, []}
use Rattle.bj_parse.specs.Parts.{members_of}
use Rattle.bj_parse.proofs.members.members_from.Given as goal

abbrev pub invariant-loop-turn : goal.invariant-loop-turn
invariant-loop-turn l = members_of l.tokens l.bounds l.head l.bounds.most [] l.start ≡ members_of l.tokens l.bounds l.head (l.bounds.most - l._turn) l.found l.at
