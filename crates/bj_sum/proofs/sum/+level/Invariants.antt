use Rattle.std.proofs.Common.{◌≡◌, ◌+◌, ◌-◌, ◌*◌}
use Rattle.bj_sum.specs.Reading.{text_of, operations_of}
use Rattle.bj_sum.proofs.sum.+level.Given as goal

abbrev pub decreases-level : goal.decreases-level
decreases-level l = 600 * l.limit + (2 * l.rank + 1)

abbrev pub decreases-operations : goal.decreases-operations
decreases-operations l = 600 * l.limit + (2 * l.rank + 2)

abbrev pub decreases-unary : goal.decreases-unary
decreases-unary l = 600 * l.limit

abbrev pub invariant-operations-loop-turn : goal.invariant-operations-loop-turn
invariant-operations-loop-turn l =
    operations_of (text_of l.tokens) l.limit l.rank l.column l.limit l.fn.left
    ≡ operations_of (text_of l.tokens) l.limit l.rank l.column (l.limit - l._turn) l.left
