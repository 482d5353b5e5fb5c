use Rattle.std.proofs.Common.{◌≡◌, [], ◌∷◌, ◌++◌, ◌≤◌}
use Rattle.bj_writer.specs.Pieces.{spaces}
use Rattle.bj_writer.proofs.writer.Writer.line.Given as goal

abbrev pub invariant-loop : goal.invariant-loop
invariant-loop l = (l.self.text ≡ (l.fn.self.text ++ (10 ∷ [])) ++ spaces l.counter) × (l.counter ≤ l.columns)
