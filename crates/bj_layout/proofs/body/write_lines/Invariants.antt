use Rattle.std.proofs.Common.{take, map}
use Rattle.bj_writer.specs.Pieces.{Wrote}
use Rattle.bj_layout.specs.Classes.{each, statement_line}
use Rattle.bj_layout.proofs.body.write_lines.Given as goal

abbrev pub invariant-loop-tree : goal.invariant-loop-tree
invariant-loop-tree l = Wrote l.fn.out l.out (each (map statement_line (take l.tree-index l.trees)))
