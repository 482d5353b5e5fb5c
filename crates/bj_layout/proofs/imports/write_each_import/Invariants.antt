use Rattle.std.proofs.Common.{take, map}
use Rattle.bj_writer.specs.Pieces.{Wrote}
use Rattle.bj_layout.specs.Classes.{each, import_pieces}
use Rattle.bj_layout.proofs.imports.write_each_import.Given as goal

abbrev pub invariant-loop-tree : goal.invariant-loop-tree
invariant-loop-tree l = Wrote l.fn.out l.out (each (map import_pieces (take l.tree-index l.trees)))
