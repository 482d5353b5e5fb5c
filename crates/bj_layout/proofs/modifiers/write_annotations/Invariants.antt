use Rattle.std.proofs.Common.{take, map}
use Rattle.bj_writer.specs.Pieces.{Wrote}
use Rattle.bj_layout.specs.Classes.{each, annotation_pieces}
use Rattle.bj_layout.proofs.modifiers.write_annotations.Given as goal

abbrev pub invariant-loop-tree : goal.invariant-loop-tree
invariant-loop-tree l = Wrote l.fn.out l.out (each (map (annotation_pieces l.columns) (take l.tree-index l.trees)))
