use Rattle.std.proofs.Common.{take, map}
use Rattle.bj_writer.specs.Pieces.{Wrote}
use Rattle.bj_layout.specs.Classes.{each, modifier_pieces}
use Rattle.bj_layout.proofs.modifiers.write_modifiers.Given as goal

abbrev pub invariant-loop-modifier : goal.invariant-loop-modifier
invariant-loop-modifier l = Wrote l.fn.out l.out (each (map modifier_pieces (take l.modifier-index l.modifiers)))
