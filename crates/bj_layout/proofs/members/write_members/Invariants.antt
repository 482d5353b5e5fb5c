use Rattle.std.proofs.Common.{◌≡◌, take, false}
use Rattle.bj_writer.specs.Pieces.{Wrote}
use Rattle.bj_layout.specs.Classes.{members_pieces}
use Rattle.bj_layout.proofs.ClassPieces.{ends_with_field}
use Rattle.bj_layout.proofs.members.write_members.Given as goal

abbrev pub invariant-loop-index : goal.invariant-loop-index
invariant-loop-index l = Wrote l.fn.out l.out (members_pieces (take l.index l.trees)) × (l.is_behind_field ≡ ends_with_field false (take l.index l.trees))
