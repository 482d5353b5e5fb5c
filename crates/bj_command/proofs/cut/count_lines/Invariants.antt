use Rattle.std.proofs.Common.{◌≡◌, ◌+◌, ◌≤◌, drop}
use Rattle.bj_command.specs.Items.{lines_begun, begins_line}
use Rattle.bj_command.proofs.cut.count_lines.Given as goal

abbrev pub invariant-loop-byte : goal.invariant-loop-byte
invariant-loop-byte l = record {
  begun : l.begun + lines_begun l.first (drop l.byte-index l.piece) ≡ l.fn.lines.begun + lines_begun l.fn.lines.first l.piece;
  first : begins_line l.first (drop l.byte-index l.piece) ≡ begins_line l.fn.lines.first l.piece;
  bound : l.begun ≤ l.fn.lines.begun + l.byte-index;
}
