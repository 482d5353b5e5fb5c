use Rattle.std.proofs.Common.{◌≡◌, ◌++◌, take}
use Rattle.bj_writer.proofs.writer.Writer.bytes.Given as goal

abbrev pub invariant-loop-byte : goal.invariant-loop-byte
invariant-loop-byte l = (l.self.text ≡ l.fn.self.text ++ take l.byte-index l.text) × (l.self.last ≡ l.fn.self.last)
