use Rattle.std.proofs.Common.{◌≡◌, ◌+◌, drop}
use Rattle.bj_lex.specs.Comments.{line_len}
use Rattle.bj_lex.proofs.comments.line_len.Given as goal

abbrev pub invariant-loop-at : goal.invariant-loop-at
invariant-loop-at l = l.at + line_len (drop l.at l.rest) ≡ line_len l.rest
