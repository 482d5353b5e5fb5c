use Rattle.std.proofs.Common.{◌≡◌, drop}
use Rattle.bj_lex.specs.Comments.{block_len}
use Rattle.bj_lex.proofs.Runs.{raised}
use Rattle.bj_lex.proofs.comments.block_len.Given as goal

abbrev pub invariant-loop-at : goal.invariant-loop-at
invariant-loop-at l = raised l.at (block_len (drop l.at l.rest)) ≡ block_len l.rest
