use Rattle.bj_writer.specs.Pieces.{tokens_of}
use Rattle.bj_writer.proofs.Derived.{written_lexes}
use Rattle.bj_writer.proofs.Found.{token_marks}
use Rattle.bj_writer.proofs.ReadBack.{written_reads}
use Rattle.bj_writer.proofs.law.written_tokens_are_read.Goals as goal

pub returns-clause-derived : goal.returns-clause-derived
returns-clause-derived c = λ pieces each. written_lexes pieces (token_marks (tokens_of pieces) each)

pub returns-clause-read : goal.returns-clause-read
returns-clause-read c = λ pieces each. written_reads pieces each
