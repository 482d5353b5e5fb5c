use Rattle.bj_layout.proofs.StmtParts.{wrote_no_semicolon}
use Rattle.bj_layout.proofs.stmt.write_end.Goals as goal

pub returns-else-ends_with_semicolon : goal.returns-else-ends_with_semicolon
returns-else-ends_with_semicolon c = wrote_no_semicolon c.ends_with_semicolon.ensures c.if-ends_with_semicolon.false
