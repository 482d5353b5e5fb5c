-- The laws of the readers of a file's parts.
use Rattle.std.proofs.Common.{ℕ}
use Rattle.bj_base.specs.declared.span.Span.{Span}
use Rattle.bj_stmt.proofs.GivenExpressions.{given}
use Rattle.bj_class.proofs.GivenStatements.{blocks}
use Rattle.bj_class.proofs.NameLaws as names
use Rattle.bj_class.proofs.HeadLaws as before
use Rattle.bj_class.proofs.MemberLaws as one
use Rattle.bj_class.proofs.MemberListLaws as all
use Rattle.bj_class.proofs.FileLaws.{file_laws}
use Rattle.bj_line.specs.Line.{most_nodes}
use Rattle.bj_parse.proofs.FileRun.{Parts}

pub parts : (place : ℕ → Span) (most : ℕ) → Parts place most most_nodes
parts place most =
    let expressions = given place most in
    let bodies = blocks place most most_nodes in
    let heads = before.heads place most in
    record {
      import_laws = names.import_laws place most;
      imports_laws = names.imports_laws place most;
      head_laws = before.head_laws place most;
      member_laws = one.member_laws place most expressions most_nodes bodies heads;
      file_laws = λ file. file_laws place most expressions most_nodes bodies heads (names.imports_laws place most) (before.head_laws place most) file;
      import_begins = λ s a i j d. (names.import_begins place most s a i j d).0;
      head_begins = before.head_no_import place most;
      member_begins = λ s a i j d. one.member_inside place most expressions most_nodes bodies heads s d;
      import_steps = names.import_steps place most;
      member_steps = all.member_steps place most expressions most_nodes bodies heads;
    }
