use Rattle.std.proofs.Common.{ap, ◌∙◌}
use Rattle.bj_layout.specs.Stmts.{stmt_parts}
use Rattle.bj_layout.proofs.Writing.{then_wrote}
use Rattle.bj_layout.proofs.StmtParts.{wrote_bare, break_parts, continue_parts, return_parts, throw_parts}
use Rattle.bj_layout.proofs.bare.write_jump.Goals as goal

pub returns-in_ok-write_label-in-Break : goal.returns-in_ok-write_label-in-Break
returns-in_ok-write_label-in-Break c =
    wrote_bare (ap stmt_parts c.in-Break.is ∙ break_parts _ _)
    (then_wrote c.in_ok-keyword-in-Break.ensures c.in_ok-write_label-in-Break.ensures)

pub returns-in_ok-write_label-in-Continue : goal.returns-in_ok-write_label-in-Continue
returns-in_ok-write_label-in-Continue c =
    wrote_bare (ap stmt_parts c.in-Continue.is ∙ continue_parts _ _)
    (then_wrote c.in_ok-keyword-in-Continue.ensures c.in_ok-write_label-in-Continue.ensures)

pub returns-in_ok-write_optional_expr-in-Return : goal.returns-in_ok-write_optional_expr-in-Return
returns-in_ok-write_optional_expr-in-Return c =
    wrote_bare (ap stmt_parts c.in-Return.is ∙ return_parts _ _)
    (then_wrote c.in_ok-keyword-in-Return.ensures c.in_ok-write_optional_expr-in-Return.ensures)

pub returns-in_ok-write_boxed-in-Throw : goal.returns-in_ok-write_boxed-in-Throw
returns-in_ok-write_boxed-in-Throw c =
    wrote_bare (ap stmt_parts c.in-Throw.is ∙ throw_parts _ _)
    (then_wrote c.in_ok-keyword_before-in-Throw.ensures c.in_ok-write_boxed-in-Throw.ensures)
