use Rattle.std.proofs.Common.{◌<◌, List, subst, arith}
use Rattle.bj_tree.specs.declared.stmt.StmtTree.{StmtTree}
use Rattle.bj_line.specs.declared.outcome.Outcome.{Outcome}
use Rattle.bj_line.specs.Line.{IsStatementsOutcome}
use Rattle.bj_line.proofs.LineLaws as laws
use Rattle.bj_line.proofs.line.after_stuck.Goals as goal

pub returns-then-at-later-clause-only : goal.returns-then-at-later-clause-only
returns-then-at-later-clause-only c =
    laws.no_line c.args.tokens.now (record { expression = laws.none_stuck c.args.tokens.now c.args.at c.requires; statements = laws.stuck_no_statements c.args.tokens.now c.in-Ok-Stuck.later (subst (λ (x : Outcome (List StmtTree)). IsStatementsOutcome c.args.tokens.now x) c.in-Ok-Stuck.field-0-is c.in-Ok-Stuck.ensures) })

pub returns-then-at-later-clause-fault : goal.returns-then-at-later-clause-fault
returns-then-at-later-clause-fault c =
    laws.first_by_statements c.args.tokens.now c.args.at c.in-Ok-Stuck.later (let h : c.args.at < c.in-Ok-Stuck.later = c.if-at-later.true in omega arith) c.requires (subst (λ (x : Outcome (List StmtTree)). IsStatementsOutcome c.args.tokens.now x) c.in-Ok-Stuck.field-0-is c.in-Ok-Stuck.ensures)

pub returns-in-Ok-Whole-clause-found : goal.returns-in-Ok-Whole-clause-found
returns-in-Ok-Whole-clause-found c = laws.statements_stand c.args.tokens.now c.in-Ok-Whole.trees (subst (λ (x : Outcome (List StmtTree)). IsStatementsOutcome c.args.tokens.now x) c.in-Ok-Whole.field-0-is c.in-Ok-Whole.ensures) (laws.none_stuck c.args.tokens.now c.args.at c.requires)

pub returns-in-Ok-Whole-clause-only : goal.returns-in-Ok-Whole-clause-only
returns-in-Ok-Whole-clause-only c = laws.statements_only c.args.tokens.now c.in-Ok-Whole.trees (subst (λ (x : Outcome (List StmtTree)). IsStatementsOutcome c.args.tokens.now x) c.in-Ok-Whole.field-0-is c.in-Ok-Whole.ensures) (laws.none_stuck c.args.tokens.now c.args.at c.requires)

pub returns-else-at-later-clause-only : goal.returns-else-at-later-clause-only
returns-else-at-later-clause-only c =
    laws.no_line c.args.tokens.now (record { expression = laws.none_stuck c.args.tokens.now c.args.at c.requires; statements = laws.stuck_no_statements c.args.tokens.now c.in-Ok-Stuck.later (subst (λ (x : Outcome (List StmtTree)). IsStatementsOutcome c.args.tokens.now x) c.in-Ok-Stuck.field-0-is c.in-Ok-Stuck.ensures) })

pub returns-else-at-later-clause-fault : goal.returns-else-at-later-clause-fault
returns-else-at-later-clause-fault c =
    laws.first_by_expression c.args.tokens.now c.args.at c.in-Ok-Stuck.later c.if-at-later.false c.requires (subst (λ (x : Outcome (List StmtTree)). IsStatementsOutcome c.args.tokens.now x) c.in-Ok-Stuck.field-0-is c.in-Ok-Stuck.ensures)

pub returns-in-Ok-Deep-clause-only : goal.returns-in-Ok-Deep-clause-only
returns-in-Ok-Deep-clause-only c =
    laws.no_line c.args.tokens.now (record { expression = laws.none_stuck c.args.tokens.now c.args.at c.requires; statements = laws.deep_no_statements c.args.tokens.now c.in-Ok-Deep.deep (subst (λ (x : Outcome (List StmtTree)). IsStatementsOutcome c.args.tokens.now x) c.in-Ok-Deep.field-0-is c.in-Ok-Deep.ensures) })

pub returns-in-Ok-Deep-clause-fault : goal.returns-in-Ok-Deep-clause-fault
returns-in-Ok-Deep-clause-fault c = laws.deep_second c.args.tokens.now c.args.at c.requires c.in-Ok-Deep.deep (subst (λ (x : Outcome (List StmtTree)). IsStatementsOutcome c.args.tokens.now x) c.in-Ok-Deep.field-0-is c.in-Ok-Deep.ensures)
