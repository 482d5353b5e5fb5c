use Rattle.std.proofs.Common.{List, subst}
use Rattle.bj_tree.specs.declared.stmt.StmtTree.{StmtTree}
use Rattle.bj_line.specs.declared.outcome.Outcome.{Outcome}
use Rattle.bj_line.specs.Line.{IsStatementsOutcome}
use Rattle.bj_line.proofs.LineLaws as laws
use Rattle.bj_line.proofs.line.after_deep.Goals as goal

pub returns-in-Ok-Whole-clause-found : goal.returns-in-Ok-Whole-clause-found
returns-in-Ok-Whole-clause-found c = laws.statements_stand c.args.tokens.now c.in-Ok-Whole.trees (subst (λ (x : Outcome (List StmtTree)). IsStatementsOutcome c.args.tokens.now x) c.in-Ok-Whole.field-0-is c.in-Ok-Whole.ensures) (laws.none_deep c.args.tokens.now c.args.at c.requires)

pub returns-in-Ok-Whole-clause-only : goal.returns-in-Ok-Whole-clause-only
returns-in-Ok-Whole-clause-only c = laws.statements_only c.args.tokens.now c.in-Ok-Whole.trees (subst (λ (x : Outcome (List StmtTree)). IsStatementsOutcome c.args.tokens.now x) c.in-Ok-Whole.field-0-is c.in-Ok-Whole.ensures) (laws.none_deep c.args.tokens.now c.args.at c.requires)

pub returns-in-Ok-Stuck-clause-only : goal.returns-in-Ok-Stuck-clause-only
returns-in-Ok-Stuck-clause-only c =
    laws.no_line c.args.tokens.now (record { expression = laws.none_deep c.args.tokens.now c.args.at c.requires; statements = laws.stuck_no_statements c.args.tokens.now c.in-Ok-Stuck.field-0-0 (subst (λ (x : Outcome (List StmtTree)). IsStatementsOutcome c.args.tokens.now x) c.in-Ok-Stuck.field-0-is c.in-Ok-Stuck.ensures) })

pub returns-in-Ok-Stuck-clause-fault : goal.returns-in-Ok-Stuck-clause-fault
returns-in-Ok-Stuck-clause-fault c = laws.deep_first c.args.tokens.now c.args.at c.requires c.in-Ok-Stuck.field-0-0 (subst (λ (x : Outcome (List StmtTree)). IsStatementsOutcome c.args.tokens.now x) c.in-Ok-Stuck.field-0-is c.in-Ok-Stuck.ensures)

pub returns-in-Ok-Deep-clause-only : goal.returns-in-Ok-Deep-clause-only
returns-in-Ok-Deep-clause-only c =
    laws.no_line c.args.tokens.now (record { expression = laws.none_deep c.args.tokens.now c.args.at c.requires; statements = laws.deep_no_statements c.args.tokens.now c.in-Ok-Deep.field-0-0 (subst (λ (x : Outcome (List StmtTree)). IsStatementsOutcome c.args.tokens.now x) c.in-Ok-Deep.field-0-is c.in-Ok-Deep.ensures) })

pub returns-in-Ok-Deep-clause-fault : goal.returns-in-Ok-Deep-clause-fault
returns-in-Ok-Deep-clause-fault c = laws.deep_both c.args.tokens.now c.args.at c.in-Ok-Deep.field-0-0 c.requires (subst (λ (x : Outcome (List StmtTree)). IsStatementsOutcome c.args.tokens.now x) c.in-Ok-Deep.field-0-is c.in-Ok-Deep.ensures)
