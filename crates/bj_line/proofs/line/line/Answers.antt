use Rattle.std.proofs.Common.{subst}
use Rattle.bj_expr_tree.specs.declared.expr.ExprTree.{ExprTree}
use Rattle.bj_line.specs.declared.outcome.Outcome.{Outcome}
use Rattle.bj_line.specs.Line.{IsExpressionOutcome}
use Rattle.bj_line.proofs.LineLaws as laws
use Rattle.bj_line.proofs.line.line.Goals as goal

pub returns-in-Ok-Whole-clause-found : goal.returns-in-Ok-Whole-clause-found
returns-in-Ok-Whole-clause-found c = laws.expression_stands c.args.tokens.now c.in-Ok-Whole.tree (subst (λ (x : Outcome ExprTree). IsExpressionOutcome c.args.tokens.now x) c.in-Ok-Whole.field-0-is c.in-Ok-Whole.ensures)

pub returns-in-Ok-Whole-clause-only : goal.returns-in-Ok-Whole-clause-only
returns-in-Ok-Whole-clause-only c = laws.expression_only c.args.tokens.now c.in-Ok-Whole.tree (subst (λ (x : Outcome ExprTree). IsExpressionOutcome c.args.tokens.now x) c.in-Ok-Whole.field-0-is c.in-Ok-Whole.ensures)
