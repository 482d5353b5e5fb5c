-- No part of a block of statements ends before its beginning.
use Rattle.std.proofs.Common.{ℕ, ◌≤◌, Bool, arith, List, Option}
use Rattle.bj_base.specs.declared.span.Span.{Span}
use Rattle.bj_expr_tree.specs.declared.types.NamedPlace.{NamedPlace}
use Rattle.bj_expr_tree.specs.declared.expr.ExprTree.{ExprTree}
use Rattle.bj_tree.specs.declared.stmt.VariableTree.{VariableTree}
use Rattle.bj_tree.specs.declared.stmt.StmtTree.{StmtTree}
use Rattle.bj_grammar.specs.Reader.{Text}
use Rattle.bj_stmt.specs.Grammar as g
use Rattle.bj_stmt.specs.Grammar.{MaybeFinal, MaybeInit, MaybeExpression, MaybeName, Variable, Variables, Declaration, StatementExpression, Evaluation, Evaluations, ForInit, Expressions, MaybeExpressions, Statement, Block, BlockStatements, BlockStatement, Members, Member, Label, Catches, Catch}
use Rattle.bj_print.proofs.Unended.{dims_unended, type_unended, expression_unended, unary_unended, initializer_unended}

module _ (place : ℕ → Span) where
  pub maybe_final_onward : (s : Text) {a : Bool} {i j : ℕ} → MaybeFinal s a i j → i ≤ j
  maybe_final_onward s (g.not_final is at) = omega arith
  maybe_final_onward s (g.final o is at) = omega arith

  pub maybe_init_onward : (s : Text) {a : Option ExprTree} {i j : ℕ} → MaybeInit place s a i j → i ≤ j
  maybe_init_onward s (g.no_init is at) = omega arith
  maybe_init_onward s (g.init o d is) = let x = (initializer_unended place s d).onward in omega arith

  pub maybe_expression_onward : (s : Text) {a : Option ExprTree} {i j : ℕ} → MaybeExpression place s a i j → i ≤ j
  maybe_expression_onward s (g.no_expression is at) = omega arith
  maybe_expression_onward s (g.expression d is) = (expression_unended place s d).onward

  pub maybe_name_onward : (s : Text) {a : Option NamedPlace} {i j : ℕ} → MaybeName place s a i j → i ≤ j
  maybe_name_onward s (g.no_name is at) = omega arith
  maybe_name_onward s (g.name o is at) = omega arith

  pub variable_onward : (s : Text) {a : VariableTree} {i j : ℕ} → Variable place s a i j → i ≤ j
  variable_onward s (g.variable o d d2 is) = let x = (dims_unended s d).onward in let y = maybe_init_onward s d2 in omega arith

  pub variables_onward : (s : Text) {a : List VariableTree} {i j : ℕ} → Variables place s a i j → i ≤ j
  variables_onward s (g.first_variable d is) = variable_onward s d
  variables_onward s (g.next_variable d o d2 is) = let x = variables_onward s d in let y = variable_onward s d2 in omega arith

  pub declaration_onward : (s : Text) {a : StmtTree} {i j : ℕ} → Declaration place s a i j → i ≤ j
  declaration_onward s (g.declaration d d2 d3 is) = let x = maybe_final_onward s d in let y = (type_unended place s d2).onward in let z = variables_onward s d3 in omega arith

  pub statement_expression_onward : (s : Text) {a : ExprTree} {i j : ℕ} → StatementExpression place s a i j → i ≤ j
  statement_expression_onward s (g.evaluated d is) = (unary_unended place s d).onward
  statement_expression_onward s (g.assigned d o d2 is) = let x = (unary_unended place s d).onward in let y = (expression_unended place s d2).onward in omega arith

  pub evaluation_onward : (s : Text) {a : StmtTree} {i j : ℕ} → Evaluation place s a i j → i ≤ j
  evaluation_onward s (g.evaluation d is) = statement_expression_onward s d

  pub evaluations_onward : (s : Text) {a : List StmtTree} {i j : ℕ} → Evaluations place s a i j → i ≤ j
  evaluations_onward s (g.first_evaluation d is) = evaluation_onward s d
  evaluations_onward s (g.next_evaluation d o d2 is) = let x = evaluations_onward s d in let y = evaluation_onward s d2 in omega arith

  pub for_init_onward : (s : Text) {a : List StmtTree} {i j : ℕ} → ForInit place s a i j → i ≤ j
  for_init_onward s (g.no_for_init is at) = omega arith
  for_init_onward s (g.declares d is) = declaration_onward s d
  for_init_onward s (g.evaluates d) = evaluations_onward s d

  pub expressions_onward : (s : Text) {a : List ExprTree} {i j : ℕ} → Expressions place s a i j → i ≤ j
  expressions_onward s (g.first_expression d is) = (expression_unended place s d).onward
  expressions_onward s (g.next_expression d o d2 is) = let x = expressions_onward s d in let y = (expression_unended place s d2).onward in omega arith

  pub maybe_expressions_onward : (s : Text) {a : List ExprTree} {i j : ℕ} → MaybeExpressions place s a i j → i ≤ j
  maybe_expressions_onward s (g.no_expressions is at) = omega arith
  maybe_expressions_onward s (g.expressions d) = expressions_onward s d

  mutual
    pub statement_onward : (s : Text) {a : StmtTree} {i j : ℕ} → Statement place s a i j → i ≤ j
    statement_onward s (g.block d) = block_onward s d
    statement_onward s (g.empty o is at) = omega arith
    statement_onward s (g.evaluate d o at) = let x = evaluation_onward s d in omega arith
    statement_onward s (g.choice o o2 d o3 b is) = let x = (expression_unended place s d).onward in let y = statement_onward s b in omega arith
    statement_onward s (g.choice_else o o2 d o3 b near o4 c is) =
        let x = (expression_unended place s d).onward in let y = statement_onward s b in let z = statement_onward s c in omega arith
    statement_onward s (g.while o o2 d o3 b is) = let x = (expression_unended place s d).onward in let y = statement_onward s b in omega arith
    statement_onward s (g.do_while o b o2 o3 d o4 o5 is at) = let x = statement_onward s b in let y = (expression_unended place s d).onward in omega arith
    statement_onward s (g.for o o2 d o3 d2 o4 d3 o5 b is) =
        let x = for_init_onward s d in let y = maybe_expression_onward s d2 in let z = maybe_expressions_onward s d3 in let w = statement_onward s b in omega arith
    statement_onward s (g.for_each o o2 d d2 o3 o4 d3 o5 b is) =
        let x = maybe_final_onward s d in let y = (type_unended place s d2).onward in let z = (expression_unended place s d3).onward in let w = statement_onward s b in omega arith
    statement_onward s (g.switch o o2 d o3 o4 ms o5 is at) = let x = (expression_unended place s d).onward in let y = members_onward s ms in omega arith
    statement_onward s (g.labelled o o2 b is) = let x = statement_onward s b in omega arith
    statement_onward s (g.jump_to o d o2 is at) = let x = maybe_name_onward s d in omega arith
    statement_onward s (g.return o d o2 is at) = let x = maybe_expression_onward s d in omega arith
    statement_onward s (g.throw o d o2 is at) = let x = (expression_unended place s d).onward in omega arith
    statement_onward s (g.synchronized o o2 d o3 b is) = let x = (expression_unended place s d).onward in let y = block_onward s b in omega arith
    statement_onward s (g.synchronized_class o o2 o3 o4 o5 o6 b is) = let x = block_onward s b in omega arith
    statement_onward s (g.try o b cs some is) = let x = block_onward s b in let y = catches_onward s cs in omega arith
    statement_onward s (g.try_finally o b cs o2 f is) = let x = block_onward s b in let y = catches_onward s cs in let z = block_onward s f in omega arith

    pub block_onward : (s : Text) {a : StmtTree} {i j : ℕ} → Block place s a i j → i ≤ j
    block_onward s (g.braces o d o2 is at) = let x = block_statements_onward s d in omega arith

    pub block_statements_onward : (s : Text) {a : List StmtTree} {i j : ℕ} → BlockStatements place s a i j → i ≤ j
    block_statements_onward s (g.no_statements is at) = omega arith
    block_statements_onward s (g.next_statement d d2 is) = let x = block_statements_onward s d in let y = block_statement_onward s d2 in omega arith

    pub block_statement_onward : (s : Text) {a : StmtTree} {i j : ℕ} → BlockStatement place s a i j → i ≤ j
    block_statement_onward s (g.local d o at) = let x = declaration_onward s d in omega arith
    block_statement_onward s (g.statement d) = statement_onward s d

    pub members_onward : (s : Text) {a : List StmtTree} {i j : ℕ} → Members place s a i j → i ≤ j
    members_onward s (g.no_members is at) = omega arith
    members_onward s (g.first_label d is) = label_onward s d
    members_onward s (g.next_member d some d2 is) = let x = members_onward s d in let y = member_onward s d2 in omega arith

    pub member_onward : (s : Text) {a : StmtTree} {i j : ℕ} → Member place s a i j → i ≤ j
    member_onward s (g.label d) = label_onward s d
    member_onward s (g.in_group d) = block_statement_onward s d

    pub label_onward : (s : Text) {a : StmtTree} {i j : ℕ} → Label place s a i j → i ≤ j
    label_onward s (g.case o d o2 is at) = let x = (expression_unended place s d).onward in omega arith
    label_onward s (g.default o o2 is at) = omega arith

    pub catches_onward : (s : Text) {a : List StmtTree} {i j : ℕ} → Catches place s a i j → i ≤ j
    catches_onward s (g.no_catches is at) = omega arith
    catches_onward s (g.next_catch d d2 is) = let x = catches_onward s d in let y = catch_onward s d2 in omega arith

    pub catch_onward : (s : Text) {a : StmtTree} {i j : ℕ} → Catch place s a i j → i ≤ j
    catch_onward s (g.catch o o2 d d2 o3 o4 b is) = let x = maybe_final_onward s d in let y = (type_unended place s d2).onward in let z = block_onward s b in omega arith
