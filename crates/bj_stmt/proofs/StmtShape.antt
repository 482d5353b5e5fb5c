-- What holds of every statement that the grammar derives: it goes forward, and depends on its own tokens alone.
use Rattle.std.proofs.Common.{◌≡◌, ℕ, suc, ◌<◌, ◌≤◌, Bool, true, sym, ap, ◌∙◌, subst, arith, List, [], ◌∷◌, Option, Some}
use Rattle.bj_base.specs.declared.span.Span.{Span}
use Rattle.bj_token.specs.declared.token.Token.{Token}
use Rattle.bj_expr_tree.specs.declared.types.NamedPlace.{NamedPlace}
use Rattle.bj_expr_tree.specs.declared.expr.ExprTree.{ExprTree}
use Rattle.bj_expr_tree.specs.declared.expr.ExprTree.TheVariants as tree
use Rattle.bj_tree.specs.declared.stmt.VariableTree.{VariableTree}
use Rattle.bj_tree.specs.declared.stmt.StmtTree.{StmtTree}
use Rattle.bj_tree.specs.declared.stmt.StmtTree.TheVariants as stmt
use Rattle.bj_grammar.specs.declared.terminal.Terminal.{Terminal}
use Rattle.bj_grammar.specs.Terminal.{terminal, among}
use Rattle.bj_grammar.specs.Reader.{Text}
use Rattle.bj_expr.specs.declared.part.Part.TheVariants as part
use Rattle.bj_expr.specs.Grammar.{assigns, assign_op}
use Rattle.bj_stmt.specs.Grammar as g
use Rattle.bj_stmt.specs.Grammar.{named, jump, jumps, MaybeFinal, MaybeInit, MaybeExpression, MaybeName, Variable, Variables, Declaration, StatementExpression, Evaluation, Evaluations, ForInit, Expressions, MaybeExpressions, Statement, Block, BlockStatements, BlockStatement, Members, Member, Label, Catches, Catch, ConstructorCall, ConstructorBody, SomeStatements}
use Rattle.bj_stmt.proofs.Expressions.{Given}

-- the texts have the same tokens before a place
abbrev pub SameTo : Text → Text → ℕ → Type 0
SameTo s u j = (x : ℕ) → x < j → u x ≡ s x

pub same_word : (s u : Text) (i : ℕ) (k : Terminal) → u i ≡ s i → terminal (s i) ≡ k → terminal (u i) ≡ k
same_word s u i k e o = ap terminal e ∙ o

pub same_among : (s u : Text) (i : ℕ) (ks : List Terminal) → u i ≡ s i → among ks (terminal (s i)) ≡ true → among ks (terminal (u i)) ≡ true
same_among s u i ks e o = ap (λ (v : Token). among ks (terminal v)) e ∙ o

module _ (place : ℕ → Span) (most : ℕ) (given : Given place most) where
  pub maybe_final_forward : (s : Text) {a : Bool} {i j : ℕ} → MaybeFinal s a i j → i ≤ j
  maybe_final_forward s (g.not_final is at) = omega arith
  maybe_final_forward s (g.final o0 is at) = omega arith

  pub maybe_init_forward : (s : Text) {a : Option ExprTree} {i j : ℕ} → MaybeInit place s a i j → i ≤ j
  maybe_init_forward s (g.no_init is at) = omega arith
  maybe_init_forward s (g.init o0 d1 is) = let x1 = given.part_forward part.Initializer s _ _ _ d1 in omega arith

  pub maybe_expression_forward : (s : Text) {a : Option ExprTree} {i j : ℕ} → MaybeExpression place s a i j → i ≤ j
  maybe_expression_forward s (g.no_expression is at) = omega arith
  maybe_expression_forward s (g.expression d0 is) = let x0 = given.part_forward part.Expression s _ _ _ d0 in omega arith

  pub maybe_name_forward : (s : Text) {a : Option NamedPlace} {i j : ℕ} → MaybeName place s a i j → i ≤ j
  maybe_name_forward s (g.no_name is at) = omega arith
  maybe_name_forward s (g.name o0 is at) = omega arith

  pub variable_forward : (s : Text) {a : VariableTree} {i j : ℕ} → Variable place s a i j → i < j
  variable_forward s (g.variable o0 d1 d2 is) = let x1 = given.dims_forward s _ _ _ d1 in let x2 = maybe_init_forward s d2 in omega arith

  pub variables_forward : (s : Text) {a : List VariableTree} {i j : ℕ} → Variables place s a i j → i < j
  variables_forward s (g.first_variable d0 is) = let x0 = variable_forward s d0 in omega arith
  variables_forward s (g.next_variable d0 o1 d2 is) = let x0 = variables_forward s d0 in let x2 = variable_forward s d2 in omega arith

  pub declaration_forward : (s : Text) {a : StmtTree} {i j : ℕ} → Declaration place s a i j → i < j
  declaration_forward s (g.declaration d0 d1 d2 is) = let x0 = maybe_final_forward s d0 in let x1 = given.type_forward s _ _ _ d1 in let x2 = variables_forward s d2 in omega arith

  pub statement_expression_forward : (s : Text) {a : ExprTree} {i j : ℕ} → StatementExpression place s a i j → i < j
  statement_expression_forward s (g.evaluated d0 h1) = let x0 = given.part_forward part.Unary s _ _ _ d0 in omega arith
  statement_expression_forward s (g.assigned d0 o1 d2 is) = let x0 = given.part_forward part.Unary s _ _ _ d0 in let x2 = given.part_forward part.Expression s _ _ _ d2 in omega arith

  pub evaluation_forward : (s : Text) {a : StmtTree} {i j : ℕ} → Evaluation place s a i j → i < j
  evaluation_forward s (g.evaluation d0 is) = let x0 = statement_expression_forward s d0 in omega arith

  pub evaluations_forward : (s : Text) {a : List StmtTree} {i j : ℕ} → Evaluations place s a i j → i < j
  evaluations_forward s (g.first_evaluation d0 is) = let x0 = evaluation_forward s d0 in omega arith
  evaluations_forward s (g.next_evaluation d0 o1 d2 is) = let x0 = evaluations_forward s d0 in let x2 = evaluation_forward s d2 in omega arith

  pub for_init_forward : (s : Text) {a : List StmtTree} {i j : ℕ} → ForInit place s a i j → i ≤ j
  for_init_forward s (g.no_for_init is at) = omega arith
  for_init_forward s (g.declares d0 is) = let x0 = declaration_forward s d0 in omega arith
  for_init_forward s (g.evaluates d0) = let x0 = evaluations_forward s d0 in omega arith

  pub expressions_forward : (s : Text) {a : List ExprTree} {i j : ℕ} → Expressions place s a i j → i < j
  expressions_forward s (g.first_expression d0 is) = let x0 = given.part_forward part.Expression s _ _ _ d0 in omega arith
  expressions_forward s (g.next_expression d0 o1 d2 is) = let x0 = expressions_forward s d0 in let x2 = given.part_forward part.Expression s _ _ _ d2 in omega arith

  pub maybe_expressions_forward : (s : Text) {a : List ExprTree} {i j : ℕ} → MaybeExpressions place s a i j → i ≤ j
  maybe_expressions_forward s (g.no_expressions is at) = omega arith
  maybe_expressions_forward s (g.expressions d0) = let x0 = expressions_forward s d0 in omega arith

  mutual
    pub statement_forward : (s : Text) {a : StmtTree} {i j : ℕ} → Statement place s a i j → i < j
    statement_forward s (g.block d0) = let x0 = block_forward s d0 in omega arith
    statement_forward s (g.empty o0 is at) = omega arith
    statement_forward s (g.evaluate d0 o1 at) = let x0 = evaluation_forward s d0 in omega arith
    statement_forward s (g.choice o0 o1 d2 o3 d4 is) = let x2 = given.part_forward part.Expression s _ _ _ d2 in let x4 = statement_forward s d4 in omega arith
    statement_forward s (g.choice_else o0 o1 d2 o3 d4 h5 o6 d7 is) = let x2 = given.part_forward part.Expression s _ _ _ d2 in let x4 = statement_forward s d4 in let x7 = statement_forward s d7 in omega arith
    statement_forward s (g.while o0 o1 d2 o3 d4 is) = let x2 = given.part_forward part.Expression s _ _ _ d2 in let x4 = statement_forward s d4 in omega arith
    statement_forward s (g.do_while o0 d1 o2 o3 d4 o5 o6 is at) = let x1 = statement_forward s d1 in let x4 = given.part_forward part.Expression s _ _ _ d4 in omega arith
    statement_forward s (g.for o0 o1 d2 o3 d4 o5 d6 o7 d8 is) = let x2 = for_init_forward s d2 in let x4 = maybe_expression_forward s d4 in let x6 = maybe_expressions_forward s d6 in let x8 = statement_forward s d8 in omega arith
    statement_forward s (g.for_each o0 o1 d2 d3 o4 o5 d6 o7 d8 is) = let x2 = maybe_final_forward s d2 in let x3 = given.type_forward s _ _ _ d3 in let x6 = given.part_forward part.Expression s _ _ _ d6 in let x8 = statement_forward s d8 in omega arith
    statement_forward s (g.switch o0 o1 d2 o3 o4 d5 o6 is at) = let x2 = given.part_forward part.Expression s _ _ _ d2 in let x5 = members_forward s d5 in omega arith
    statement_forward s (g.labelled o0 o1 d2 is) = let x2 = statement_forward s d2 in omega arith
    statement_forward s (g.jump_to o0 d1 o2 is at) = let x1 = maybe_name_forward s d1 in omega arith
    statement_forward s (g.return o0 d1 o2 is at) = let x1 = maybe_expression_forward s d1 in omega arith
    statement_forward s (g.throw o0 d1 o2 is at) = let x1 = given.part_forward part.Expression s _ _ _ d1 in omega arith
    statement_forward s (g.synchronized o0 o1 d2 o3 d4 is) = let x2 = given.part_forward part.Expression s _ _ _ d2 in let x4 = block_forward s d4 in omega arith
    statement_forward s (g.synchronized_class o0 o1 o2 o3 o4 o5 d6 is) = let x6 = block_forward s d6 in omega arith
    statement_forward s (g.try o0 d1 d2 h3 is) = let x1 = block_forward s d1 in let x2 = catches_forward s d2 in omega arith
    statement_forward s (g.try_finally o0 d1 d2 o3 d4 is) = let x1 = block_forward s d1 in let x2 = catches_forward s d2 in let x4 = block_forward s d4 in omega arith

    pub block_forward : (s : Text) {a : StmtTree} {i j : ℕ} → Block place s a i j → i < j
    block_forward s (g.braces o0 d1 o2 is at) = let x1 = block_statements_forward s d1 in omega arith

    pub block_statements_forward : (s : Text) {a : List StmtTree} {i j : ℕ} → BlockStatements place s a i j → i ≤ j
    block_statements_forward s (g.no_statements is at) = omega arith
    block_statements_forward s (g.next_statement d0 d1 is) = let x0 = block_statements_forward s d0 in let x1 = block_statement_forward s d1 in omega arith

    pub block_statement_forward : (s : Text) {a : StmtTree} {i j : ℕ} → BlockStatement place s a i j → i < j
    block_statement_forward s (g.local d0 o1 at) = let x0 = declaration_forward s d0 in omega arith
    block_statement_forward s (g.statement d0) = let x0 = statement_forward s d0 in omega arith

    pub members_forward : (s : Text) {a : List StmtTree} {i j : ℕ} → Members place s a i j → i ≤ j
    members_forward s (g.no_members is at) = omega arith
    members_forward s (g.first_label d0 is) = let x0 = label_forward s d0 in omega arith
    members_forward s (g.next_member d0 h1 d2 is) = let x0 = members_forward s d0 in let x2 = member_forward s d2 in omega arith

    pub member_forward : (s : Text) {a : StmtTree} {i j : ℕ} → Member place s a i j → i < j
    member_forward s (g.label d0) = let x0 = label_forward s d0 in omega arith
    member_forward s (g.in_group d0) = let x0 = block_statement_forward s d0 in omega arith

    pub label_forward : (s : Text) {a : StmtTree} {i j : ℕ} → Label place s a i j → i < j
    label_forward s (g.case o0 d1 o2 is at) = let x1 = given.part_forward part.Expression s _ _ _ d1 in omega arith
    label_forward s (g.default o0 o1 is at) = omega arith

    pub catches_forward : (s : Text) {a : List StmtTree} {i j : ℕ} → Catches place s a i j → i ≤ j
    catches_forward s (g.no_catches is at) = omega arith
    catches_forward s (g.next_catch d0 d1 is) = let x0 = catches_forward s d0 in let x1 = catch_forward s d1 in omega arith

    pub catch_forward : (s : Text) {a : StmtTree} {i j : ℕ} → Catch place s a i j → i < j
    catch_forward s (g.catch o0 o1 d2 d3 o4 o5 d6 is) = let x2 = maybe_final_forward s d2 in let x3 = given.type_forward s _ _ _ d3 in let x6 = block_forward s d6 in omega arith

  pub constructor_call_forward : (s : Text) {a : StmtTree} {i j : ℕ} → ConstructorCall place s a i j → i < j
  constructor_call_forward s (g.of_this o0 o1 d2 o3 o4 is at) = let x2 = maybe_expressions_forward s d2 in omega arith
  constructor_call_forward s (g.of_super o0 o1 d2 o3 o4 is at) = let x2 = maybe_expressions_forward s d2 in omega arith

  pub constructor_body_forward : (s : Text) {a : StmtTree} {i j : ℕ} → ConstructorBody place s a i j → i < j
  constructor_body_forward s (g.plain_body d0) = let x0 = block_forward s d0 in omega arith
  constructor_body_forward s (g.calling_body o0 d1 d2 o3 is at) = let x1 = constructor_call_forward s d1 in let x2 = block_statements_forward s d2 in omega arith

  pub some_statements_forward : (s : Text) {a : List StmtTree} {i j : ℕ} → SomeStatements place s a i j → i ≤ j
  some_statements_forward s (g.some_statements d0 h1) = let x0 = block_statements_forward s d0 in omega arith

  pub maybe_final_frame : (s u : Text) {a : Bool} {i j : ℕ} → SameTo s u j → MaybeFinal s a i j → MaybeFinal u a i j
  maybe_final_frame s u e (g.not_final is at) =
      g.not_final is at
  maybe_final_frame s u {i = i} e (g.final o0 is at) =
      g.final (same_word s u i _ (e _ (omega arith)) o0) is at

  pub maybe_init_frame : (s u : Text) {a : Option ExprTree} {i j : ℕ} → SameTo s u j → MaybeInit place s a i j → MaybeInit place u a i j
  maybe_init_frame s u e (g.no_init is at) =
      g.no_init is at
  maybe_init_frame s u {i = i} e (g.init o0 d1 is) =
      let x1 = given.part_forward part.Initializer s _ _ _ d1 in g.init (same_word s u i _ (e _ (omega arith)) o0) (given.part_frame part.Initializer s u _ _ _ e d1) is

  pub maybe_expression_frame : (s u : Text) {a : Option ExprTree} {i j : ℕ} → SameTo s u j → MaybeExpression place s a i j → MaybeExpression place u a i j
  maybe_expression_frame s u e (g.no_expression is at) =
      g.no_expression is at
  maybe_expression_frame s u e (g.expression d0 is) =
      let x0 = given.part_forward part.Expression s _ _ _ d0 in g.expression (given.part_frame part.Expression s u _ _ _ e d0) is

  pub maybe_name_frame : (s u : Text) {a : Option NamedPlace} {i j : ℕ} → SameTo s u j → MaybeName place s a i j → MaybeName place u a i j
  maybe_name_frame s u e (g.no_name is at) =
      g.no_name is at
  maybe_name_frame s u {a = a} {i = i} e (g.name o0 is at) =
      g.name (same_word s u i _ (e _ (omega arith)) o0) (subst (λ (v : Token). a ≡ Some (named (place i) v)) (sym (e i (omega arith))) is) at

  pub variable_frame : (s u : Text) {a : VariableTree} {i j : ℕ} → SameTo s u j → Variable place s a i j → Variable place u a i j
  variable_frame s u {a = a} {i = i} e (g.variable {x = x} {n = n} {m = m} o0 d1 d2 is) =
      let x1 = given.dims_forward s _ _ _ d1 in let x2 = maybe_init_forward s d2 in g.variable (same_word s u i _ (e _ (omega arith)) o0) (given.dims_frame s u _ _ _ (λ z below. e z (omega arith)) d1) (maybe_init_frame s u e d2) (subst (λ (v : Token). a ≡ record { at = place i; name = v.text; dims = n; init = x }) (sym (e i (omega arith))) is)

  pub variables_frame : (s u : Text) {a : List VariableTree} {i j : ℕ} → SameTo s u j → Variables place s a i j → Variables place u a i j
  variables_frame s u e (g.first_variable d0 is) =
      let x0 = variable_forward s d0 in g.first_variable (variable_frame s u e d0) is
  variables_frame s u e (g.next_variable {m = m} d0 o1 d2 is) =
      let x0 = variables_forward s d0 in let x2 = variable_forward s d2 in g.next_variable (variables_frame s u (λ z below. e z (omega arith)) d0) (same_word s u m _ (e _ (omega arith)) o1) (variable_frame s u e d2) is

  pub declaration_frame : (s u : Text) {a : StmtTree} {i j : ℕ} → SameTo s u j → Declaration place s a i j → Declaration place u a i j
  declaration_frame s u e (g.declaration {m = m} {n = n} d0 d1 d2 is) =
      let x0 = maybe_final_forward s d0 in let x1 = given.type_forward s _ _ _ d1 in let x2 = variables_forward s d2 in g.declaration (maybe_final_frame s u (λ z below. e z (omega arith)) d0) (given.type_frame s u _ _ _ (λ z below. e z (omega arith)) d1) (variables_frame s u e d2) is

  pub statement_expression_frame : (s u : Text) {a : ExprTree} {i j : ℕ} → SameTo s u j → StatementExpression place s a i j → StatementExpression place u a i j
  statement_expression_frame s u e (g.evaluated d0 h1) =
      let x0 = given.part_forward part.Unary s _ _ _ d0 in g.evaluated (given.part_frame part.Unary s u _ _ _ e d0) h1
  statement_expression_frame s u {a = a} {i = i} e (g.assigned {l = l} {r = r} {m = m} d0 o1 d2 is) =
      let x0 = given.part_forward part.Unary s _ _ _ d0 in let x2 = given.part_forward part.Expression s _ _ _ d2 in g.assigned (given.part_frame part.Unary s u _ _ _ (λ z below. e z (omega arith)) d0) (same_among s u m assigns (e _ (omega arith)) o1) (given.part_frame part.Expression s u _ _ _ e d2) (subst (λ (v : Token). a ≡ tree.Assign (place i) (assign_op (terminal v)) l r) (sym (e m (omega arith))) is)

  pub evaluation_frame : (s u : Text) {a : StmtTree} {i j : ℕ} → SameTo s u j → Evaluation place s a i j → Evaluation place u a i j
  evaluation_frame s u e (g.evaluation d0 is) =
      let x0 = statement_expression_forward s d0 in g.evaluation (statement_expression_frame s u e d0) is

  pub evaluations_frame : (s u : Text) {a : List StmtTree} {i j : ℕ} → SameTo s u j → Evaluations place s a i j → Evaluations place u a i j
  evaluations_frame s u e (g.first_evaluation d0 is) =
      let x0 = evaluation_forward s d0 in g.first_evaluation (evaluation_frame s u e d0) is
  evaluations_frame s u e (g.next_evaluation {m = m} d0 o1 d2 is) =
      let x0 = evaluations_forward s d0 in let x2 = evaluation_forward s d2 in g.next_evaluation (evaluations_frame s u (λ z below. e z (omega arith)) d0) (same_word s u m _ (e _ (omega arith)) o1) (evaluation_frame s u e d2) is

  pub for_init_frame : (s u : Text) {a : List StmtTree} {i j : ℕ} → SameTo s u j → ForInit place s a i j → ForInit place u a i j
  for_init_frame s u e (g.no_for_init is at) =
      g.no_for_init is at
  for_init_frame s u e (g.declares d0 is) =
      let x0 = declaration_forward s d0 in g.declares (declaration_frame s u e d0) is
  for_init_frame s u e (g.evaluates d0) =
      let x0 = evaluations_forward s d0 in g.evaluates (evaluations_frame s u e d0)

  pub expressions_frame : (s u : Text) {a : List ExprTree} {i j : ℕ} → SameTo s u j → Expressions place s a i j → Expressions place u a i j
  expressions_frame s u e (g.first_expression d0 is) =
      let x0 = given.part_forward part.Expression s _ _ _ d0 in g.first_expression (given.part_frame part.Expression s u _ _ _ e d0) is
  expressions_frame s u e (g.next_expression {m = m} d0 o1 d2 is) =
      let x0 = expressions_forward s d0 in let x2 = given.part_forward part.Expression s _ _ _ d2 in g.next_expression (expressions_frame s u (λ z below. e z (omega arith)) d0) (same_word s u m _ (e _ (omega arith)) o1) (given.part_frame part.Expression s u _ _ _ e d2) is

  pub maybe_expressions_frame : (s u : Text) {a : List ExprTree} {i j : ℕ} → SameTo s u j → MaybeExpressions place s a i j → MaybeExpressions place u a i j
  maybe_expressions_frame s u e (g.no_expressions is at) =
      g.no_expressions is at
  maybe_expressions_frame s u e (g.expressions d0) =
      let x0 = expressions_forward s d0 in g.expressions (expressions_frame s u e d0)

  mutual
    pub statement_frame : (s u : Text) {a : StmtTree} {i j : ℕ} → SameTo s u j → Statement place s a i j → Statement place u a i j
    statement_frame s u e (g.block d0) =
        let x0 = block_forward s d0 in g.block (block_frame s u e d0)
    statement_frame s u {i = i} e (g.empty o0 is at) =
        g.empty (same_word s u i _ (e _ (omega arith)) o0) is at
    statement_frame s u e (g.evaluate {m = m} d0 o1 at) =
        let x0 = evaluation_forward s d0 in g.evaluate (evaluation_frame s u (λ z below. e z (omega arith)) d0) (same_word s u m _ (e _ (omega arith)) o1) at
    statement_frame s u {i = i} e (g.choice {m = m} o0 o1 d2 o3 d4 is) =
        let x2 = given.part_forward part.Expression s _ _ _ d2 in let x4 = statement_forward s d4 in g.choice (same_word s u i _ (e _ (omega arith)) o0) (same_word s u ((suc i)) _ (e _ (omega arith)) o1) (given.part_frame part.Expression s u _ _ _ (λ z below. e z (omega arith)) d2) (same_word s u m _ (e _ (omega arith)) o3) (statement_frame s u e d4) is
    statement_frame s u {i = i} e (g.choice_else {m = m} {n = n} o0 o1 d2 o3 d4 h5 o6 d7 is) =
        let x2 = given.part_forward part.Expression s _ _ _ d2 in let x4 = statement_forward s d4 in let x7 = statement_forward s d7 in g.choice_else (same_word s u i _ (e _ (omega arith)) o0) (same_word s u ((suc i)) _ (e _ (omega arith)) o1) (given.part_frame part.Expression s u _ _ _ (λ z below. e z (omega arith)) d2) (same_word s u m _ (e _ (omega arith)) o3) (statement_frame s u (λ z below. e z (omega arith)) d4) h5 (same_word s u n _ (e _ (omega arith)) o6) (statement_frame s u e d7) is
    statement_frame s u {i = i} e (g.while {m = m} o0 o1 d2 o3 d4 is) =
        let x2 = given.part_forward part.Expression s _ _ _ d2 in let x4 = statement_forward s d4 in g.while (same_word s u i _ (e _ (omega arith)) o0) (same_word s u ((suc i)) _ (e _ (omega arith)) o1) (given.part_frame part.Expression s u _ _ _ (λ z below. e z (omega arith)) d2) (same_word s u m _ (e _ (omega arith)) o3) (statement_frame s u e d4) is
    statement_frame s u {i = i} e (g.do_while {m = m} {n = n} o0 d1 o2 o3 d4 o5 o6 is at) =
        let x1 = statement_forward s d1 in let x4 = given.part_forward part.Expression s _ _ _ d4 in g.do_while (same_word s u i _ (e _ (omega arith)) o0) (statement_frame s u (λ z below. e z (omega arith)) d1) (same_word s u m _ (e _ (omega arith)) o2) (same_word s u ((suc m)) _ (e _ (omega arith)) o3) (given.part_frame part.Expression s u _ _ _ (λ z below. e z (omega arith)) d4) (same_word s u n _ (e _ (omega arith)) o5) (same_word s u ((suc n)) _ (e _ (omega arith)) o6) is at
    statement_frame s u {i = i} e (g.for {k = k} {m = m} {n = n} o0 o1 d2 o3 d4 o5 d6 o7 d8 is) =
        let x2 = for_init_forward s d2 in let x4 = maybe_expression_forward s d4 in let x6 = maybe_expressions_forward s d6 in let x8 = statement_forward s d8 in g.for (same_word s u i _ (e _ (omega arith)) o0) (same_word s u ((suc i)) _ (e _ (omega arith)) o1) (for_init_frame s u (λ z below. e z (omega arith)) d2) (same_word s u k _ (e _ (omega arith)) o3) (maybe_expression_frame s u (λ z below. e z (omega arith)) d4) (same_word s u m _ (e _ (omega arith)) o5) (maybe_expressions_frame s u (λ z below. e z (omega arith)) d6) (same_word s u n _ (e _ (omega arith)) o7) (statement_frame s u e d8) is
    statement_frame s u {a = a} {i = i} e (g.for_each {f = f} {ty = ty} {x = x} {b = b} {k = k} {m = m} {n = n} o0 o1 d2 d3 o4 o5 d6 o7 d8 is) =
        let x2 = maybe_final_forward s d2 in let x3 = given.type_forward s _ _ _ d3 in let x6 = given.part_forward part.Expression s _ _ _ d6 in let x8 = statement_forward s d8 in g.for_each (same_word s u i _ (e _ (omega arith)) o0) (same_word s u ((suc i)) _ (e _ (omega arith)) o1) (maybe_final_frame s u (λ z below. e z (omega arith)) d2) (given.type_frame s u _ _ _ (λ z below. e z (omega arith)) d3) (same_word s u m _ (e _ (omega arith)) o4) (same_word s u ((suc m)) _ (e _ (omega arith)) o5) (given.part_frame part.Expression s u _ _ _ (λ z below. e z (omega arith)) d6) (same_word s u n _ (e _ (omega arith)) o7) (statement_frame s u e d8) (subst (λ (v : Token). a ≡ stmt.ForEach (place i) f ty (named (place m) v) x b) (sym (e m (omega arith))) is)
    statement_frame s u {i = i} e (g.switch {m = m} {n = n} o0 o1 d2 o3 o4 d5 o6 is at) =
        let x2 = given.part_forward part.Expression s _ _ _ d2 in let x5 = members_forward s d5 in g.switch (same_word s u i _ (e _ (omega arith)) o0) (same_word s u ((suc i)) _ (e _ (omega arith)) o1) (given.part_frame part.Expression s u _ _ _ (λ z below. e z (omega arith)) d2) (same_word s u m _ (e _ (omega arith)) o3) (same_word s u ((suc m)) _ (e _ (omega arith)) o4) (members_frame s u (λ z below. e z (omega arith)) d5) (same_word s u n _ (e _ (omega arith)) o6) is at
    statement_frame s u {a = a} {i = i} e (g.labelled {b = b} o0 o1 d2 is) =
        let x2 = statement_forward s d2 in g.labelled (same_word s u i _ (e _ (omega arith)) o0) (same_word s u ((suc i)) _ (e _ (omega arith)) o1) (statement_frame s u e d2) (subst (λ (v : Token). a ≡ stmt.Labelled (place i) v.text b) (sym (e i (omega arith))) is)
    statement_frame s u {a = a} {i = i} e (g.jump_to {l = l} {m = m} o0 d1 o2 is at) =
        let x1 = maybe_name_forward s d1 in g.jump_to (same_among s u i jumps (e _ (omega arith)) o0) (maybe_name_frame s u (λ z below. e z (omega arith)) d1) (same_word s u m _ (e _ (omega arith)) o2) (subst (λ (v : Token). a ≡ jump (terminal v) (place i) l) (sym (e i (omega arith))) is) at
    statement_frame s u {i = i} e (g.return {m = m} o0 d1 o2 is at) =
        let x1 = maybe_expression_forward s d1 in g.return (same_word s u i _ (e _ (omega arith)) o0) (maybe_expression_frame s u (λ z below. e z (omega arith)) d1) (same_word s u m _ (e _ (omega arith)) o2) is at
    statement_frame s u {i = i} e (g.throw {m = m} o0 d1 o2 is at) =
        let x1 = given.part_forward part.Expression s _ _ _ d1 in g.throw (same_word s u i _ (e _ (omega arith)) o0) (given.part_frame part.Expression s u _ _ _ (λ z below. e z (omega arith)) d1) (same_word s u m _ (e _ (omega arith)) o2) is at
    statement_frame s u {i = i} e (g.synchronized {m = m} o0 o1 d2 o3 d4 is) =
        let x2 = given.part_forward part.Expression s _ _ _ d2 in let x4 = block_forward s d4 in g.synchronized (same_word s u i _ (e _ (omega arith)) o0) (same_word s u ((suc i)) _ (e _ (omega arith)) o1) (given.part_frame part.Expression s u _ _ _ (λ z below. e z (omega arith)) d2) (same_word s u m _ (e _ (omega arith)) o3) (block_frame s u e d4) is
    statement_frame s u {a = a} {i = i} e (g.synchronized_class {b = b} o0 o1 o2 o3 o4 o5 d6 is) =
        let x6 = block_forward s d6 in g.synchronized_class (same_word s u i _ (e _ (omega arith)) o0) (same_word s u ((suc i)) _ (e _ (omega arith)) o1) (same_word s u ((suc (suc i))) _ (e _ (omega arith)) o2) (same_word s u ((suc (suc (suc i)))) _ (e _ (omega arith)) o3) (same_word s u ((suc (suc (suc (suc i))))) _ (e _ (omega arith)) o4) (same_word s u ((suc (suc (suc (suc (suc i)))))) _ (e _ (omega arith)) o5) (block_frame s u e d6) (subst (λ (v : Token). a ≡ stmt.SynchronizedClass (place i) (named (place (suc (suc i))) v) b) (sym (e ((suc (suc i))) (omega arith))) is)
    statement_frame s u {i = i} e (g.try {m = m} o0 d1 d2 h3 is) =
        let x1 = block_forward s d1 in let x2 = catches_forward s d2 in g.try (same_word s u i _ (e _ (omega arith)) o0) (block_frame s u (λ z below. e z (omega arith)) d1) (catches_frame s u e d2) h3 is
    statement_frame s u {i = i} e (g.try_finally {m = m} {n = n} o0 d1 d2 o3 d4 is) =
        let x1 = block_forward s d1 in let x2 = catches_forward s d2 in let x4 = block_forward s d4 in g.try_finally (same_word s u i _ (e _ (omega arith)) o0) (block_frame s u (λ z below. e z (omega arith)) d1) (catches_frame s u (λ z below. e z (omega arith)) d2) (same_word s u n _ (e _ (omega arith)) o3) (block_frame s u e d4) is

    pub block_frame : (s u : Text) {a : StmtTree} {i j : ℕ} → SameTo s u j → Block place s a i j → Block place u a i j
    block_frame s u {i = i} e (g.braces {m = m} o0 d1 o2 is at) =
        let x1 = block_statements_forward s d1 in g.braces (same_word s u i _ (e _ (omega arith)) o0) (block_statements_frame s u (λ z below. e z (omega arith)) d1) (same_word s u m _ (e _ (omega arith)) o2) is at

    pub block_statements_frame : (s u : Text) {a : List StmtTree} {i j : ℕ} → SameTo s u j → BlockStatements place s a i j → BlockStatements place u a i j
    block_statements_frame s u e (g.no_statements is at) =
        g.no_statements is at
    block_statements_frame s u e (g.next_statement {m = m} d0 d1 is) =
        let x0 = block_statements_forward s d0 in let x1 = block_statement_forward s d1 in g.next_statement (block_statements_frame s u (λ z below. e z (omega arith)) d0) (block_statement_frame s u e d1) is

    pub block_statement_frame : (s u : Text) {a : StmtTree} {i j : ℕ} → SameTo s u j → BlockStatement place s a i j → BlockStatement place u a i j
    block_statement_frame s u e (g.local {m = m} d0 o1 at) =
        let x0 = declaration_forward s d0 in g.local (declaration_frame s u (λ z below. e z (omega arith)) d0) (same_word s u m _ (e _ (omega arith)) o1) at
    block_statement_frame s u e (g.statement d0) =
        let x0 = statement_forward s d0 in g.statement (statement_frame s u e d0)

    pub members_frame : (s u : Text) {a : List StmtTree} {i j : ℕ} → SameTo s u j → Members place s a i j → Members place u a i j
    members_frame s u e (g.no_members is at) =
        g.no_members is at
    members_frame s u e (g.first_label d0 is) =
        let x0 = label_forward s d0 in g.first_label (label_frame s u e d0) is
    members_frame s u e (g.next_member {m = m} d0 h1 d2 is) =
        let x0 = members_forward s d0 in let x2 = member_forward s d2 in g.next_member (members_frame s u (λ z below. e z (omega arith)) d0) h1 (member_frame s u e d2) is

    pub member_frame : (s u : Text) {a : StmtTree} {i j : ℕ} → SameTo s u j → Member place s a i j → Member place u a i j
    member_frame s u e (g.label d0) =
        let x0 = label_forward s d0 in g.label (label_frame s u e d0)
    member_frame s u e (g.in_group d0) =
        let x0 = block_statement_forward s d0 in g.in_group (block_statement_frame s u e d0)

    pub label_frame : (s u : Text) {a : StmtTree} {i j : ℕ} → SameTo s u j → Label place s a i j → Label place u a i j
    label_frame s u {i = i} e (g.case {m = m} o0 d1 o2 is at) =
        let x1 = given.part_forward part.Expression s _ _ _ d1 in g.case (same_word s u i _ (e _ (omega arith)) o0) (given.part_frame part.Expression s u _ _ _ (λ z below. e z (omega arith)) d1) (same_word s u m _ (e _ (omega arith)) o2) is at
    label_frame s u {i = i} e (g.default o0 o1 is at) =
        g.default (same_word s u i _ (e _ (omega arith)) o0) (same_word s u ((suc i)) _ (e _ (omega arith)) o1) is at

    pub catches_frame : (s u : Text) {a : List StmtTree} {i j : ℕ} → SameTo s u j → Catches place s a i j → Catches place u a i j
    catches_frame s u e (g.no_catches is at) =
        g.no_catches is at
    catches_frame s u e (g.next_catch {m = m} d0 d1 is) =
        let x0 = catches_forward s d0 in let x1 = catch_forward s d1 in g.next_catch (catches_frame s u (λ z below. e z (omega arith)) d0) (catch_frame s u e d1) is

    pub catch_frame : (s u : Text) {a : StmtTree} {i j : ℕ} → SameTo s u j → Catch place s a i j → Catch place u a i j
    catch_frame s u {a = a} {i = i} e (g.catch {f = f} {ty = ty} {b = b} {k = k} {m = m} o0 o1 d2 d3 o4 o5 d6 is) =
        let x2 = maybe_final_forward s d2 in let x3 = given.type_forward s _ _ _ d3 in let x6 = block_forward s d6 in g.catch (same_word s u i _ (e _ (omega arith)) o0) (same_word s u ((suc i)) _ (e _ (omega arith)) o1) (maybe_final_frame s u (λ z below. e z (omega arith)) d2) (given.type_frame s u _ _ _ (λ z below. e z (omega arith)) d3) (same_word s u m _ (e _ (omega arith)) o4) (same_word s u ((suc m)) _ (e _ (omega arith)) o5) (block_frame s u e d6) (subst (λ (v : Token). a ≡ stmt.Catch (place i) f (ty ∷ []) (named (place m) v) b) (sym (e m (omega arith))) is)

  pub constructor_call_frame : (s u : Text) {a : StmtTree} {i j : ℕ} → SameTo s u j → ConstructorCall place s a i j → ConstructorCall place u a i j
  constructor_call_frame s u {i = i} e (g.of_this {m = m} o0 o1 d2 o3 o4 is at) =
      let x2 = maybe_expressions_forward s d2 in g.of_this (same_word s u i _ (e _ (omega arith)) o0) (same_word s u ((suc i)) _ (e _ (omega arith)) o1) (maybe_expressions_frame s u (λ z below. e z (omega arith)) d2) (same_word s u m _ (e _ (omega arith)) o3) (same_word s u ((suc m)) _ (e _ (omega arith)) o4) is at
  constructor_call_frame s u {i = i} e (g.of_super {m = m} o0 o1 d2 o3 o4 is at) =
      let x2 = maybe_expressions_forward s d2 in g.of_super (same_word s u i _ (e _ (omega arith)) o0) (same_word s u ((suc i)) _ (e _ (omega arith)) o1) (maybe_expressions_frame s u (λ z below. e z (omega arith)) d2) (same_word s u m _ (e _ (omega arith)) o3) (same_word s u ((suc m)) _ (e _ (omega arith)) o4) is at

  pub constructor_body_frame : (s u : Text) {a : StmtTree} {i j : ℕ} → SameTo s u j → ConstructorBody place s a i j → ConstructorBody place u a i j
  constructor_body_frame s u e (g.plain_body d0) =
      let x0 = block_forward s d0 in g.plain_body (block_frame s u e d0)
  constructor_body_frame s u {i = i} e (g.calling_body {k = k} {m = m} o0 d1 d2 o3 is at) =
      let x1 = constructor_call_forward s d1 in let x2 = block_statements_forward s d2 in g.calling_body (same_word s u i _ (e _ (omega arith)) o0) (constructor_call_frame s u (λ z below. e z (omega arith)) d1) (block_statements_frame s u (λ z below. e z (omega arith)) d2) (same_word s u m _ (e _ (omega arith)) o3) is at

  pub some_statements_frame : (s u : Text) {a : List StmtTree} {i j : ℕ} → SameTo s u j → SomeStatements place s a i j → SomeStatements place u a i j
  some_statements_frame s u e (g.some_statements d0 h1) =
      let x0 = block_statements_forward s d0 in g.some_statements (block_statements_frame s u e d0) h1
