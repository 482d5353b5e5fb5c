-- The small parts of statements are found again.
use Rattle.std.proofs.Common.{◌≡◌, ℕ, Bool, true, false, List, [], ◌∷◌, Option, Some, None, option_map, refl, sym, ap, ◌∙◌, subst}
use Rattle.std.specs.Prelude.{codes}
use Rattle.bj_base.specs.declared.span.Span.{Span}
use Rattle.bj_token.specs.declared.token.TokenKind.TheVariants as kinds
use Rattle.bj_expr_tree.specs.declared.types.NamedPlace.{NamedPlace}
use Rattle.bj_expr_tree.specs.declared.types.TypeTree.{TypeTree}
use Rattle.bj_expr_tree.specs.declared.expr.ExprTree.{ExprTree}
use Rattle.bj_expr_tree.specs.declared.expr.ExprTree.TheVariants as e
use Rattle.bj_tree.specs.declared.stmt.VariableTree.{VariableTree}
use Rattle.bj_tree.specs.declared.stmt.StmtTree.{StmtTree}
use Rattle.bj_tree.specs.declared.stmt.StmtTree.TheVariants as stmt
use Rattle.bj_grammar.specs.Terminal.{terminal, among}
use Rattle.bj_grammar.specs.Reader.{Text}
use Rattle.bj_expr.specs.Grammar.{assigns, assign_op, Dims, Expression, Unary, Initializer, TypeAt}
use Rattle.bj_stmt.specs.Grammar as g
use Rattle.bj_stmt.specs.Grammar.{named, MaybeFinal, MaybeInit, MaybeExpression, MaybeName, Variable, Variables, Declaration, StatementExpression, Evaluation, Evaluations, ForInit, Expressions, MaybeExpressions}
use Rattle.bj_writer.specs.Pieces.{tokens_of}
use Rattle.bj_print.specs.Same.{nowhere, unplaced_expr, unplaced_variable, unplaced_stmt}
use Rattle.bj_layout.specs.Exprs.{comma, pairs, type_pieces, assign_sign, expr_pieces}
use Rattle.bj_layout.specs.Stmts.{Pieces, maybe_final, maybe_expr, maybe_label, maybe_init, variable_pieces, semicolon, stmt_parts}
use Rattle.bj_print.proofs.Holds.{Back, text_is}
use Rattle.bj_print.proofs.ExprLaws.{ExprLaws}
use Rattle.bj_print.proofs.ExprTokens.{signed, pair_tokens}
use Rattle.bj_layout.proofs.ExprPieces as forms
use Rattle.bj_print.proofs.StmtLaws.{SameStmts}
use Rattle.bj_print.proofs.StmtPieces.{bare_pieces, bare_list, bares_listed}
use Rattle.bj_layout.proofs.StmtParts.{local_parts, expression_parts}
use Rattle.bj_print.proofs.StmtUnplaced.{SameMaybe, SameMaybeName}
use Rattle.bj_print.proofs.StmtSame.{same_local, same_expression}
use Rattle.bj_print.proofs.StmtFacts.{same_is_statement}
use Rattle.bj_print.proofs.ExprSame.{same_assign}
use Rattle.bj_print.proofs.PrintedOperators.{assign_printed}
use Rattle.bj_print.proofs.Again.{Reads, reads_end, reads_mark, reads_last, reads_parts, reads_as, lifted, reprinted}
use Rattle.bj_print.proofs.Found.{Found, FoundAll, FoundType, of_tree, of_list}
use Rattle.bj_print.proofs.RowBack.{SameBy, HasOne, has_only, has_more, FoundOne, FoundParted, one_part, more_parts}
use Rattle.bj_print.proofs.NamesBack.{same_name_text}

pub final_found : (t : Text) (f : Bool) → Reads t (tokens_of (maybe_final f)) (MaybeFinal t f)
final_found t true = reads_as (reads_last _) (λ k j f. g.final f.is refl f.rest)
final_found t false = reads_as reads_end (λ k j f. g.not_final refl f)

abbrev variable_of : Span → List ℕ → ℕ → Option ExprTree → VariableTree
variable_of at name dims init = record { at = at; name = name; dims = dims; init = init }

same_variable : (p q : Span) (a b : List ℕ) (n : ℕ) (x y : Option ExprTree) → a ≡ b → SameMaybe x y → SameBy unplaced_variable (variable_of p a n x) (variable_of q b n y)
same_variable p q a b n x y h0 h1 = ap (λ (z : List ℕ). variable_of nowhere z n (option_map unplaced_expr x)) h0 ∙ ap (variable_of nowhere b n) h1

abbrev pub FoundInit : (ℕ → Span) → Text → Option ExprTree → Type 0
FoundInit other t a = Reads t (tokens_of (maybe_init a)) (Back (MaybeInit other t) SameMaybe a)

abbrev pub FoundExpression : (ℕ → Span) → Text → Option ExprTree → Type 0
FoundExpression other t a = Reads t (tokens_of (maybe_expr a)) (Back (MaybeExpression other t) SameMaybe a)

abbrev pub FoundName : (ℕ → Span) → Text → Option NamedPlace → Type 0
FoundName other t a = Reads t (tokens_of (maybe_label a)) (Back (MaybeName other t) SameMaybeName a)

-- a statement without its semicolon
abbrev pub FoundBare : Text → (StmtTree → ℕ → ℕ → Type 0) → StmtTree → Type 0
FoundBare t D a = FoundOne t unplaced_stmt bare_pieces D a

-- without their semicolons, with commas between them
abbrev pub FoundBares : Text → (List StmtTree → ℕ → ℕ → Type 0) → List StmtTree → Type 0
FoundBares t L a = Reads t (tokens_of (bare_list a)) (Back L SameStmts a)

module _ (place : ℕ → Span) (s : Text) (other : ℕ → Span) (t : Text) (laws : ExprLaws place s other t) where
  -- ---- what expressions promise

  pub expression_found : {a : ExprTree} {i j : ℕ} → Expression place s a i j → Found t (Expression other t) a
  expression_found {a} {i} {j} d = record { read = laws.expression a i j d }

  unary_found : {a : ExprTree} {i j : ℕ} → Unary place s a i j → Found t (Unary other t) a
  unary_found {a} {i} {j} d = record { read = laws.unary a i j d }

  initializer_found : {a : ExprTree} {i j : ℕ} → Initializer place s a i j → Found t (Initializer other t) a
  initializer_found {a} {i} {j} d = record { read = laws.initializer a i j d }

  pub type_found : {a : TypeTree} {i j : ℕ} → TypeAt place s a i j → FoundType other t a
  type_found {a} {i} {j} d = record { read = laws.type_at a i j d }

  pub dims_found : {n i j : ℕ} → Dims s n i j → Reads t (pair_tokens n) (Dims t n)
  dims_found {n} {i} {j} d = record { read = laws.dims n i j d }

  -- ---- what may be missing

  init_found : {a : Option ExprTree} {i j : ℕ} → MaybeInit place s a i j → FoundInit other t a
  init_found (g.no_init is end) = subst (FoundInit other t) (sym is) (reads_as reads_end (λ k j f. record { tree = None; stands = g.no_init refl f; same = refl }))
  init_found (g.init o d is) = subst (FoundInit other t) (sym is) (reads_as (reads_mark _ (initializer_found d)) (λ k j f. record {
    tree = Some f.rest.tree;
    stands = g.init f.is f.rest.stands refl;
    same = ap (λ (z : ExprTree). Some z) f.rest.same;
  }))

  pub maybe_expression_found : {a : Option ExprTree} {i j : ℕ} → MaybeExpression place s a i j → FoundExpression other t a
  maybe_expression_found (g.no_expression is end) = subst (FoundExpression other t) (sym is) (reads_as reads_end (λ k j f. record { tree = None; stands = g.no_expression refl f; same = refl }))
  maybe_expression_found (g.expression d is) = subst (FoundExpression other t) (sym is) (reads_as (expression_found d) (λ k j f. record {
    tree = Some f.tree;
    stands = g.expression f.stands refl;
    same = ap (λ (z : ExprTree). Some z) f.same;
  }))

  pub maybe_name_found : {a : Option NamedPlace} {i j : ℕ} → MaybeName place s a i j → FoundName other t a
  maybe_name_found (g.no_name is end) = subst (FoundName other t) (sym is) (reads_as reads_end (λ k j f. record { tree = None; stands = g.no_name refl f; same = refl }))
  maybe_name_found {i = i} (g.name o is end) = subst (FoundName other t) (sym is) (reads_as (reads_last _) (λ k j f. record {
    tree = Some (named (other k) (t k));
    stands = g.name f.is refl f.rest;
    same = ap (λ (z : NamedPlace). Some z) (same_name_text (place i) (other k) (s i) (t k) f.token);
  }))

  -- ---- variables and declarations

  variable_found : {a : VariableTree} {i j : ℕ} → Variable place s a i j → FoundOne t unplaced_variable variable_pieces (Variable other t) a
  variable_found {i = i} (g.variable {x = x} {n = n} o d v is) = subst (FoundOne t unplaced_variable variable_pieces (Variable other t)) (sym is)
      (reads_as (reads_mark _ (reads_parts (pairs n) _ (dims_found d) (init_found v))) (λ k j f. record {
        tree = variable_of (other k) (t k).text n f.rest.second.tree;
        stands = g.variable f.is f.rest.first f.rest.second.stands refl;
        same = same_variable (other k) (place i) (t k).text (s i).text n f.rest.second.tree x (text_is (t k) kinds.Word (s i).text f.token) f.rest.second.same;
      }))

  variables_some : {a : List VariableTree} {i j : ℕ} → Variables place s a i j → HasOne a
  variables_some (g.first_variable d is) = has_only is
  variables_some (g.next_variable {x = x} d o v is) = has_more x (variables_some d) is

  pub variables_found : {a : List VariableTree} {i j : ℕ} → Variables place s a i j → FoundParted t unplaced_variable comma variable_pieces (Variables other t) a
  variables_found (g.first_variable d is) = one_part t unplaced_variable variable_pieces (Variable other t) (Variables other t) comma (codes ",") refl
      (λ y k j d. g.first_variable d refl) (variable_found d) is
  variables_found (g.next_variable d o v is) = more_parts t unplaced_variable variable_pieces (Variable other t) (Variables other t) comma (codes ",") refl
      (λ c y k m j d o v. g.next_variable d o v refl) (variables_some d) (variables_found d) (variable_found v) is

  pub declaration_end : {a : StmtTree} {i j : ℕ} → Declaration place s a i j → (stmt_parts a).end ≡ semicolon ∷ []
  declaration_end {i = i} (g.declaration {f = f} {ty = ty} {vs = vs} o d v is) = ap (λ (z : StmtTree). (stmt_parts z).end) is ∙ ap (λ (z : Pieces). z.end) (local_parts (place i) f ty vs)

  pub declaration_found : {a : StmtTree} {i j : ℕ} → Declaration place s a i j → FoundBare t (Declaration other t) a
  declaration_found {i = i} (g.declaration {f = f} {ty = ty} {vs = vs} o d v is) = subst (FoundBare t (Declaration other t)) (sym is) (reprinted (ap (λ (z : Pieces). z.bare) (local_parts (place i) f ty vs))
      (reads_as (reads_parts (maybe_final f) _ (final_found t f) (reads_parts (type_pieces ty) _ (type_found d) (variables_found v))) (λ k j h. record {
        tree = stmt.Local (other k) f h.second.first.tree h.second.second.tree;
        stands = g.declaration h.first h.second.first.stands h.second.second.stands refl;
        same = same_local (other k) (place i) f f h.second.first.tree ty h.second.second.tree vs refl h.second.first.same h.second.second.same;
      })))

  -- ---- expressions as statements

  statement_expression_found : {a : ExprTree} {i j : ℕ} → StatementExpression place s a i j → Found t (StatementExpression other t) a
  statement_expression_found {a} (g.evaluated d is) = reads_as (unary_found d) (λ k j f. record {
    tree = f.tree;
    stands = g.evaluated f.stands (same_is_statement f.tree a f.same ∙ is);
    same = f.same;
  })
  statement_expression_found {i = i} (g.assigned {l = l} {r = r} {m = m} d o x is) =
      let by = terminal (s m) in
      let op = assign_op by in
      of_tree is (reprinted (forms.assign_pieces (place i) op l r) (reads_as (reads_parts (expr_pieces l) _ (unary_found d) (reads_mark (signed (assign_sign op)) (expression_found x))) (λ k j f.
      let left = f.first in
      let right = f.second.rest in
      let here : terminal (t f.middle) ≡ by = f.second.is ∙ assign_printed by o in
      record {
        tree = e.Assign (other k) (assign_op (terminal (t f.middle))) left.tree right.tree;
        stands = g.assigned left.stands (ap (among assigns) here ∙ o) right.stands refl;
        same = same_assign (other k) (place i) (assign_op (terminal (t f.middle))) op left.tree l right.tree r (ap assign_op here) left.same right.same;
      })))

  pub evaluation_end : {a : StmtTree} {i j : ℕ} → Evaluation place s a i j → (stmt_parts a).end ≡ semicolon ∷ []
  evaluation_end {i = i} (g.evaluation {x = x} d is) = ap (λ (z : StmtTree). (stmt_parts z).end) is ∙ ap (λ (z : Pieces). z.end) (expression_parts (place i) x)

  pub evaluation_found : {a : StmtTree} {i j : ℕ} → Evaluation place s a i j → FoundBare t (Evaluation other t) a
  evaluation_found {i = i} (g.evaluation {x = x} d is) = subst (FoundBare t (Evaluation other t)) (sym is) (reprinted (ap (λ (z : Pieces). z.bare) (expression_parts (place i) x))
      (reads_as (statement_expression_found d) (λ k j f. record {
        tree = stmt.Expression (other k) f.tree;
        stands = g.evaluation f.stands refl;
        same = same_expression (other k) (place i) f.tree x f.same;
      })))

  evaluations_some : {a : List StmtTree} {i j : ℕ} → Evaluations place s a i j → HasOne a
  evaluations_some (g.first_evaluation d is) = has_only is
  evaluations_some (g.next_evaluation {x = x} d o v is) = has_more x (evaluations_some d) is

  evaluations_found : {a : List StmtTree} {i j : ℕ} → Evaluations place s a i j → FoundParted t unplaced_stmt comma bare_pieces (Evaluations other t) a
  evaluations_found (g.first_evaluation d is) = one_part t unplaced_stmt bare_pieces (Evaluation other t) (Evaluations other t) comma (codes ",") refl
      (λ y k j d. g.first_evaluation d refl) (evaluation_found d) is
  evaluations_found (g.next_evaluation d o v is) = more_parts t unplaced_stmt bare_pieces (Evaluation other t) (Evaluations other t) comma (codes ",") refl
      (λ c y k m j d o v. g.next_evaluation d o v refl) (evaluations_some d) (evaluations_found d) (evaluation_found v) is

  -- what a `for` begins with is printed without semicolons
  pub for_init_found : {a : List StmtTree} {i j : ℕ} → ForInit place s a i j → FoundBares t (ForInit other t) a
  for_init_found (g.no_for_init is end) = subst (FoundBares t (ForInit other t)) (sym is) (reads_as reads_end (λ k j f. record { tree = []; stands = g.no_for_init refl f; same = refl }))
  for_init_found {a} (g.declares d is) = reprinted (bares_listed a) (one_part t unplaced_stmt bare_pieces (Declaration other t) (ForInit other t) comma (codes ",") refl
      (λ y k j d. g.declares d refl) (declaration_found d) is)
  for_init_found {a} (g.evaluates d) = reprinted (bares_listed a) (lifted (λ x k j. g.evaluates) (evaluations_found d))

  -- ---- expressions with commas between them

  expressions_some : {a : List ExprTree} {i j : ℕ} → Expressions place s a i j → HasOne a
  expressions_some (g.first_expression d is) = has_only is
  expressions_some (g.next_expression {x = x} d o v is) = has_more x (expressions_some d) is

  expressions_found : {a : List ExprTree} {i j : ℕ} → Expressions place s a i j → FoundAll t (Expressions other t) a
  expressions_found (g.first_expression d is) = one_part t unplaced_expr expr_pieces (Expression other t) (Expressions other t) comma (codes ",") refl
      (λ y k j d. g.first_expression d refl) (expression_found d) is
  expressions_found (g.next_expression d o v is) = more_parts t unplaced_expr expr_pieces (Expression other t) (Expressions other t) comma (codes ",") refl
      (λ c y k m j d o v. g.next_expression d o v refl) (expressions_some d) (expressions_found d) (expression_found v) is

  pub maybe_expressions_found : {a : List ExprTree} {i j : ℕ} → MaybeExpressions place s a i j → FoundAll t (MaybeExpressions other t) a
  maybe_expressions_found (g.no_expressions is end) = of_list is (reads_as reads_end (λ k j f. record { tree = []; stands = g.no_expressions refl f; same = refl }))
  maybe_expressions_found (g.expressions d) = lifted (λ x k j. g.expressions) (expressions_found d)
