-- The tokens of a printed statement are those of the text that it was read from.
use Rattle.std.proofs.Common.{◌≡◌, ◌≢◌, ℕ, suc, Bool, true, false, List, [], ◌∷◌, ◌++◌, map, Option, refl, sym, ap, ◌∙◌, subst, le_refl}
use Rattle.std.specs.Prelude.{codes}
use Rattle.bj_base.specs.declared.span.Span.{Span}
use Rattle.bj_token.specs.declared.token.TokenKind.TheVariants as kinds
use Rattle.bj_lex.specs.Grammar.{Spelled}
use Rattle.bj_expr_tree.specs.declared.types.NamedPlace.{NamedPlace}
use Rattle.bj_expr_tree.specs.declared.expr.ExprTree.{ExprTree}
use Rattle.bj_tree.specs.declared.stmt.VariableTree.{VariableTree}
use Rattle.bj_tree.specs.declared.stmt.StmtTree.{StmtTree}
use Rattle.bj_grammar.specs.declared.terminal.Terminal.{Terminal}
use Rattle.bj_grammar.specs.declared.terminal.Terminal.TheVariants as t
use Rattle.bj_grammar.specs.Terminal.{terminal, among, keyword_spelling}
use Rattle.bj_grammar.proofs.Terminals.{kind_for}
use Rattle.bj_grammar.specs.Reader.{Text}
use Rattle.bj_expr.proofs.Facts.{Each, each}
use Rattle.bj_expr.specs.Grammar.{Expression}
use Rattle.bj_stmt.specs.Grammar as g
use Rattle.bj_stmt.specs.Grammar.{MaybeFinal, MaybeInit, MaybeExpression, MaybeName, Variable, Variables, Declaration, StatementExpression, Evaluation, Evaluations, ForInit, Expressions, MaybeExpressions, Statement, Block, BlockStatements, BlockStatement, Members, Member, Label, Catches, Catch, ConstructorCall, ConstructorBody, SomeStatements, jumps, jump}
use Rattle.bj_writer.specs.Pieces.{Piece, Space}
use Rattle.bj_layout.specs.Exprs.{expr_pieces, keyword, sign, comma, with_commas, pairs, type_pieces}
use Rattle.bj_layout.specs.Stmts.{maybe_final, maybe_init, maybe_expr, maybe_label, variable_pieces, for_update, stmt_parts, stmt_pieces, semicolon, Pieces}
use Rattle.bj_print.proofs.Drawn.{Drawn, AllDrawn, both, all_none, all_one, all_next, Rows, rows_drawn, rows_none, rows_one, rows_next}
use Rattle.bj_print.proofs.DrawnTokens as drawn
use Rattle.bj_print.proofs.ExprDrawn as exprs
use Rattle.bj_layout.proofs.ExprPieces as e
use Rattle.bj_layout.proofs.StmtParts.{local_parts, expression_parts}
use Rattle.bj_print.proofs.StmtPieces as w
use Rattle.bj_print.proofs.StmtPieces.{line_pieces, bare_pieces, bare_list}
use Rattle.bj_print.proofs.Holds.{spelling_of}

module _ (P : Spelled → Type 0) (place : ℕ → Span) (s : Text) (given : (x : ℕ) → terminal (s x) ≢ t.Other → P (spelling_of (s x))) where
  abbrev pub S : StmtTree → Type 0
  S a = Drawn P (stmt_pieces a)

  abbrev Es : List ExprTree → Type 0
  Es xs = Rows P expr_pieces comma xs

  abbrev Vs : List VariableTree → Type 0
  Vs xs = Rows P variable_pieces comma xs

  -- without their semicolons
  abbrev Bs : List StmtTree → Type 0
  Bs xs = Rows P bare_pieces comma xs

  -- ---- tokens

  left : (x : ℕ) → terminal (s x) ≡ t.LeftParen → P (kinds.Sign, codes "(")
  left x is = drawn.sign_drawn P s given x t.LeftParen is refl (λ e. cc)

  right : (x : ℕ) → terminal (s x) ≡ t.RightParen → P (kinds.Sign, codes ")")
  right x is = drawn.sign_drawn P s given x t.RightParen is refl (λ e. cc)

  semi : (x : ℕ) → terminal (s x) ≡ t.Semicolon → P (kinds.Sign, codes ";")
  semi x is = drawn.sign_drawn P s given x t.Semicolon is refl (λ e. cc)

  colon : (x : ℕ) → terminal (s x) ≡ t.Colon → P (kinds.Sign, codes ":")
  colon x is = drawn.sign_drawn P s given x t.Colon is refl (λ e. cc)

  expression : (a : ExprTree) (i j : ℕ) → Expression place s a i j → Drawn P (expr_pieces a)
  expression = exprs.expression P place s given

  -- a statement as its form is printed
  form : {a b : StmtTree} {p : List Piece} → a ≡ b → stmt_pieces b ≡ p → Drawn P p → S a
  form is printed d = subst (Drawn P) (sym (ap stmt_pieces is ∙ printed)) d

  -- ---- small parts

  pub final_drawn : (a : Bool) (i j : ℕ) → MaybeFinal s a i j → Drawn P (maybe_final a)
  final_drawn a u v (g.not_final is end) = subst (λ (b : Bool). Drawn P (maybe_final b)) (sym is) tt
  final_drawn a u v (g.final {i = i} k is end) = subst (λ (b : Bool). Drawn P (maybe_final b)) (sym is) (drawn.keyword_drawn P s given i t.Final k refl (λ e. cc), tt)

  init_drawn : (a : Option ExprTree) (i j : ℕ) → MaybeInit place s a i j → Drawn P (maybe_init a)
  init_drawn a u v (g.no_init is end) = subst (λ (x : Option ExprTree). Drawn P (maybe_init x)) (sym is) tt
  init_drawn a u v (g.init {x = x} {i = i} {j = j} k d is) = subst (λ (x : Option ExprTree). Drawn P (maybe_init x)) (sym is) (drawn.sign_drawn P s given i t.Assign k refl (λ e. cc), exprs.initializer P place s given x (suc i) j d)

  maybe_drawn : (a : Option ExprTree) (i j : ℕ) → MaybeExpression place s a i j → Drawn P (maybe_expr a)
  maybe_drawn a u v (g.no_expression is end) = subst (λ (x : Option ExprTree). Drawn P (maybe_expr x)) (sym is) tt
  maybe_drawn a u v (g.expression {x = x} {i = i} {j = j} d is) = subst (λ (x : Option ExprTree). Drawn P (maybe_expr x)) (sym is) (expression x i j d)

  label_drawn : (a : Option NamedPlace) (i j : ℕ) → MaybeName place s a i j → Drawn P (maybe_label a)
  label_drawn a u v (g.no_name is end) = subst (λ (x : Option NamedPlace). Drawn P (maybe_label x)) (sym is) tt
  label_drawn a u v (g.name {i = i} k is end) = subst (λ (x : Option NamedPlace). Drawn P (maybe_label x)) (sym is) (drawn.word_drawn P s given i k, tt)

  variable_drawn : (a : VariableTree) (i j : ℕ) → Variable place s a i j → Drawn P (variable_pieces a)
  variable_drawn a u v (g.variable {x = x} {n = n} {i = i} {m = m} {j = j} k dims given_init is) =
      subst (λ (y : VariableTree). Drawn P (variable_pieces y)) (sym is) (drawn.word_drawn P s given i k, both P (pairs n) (maybe_init x) (drawn.pairs_drawn P s given n (suc i) m dims n (le_refl n)) (init_drawn x m j given_init))

  pub variables_drawn : (a : List VariableTree) (i j : ℕ) → Variables place s a i j → Vs a
  variables_drawn a u v (g.first_variable {x = x} {i = i} {j = j} d is) = rows_one P variable_pieces comma a x is (variable_drawn x i j d)
  variables_drawn a u v (g.next_variable {b = b} {x = x} {i = i} {m = m} {j = j} ds c d is) =
      rows_next P variable_pieces comma a b x is (drawn.comma_drawn P s given m c) (variables_drawn b i m ds) (variable_drawn x (suc m) j d)

  declaration_drawn : (a : StmtTree) (i j : ℕ) → Declaration place s a i j → Drawn P (bare_pieces a)
  declaration_drawn a u v (g.declaration {f = f} {ty = of} {vs = vs} {i = i} {m = m} {n = n} {j = j} df dt dv is) =
      subst (Drawn P) (sym (ap bare_pieces is ∙ ap (λ (p : Pieces). p.bare) (local_parts (place i) f of vs)))
      (both P (maybe_final f) _ (final_drawn f i m df) (both P (type_pieces of) (Space ∷ with_commas (map variable_pieces vs)) (drawn.type_drawn P s given place of m n dt) (rows_drawn P variable_pieces comma vs (variables_drawn vs n j dv))))

  statement_expression : (a : ExprTree) (i j : ℕ) → StatementExpression place s a i j → Drawn P (expr_pieces a)
  statement_expression a u v (g.evaluated {i = i} {j = j} d is) = exprs.unary P place s given a i j d
  statement_expression a u v (g.assigned {l = l} {r = r} {i = i} {m = m} {j = j} x op y is) =
      subst (Drawn P) (sym (ap expr_pieces is ∙ e.assign_pieces _ _ l r)) (both P (expr_pieces l) _ (exprs.unary P place s given l i m x) (drawn.assign_drawn P s given m op, expression r (suc m) j y))

  evaluation_drawn : (a : StmtTree) (i j : ℕ) → Evaluation place s a i j → Drawn P (bare_pieces a)
  evaluation_drawn a u v (g.evaluation {x = x} {i = i} {j = j} d is) =
      subst (Drawn P) (sym (ap bare_pieces is ∙ ap (λ (p : Pieces). p.bare) (expression_parts (place i) x))) (statement_expression x i j d)

  evaluations_drawn : (a : List StmtTree) (i j : ℕ) → Evaluations place s a i j → Bs a
  evaluations_drawn a u v (g.first_evaluation {x = x} {i = i} {j = j} d is) = rows_one P bare_pieces comma a x is (evaluation_drawn x i j d)
  evaluations_drawn a u v (g.next_evaluation {b = b} {x = x} {i = i} {m = m} {j = j} ds c d is) =
      rows_next P bare_pieces comma a b x is (drawn.comma_drawn P s given m c) (evaluations_drawn b i m ds) (evaluation_drawn x (suc m) j d)

  for_init_drawn : (a : List StmtTree) (i j : ℕ) → ForInit place s a i j → Bs a
  for_init_drawn a u v (g.no_for_init is end) = rows_none P bare_pieces comma a is
  for_init_drawn a u v (g.declares {x = x} {i = i} {j = j} d is) = rows_one P bare_pieces comma a x is (declaration_drawn x i j d)
  for_init_drawn a u v (g.evaluates d) = evaluations_drawn a u v d

  expressions_drawn : (a : List ExprTree) (i j : ℕ) → Expressions place s a i j → Es a
  expressions_drawn a u v (g.first_expression {x = x} {i = i} {j = j} d is) = rows_one P expr_pieces comma a x is (expression x i j d)
  expressions_drawn a u v (g.next_expression {b = b} {x = x} {i = i} {m = m} {j = j} ds c d is) =
      rows_next P expr_pieces comma a b x is (drawn.comma_drawn P s given m c) (expressions_drawn b i m ds) (expression x (suc m) j d)

  maybe_expressions_drawn : (a : List ExprTree) (i j : ℕ) → MaybeExpressions place s a i j → Es a
  maybe_expressions_drawn a u v (g.no_expressions is end) = rows_none P expr_pieces comma a is
  maybe_expressions_drawn a u v (g.expressions d) = expressions_drawn a u v d

  update_drawn : (a : List ExprTree) → Es a → Drawn P (for_update (map expr_pieces a))
  update_drawn [] d = tt
  update_drawn (x ∷ xs) d = rows_drawn P expr_pieces comma (x ∷ xs) d

  bare_list_is : (xs : List StmtTree) → Bs xs → Drawn P (bare_list xs)
  bare_list_is xs d = subst (Drawn P) (sym (w.bares_listed xs)) (rows_drawn P bare_pieces comma xs d)

  -- a declaration or an evaluation with its semicolon
  local_drawn : (a : StmtTree) (i j m : ℕ) → Declaration place s a i j → terminal (s m) ≡ t.Semicolon → S a
  local_drawn a u v m (g.declaration {f = f} {ty = of} {vs = vs} {i = i} df dt dv is) k =
      let d = declaration_drawn a _ _ (g.declaration df dt dv is) in
      let printed = ap stmt_parts is ∙ local_parts (place i) f of vs in
      both P (bare_pieces a) _ d (subst (Drawn P) (sym (ap (λ (p : Pieces). p.end) printed)) (semi m k, tt))

  evaluate_drawn : (a : StmtTree) (i j m : ℕ) → Evaluation place s a i j → terminal (s m) ≡ t.Semicolon → S a
  evaluate_drawn a u v m (g.evaluation {x = x} {i = i} d is) k =
      let b = evaluation_drawn a _ _ (g.evaluation d is) in
      let printed = ap stmt_parts is ∙ expression_parts (place i) x in
      both P (bare_pieces a) _ b (subst (Drawn P) (sym (ap (λ (p : Pieces). p.end) printed)) (semi m k, tt))

  -- ---- the rules

  -- an expression in parentheses behind a keyword, and more behind them
  headed : (p q : List Piece) (x y : ℕ) → terminal (s x) ≡ t.LeftParen → Drawn P p → terminal (s y) ≡ t.RightParen → Drawn P q → Drawn P (sign (codes "(") ∷ (p ++ (sign (codes ")") ∷ Space ∷ q)))
  headed p q x y l d r e = (left x l, both P p _ d (right y r, e))

  abbrev pub AllS : List StmtTree → Type 0
  AllS xs = AllDrawn P (map stmt_pieces xs)

  line_of : (xs : List StmtTree) → AllS xs → Drawn P (line_pieces xs)
  line_of [] d = tt
  line_of (x ∷ xs) d = both P (stmt_pieces x) _ d.0 (line_of xs d.1)

  in_braces_drawn : (xs : List StmtTree) (x y : ℕ) → terminal (s x) ≡ t.LeftBrace → AllS xs → terminal (s y) ≡ t.RightBrace → Drawn P (sign (codes "{") ∷ (line_pieces xs ++ (Space ∷ sign (codes "}") ∷ [])))
  in_braces_drawn xs x y l d r = (drawn.sign_drawn P s given x t.LeftBrace l refl (λ e. cc), both P (line_pieces xs) _ (line_of xs d) (drawn.sign_drawn P s given y t.RightBrace r refl (λ e. cc), tt))

  -- `break` or `continue`
  IsJump : Terminal → Type 0
  IsJump k = (place : Span) (label : Option NamedPlace) → (k ≢ t.Other) × (kind_for k ≡ kinds.Keyword) × (stmt_pieces (jump k place label) ≡ keyword (keyword_spelling k) ∷ (maybe_label label ++ semicolon ∷ []))

  jumps_printed : Each IsJump jumps
  unfolding IsJump
  jumps_printed = (λ place label. (λ e. cc, refl, w.break_pieces place label), (λ place label. (λ e. cc, refl, w.continue_pieces place label), tt))

  jump_drawn : (x m : ℕ) (at : Span) (label : Option NamedPlace) → among jumps (terminal (s x)) ≡ true → Drawn P (maybe_label label) → terminal (s m) ≡ t.Semicolon → S (jump (terminal (s x)) at label)
  unfolding IsJump
  jump_drawn x m at label is d k =
      let h = each IsJump jumps jumps_printed (terminal (s x)) is at label in
      subst (Drawn P) (sym h.2) (drawn.keyword_drawn P s given x (terminal (s x)) refl h.1 h.0, both P (maybe_label label) _ d (semi m k, tt))

  pub call_drawn : (a : StmtTree) (i j : ℕ) → ConstructorCall place s a i j → S a
  call_drawn a u v (g.of_this {xs = xs} {i = i} {m = m} {j = j} k l ds r e is end) =
      form is (w.constructor_call_pieces (place i) false xs) (drawn.keyword_drawn P s given i t.This k refl (λ e. cc), (left (suc i) l, both P (with_commas (map expr_pieces xs)) _ (rows_drawn P expr_pieces comma xs (maybe_expressions_drawn xs _ m ds)) (right m r, (semi (suc m) e, tt))))
  call_drawn a u v (g.of_super {xs = xs} {i = i} {m = m} {j = j} k l ds r e is end) =
      form is (w.constructor_call_pieces (place i) true xs) (drawn.keyword_drawn P s given i t.Super k refl (λ e. cc), (left (suc i) l, both P (with_commas (map expr_pieces xs)) _ (rows_drawn P expr_pieces comma xs (maybe_expressions_drawn xs _ m ds)) (right m r, (semi (suc m) e, tt))))

  mutual
    pub statement : (a : StmtTree) (i j : ℕ) → Statement place s a i j → S a
    statement a u v (g.block d) = block a u v d
    statement a u v (g.empty {i = i} k is end) = form is (w.empty_pieces (place i)) (semi i k, tt)
    statement a u v (g.evaluate {i = i} {m = m} d k end) = evaluate_drawn a i m m d k
    statement a u v (g.choice {x = x} {b = b} {i = i} {m = m} {j = j} k l d r body is) =
        form is (w.if_pieces (place i) x b) (drawn.keyword_drawn P s given i t.If k refl (λ e. cc), headed (expr_pieces x) (stmt_pieces b) (suc i) m l (expression x (suc (suc i)) m d) r (statement b (suc m) j body))
    statement a u v (g.choice_else {x = x} {b = b} {c = c} {i = i} {m = m} {n = n} {j = j} k l d r body low els other is) =
        form is (w.if_else_pieces (place i) x b c) (
          drawn.keyword_drawn P s given i t.If k refl (λ e. cc),
          headed (expr_pieces x) _ (suc i) m l (expression x (suc (suc i)) m d) r
              (both P (stmt_pieces b) _ (statement b (suc m) n body) (drawn.keyword_drawn P s given n t.Else els refl (λ e. cc), statement c (suc n) j other)),
        )
    statement a u v (g.while {x = x} {b = b} {i = i} {m = m} {j = j} k l d r body is) =
        form is (w.while_pieces (place i) x b) (drawn.keyword_drawn P s given i t.While k refl (λ e. cc), headed (expr_pieces x) (stmt_pieces b) (suc i) m l (expression x (suc (suc i)) m d) r (statement b (suc m) j body))
    statement a u v (g.do_while {b = b} {x = x} {i = i} {m = m} {n = n} {j = j} k body w2 l d r e is end) =
        form is (w.do_pieces (place i) b x) (
          drawn.keyword_drawn P s given i t.Do k refl (λ e. cc),
          both P (stmt_pieces b) _ (statement b (suc i) m body) (
            drawn.keyword_drawn P s given m t.While w2 refl (λ e. cc),
            (left (suc m) l, both P (expr_pieces x) _ (expression x (suc (suc m)) n d) (right n r, (semi (suc n) e, tt))),
          ),
        )
    statement a u v (g.for {inits = inits} {x = x} {us = us} {b = b} {i = i} {k = k} {m = m} {n = n} {j = j} f l di s1 dx s2 du r body is) =
        form is (w.for_pieces (place i) inits x us b) (
          drawn.keyword_drawn P s given i t.For f refl (λ e. cc),
          (
            left (suc i) l,
            both P (bare_list inits) _ (bare_list_is inits (for_init_drawn inits _ k di)) (
              semi k s1,
              both P (maybe_expr x) _ (maybe_drawn x (suc k) m dx) (semi m s2, both P (for_update (map expr_pieces us)) _ (update_drawn us (maybe_expressions_drawn us (suc m) n du)) (right n r, statement b (suc n) j body)),
            ),
          ),
        )
    statement a u v (g.for_each {f = f} {ty = of} {x = x} {b = b} {i = i} {k = k} {m = m} {n = n} {j = j} w2 l df dt v2 c d r body is) =
        form is (w.for_each_pieces (place i) f of (g.named (place m) (s m)) x b) (
          drawn.keyword_drawn P s given i t.For w2 refl (λ e. cc),
          (
            left (suc i) l,
            both P (maybe_final f) _ (final_drawn f _ k df) (both P (type_pieces of) _ (drawn.type_drawn P s given place of k m dt)
                (drawn.word_drawn P s given m v2, (colon (suc m) c, both P (expr_pieces x) _ (expression x (suc (suc m)) n d) (right n r, statement b (suc n) j body)))),
          ),
        )
    statement a u v (g.switch {x = x} {ms = ms} {i = i} {m = m} {n = n} {j = j} k l d r lb dm rb is end) =
        form is (w.switch_pieces (place i) x ms) (drawn.keyword_drawn P s given i t.Switch k refl (λ e. cc), headed (expr_pieces x) _ (suc i) m l (expression x (suc (suc i)) m d) r (in_braces_drawn ms (suc m) n lb (members ms (suc (suc m)) n dm) rb))
    statement a u v (g.labelled {b = b} {i = i} {j = j} k c d is) = form is (w.labelled_pieces (place i) (s i).text b) (drawn.word_drawn P s given i k, (colon (suc i) c, statement b (suc (suc i)) j d))
    statement a u v (g.jump_to {l = l} {i = i} {m = m} {j = j} k d e is end) = subst S (sym is) (jump_drawn i m (place i) l k (label_drawn l (suc i) m d) e)
    statement a u v (g.return {x = x} {i = i} {m = m} {j = j} k d e is end) = form is (w.return_pieces (place i) x) (drawn.keyword_drawn P s given i t.Return k refl (λ e. cc), both P (maybe_expr x) _ (maybe_drawn x (suc i) m d) (semi m e, tt))
    statement a u v (g.throw {x = x} {i = i} {m = m} {j = j} k d e is end) = form is (w.throw_pieces (place i) x) (drawn.keyword_drawn P s given i t.Throw k refl (λ e. cc), both P (expr_pieces x) _ (expression x (suc i) m d) (semi m e, tt))
    statement a u v (g.synchronized {x = x} {b = b} {i = i} {m = m} {j = j} k l d r body is) =
        form is (w.synchronized_pieces (place i) x b) (drawn.keyword_drawn P s given i t.Synchronized k refl (λ e. cc), headed (expr_pieces x) (stmt_pieces b) (suc i) m l (expression x (suc (suc i)) m d) r (block b (suc m) j body))
    statement a u v (g.synchronized_class {b = b} {i = i} {j = j} k l n o c r body is) =
        form is (w.synchronized_class_pieces (place i) _ b) (
          drawn.keyword_drawn P s given i t.Synchronized k refl (λ e. cc),
          (
            left (suc i) l,
            (
              drawn.word_drawn P s given (suc (suc i)) n,
              (
                drawn.sign_drawn P s given (suc (suc (suc i))) t.Dot o refl (λ e. cc),
                (
                  drawn.keyword_drawn P s given (suc (suc (suc (suc i)))) t.Class c refl (λ e. cc),
                  (right (suc (suc (suc (suc (suc i))))) r, block b (suc (suc (suc (suc (suc (suc i)))))) j body),
                ),
              ),
            ),
          ),
        )
    statement a u v (g.try {b = b} {cs = cs} {i = i} {m = m} {j = j} k body ds some is) =
        form is (w.try_pieces (place i) b cs) (drawn.keyword_drawn P s given i t.Try k refl (λ e. cc), both P (stmt_pieces b) (line_pieces cs) (block b (suc i) m body) (line_of cs (catches cs m j ds)))
    statement a u v (g.try_finally {b = b} {cs = cs} {f = f} {i = i} {m = m} {n = n} {j = j} k body ds fin last is) =
        form is (w.try_finally_pieces (place i) b cs f) (drawn.keyword_drawn P s given i t.Try k refl (λ e. cc), both P (stmt_pieces b) _ (block b (suc i) m body) (both P (line_pieces cs) _ (line_of cs (catches cs m n ds)) (drawn.keyword_drawn P s given n t.Finally fin refl (λ e. cc), block f (suc n) j last)))

    pub block : (a : StmtTree) (i j : ℕ) → Block place s a i j → S a
    block a u v (g.braces {b = b} {i = i} {m = m} {j = j} l d r is end) = form is (w.block_pieces (place i) b (place m)) (in_braces_drawn b i m l (block_statements b (suc i) m d) r)

    pub block_statements : (a : List StmtTree) (i j : ℕ) → BlockStatements place s a i j → AllS a
    block_statements a u v (g.no_statements is end) = all_none P stmt_pieces a is
    block_statements a u v (g.next_statement {b = b} {c = c} {i = i} {m = m} {j = j} ds d is) = all_next P stmt_pieces a b c is (block_statements b i m ds) (block_statement c m j d)

    pub block_statement : (a : StmtTree) (i j : ℕ) → BlockStatement place s a i j → S a
    block_statement a u v (g.local {i = i} {m = m} d k end) = local_drawn a i m m d k
    block_statement a u v (g.statement d) = statement a u v d

    members : (a : List StmtTree) (i j : ℕ) → Members place s a i j → AllS a
    members a u v (g.no_members is end) = all_none P stmt_pieces a is
    members a u v (g.first_label {c = c} {i = i} {j = j} d is) = all_one P stmt_pieces a c is (label c i j d)
    members a u v (g.next_member {b = b} {c = c} {i = i} {m = m} {j = j} ds some d is) = all_next P stmt_pieces a b c is (members b i m ds) (member c m j d)

    member : (a : StmtTree) (i j : ℕ) → Member place s a i j → S a
    member a u v (g.label d) = label a u v d
    member a u v (g.in_group d) = block_statement a u v d

    label : (a : StmtTree) (i j : ℕ) → Label place s a i j → S a
    label a u v (g.case {x = x} {i = i} {m = m} k d c is end) = form is (w.case_pieces (place i) x) (drawn.keyword_drawn P s given i t.Case k refl (λ e. cc), both P (expr_pieces x) _ (expression x (suc i) m d) (colon m c, tt))
    label a u v (g.default {i = i} k c is end) = form is (w.default_pieces (place i)) (drawn.keyword_drawn P s given i t.Default k refl (λ e. cc), (colon (suc i) c, tt))

    catches : (a : List StmtTree) (i j : ℕ) → Catches place s a i j → AllS a
    catches a u v (g.no_catches is end) = all_none P stmt_pieces a is
    catches a u v (g.next_catch {b = b} {c = c} {i = i} {m = m} {j = j} ds d is) = all_next P stmt_pieces a b c is (catches b i m ds) (catch_drawn c m j d)

    catch_drawn : (a : StmtTree) (i j : ℕ) → Catch place s a i j → S a
    catch_drawn a u v (g.catch {f = f} {ty = of} {b = b} {i = i} {k = k} {m = m} {j = j} c l df dt n r body is) =
        form is (w.catch_pieces (place i) f (of ∷ []) (g.named (place m) (s m)) b) (
          drawn.keyword_drawn P s given i t.Catch c refl (λ e. cc),
          (
            left (suc i) l,
            both P (maybe_final f) _ (final_drawn f _ k df)
                (both P (type_pieces of ++ []) _ (both P (type_pieces of) [] (drawn.type_drawn P s given place of k m dt) tt) (drawn.word_drawn P s given m n, (right (suc m) r, block b (suc (suc m)) j body))),
          ),
        )

  pub constructor_body : (a : StmtTree) (i j : ℕ) → ConstructorBody place s a i j → S a
  constructor_body a u v (g.plain_body d) = block a u v d
  constructor_body a u v (g.calling_body {c = c} {b = b} {i = i} {k = k} {m = m} l dc ds r is end) =
      form is (w.block_pieces (place i) (c ∷ b) (place m)) (in_braces_drawn (c ∷ b) i m l (call_drawn c _ k dc, block_statements b k m ds) r)

  pub some_statements : (a : List StmtTree) (i j : ℕ) → SomeStatements place s a i j → AllS a
  some_statements a u v (g.some_statements d some) = block_statements a u v d
