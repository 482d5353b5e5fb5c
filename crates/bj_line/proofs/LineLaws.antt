-- A line is what one of the two readers finds, and its fault is the later of theirs.
use Rattle.std.proofs.Common.{◌≡◌, ℕ, suc, ◌<◌, ◌≤◌, ◌⊎◌, inl, inr, true, List, length, refl, ap, ◌∙◌, subst, arith, le_refl}
use Rattle.bj_base.specs.declared.span.Span.{Span}
use Rattle.bj_token.specs.declared.token.Token.{Token}
use Rattle.bj_expr_tree.specs.declared.expr.ExprTree.{ExprTree}
use Rattle.bj_tree.specs.declared.stmt.StmtTree.{StmtTree}
use Rattle.bj_tree.specs.declared.line.LineTree.{LineTree}
use Rattle.bj_tree.specs.declared.line.LineTree.TheVariants as lines
use Rattle.bj_expr_tree.specs.Size.{height_of}
use Rattle.bj_grammar.specs.declared.terminal.Terminal.{Terminal}
use Rattle.bj_grammar.specs.declared.terminal.Terminal.TheVariants as t
use Rattle.bj_grammar.specs.Terminal.{same_terminal, among}
use Rattle.bj_grammar.specs.Reader.{Found}
use Rattle.bj_grammar.specs.Given.{text_of, place_of, IsDeepAt}
use Rattle.bj_grammar.proofs.Laws.{Laws, Rel}
use Rattle.bj_expr.specs.declared.bounds.Bounds.{Bounds}
use Rattle.bj_expr.specs.declared.part.Part.TheVariants as part
use Rattle.bj_expr.specs.Grammar.{Expression}
use Rattle.bj_expr.specs.Given.{part_of}
use Rattle.bj_expr.specs.Reading.{nested}
use Rattle.bj_expr.proofs.Facts.{closers}
use Rattle.bj_expr.proofs.WithinLaws.{Follows, closer_follows, within_laws}
use Rattle.bj_expr.proofs.NodeHeights.{has_node_high}
use Rattle.bj_expr.proofs.LowLaws.{part_low}
use Rattle.bj_stmt.specs.Grammar.{SomeStatements}
use Rattle.bj_stmt.specs.Reading.{statements_within}
use Rattle.bj_stmt.proofs.GivenExpressions.{given}
use Rattle.bj_stmt.proofs.NestedStmts.{some_laws}
use Rattle.bj_stmt.proofs.StmtNodeHeights.{stmts_node_high}
use Rattle.bj_stmt.proofs.LowStmts.{statements_low}
use Rattle.bj_line.specs.Line.{most_nodes, line_height, line_bounds, IsExpression, AreStatements, IsShallow, IsLine, InGrammar, SameBefore, FirstFault, TooDeep, as_expression, as_statements, IsStuck, IsDeepIn, IsDeepAmong, DeepAt}
use Rattle.bj_line.proofs.Whole as whole

end_closes : among closers t.Other ≡ true
unfolding same_terminal
end_closes = refl

module _ (tokens : List Token) where
  abbrev ExprRel : Rel ExprTree
  ExprRel = λ s a i j. Expression (place_of tokens) s a i j

  abbrev StmtsRel : Rel (List StmtTree)
  StmtsRel = λ s a i j. SomeStatements (place_of tokens) s a i j

  abbrev AtEnd : List StmtTree → Terminal → Type 0
  AtEnd b k = k ≡ t.Other

  expr_laws : Laws (suc (length tokens)) (nested (place_of tokens) (suc (length tokens)) most_nodes part.Expression) ExprRel (Follows part.Expression) IsDeepIn
  expr_laws = within_laws (place_of tokens) (line_bounds tokens) part.Expression

  stmts_laws : Laws (suc (length tokens)) (statements_within (place_of tokens) (suc (length tokens)) most_nodes) StmtsRel AtEnd IsDeepAmong
  stmts_laws = some_laws (place_of tokens) (suc (length tokens)) (given (place_of tokens) (suc (length tokens))) most_nodes

  expr_end : (a : ExprTree) → Follows part.Expression a t.Other
  expr_end a = closer_follows part.Expression a t.Other end_closes

  stmts_end : (b : List StmtTree) → AtEnd b t.Other
  stmts_end b = refl

  -- ---- the code's view of a reader

  pub within_all : (a : ExprTree) (at : ℕ) → as_expression tokens ≡ Found a at → at ≤ length tokens
  within_all a at e = whole.not_past _ ExprRel (Follows part.Expression) IsDeepIn tokens expr_laws expr_end a at e

  pub statements_all : (b : List StmtTree) (at : ℕ) → as_statements tokens ≡ Found b at → at ≤ length tokens
  statements_all b at e = whole.not_past _ StmtsRel AtEnd IsDeepAmong tokens stmts_laws stmts_end b at e

  -- what is read is not too deep
  pub low_expression : (a : ExprTree) (at : ℕ) → as_expression tokens ≡ Found a at → height_of a ≤ most_nodes
  low_expression a at e = part_low (place_of tokens) (suc (length tokens)) most_nodes part.Expression (text_of tokens) 0 a at e

  pub low_statements : (b : List StmtTree) (at : ℕ) → as_statements tokens ≡ Found b at → line_height b ≤ most_nodes
  low_statements b at e = statements_low (place_of tokens) (suc (length tokens)) most_nodes (text_of tokens) 0 b at e

  -- ---- a line

  deep_no : (a : ExprTree) → height_of a ≤ most_nodes → (at : Span) → IsDeepIn at a → ⊥
  deep_no a low at h = let high = has_node_high (suc most_nodes) at a h in absurd (omega arith)

  deep_none : (b : List StmtTree) → line_height b ≤ most_nodes → (at : Span) → IsDeepAmong at b → ⊥
  deep_none b low at h = let high = stmts_node_high (suc most_nodes) at b h in absurd (omega arith)

  pub expression_stands : (a : ExprTree) → as_expression tokens ≡ Found a (length tokens) → IsLine tokens (lines.Expr a)
  expression_stands a e = (whole.stands _ ExprRel (Follows part.Expression) IsDeepIn tokens expr_laws expr_end a e, low_expression a (length tokens) e)

  -- no expression is read where the reader stops, or goes too deep
  pub none_stuck : (k : ℕ) → IsStuck tokens (as_expression tokens) k → (a : ExprTree) → IsShallow tokens a → ⊥
  none_stuck k stuck a d = whole.stuck_none _ ExprRel (Follows part.Expression) IsDeepIn tokens expr_laws expr_end k stuck a d.0

  deep_expression : (at : Span) → IsDeepAt at (as_expression tokens) → (a : ExprTree) → IsExpression tokens tokens a → IsDeepIn at a
  deep_expression at deep a d = whole.each_is_deep _ ExprRel (Follows part.Expression) IsDeepIn tokens expr_laws expr_end at deep a d

  deep_statements : (at : Span) → IsDeepAt at (as_statements tokens) → (b : List StmtTree) → AreStatements tokens tokens b → IsDeepAmong at b
  deep_statements at deep b d = whole.each_is_deep _ StmtsRel AtEnd IsDeepAmong tokens stmts_laws stmts_end at deep b d

  high_expression : (at : Span) → IsDeepAt at (as_expression tokens) → (a : ExprTree) → IsExpression tokens tokens a → most_nodes < height_of a
  high_expression at deep a d = has_node_high (suc most_nodes) at a (deep_expression at deep a d)

  high_statements : (at : Span) → IsDeepAt at (as_statements tokens) → (b : List StmtTree) → AreStatements tokens tokens b → most_nodes < line_height b
  high_statements at deep b d = stmts_node_high (suc most_nodes) at b (deep_statements at deep b d)

  stuck_expression : (k : ℕ) → IsStuck tokens (as_expression tokens) k → (a : ExprTree) → IsExpression tokens tokens a → ⊥
  stuck_expression k stuck a d = whole.stuck_none _ ExprRel (Follows part.Expression) IsDeepIn tokens expr_laws expr_end k stuck a d

  stuck_statements : (k : ℕ) → IsStuck tokens (as_statements tokens) k → (b : List StmtTree) → AreStatements tokens tokens b → ⊥
  stuck_statements k stuck b d = whole.stuck_none _ StmtsRel AtEnd IsDeepAmong tokens stmts_laws stmts_end k stuck b d

  pub none_deep : (at : Span) → IsDeepAt at (as_expression tokens) → (a : ExprTree) → IsShallow tokens a → ⊥
  none_deep at deep a d = let high = high_expression at deep a d.0 in let low : height_of a ≤ most_nodes = d.1 in absurd (omega arith)

  pub statements_stand : (b : List StmtTree) → as_statements tokens ≡ Found b (length tokens) → ((a : ExprTree) → IsShallow tokens a → ⊥) → IsLine tokens (lines.Stmts b)
  statements_stand b e none = (whole.stands _ StmtsRel AtEnd IsDeepAmong tokens stmts_laws stmts_end b e, low_statements b (length tokens) e, none)

  -- ---- the only line

  pub expression_only : (a : ExprTree) → as_expression tokens ≡ Found a (length tokens) → (line : LineTree) → IsLine tokens line → lines.Expr a ≡ line
  expression_only a e (lines.Expr b) d = ap lines.Expr (whole.whole_is _ ExprRel (Follows part.Expression) IsDeepIn tokens expr_laws expr_end b a e d.0 (deep_no b d.1))
  expression_only a e (lines.Stmts b) d = absurd (d.2 a (expression_stands a e))

  pub statements_only : (b : List StmtTree) → as_statements tokens ≡ Found b (length tokens) → ((a : ExprTree) → IsShallow tokens a → ⊥) → (line : LineTree) → IsLine tokens line → lines.Stmts b ≡ line
  statements_only b e none (lines.Expr a) d = absurd (none a d)
  statements_only b e none (lines.Stmts c) d = ap lines.Stmts (whole.whole_is _ StmtsRel AtEnd IsDeepAmong tokens stmts_laws stmts_end c b e d.0 (deep_none c d.1))

  -- no line where both stop or go too deep
  pub record NoLine : Type 0 where
    pub expression : (a : ExprTree) → IsShallow tokens a → ⊥
    pub statements : (b : List StmtTree) → AreStatements tokens tokens b → line_height b ≤ most_nodes → ⊥

  pub no_line : NoLine → (line : LineTree) → IsLine tokens line → ⊥
  no_line n (lines.Expr a) d = n.expression a d
  no_line n (lines.Stmts b) d = n.statements b d.0 d.1

  pub stuck_no_statements : (k : ℕ) → IsStuck tokens (as_statements tokens) k → (b : List StmtTree) → AreStatements tokens tokens b → line_height b ≤ most_nodes → ⊥
  stuck_no_statements k stuck b d low = stuck_statements k stuck b d

  pub deep_no_statements : (at : Span) → IsDeepAt at (as_statements tokens) → (b : List StmtTree) → AreStatements tokens tokens b → line_height b ≤ most_nodes → ⊥
  deep_no_statements at deep b d low = let high = high_statements at deep b d in absurd (omega arith)

  -- ---- the first fault

  no_more_of : (k m at : ℕ) → k ≤ at → m ≤ at → IsStuck tokens (as_expression tokens) k → IsStuck tokens (as_statements tokens) m → (others : List Token) → SameBefore tokens others (suc at) → InGrammar tokens others → ⊥
  no_more_of k m at le le2 x y others same (inl w) = whole.none_more _ ExprRel (Follows part.Expression) IsDeepIn tokens expr_laws expr_end k at le x others w.0 same w.1
  no_more_of k m at le le2 x y others same (inr w) = whole.none_more _ StmtsRel AtEnd IsDeepAmong tokens stmts_laws stmts_end m at le2 y others w.0 same w.1

  begins_expression : (k : ℕ) → IsStuck tokens (as_expression tokens) k → (others : List Token) × (k ≤ length others) × SameBefore tokens others k × InGrammar tokens others
  begins_expression k x = let w = whole.some_begin _ ExprRel (Follows part.Expression) IsDeepIn tokens expr_laws expr_end k x in (w.0, w.1, w.2, inl w.3)

  begins_statements : (k : ℕ) → IsStuck tokens (as_statements tokens) k → (others : List Token) × (k ≤ length others) × SameBefore tokens others k × InGrammar tokens others
  begins_statements k x = let w = whole.some_begin _ StmtsRel AtEnd IsDeepAmong tokens stmts_laws stmts_end k x in (w.0, w.1, w.2, inr w.3)

  pub first_by_expression : (k m : ℕ) → m ≤ k → IsStuck tokens (as_expression tokens) k → IsStuck tokens (as_statements tokens) m → FirstFault tokens k
  first_by_expression k m le x y = record { begins = begins_expression k x; no_more = no_more_of k m k (le_refl k) le x y }

  pub first_by_statements : (k m : ℕ) → k ≤ m → IsStuck tokens (as_expression tokens) k → IsStuck tokens (as_statements tokens) m → FirstFault tokens m
  first_by_statements k m le x y = record { begins = begins_statements m y; no_more = no_more_of k m m le (le_refl m) x y }

  -- ---- too deep

  node_of_expression : (at : Span) → IsDeepAt at (as_expression tokens) → DeepAt (IsExpression tokens) IsDeepIn tokens at
  node_of_expression at deep = whole.deep_at _ ExprRel (Follows part.Expression) IsDeepIn tokens expr_laws expr_end at deep

  node_of_statements : (at : Span) → IsDeepAt at (as_statements tokens) → DeepAt (AreStatements tokens) IsDeepAmong tokens at
  node_of_statements at deep = whole.deep_at _ StmtsRel AtEnd IsDeepAmong tokens stmts_laws stmts_end at deep

  pub deep_both : (at other : Span) → IsDeepAt at (as_expression tokens) → IsDeepAt other (as_statements tokens) → TooDeep tokens at
  deep_both at other x y = record { passes = inl x; node = inl (node_of_expression at x); expression = high_expression at x; statements = high_statements other y }

  pub deep_first : (at : Span) → IsDeepAt at (as_expression tokens) → (m : ℕ) → IsStuck tokens (as_statements tokens) m → TooDeep tokens at
  deep_first at x m y = record { passes = inl x; node = inl (node_of_expression at x); expression = high_expression at x; statements = λ b d. absurd (stuck_statements m y b d) }

  pub deep_second : (k : ℕ) → IsStuck tokens (as_expression tokens) k → (at : Span) → IsDeepAt at (as_statements tokens) → TooDeep tokens at
  deep_second k x at y = record { passes = inr y; node = inr (node_of_statements at y); expression = λ a d. absurd (stuck_expression k x a d); statements = high_statements at y }

  -- ---- as the code reads them

  pub whole_expression : (bounds : Bounds) (a : ExprTree) (at : ℕ) → bounds ≡ line_bounds tokens → part_of tokens bounds part.Expression (text_of tokens) 0 ≡ Found a at → length tokens ≤ at → as_expression tokens ≡ Found a (length tokens)
  whole_expression bounds a at is e le =
      let w : as_expression tokens ≡ Found a at = subst (λ (b : Bounds). part_of tokens b part.Expression (text_of tokens) 0 ≡ Found a at) is e in
      let end : at ≡ length tokens = (let h = within_all a at w in omega arith) in
      w ∙ ap (Found a) end

  pub whole_statements : (b : List StmtTree) (at : ℕ) → as_statements tokens ≡ Found b at → length tokens ≤ at → as_statements tokens ≡ Found b (length tokens)
  whole_statements b at e le = let end : at ≡ length tokens = (let w = statements_all b at e in omega arith) in e ∙ ap (Found b) end

  -- ---- a line has one tree

  expression_found : (a : ExprTree) → IsShallow tokens a → as_expression tokens ≡ Found a (length tokens)
  expression_found a d = whole.found _ ExprRel (Follows part.Expression) IsDeepIn tokens expr_laws expr_end a d.0 (deep_no a d.1)

  statements_found : (b : List StmtTree) → AreStatements tokens tokens b → line_height b ≤ most_nodes → as_statements tokens ≡ Found b (length tokens)
  statements_found b d low = whole.found _ StmtsRel AtEnd IsDeepAmong tokens stmts_laws stmts_end b d (deep_none b low)

  pub one_line : (a b : LineTree) → IsLine tokens a → IsLine tokens b → a ≡ b
  one_line (lines.Expr x) (lines.Expr y) d e = ap lines.Expr (whole.one_tree _ ExprRel (Follows part.Expression) IsDeepIn tokens expr_laws expr_end x y (expression_found x d) (expression_found y e))
  one_line (lines.Expr x) (lines.Stmts y) d e = absurd (e.2 x d)
  one_line (lines.Stmts x) (lines.Expr y) d e = absurd (d.2 y e)
  one_line (lines.Stmts x) (lines.Stmts y) d e = ap lines.Stmts (whole.one_tree _ StmtsRel AtEnd IsDeepAmong tokens stmts_laws stmts_end x y (statements_found x d.0 d.1) (statements_found y e.0 e.1))
