-- Expressions that are statements, and the words and signs that a statement is told by.
use Rattle.std.proofs.Common.{◌≡◌, ◌⊎◌, inl, inr, true, refl, sym, ap, ◌∙◌}
use Rattle.bj_expr_tree.specs.declared.expr.ExprTree.{ExprTree, ExprTree-F, roll-ExprTree, ind-ExprTree}
use Rattle.bj_expr_tree.specs.declared.expr.ExprTree.TheVariants as e
use Rattle.bj_expr_tree.specs.declared.expr.ExprTree.TheFolds.{fold-roll-ExprTree}
use Rattle.bj_grammar.specs.declared.terminal.Terminal.{Terminal}
use Rattle.bj_grammar.specs.declared.terminal.Terminal.TheVariants as t
use Rattle.bj_expr.proofs.Facts.{each}
use Rattle.bj_grammar.specs.Terminal.{among}
use Rattle.bj_stmt.specs.Grammar.{is_statement, jumps}
use Rattle.bj_print.specs.Same.{unplaced_expr_form, unplaced_expr, SameExpr}

-- ---- whether an expression is a statement does not depend on places

form_steady : (y : ExprTree-F ExprTree) → is_statement (unplaced_expr (roll-ExprTree y)) ≡ is_statement (roll-ExprTree y)
unfolding unplaced_expr
form_steady (ExprTree-F.Literal at kind text) = ap is_statement (fold-roll-ExprTree ExprTree unplaced_expr_form (ExprTree-F.Literal at kind text)) ∙ ap is_statement (sym (e.rolls-Literal at kind text))
form_steady (ExprTree-F.This at) = ap is_statement (fold-roll-ExprTree ExprTree unplaced_expr_form (ExprTree-F.This at)) ∙ ap is_statement (sym (e.rolls-This at))
form_steady (ExprTree-F.Paren at inner) = ap is_statement (fold-roll-ExprTree ExprTree unplaced_expr_form (ExprTree-F.Paren at inner)) ∙ ap is_statement (sym (e.rolls-Paren at inner))
form_steady (ExprTree-F.Name at name) = ap is_statement (fold-roll-ExprTree ExprTree unplaced_expr_form (ExprTree-F.Name at name)) ∙ ap is_statement (sym (e.rolls-Name at name))
form_steady (ExprTree-F.Field at target name) = ap is_statement (fold-roll-ExprTree ExprTree unplaced_expr_form (ExprTree-F.Field at target name)) ∙ ap is_statement (sym (e.rolls-Field at target name))
form_steady (ExprTree-F.SuperField at name) = ap is_statement (fold-roll-ExprTree ExprTree unplaced_expr_form (ExprTree-F.SuperField at name)) ∙ ap is_statement (sym (e.rolls-SuperField at name))
form_steady (ExprTree-F.Call at name args) = ap is_statement (fold-roll-ExprTree ExprTree unplaced_expr_form (ExprTree-F.Call at name args)) ∙ ap is_statement (sym (e.rolls-Call at name args))
form_steady (ExprTree-F.MethodCall at target name args) = ap is_statement (fold-roll-ExprTree ExprTree unplaced_expr_form (ExprTree-F.MethodCall at target name args))
    ∙ ap is_statement (sym (e.rolls-MethodCall at target name args))
form_steady (ExprTree-F.SuperCall at name args) = ap is_statement (fold-roll-ExprTree ExprTree unplaced_expr_form (ExprTree-F.SuperCall at name args)) ∙ ap is_statement (sym (e.rolls-SuperCall at name args))
form_steady (ExprTree-F.Index at array index) = ap is_statement (fold-roll-ExprTree ExprTree unplaced_expr_form (ExprTree-F.Index at array index)) ∙ ap is_statement (sym (e.rolls-Index at array index))
form_steady (ExprTree-F.New at class args) = ap is_statement (fold-roll-ExprTree ExprTree unplaced_expr_form (ExprTree-F.New at class args)) ∙ ap is_statement (sym (e.rolls-New at class args))
form_steady (ExprTree-F.NewArray at holds sizes dims) = ap is_statement (fold-roll-ExprTree ExprTree unplaced_expr_form (ExprTree-F.NewArray at holds sizes dims))
    ∙ ap is_statement (sym (e.rolls-NewArray at holds sizes dims))
form_steady (ExprTree-F.NewValues at holds values) = ap is_statement (fold-roll-ExprTree ExprTree unplaced_expr_form (ExprTree-F.NewValues at holds values))
    ∙ ap is_statement (sym (e.rolls-NewValues at holds values))
form_steady (ExprTree-F.Braces at values) = ap is_statement (fold-roll-ExprTree ExprTree unplaced_expr_form (ExprTree-F.Braces at values)) ∙ ap is_statement (sym (e.rolls-Braces at values))
form_steady (ExprTree-F.Postfix at op operand) = ap is_statement (fold-roll-ExprTree ExprTree unplaced_expr_form (ExprTree-F.Postfix at op operand)) ∙ ap is_statement (sym (e.rolls-Postfix at op operand))
form_steady (ExprTree-F.Prefix at op operand) = ap is_statement (fold-roll-ExprTree ExprTree unplaced_expr_form (ExprTree-F.Prefix at op operand)) ∙ ap is_statement (sym (e.rolls-Prefix at op operand))
form_steady (ExprTree-F.Unary at op operand) = ap is_statement (fold-roll-ExprTree ExprTree unplaced_expr_form (ExprTree-F.Unary at op operand)) ∙ ap is_statement (sym (e.rolls-Unary at op operand))
form_steady (ExprTree-F.Cast at to operand) = ap is_statement (fold-roll-ExprTree ExprTree unplaced_expr_form (ExprTree-F.Cast at to operand)) ∙ ap is_statement (sym (e.rolls-Cast at to operand))
form_steady (ExprTree-F.Binary at op left right) = ap is_statement (fold-roll-ExprTree ExprTree unplaced_expr_form (ExprTree-F.Binary at op left right)) ∙ ap is_statement (sym (e.rolls-Binary at op left right))
form_steady (ExprTree-F.InstanceOf at value holds) = ap is_statement (fold-roll-ExprTree ExprTree unplaced_expr_form (ExprTree-F.InstanceOf at value holds))
    ∙ ap is_statement (sym (e.rolls-InstanceOf at value holds))
form_steady (ExprTree-F.Conditional at test chosen other) = ap is_statement (fold-roll-ExprTree ExprTree unplaced_expr_form (ExprTree-F.Conditional at test chosen other))
    ∙ ap is_statement (sym (e.rolls-Conditional at test chosen other))
form_steady (ExprTree-F.Assign at op target value) = ap is_statement (fold-roll-ExprTree ExprTree unplaced_expr_form (ExprTree-F.Assign at op target value))
    ∙ ap is_statement (sym (e.rolls-Assign at op target value))

statement_steady : (x : ExprTree) → is_statement (unplaced_expr x) ≡ is_statement x
statement_steady = ind-ExprTree (λ (x : ExprTree). is_statement (unplaced_expr x) ≡ is_statement x) (λ x y is. form_steady x)

pub same_is_statement : (x y : ExprTree) → SameExpr x y → is_statement x ≡ is_statement y
same_is_statement x y h = sym (statement_steady x) ∙ ap is_statement h ∙ statement_steady y

abbrev IsJump : Terminal → Type 0
IsJump x = (x ≡ t.Break) ⊎ (x ≡ t.Continue)

pub is_jump : (x : Terminal) → among jumps x ≡ true → IsJump x
is_jump = each IsJump jumps (inl refl, (inr refl, tt))
