-- The parts as the layers above read them, and what may follow each.
use Rattle.std.proofs.Common.{◌≡◌, ℕ, suc, true}
use Rattle.bj_base.specs.declared.span.Span.{Span}
use Rattle.bj_expr_tree.specs.declared.expr.ExprTree.{ExprTree}
use Rattle.bj_expr.specs.declared.bounds.Bounds.{Bounds}
use Rattle.bj_expr.specs.declared.part.Part.{Part}
use Rattle.bj_expr.specs.declared.part.Part.TheVariants as part
use Rattle.bj_grammar.specs.declared.terminal.Terminal.{Terminal}
use Rattle.bj_grammar.specs.Terminal.{terminal, among}
use Rattle.bj_grammar.specs.Reader.{Text}
use Rattle.bj_expr.specs.Grammar.{assigns}
use Rattle.bj_expr.specs.Nodes.{HasNode}
use Rattle.bj_expr.specs.Reading.{nested}
use Rattle.bj_expr.specs.Within.{Stands}
use Rattle.bj_grammar.proofs.Laws.{Laws}
use Rattle.bj_expr.proofs.Facts.{closers, closes, unary_closes, level_closes, conditional_closes, assign_after_unary}
use Rattle.bj_expr.proofs.Begins.{expression_begins, conditional_begins, level_begins, unary_begins, plain_begins, initializer_begins, begins_initializer}
use Rattle.bj_expr.proofs.Facts.{or_right, plain_unary}
use Rattle.bj_expr.proofs.LawLemmas.{AfterPart}
use Rattle.bj_expr.proofs.NestedLaws.{nested_laws}

-- What may follow a part: whatever does not go on with it, and does not begin the operand of a cast to the name in parentheses that the
-- part may be. Behind a unary expression this is also each operator between operands, and of assignment.
abbrev pub Follows : Part → ExprTree → Terminal → Type 0
Follows x = AfterPart x

-- `)`, `]`, `}`, `,`, `:`, `;` and the end of the text may follow each part
pub closer_follows : (x : Part) (a : ExprTree) (k : Terminal) → among closers k ≡ true → Follows x a k
closer_follows part.Expression a k e = closes k e
closer_follows part.Conditional a k e = conditional_closes k e
closer_follows (part.Operand h) a k e = level_closes h k e
closer_follows part.Unary a k e = unary_closes k e
closer_follows part.Plain a k e = unary_closes k e
closer_follows part.Initializer a k e = closes k e

-- an operator of assignment may follow a unary expression
pub assign_follows : (a : ExprTree) (k : Terminal) → among assigns k ≡ true → Follows part.Unary a k
assign_follows a k e = assign_after_unary k e

module _ (place : ℕ → Span) where
  -- the tokens with which a part may begin
  pub part_begins : (x : Part) (s : Text) (a : ExprTree) (i j : ℕ) → Stands x place s a i j → among begins_initializer (terminal (s i)) ≡ true
  part_begins part.Expression s a i j d = or_right _ _ (expression_begins place s d)
  part_begins part.Conditional s a i j d = or_right _ _ (conditional_begins place s d)
  part_begins (part.Operand h) s a i j d = or_right _ _ (level_begins place s d)
  part_begins part.Unary s a i j d = or_right _ _ (unary_begins place s d)
  part_begins part.Plain s a i j d = or_right _ _ (plain_unary _ (plain_begins place s d))
  part_begins part.Initializer s a i j d = initializer_begins place s d

  -- What stands and is not read has more nodes than there is room for on the way from its root to a node of it.
  pub within_laws : (bounds : Bounds) (x : Part) → Laws bounds.most (nested place bounds.most bounds.room x) (λ s a i j. Stands x place s a i j) (Follows x) (HasNode (suc bounds.room))
  within_laws bounds x = nested_laws place bounds.most bounds.room x
