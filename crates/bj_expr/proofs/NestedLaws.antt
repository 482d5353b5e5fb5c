-- The readers of the parts, at every depth.
use Rattle.std.proofs.Common.{◌≡◌, ℕ, zero, suc, inl, refl, ap, ◌∙◌, arith}
use Rattle.bj_base.specs.declared.span.Span.{Span}
use Rattle.bj_expr_tree.specs.declared.expr.ExprTree.{ExprTree}
use Rattle.bj_expr_tree.specs.declared.expr.ExprTree.TheVariants as tree
use Rattle.bj_expr.specs.declared.bounds.Bounds.{Bounds}
use Rattle.bj_expr.specs.declared.part.Part.{Part}
use Rattle.bj_expr.specs.declared.part.Part.TheVariants as part
use Rattle.bj_grammar.specs.declared.terminal.Terminal.TheVariants as t
use Rattle.bj_grammar.specs.Terminal.{terminal}
use Rattle.bj_grammar.specs.Reader.{Text, Parser}
use Rattle.bj_expr.specs.Grammar as g
use Rattle.bj_expr.specs.Grammar.{Level, Unary}
use Rattle.bj_expr.specs.Reading as r
use Rattle.bj_grammar.proofs.Terminals.{make, made}
use Rattle.bj_grammar.proofs.Laws.{Rel, Shape, Completes, Laws, over_laws, put, put_here, put_before}
use Rattle.bj_expr.proofs.ExprShape.{expression_forward, expression_frame, conditional_forward, conditional_frame, level_forward, level_frame, unary_forward, unary_frame, plain_forward, plain_frame, initializer_forward, initializer_frame}
use Rattle.bj_expr.proofs.LawLemmas.{Tall, PartRel, AfterPart}
use Rattle.bj_expr.proofs.SomeNode.{root_at}
use Rattle.bj_expr.proofs.UnaryFacts.{unary_conditional, name_unary, name_expression}
use Rattle.bj_expr.proofs.UnaryLaws.{unary_laws, plain_laws}
use Rattle.bj_expr.proofs.LevelLaws.{level_laws}
use Rattle.bj_expr.proofs.ExpressionLaws.{conditional_laws, expression_laws, initializer_laws}

module _ (place : ℕ → Span) (bounds : Bounds) (n : ℕ) (small : n ≡ suc bounds.room) (nested : Part → Parser ExprTree)
    (u : (x : Part) → Laws bounds.most (nested x) (PartRel place x) (AfterPart x) (Tall n)) where
  pub rule_laws : (x : Part) → Laws bounds.most (r.rule place bounds nested x) (PartRel place x) (AfterPart x) (Tall (suc n))
  unfolding r.rule
  rule_laws part.Expression = expression_laws place bounds n small nested u
  rule_laws part.Conditional = conditional_laws place bounds n small nested u
  rule_laws (part.Operand h) = level_laws place bounds n small nested u h
  rule_laws part.Unary = unary_laws place bounds n small nested u
  rule_laws part.Plain = plain_laws place bounds n small nested u
  rule_laws part.Initializer = initializer_laws place bounds n small nested u

-- ---- every depth

module _ (place : ℕ → Span) where
  name_some : (s : Text) (i : ℕ) → terminal (put s i (make t.Word) i) ≡ t.Word
  name_some s i = ap terminal (put_here s i (make t.Word)) ∙ made t.Word refl

  unary_at : (s : Text) (i : ℕ) → Unary place (put s i (make t.Word)) (tree.Name (place i) (put s i (make t.Word) i).text) i (suc i)
  unary_at s i = name_unary place (put s i (make t.Word)) i (name_some s i)

  ranked_at : (h : ℕ) (s : Text) {a : ExprTree} {i j : ℕ} → Unary place s a i j → Level place s h a i j
  ranked_at zero s d = g.unary d
  ranked_at (suc h) s d = g.tighter (ranked_at h s d)

  named : (D : Rel ExprTree) (s : Text) (i : ℕ) → D (put s i (make t.Word)) (tree.Name (place i) (put s i (make t.Word) i).text) i (suc i) → Completes D s i i
  named D s i d = record { text = put s i (make t.Word); tree = tree.Name (place i) (put s i (make t.Word) i).text; after = suc i; same = λ x h. put_before s i (make t.Word) x h; beyond = omega arith; stands = d }

  part_shape : (x : Part) → Shape (PartRel place x)
  part_shape part.Expression = record {
    forward = λ s a i j d. let h = expression_forward place s d in omega arith;
    frame = λ s v a i j e d. expression_frame place s v e d;
    some = λ s i. named (PartRel place part.Expression) s i (name_expression place (put s i (make t.Word)) i (name_some s i));
  }
  part_shape part.Conditional = record {
    forward = λ s a i j d. let h = conditional_forward place s d in omega arith;
    frame = λ s v a i j e d. conditional_frame place s v e d;
    some = λ s i. named (PartRel place part.Conditional) s i (unary_conditional place (put s i (make t.Word)) (unary_at s i));
  }
  part_shape (part.Operand h) = record {
    forward = λ s a i j d. let k = level_forward place s d in omega arith;
    frame = λ s v a i j e d. level_frame place s v e d;
    some = λ s i. named (PartRel place (part.Operand h)) s i (ranked_at h (put s i (make t.Word)) (unary_at s i));
  }
  part_shape part.Unary = record {
    forward = λ s a i j d. let h = unary_forward place s d in omega arith;
    frame = λ s v a i j e d. unary_frame place s v e d;
    some = λ s i. named (PartRel place part.Unary) s i (unary_at s i);
  }
  part_shape part.Plain = record {
    forward = λ s a i j d. let h = plain_forward place s d in omega arith;
    frame = λ s v a i j e d. plain_frame place s v e d;
    some = λ s i. named (PartRel place part.Plain) s i (g.postfix (g.selected (g.primary (g.name (name_some s i) refl refl))));
  }
  part_shape part.Initializer = record {
    forward = λ s a i j d. let h = initializer_forward place s d in omega arith;
    frame = λ s v a i j e d. initializer_frame place s v e d;
    some = λ s i. named (PartRel place part.Initializer) s i (g.expression (name_expression place (put s i (make t.Word)) i (name_some s i)));
  }

  -- What is not read has more nodes than there is room for on the way from its root to a node of it.
  pub nested_laws : (most room : ℕ) (x : Part) → Laws most (r.nested place most room x) (PartRel place x) (AfterPart x) (Tall (suc room))
  unfolding r.nested
  nested_laws most zero x = over_laws most place (PartRel place x) (AfterPart x) (Tall 1) (part_shape x) (λ s a i j d. inl (root_at place x s a i j d))
  nested_laws most (suc room) x = rule_laws place (r.bounds_of most room) (suc room) refl (r.nested place most room) (λ y. nested_laws most room y) x
