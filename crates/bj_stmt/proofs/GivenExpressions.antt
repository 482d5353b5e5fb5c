-- The readers of types and expressions keep what the laws of statements ask of them.
use Rattle.std.proofs.Common.{◌≡◌, ℕ, ◌<◌, true, ◌∷◌, refl}
use Rattle.bj_base.specs.declared.span.Span.{Span}
use Rattle.bj_expr_tree.specs.declared.expr.ExprTree.{ExprTree}
use Rattle.bj_grammar.specs.declared.terminal.Terminal.{Terminal}
use Rattle.bj_grammar.specs.declared.terminal.Terminal.TheVariants as t
use Rattle.bj_grammar.specs.Terminal.{terminal, same_terminal, among}
use Rattle.bj_grammar.specs.Reader.{Text}
use Rattle.bj_expr.specs.declared.part.Part.{Part}
use Rattle.bj_expr.specs.declared.part.Part.TheVariants as part
use Rattle.bj_expr.specs.Reading.{bounds_of}
use Rattle.bj_expr.specs.Within.{Stands}
use Rattle.bj_expr.proofs.ExprShape as shape
use Rattle.bj_expr.proofs.Facts.{begins_unary, closers, plain_unary}
use Rattle.bj_expr.proofs.Begins.{expression_begins, conditional_begins, level_begins, unary_begins, plain_begins, initializer_begins, begins_initializer}
use Rattle.bj_expr.proofs.TypeLaws.{type_laws, dims_laws}
use Rattle.bj_expr.proofs.WithinLaws.{Follows, closer_follows, assign_follows, within_laws}
use Rattle.bj_stmt.proofs.Expressions.{Given, enders, expression_words, beginners}
use Rattle.bj_stmt.proofs.Leftmost.{each}

ender_closes : (k : Terminal) → among enders k ≡ true → among closers k ≡ true
unfolding same_terminal
ender_closes = each (λ x. among closers x ≡ true) enders (refl, (refl, (refl, (refl, (refl, (refl, (refl, tt)))))))

unary_word : (k : Terminal) → among begins_unary k ≡ true → among expression_words k ≡ true
unfolding same_terminal
unary_word = each (λ x. among expression_words x ≡ true) begins_unary (refl, (refl, (refl, (refl, (refl, (refl, (refl, (refl, (refl, (refl, (refl, (refl, (refl, (refl, (refl, (refl, (refl, (refl, tt))))))))))))))))))

initializer_word : (k : Terminal) → among begins_initializer k ≡ true → among (t.LeftBrace ∷ expression_words) k ≡ true
unfolding same_terminal
initializer_word = each (λ x. among (t.LeftBrace ∷ expression_words) x ≡ true) begins_initializer (refl, (refl, (refl, (refl, (refl, (refl, (refl, (refl, (refl, (refl, (refl, (refl, (refl, (refl, (refl, (refl, (refl, (refl, (refl, tt)))))))))))))))))))

module _ (place : ℕ → Span) where
  part_forward : (x : Part) (s : Text) (a : ExprTree) (i j : ℕ) → Stands x place s a i j → i < j
  part_forward part.Expression s a i j d = shape.expression_forward place s d
  part_forward part.Conditional s a i j d = shape.conditional_forward place s d
  part_forward (part.Operand h) s a i j d = shape.level_forward place s d
  part_forward part.Unary s a i j d = shape.unary_forward place s d
  part_forward part.Plain s a i j d = shape.plain_forward place s d
  part_forward part.Initializer s a i j d = shape.initializer_forward place s d

  part_frame : (x : Part) (s u : Text) (a : ExprTree) (i j : ℕ) → ((z : ℕ) → z < j → u z ≡ s z) → Stands x place s a i j → Stands x place u a i j
  part_frame part.Expression s u a i j e d = shape.expression_frame place s u e d
  part_frame part.Conditional s u a i j e d = shape.conditional_frame place s u e d
  part_frame (part.Operand h) s u a i j e d = shape.level_frame place s u e d
  part_frame part.Unary s u a i j e d = shape.unary_frame place s u e d
  part_frame part.Plain s u a i j e d = shape.plain_frame place s u e d
  part_frame part.Initializer s u a i j e d = shape.initializer_frame place s u e d

  part_word : (x : Part) (s : Text) (a : ExprTree) (i j : ℕ) → Stands x place s a i j → among (beginners x) (terminal (s i)) ≡ true
  part_word part.Expression s a i j d = unary_word (terminal (s i)) (expression_begins place s d)
  part_word part.Conditional s a i j d = unary_word (terminal (s i)) (conditional_begins place s d)
  part_word (part.Operand h) s a i j d = unary_word (terminal (s i)) (level_begins place s d)
  part_word part.Unary s a i j d = unary_word (terminal (s i)) (unary_begins place s d)
  part_word part.Plain s a i j d = unary_word (terminal (s i)) (plain_unary (terminal (s i)) (plain_begins place s d))
  part_word part.Initializer s a i j d = initializer_word (terminal (s i)) (initializer_begins place s d)

  pub given : (most : ℕ) → Given place most
  given most = record {
    part_forward = part_forward;
    part_frame = part_frame;
    type_forward = λ s a i j d. shape.type_forward place s d;
    type_frame = λ s u a i j e d. shape.type_frame place s u e d;
    dims_forward = λ s a i j d. shape.dims_forward s d;
    dims_frame = λ s u a i j e d. shape.dims_frame s u e d;
    After = Follows;
    part_laws = λ room x. within_laws place (bounds_of most room) x;
    ends = λ x a k e. closer_follows x a k (ender_closes k e);
    before_assign = assign_follows;
    begins = part_word;
    type_laws = type_laws place most;
    dims_laws = dims_laws place most;
  }
