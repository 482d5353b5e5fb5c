-- Printed operators between operands are read again [JLS 15.17 to 15.26].
use Rattle.std.proofs.Common.{◌≡◌, ℕ, suc, true, refl, ap, ◌∙◌}
use Rattle.std.specs.Prelude.{codes}
use Rattle.bj_base.specs.declared.span.Span.{Span}
use Rattle.bj_expr_tree.specs.declared.types.TypeTree.{TypeTree}
use Rattle.bj_expr_tree.specs.declared.expr.ExprTree.{ExprTree}
use Rattle.bj_expr_tree.specs.declared.expr.ExprTree.TheVariants as e
use Rattle.bj_grammar.specs.declared.terminal.Terminal.{Terminal}
use Rattle.bj_grammar.specs.Terminal.{terminal, among}
use Rattle.bj_grammar.specs.Reader.{Text}
use Rattle.bj_expr.specs.Grammar as g
use Rattle.bj_expr.specs.Grammar.{ops, ranks, is_relational, binary_op, assigns, assign_op, Expression, Conditional, Level, Unary}
use Rattle.bj_layout.specs.Exprs.{expr_pieces}
use Rattle.bj_layout.proofs.ExprPieces as forms
use Rattle.bj_print.proofs.ExprTokens.{keyed, signed}
use Rattle.bj_print.proofs.ExprSame.{same_binary, same_instance_of, same_conditional, same_assign}
use Rattle.bj_print.proofs.PrintedOperators.{binary_text, binary_printed, assign_text, assign_printed, among_again}
use Rattle.bj_print.proofs.Again.{reads_mark, reads_as, reprinted, reads_parts}
use Rattle.bj_print.proofs.Found.{Found, of_tree, FoundType}

module _ (other : ℕ → Span) (t : Text) where
  pub binary_found : {h : ℕ} {a l r : ExprTree} {at : Span} (v : Terminal) → Found t (Level other t (suc h)) l → among (ops h) v ≡ true → Found t (Level other t h) r
      → a ≡ e.Binary at (binary_op v) l r → Found t (Level other t (suc h)) a
  binary_found {h} {l = l} {r = r} {at = at} v dl o dr is = of_tree is (reprinted (forms.binary_pieces at (binary_op v) l r) (reads_as (reads_parts (expr_pieces l) _ dl (reads_mark (signed (binary_text v)) dr)) (λ k j f.
      let m = f.middle in
      let right = f.second.rest in
      let w = f.second.is ∙ binary_printed h v o in
      record {
        tree = e.Binary (other k) (binary_op (terminal (t m))) f.first.tree right.tree;
        stands = g.binary f.first.stands (among_again (ops h) v (terminal (t m)) w o) right.stands refl;
        same = same_binary (other k) at (binary_op (terminal (t m))) (binary_op v) f.first.tree l right.tree r (ap binary_op w) f.first.same right.same;
      })))

  pub instance_found : {h : ℕ} {a l : ExprTree} {ty : TypeTree} {at : Span} → Found t (Level other t (suc h)) l → is_relational h ≡ true → FoundType other t ty
      → a ≡ e.InstanceOf at l ty → Found t (Level other t (suc h)) a
  instance_found {l = l} {ty = ty} {at = at} dl o c is = of_tree is (reprinted (forms.instance_of_pieces at l ty) (reads_as (reads_parts (expr_pieces l) _ dl (reads_mark (keyed (codes "instanceof")) c)) (λ k j f.
      let right = f.second.rest in
      record {
        tree = e.InstanceOf (other k) f.first.tree right.tree;
        stands = g.instance f.first.stands o f.second.is right.stands refl;
        same = same_instance_of (other k) at f.first.tree l right.tree ty f.first.same right.same;
      })))

  pub conditional_found : {a x y z : ExprTree} {at : Span} → Found t (Level other t ranks) x → Found t (Expression other t) y → Found t (Conditional other t) z
      → a ≡ e.Conditional at x y z → Found t (Conditional other t) a
  conditional_found {x = x} {y = y} {z = z} {at = at} dx dy dz is = of_tree is (reprinted (forms.conditional_pieces at x y z)
      (reads_as (reads_parts (expr_pieces x) _ dx (reads_mark (signed (codes "?")) (reads_parts (expr_pieces y) _ dy (reads_mark (signed (codes ":")) dz)))) (λ k j f.
      let chosen = f.second.rest.first in
      let last = f.second.rest.second in
      record {
        tree = e.Conditional (other k) f.first.tree chosen.tree last.rest.tree;
        stands = g.conditional f.first.stands f.second.is chosen.stands
            last.is last.rest.stands refl;
        same = same_conditional (other k) at f.first.tree x chosen.tree y last.rest.tree z f.first.same chosen.same last.rest.same;
      })))

  pub assign_found : {a l r : ExprTree} {at : Span} (v : Terminal) → Found t (Unary other t) l → among assigns v ≡ true → Found t (Expression other t) r
      → a ≡ e.Assign at (assign_op v) l r → Found t (Expression other t) a
  assign_found {l = l} {r = r} {at = at} v dl o dr is = of_tree is (reprinted (forms.assign_pieces at (assign_op v) l r) (reads_as (reads_parts (expr_pieces l) _ dl (reads_mark (signed (assign_text v)) dr)) (λ k j f.
      let m = f.middle in
      let right = f.second.rest in
      let w = f.second.is ∙ assign_printed v o in
      record {
        tree = e.Assign (other k) (assign_op (terminal (t m))) f.first.tree right.tree;
        stands = g.assign f.first.stands (among_again assigns v (terminal (t m)) w o) right.stands refl;
        same = same_assign (other k) at (assign_op (terminal (t m))) (assign_op v) f.first.tree l right.tree r (ap assign_op w) f.first.same right.same;
      })))
