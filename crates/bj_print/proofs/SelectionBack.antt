-- Printed selections and steps behind a variable are read again [JLS 15.11, 15.12, 15.14].
use Rattle.std.proofs.Common.{◌≡◌, ℕ, suc, true, false, List, refl, ap, ◌∙◌}
use Rattle.std.specs.Prelude.{codes}
use Rattle.bj_base.specs.declared.span.Span.{Span}
use Rattle.bj_token.specs.declared.token.TokenKind.TheVariants as kinds
use Rattle.bj_expr_tree.specs.declared.expr.ExprTree.{ExprTree}
use Rattle.bj_expr_tree.specs.declared.expr.ExprTree.TheVariants as e
use Rattle.bj_grammar.specs.declared.terminal.Terminal.{Terminal}
use Rattle.bj_grammar.specs.Terminal.{terminal, among}
use Rattle.bj_grammar.specs.Reader.{Text}
use Rattle.bj_expr.specs.Grammar as g
use Rattle.bj_expr.specs.Grammar.{step_ops, step_op, is_new_array, Expression, Postfix, Selected, Args}
use Rattle.bj_print.proofs.Holds.{text_is}
use Rattle.bj_layout.specs.Exprs.{expr_pieces}
use Rattle.bj_print.proofs.ExprLaws.{list_pieces}
use Rattle.bj_layout.proofs.ExprPieces as forms
use Rattle.bj_print.proofs.ExprTokens.{worded, signed}
use Rattle.bj_print.proofs.ExprSame.{same_field, same_method_call, same_index, same_postfix}
use Rattle.bj_print.proofs.PrintedOperators.{step_text, step_printed, among_again}
use Rattle.bj_print.proofs.NewArrays.{same_is_new_array}
use Rattle.bj_print.proofs.Again.{reads_mark, reads_last, reads_as, reprinted, reads_parts}
use Rattle.bj_print.proofs.Found.{Found, FoundAll, of_tree}

module _ (other : ℕ → Span) (t : Text) where
  pub field_found : {a x : ExprTree} {at : Span} {v : List ℕ} → Found t (Selected other t) x → a ≡ e.Field at x v → Found t (Selected other t) a
  field_found {x = x} {at = at} {v = v} d is = of_tree is (reprinted (forms.field_pieces at x v) (reads_as (reads_parts (expr_pieces x) _ d (reads_mark (signed (codes ".")) (reads_last (worded v)))) (λ k j f.
      let m = f.middle in
      record {
        tree = e.Field (other k) f.first.tree (t (suc m)).text;
        stands = g.field f.first.stands f.second.is f.second.rest.is refl f.second.rest.rest;
        same = same_field (other k) at f.first.tree x (t (suc m)).text v f.first.same (text_is (t (suc m)) kinds.Word v f.second.rest.token);
      })))

  pub method_call_found : {a x : ExprTree} {args : List ExprTree} {at : Span} {v : List ℕ} → Found t (Selected other t) x → FoundAll t (Args other t) args → a ≡ e.MethodCall at x v args → Found t (Selected other t) a
  method_call_found {x = x} {args = args} {at = at} {v = v} d all is = of_tree is (reprinted (forms.method_call_pieces at x v args)
      (reads_as (reads_parts (expr_pieces x) _ d (reads_mark (signed (codes ".")) (reads_mark (worded v) (reads_mark (signed (codes "(")) (reads_parts (list_pieces args) _ all (reads_last (signed (codes ")")))))))) (λ k j f.
      let m = f.middle in
      let behind = f.second.rest.rest.rest in
      record {
        tree = e.MethodCall (other k) f.first.tree (t (suc m)).text behind.first.tree;
        stands = g.method_call f.first.stands f.second.is f.second.rest.is
            f.second.rest.rest.is behind.first.stands behind.second.is refl behind.second.rest;
        same = same_method_call (other k) at f.first.tree x (t (suc m)).text v behind.first.tree args f.first.same (text_is (t (suc m)) kinds.Word v f.second.rest.token) behind.first.same;
      })))

  pub index_found : {a x y : ExprTree} {at : Span} → Found t (Selected other t) x → is_new_array x ≡ false → Found t (Expression other t) y → a ≡ e.Index at x y → Found t (Selected other t) a
  index_found {x = x} {y = y} {at = at} d none d2 is = of_tree is (reprinted (forms.index_pieces at x y) (reads_as (reads_parts (expr_pieces x) _ d (reads_mark (signed (codes "[")) (reads_parts (expr_pieces y) _ d2 (reads_last (signed (codes "]")))))) (λ k j f.
      let behind = f.second.rest in
      record {
        tree = e.Index (other k) f.first.tree behind.first.tree;
        stands = g.index f.first.stands (same_is_new_array f.first.tree x f.first.same ∙ none) f.second.is behind.first.stands
            behind.second.is refl behind.second.rest;
        same = same_index (other k) at f.first.tree x behind.first.tree y f.first.same behind.first.same;
      })))

  pub step_found : {a x : ExprTree} {at : Span} (v : Terminal) → Found t (Postfix other t) x → among step_ops v ≡ true → a ≡ e.Postfix at (step_op v) x → Found t (Postfix other t) a
  step_found {x = x} {at = at} v d o is = of_tree is (reprinted (forms.postfix_pieces at (step_op v) x) (reads_as (reads_parts (expr_pieces x) _ d (reads_last (signed (step_text v)))) (λ k j f.
      let m = f.middle in
      let w = f.second.is ∙ step_printed v o in
      record {
        tree = e.Postfix (other k) (step_op (terminal (t m))) f.first.tree;
        stands = g.step f.first.stands (among_again step_ops v (terminal (t m)) w o) refl f.second.rest;
        same = same_postfix (other k) at (step_op (terminal (t m))) (step_op v) f.first.tree x (ap step_op w) f.first.same;
      })))
