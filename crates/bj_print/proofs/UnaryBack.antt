-- Printed unary expressions and casts are read again [JLS 15.15, 15.16].
use Rattle.std.proofs.Common.{◌≡◌, ℕ, suc, true, false, List, ◌∷◌, refl, ap, ◌∙◌}
use Rattle.std.specs.Prelude.{codes}
use Rattle.bj_base.specs.declared.span.Span.{Span}
use Rattle.bj_token.specs.declared.token.Token.{Token}
use Rattle.bj_lex.specs.Grammar.{Spelled}
use Rattle.bj_expr_tree.specs.declared.types.TypeTree.{TypeTree}
use Rattle.bj_expr_tree.specs.declared.expr.UnaryOp.TheVariants as unaries
use Rattle.bj_expr_tree.specs.declared.expr.ExprTree.{ExprTree}
use Rattle.bj_expr_tree.specs.declared.expr.ExprTree.TheVariants as e
use Rattle.bj_grammar.specs.declared.terminal.Terminal.{Terminal}
use Rattle.bj_grammar.specs.Terminal.{terminal, among}
use Rattle.bj_grammar.specs.Reader.{Text}
use Rattle.bj_expr.specs.Grammar as g
use Rattle.bj_expr.specs.Grammar.{negations, negation_op, step_ops, step_op, leasts, literal_kind, is_primitive, TypeAt, Unary, Plain}
use Rattle.bj_layout.specs.Exprs.{literal_token, sign}
use Rattle.bj_print.proofs.Holds.{text_is}
use Rattle.bj_print.proofs.ExprLaws.{SameType}
use Rattle.bj_writer.specs.Pieces.{Piece}
use Rattle.bj_layout.proofs.ExprPieces as forms
use Rattle.bj_print.proofs.ExprTokens.{signed, cast_tokens}
use Rattle.bj_print.proofs.ExprSame.{same_unary, same_prefix, same_cast, same_literal}
use Rattle.bj_print.proofs.PrintedOperators.{step_text, step_printed, negation_text, negation_printed, among_again, literal_again, least_is_literal}
use Rattle.bj_print.proofs.Again.{reads_mark, reads_last, reads_then, reads_as, respelled, reprinted}
use Rattle.bj_print.proofs.Found.{Found, FoundType, of_tree}

-- whether a sign may stand behind a cast does not depend on places
same_primitive : (a b : TypeTree) → SameType a b → is_primitive a ≡ is_primitive b
same_primitive a b e = ap is_primitive e

module _ (other : ℕ → Span) (t : Text) where
  pub minus_found : {a x : ExprTree} {at : Span} → Found t (Unary other t) x → a ≡ e.Unary at unaries.Minus x → Found t (Unary other t) a
  minus_found {x = x} {at = at} d is = of_tree is (reprinted (forms.unary_pieces at unaries.Minus x) (reads_as (reads_mark (signed (codes "-")) d) (λ k j f. record {
    tree = e.Unary (other k) unaries.Minus f.rest.tree;
    stands = g.minus f.is f.rest.stands refl;
    same = same_unary (other k) at unaries.Minus unaries.Minus f.rest.tree x refl f.rest.same;
  })))

  pub least_found : {a : ExprTree} {at : Span} (at2 : Span) (x : Token) → among leasts (terminal x) ≡ true → a ≡ e.Unary at unaries.Minus (e.Literal at2 (literal_kind (terminal x)) x.text) → Found t (Unary other t) a
  least_found {at = at} at2 x o is =
      let kind = literal_kind (terminal x) in
      let shown : Spelled = (literal_token kind, x.text) in
      of_tree is (reprinted (forms.unary_pieces at unaries.Minus (e.Literal at2 kind x.text) ∙ ap (λ (w : List Piece). sign (codes "-") ∷ w) (forms.literal_pieces at2 kind x.text))
      (reads_as (reads_mark (signed (codes "-")) (reads_last shown)) (λ k j f.
      let y = t (suc k) in
      let w : terminal y ≡ terminal x = literal_again x y (least_is_literal (terminal x) o) f.rest.token in
      record {
        tree = e.Unary (other k) unaries.Minus (e.Literal (other (suc k)) (literal_kind (terminal y)) y.text);
        stands = g.least f.is (among_again leasts (terminal x) (terminal y) w o) refl f.rest.rest;
        same = same_unary (other k) at unaries.Minus unaries.Minus (e.Literal (other (suc k)) (literal_kind (terminal y)) y.text) (e.Literal at2 kind x.text) refl
            (same_literal (other (suc k)) at2 (literal_kind (terminal y)) kind y.text x.text (ap literal_kind w) (text_is y (literal_token kind) x.text f.rest.token));
      })))

  pub plus_found : {a x : ExprTree} {at : Span} → Found t (Unary other t) x → a ≡ e.Unary at unaries.Plus x → Found t (Unary other t) a
  plus_found {x = x} {at = at} d is = of_tree is (reprinted (forms.unary_pieces at unaries.Plus x) (reads_as (reads_mark (signed (codes "+")) d) (λ k j f. record {
    tree = e.Unary (other k) unaries.Plus f.rest.tree;
    stands = g.plus f.is f.rest.stands refl;
    same = same_unary (other k) at unaries.Plus unaries.Plus f.rest.tree x refl f.rest.same;
  })))

  pub prefix_found : {a x : ExprTree} {at : Span} (v : Terminal) → among step_ops v ≡ true → Found t (Unary other t) x → a ≡ e.Prefix at (step_op v) x → Found t (Unary other t) a
  prefix_found {x = x} {at = at} v o d is = of_tree is (reprinted (forms.prefix_pieces at (step_op v) x) (reads_as (reads_mark (signed (step_text v)) d) (λ k j f.
      let w = f.is ∙ step_printed v o in
      record {
        tree = e.Prefix (other k) (step_op (terminal (t k))) f.rest.tree;
        stands = g.prefix (among_again step_ops v (terminal (t k)) w o) f.rest.stands refl;
        same = same_prefix (other k) at (step_op (terminal (t k))) (step_op v) f.rest.tree x (ap step_op w) f.rest.same;
      })))

  pub negation_found : {a x : ExprTree} {at : Span} (v : Terminal) → among negations v ≡ true → Found t (Unary other t) x → a ≡ e.Unary at (negation_op v) x → Found t (Plain other t) a
  negation_found {x = x} {at = at} v o d is = of_tree is (reprinted (forms.unary_pieces at (negation_op v) x) (reads_as (reads_mark (signed (negation_text v)) d) (λ k j f.
      let w = f.is ∙ negation_printed v o in
      record {
        tree = e.Unary (other k) (negation_op (terminal (t k))) f.rest.tree;
        stands = g.negation (among_again negations v (terminal (t k)) w o) f.rest.stands refl;
        same = same_unary (other k) at (negation_op (terminal (t k))) (negation_op v) f.rest.tree x (ap negation_op w) f.rest.same;
      })))

  pub cast_primitive_found : {a x : ExprTree} {ty : TypeTree} {at : Span} → FoundType other t ty → is_primitive ty ≡ true → Found t (Unary other t) x → a ≡ e.Cast at ty x → Found t (Plain other t) a
  cast_primitive_found {x = x} {ty = ty} {at = at} c o d is = of_tree is (respelled (cast_tokens at ty x) (reads_as (reads_mark (signed (codes "(")) (reads_then c (reads_mark (signed (codes ")")) d))) (λ k j f.
      let to = f.rest.first in
      let operand = f.rest.second.rest in
      record {
        tree = e.Cast (other k) to.tree operand.tree;
        stands = g.cast_primitive f.is to.stands f.rest.second.is
            (same_primitive to.tree ty to.same ∙ o) operand.stands refl;
        same = same_cast (other k) at to.tree ty operand.tree x to.same operand.same;
      })))

  pub cast_reference_found : {a x : ExprTree} {ty : TypeTree} {at : Span} → FoundType other t ty → is_primitive ty ≡ false → Found t (Plain other t) x → a ≡ e.Cast at ty x → Found t (Plain other t) a
  cast_reference_found {x = x} {ty = ty} {at = at} c o d is = of_tree is (respelled (cast_tokens at ty x) (reads_as (reads_mark (signed (codes "(")) (reads_then c (reads_mark (signed (codes ")")) d))) (λ k j f.
      let to = f.rest.first in
      let operand = f.rest.second.rest in
      record {
        tree = e.Cast (other k) to.tree operand.tree;
        stands = g.cast_reference f.is to.stands f.rest.second.is
            (same_primitive to.tree ty to.same ∙ o) operand.stands refl;
        same = same_cast (other k) at to.tree ty operand.tree x to.same operand.same;
      })))
