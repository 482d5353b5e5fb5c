-- Printed primary expressions are read again [JLS 15.8].
use Rattle.std.proofs.Common.{◌≡◌, ℕ, suc, true, List, ◌++◌, refl, ap}
use Rattle.std.specs.Prelude.{codes}
use Rattle.bj_base.specs.declared.span.Span.{Span}
use Rattle.bj_token.specs.declared.token.TokenKind.TheVariants as kinds
use Rattle.bj_token.specs.declared.token.Token.{Token}
use Rattle.bj_expr_tree.specs.declared.expr.ExprTree.{ExprTree}
use Rattle.bj_expr_tree.specs.declared.expr.ExprTree.TheVariants as e
use Rattle.bj_grammar.specs.Terminal.{terminal, among}
use Rattle.bj_grammar.specs.Reader.{Text}
use Rattle.bj_expr.specs.Grammar as g
use Rattle.bj_expr.specs.Grammar.{literal_words, literal_kind, type_words, type_tree, Dims, Expression, Primary, Args}
use Rattle.bj_layout.specs.Exprs.{literal_token, expr_pieces}
use Rattle.bj_print.proofs.Holds.{text_is}
use Rattle.bj_print.proofs.ExprLaws.{list_pieces}
use Rattle.bj_layout.proofs.ExprPieces as forms
use Rattle.bj_print.proofs.ExprTokens.{worded, keyed, signed, new_array_tokens, new_values_tokens, size_tokens, pair_tokens, brace_tokens}
use Rattle.bj_print.proofs.ExprSame.{same_literal, same_this, same_paren, same_name, same_call, same_super_field, same_super_call, same_new, same_new_array, same_new_values, same_braces}
use Rattle.bj_print.proofs.PrintedOperators.{among_again, literal_again, word_is_literal}
use Rattle.bj_print.proofs.TypeBack.{dims_again, reads_type_word, same_type}
use Rattle.bj_print.proofs.Again.{reads_mark, reads_last, reads_then, reads_as, respelled, reprinted, reads_parts}
use Rattle.bj_print.proofs.Found.{Found, FoundAll, of_tree}
use Rattle.bj_print.proofs.ListBack.{FoundValues, FoundSizes}

module _ (other : ℕ → Span) (t : Text) where
  pub literal_found : {a : ExprTree} {at : Span} (x : Token) → among literal_words (terminal x) ≡ true → a ≡ e.Literal at (literal_kind (terminal x)) x.text → Found t (Primary other t) a
  literal_found {at = at} x o is = of_tree is (reprinted (forms.literal_pieces at (literal_kind (terminal x)) x.text) (reads_as (reads_last (literal_token (literal_kind (terminal x)), x.text)) (λ k j f.
      let w : terminal (t k) ≡ terminal x = literal_again x (t k) (word_is_literal (terminal x) o) f.token in
      record {
        tree = e.Literal (other k) (literal_kind (terminal (t k))) (t k).text;
        stands = g.literal (among_again literal_words (terminal x) (terminal (t k)) w o) refl f.rest;
        same = same_literal (other k) at (literal_kind (terminal (t k))) (literal_kind (terminal x)) (t k).text x.text (ap literal_kind w) (text_is (t k) (literal_token (literal_kind (terminal x))) x.text f.token);
      })))

  pub this_found : {a : ExprTree} {at : Span} → a ≡ e.This at → Found t (Primary other t) a
  this_found {at = at} is = of_tree is (reprinted (forms.this_pieces at) (reads_as (reads_last (keyed (codes "this"))) (λ k j f.
      record { tree = e.This (other k); stands = g.this f.is refl f.rest; same = same_this (other k) at })))

  pub paren_found : {a x : ExprTree} {at : Span} → Found t (Expression other t) x → a ≡ e.Paren at x → Found t (Primary other t) a
  paren_found {x = x} {at = at} d is = of_tree is (reprinted (forms.paren_pieces at x) (reads_as (reads_mark (signed (codes "(")) (reads_parts (expr_pieces x) _ d (reads_last (signed (codes ")"))))) (λ k j f. record {
    tree = e.Paren (other k) f.rest.first.tree;
    stands = g.paren f.is f.rest.first.stands f.rest.second.is refl f.rest.second.rest;
    same = same_paren (other k) at f.rest.first.tree x f.rest.first.same;
  })))

  pub name_found : {a : ExprTree} {at : Span} {v : List ℕ} → a ≡ e.Name at v → Found t (Primary other t) a
  name_found {at = at} {v = v} is = of_tree is (reprinted (forms.name_pieces at v) (reads_as (reads_last (worded v)) (λ k j f. record {
    tree = e.Name (other k) (t k).text;
    stands = g.name f.is refl f.rest;
    same = same_name (other k) at (t k).text v (text_is (t k) kinds.Word v f.token);
  })))

  pub call_found : {a : ExprTree} {args : List ExprTree} {at : Span} {v : List ℕ} → FoundAll t (Args other t) args → a ≡ e.Call at v args → Found t (Primary other t) a
  call_found {args = args} {at = at} {v = v} d is = of_tree is (reprinted (forms.call_pieces at v args) (reads_as (reads_mark (worded v) (reads_mark (signed (codes "(")) (reads_parts (list_pieces args) _ d (reads_last (signed (codes ")")))))) (λ k j f. record {
    tree = e.Call (other k) (t k).text f.rest.rest.first.tree;
    stands = g.call f.is f.rest.is f.rest.rest.first.stands
        f.rest.rest.second.is refl f.rest.rest.second.rest;
    same = same_call (other k) at (t k).text v f.rest.rest.first.tree args (text_is (t k) kinds.Word v f.token) f.rest.rest.first.same;
  })))

  pub super_field_found : {a : ExprTree} {at : Span} {v : List ℕ} → a ≡ e.SuperField at v → Found t (Primary other t) a
  super_field_found {at = at} {v = v} is = of_tree is (reprinted (forms.super_field_pieces at v) (reads_as (reads_mark (keyed (codes "super")) (reads_mark (signed (codes ".")) (reads_last (worded v)))) (λ k j f. record {
    tree = e.SuperField (other k) (t (suc (suc k))).text;
    stands = g.super_field f.is f.rest.is f.rest.rest.is refl f.rest.rest.rest;
    same = same_super_field (other k) at (t (suc (suc k))).text v (text_is (t (suc (suc k))) kinds.Word v f.rest.rest.token);
  })))

  pub super_call_found : {a : ExprTree} {args : List ExprTree} {at : Span} {v : List ℕ} → FoundAll t (Args other t) args → a ≡ e.SuperCall at v args → Found t (Primary other t) a
  super_call_found {args = args} {at = at} {v = v} d is = of_tree is (reprinted (forms.super_call_pieces at v args)
      (reads_as (reads_mark (keyed (codes "super")) (reads_mark (signed (codes ".")) (reads_mark (worded v) (reads_mark (signed (codes "(")) (reads_parts (list_pieces args) _ d (reads_last (signed (codes ")")))))))) (λ k j f.
      let behind = f.rest.rest.rest.rest in
      record {
        tree = e.SuperCall (other k) (t (suc (suc k))).text behind.first.tree;
        stands = g.super_call f.is f.rest.is f.rest.rest.is
            f.rest.rest.rest.is behind.first.stands behind.second.is refl behind.second.rest;
        same = same_super_call (other k) at (t (suc (suc k))).text v behind.first.tree args (text_is (t (suc (suc k))) kinds.Word v f.rest.rest.token) behind.first.same;
      })))

  pub create_found : {a : ExprTree} {args : List ExprTree} {at : Span} {v : List ℕ} → FoundAll t (Args other t) args → a ≡ e.New at v args → Found t (Primary other t) a
  create_found {args = args} {at = at} {v = v} d is = of_tree is (reprinted (forms.new_pieces at v args)
      (reads_as (reads_mark (keyed (codes "new")) (reads_mark (worded v) (reads_mark (signed (codes "(")) (reads_parts (list_pieces args) _ d (reads_last (signed (codes ")"))))))) (λ k j f.
      let behind = f.rest.rest.rest in
      record {
        tree = e.New (other k) (t (suc k)).text behind.first.tree;
        stands = g.create f.is f.rest.is f.rest.rest.is behind.first.stands
            behind.second.is refl behind.second.rest;
        same = same_new (other k) at (t (suc k)).text v behind.first.tree args (text_is (t (suc k)) kinds.Word v f.rest.token) behind.first.same;
      })))

  -- ---- new arrays

  pub new_array_found : {s : Text} {a : ExprTree} {sizes : List ExprTree} {at at2 : Span} {n m j : ℕ} (x : Token) → among type_words (terminal x) ≡ true → FoundSizes other t sizes → Dims s n m j
      → a ≡ e.NewArray at (type_tree at2 x 0) sizes n → Found t (Primary other t) a
  new_array_found {sizes = sizes} {at = at} {at2 = at2} {n = n} x o d dims is = of_tree is (respelled (new_array_tokens at (type_tree at2 x 0) sizes n)
      (reads_as (reads_mark (keyed (codes "new")) (reads_type_word (size_tokens sizes ++ pair_tokens n) at2 x 0 o (reads_then d (dims_again dims)))) (λ k j f. record {
        tree = e.NewArray (other k) (type_tree (other (suc k)) (t (suc k)) 0) f.rest.rest.first.tree n;
        stands = g.new_array f.is f.rest.kind f.rest.rest.first.stands f.rest.rest.second refl;
        same = same_new_array (other k) at (type_tree (other (suc k)) (t (suc k)) 0) (type_tree at2 x 0) f.rest.rest.first.tree sizes n n
            (same_type at2 (other (suc k)) x (t (suc k)) 0 f.rest.name) f.rest.rest.first.same refl;
      })))

  pub new_values_found : {s : Text} {a : ExprTree} {values : List ExprTree} {at at2 : Span} {n m j : ℕ} (x : Token) → among type_words (terminal x) ≡ true → Dims s n m j → FoundValues other t values
      → a ≡ e.NewValues at (type_tree at2 x n) values → Found t (Primary other t) a
  new_values_found {values = values} {at = at} {at2 = at2} {n = n} x o dims d is = of_tree is (respelled (new_values_tokens at (type_tree at2 x n) values)
      (reads_as (reads_mark (keyed (codes "new")) (reads_type_word (brace_tokens values) at2 x n o (reads_then (dims_again dims) d))) (λ k j f. record {
        tree = e.NewValues (other k) (type_tree (other (suc k)) (t (suc k)) n) f.rest.rest.second.tree;
        stands = g.new_values f.is f.rest.kind f.rest.rest.first f.rest.rest.second.stands refl;
        same = same_new_values (other k) at (type_tree (other (suc k)) (t (suc k)) n) (type_tree at2 x n) f.rest.rest.second.tree values
            (same_type at2 (other (suc k)) x (t (suc k)) n f.rest.name) f.rest.rest.second.same;
      })))

  -- values in braces, where a variable is given its value [JLS 10.6]
  pub braces_found : {a : ExprTree} {all : List ExprTree} {at : Span} → FoundValues other t all → a ≡ e.Braces at all → Found t (g.Initializer other t) a
  braces_found {all = all} {at = at} d is = of_tree is (reprinted (forms.braces_pieces at all) (reads_as d (λ k j f. record {
    tree = e.Braces (other k) f.tree;
    stands = g.braces f.stands refl;
    same = same_braces (other k) at f.tree all f.same;
  })))
