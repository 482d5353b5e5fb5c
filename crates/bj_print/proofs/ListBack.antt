-- Printed lists of expressions are read again.
use Rattle.std.proofs.Common.{◌≡◌, ℕ, suc, List, [], ◌∷◌, ◌++◌, refl, sym, subst}
use Rattle.std.specs.Prelude.{codes}
use Rattle.bj_base.specs.declared.span.Span.{Span}
use Rattle.bj_expr_tree.specs.declared.expr.ExprTree.{ExprTree}
use Rattle.bj_grammar.specs.declared.terminal.Terminal.TheVariants as marks
use Rattle.bj_grammar.specs.Terminal.{terminal}
use Rattle.bj_grammar.specs.Reader.{Text}
use Rattle.bj_expr.specs.Grammar as g
use Rattle.bj_expr.specs.Grammar.{Expression, Sizes, Values, Initializers, Initializer, Args, Exprs}
use Rattle.bj_layout.specs.Exprs.{comma, expr_pieces}
use Rattle.bj_print.specs.Same.{unplaced_expr}
use Rattle.bj_print.proofs.Holds.{Back}
use Rattle.bj_print.proofs.ExprLaws.{SameExprs, list_pieces}
use Rattle.bj_print.proofs.ExprTokens.{signed, size_pieces, brace_tokens}
use Rattle.bj_print.proofs.Again.{Reads, reads_end, reads_mark, reads_last, reads_parts, reads_as}
use Rattle.bj_print.proofs.Found.{Found, FoundAll, of_list}
use Rattle.bj_print.proofs.RowBack.{HasOne, has_only, has_more, FoundOne, FoundRow, one_row, longer_row, one_part, more_parts}

module _ (place : ℕ → Span) (s : Text) where
  pub exprs_some : {a : List ExprTree} {i j : ℕ} → Exprs place s a i j → HasOne a
  exprs_some (g.one d is) = has_only is
  exprs_some (g.comma {x = x} d o d2 is) = has_more x (exprs_some d) is

  pub initializers_some : {a : List ExprTree} {i j : ℕ} → Initializers place s a i j → HasOne a
  initializers_some (g.first d is) = has_only is
  initializers_some (g.next {x = x} d o d2 is) = has_more x (initializers_some d) is

-- a size of a new array
record SizeAt (place : ℕ → Span) (s : Text) (x : ExprTree) (i j : ℕ) : Type 0 where
  pub behind : ℕ
  pub left : terminal (s i) ≡ marks.LeftBracket
  pub of : Expression place s x (suc i) behind
  pub right : terminal (s behind) ≡ marks.RightBracket
  pub end : j ≡ suc behind

module _ (other : ℕ → Span) (t : Text) where
  -- ---- arguments

  pub one_expr : {a : List ExprTree} {x : ExprTree} → Found t (Expression other t) x → a ≡ x ∷ [] → FoundAll t (Exprs other t) a
  one_expr = one_part t unplaced_expr expr_pieces (Expression other t) (Exprs other t) comma (codes ",") refl (λ y k j d. g.one d refl)

  pub more_exprs : {a b : List ExprTree} {x : ExprTree} → HasOne b → FoundAll t (Exprs other t) b → Found t (Expression other t) x → a ≡ b ++ x ∷ [] → FoundAll t (Exprs other t) a
  more_exprs = more_parts t unplaced_expr expr_pieces (Expression other t) (Exprs other t) comma (codes ",") refl (λ c y k m j d o e. g.comma d o e refl)

  pub no_args : {a : List ExprTree} → a ≡ [] → FoundAll t (Args other t) a
  no_args is = of_list is (reads_as reads_end (λ k j at. record { tree = []; stands = g.none refl at; same = refl }))

  -- ---- initializers, and values in braces

  pub one_initializer : {a : List ExprTree} {x : ExprTree} → Found t (Initializer other t) x → a ≡ x ∷ [] → FoundAll t (Initializers other t) a
  one_initializer = one_part t unplaced_expr expr_pieces (Initializer other t) (Initializers other t) comma (codes ",") refl (λ y k j d. g.first d refl)

  pub more_initializers : {a b : List ExprTree} {x : ExprTree} → HasOne b → FoundAll t (Initializers other t) b → Found t (Initializer other t) x → a ≡ b ++ x ∷ [] → FoundAll t (Initializers other t) a
  more_initializers = more_parts t unplaced_expr expr_pieces (Initializer other t) (Initializers other t) comma (codes ",") refl (λ c y k m j d o e. g.next d o e refl)

  -- what is found in braces
  abbrev pub FoundValues : List ExprTree → Type 0
  FoundValues a = Reads t (brace_tokens a) (Back (Values other t) SameExprs a)

  pub no_values : {a : List ExprTree} → a ≡ [] → FoundValues a
  no_values is = subst FoundValues (sym is) (reads_as (reads_mark (signed (codes "{")) (reads_last (signed (codes "}")))) (λ k j f. record {
    tree = [];
    stands = g.no_values f.is f.rest.is refl f.rest.rest;
    same = refl;
  }))

  pub some_values : {a : List ExprTree} → FoundAll t (Initializers other t) a → FoundValues a
  some_values {a} d = reads_as (reads_mark (signed (codes "{")) (reads_parts (list_pieces a) _ d (reads_last (signed (codes "}"))))) (λ k j f. record {
    tree = f.rest.first.tree;
    stands = g.values f.is f.rest.first.stands f.rest.second.is f.rest.second.rest;
    same = f.rest.first.same;
  })

  -- ---- sizes of a new array

  size_found : {x : ExprTree} → Found t (Expression other t) x → FoundOne t unplaced_expr size_pieces (SizeAt other t) x
  size_found {x} d = reads_as (reads_mark _ (reads_parts (expr_pieces x) _ d (reads_last _))) (λ k j f. let in_brackets = f.rest in record {
    tree = in_brackets.first.tree;
    stands = record { behind = in_brackets.middle; left = f.is; of = in_brackets.first.stands; right = in_brackets.second.is; end = in_brackets.second.rest };
    same = in_brackets.first.same;
  })

  abbrev pub FoundSizes : List ExprTree → Type 0
  FoundSizes a = FoundRow t unplaced_expr size_pieces (Sizes other t) a

  pub one_size_again : {a : List ExprTree} {x : ExprTree} → Found t (Expression other t) x → a ≡ x ∷ [] → FoundSizes a
  one_size_again d is = one_row t unplaced_expr size_pieces (SizeAt other t) (Sizes other t) (λ y k j d. g.size d.left d.of d.right refl d.end) (size_found d) is

  pub more_sizes_again : {a b : List ExprTree} {x : ExprTree} → FoundSizes b → Found t (Expression other t) x → a ≡ b ++ x ∷ [] → FoundSizes a
  more_sizes_again all d is = longer_row t unplaced_expr size_pieces (SizeAt other t) (Sizes other t)
      (λ xs y k m j same l d. g.next_size l d.left d.of d.right refl d.end) all (size_found d) is
